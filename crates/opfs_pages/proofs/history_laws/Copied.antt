-- The working copy that a call leaves of its row.
use Rattle.std.proofs.Common.{◌≡◌, ◌≢◌, ℕ, ◌+◌, ◌==◌, Bool, true, false, not, ◌&&◌, ◌||◌, List, [], ◌∷◌, ◌++◌, length, Some, refl, ap, ◌∙◌, inl, inr, arith}
use Rattle.std.proofs.lemmas.Bool.Decides.{nat_tests}
use Rattle.opfs_base.specs.Texts.{Text}
use Rattle.opfs_store.specs.Copies.Copies.{IsCopyOf, StandsFor, IsPaged}
use Rattle.opfs_store.proofs.copies.Copying.{stands-settled}
use Rattle.opfs_hist.specs.Sums.{asks_for_row}
use Rattle.opfs_hist.specs.declared.entry.Entry.{Entry}
use Rattle.opfs_hist.specs.declared.op.Op.{Op}
use Rattle.opfs_machine.specs.declared.own.HandleRow.{HandleRow}
use Rattle.opfs_machine.specs.declared.own.StreamRow.{StreamRow}
use Rattle.opfs_machine.specs.declared.own.Own.{Own}
use Rattle.opfs_machine.specs.declared.own.Own.TheVariants as own
use Rattle.opfs_machine.specs.declared.state.State.{State}
use Rattle.opfs_machine.specs.Agents.{agent_of, own_of}
use Rattle.opfs_machine.specs.Histories.{state_after}
use Rattle.opfs_machine.specs.Openings.{Opening}
use Rattle.opfs_machine.specs.Replies.{row_named, bytes_at}
use Rattle.opfs_machine.specs.Steps.{is_refusal}
use Rattle.opfs_laws.specs.Steady.Steady.{concerns, settles}
use Rattle.opfs_work.specs.Works.{WorkingCopy}
use Rattle.opfs_pages.specs.HistoryLaws.Copies.{NamesRow, IsStreamCopy, IsHandleCopy}

same-number : (a b : ℕ) → a ≡ b → (a == b) ≡ true
same-number a b is = grind (arith, nat_tests)

not-zero : (n : ℕ) → n ≢ 0 → not (n == 0) ≡ true
not-zero n some = grind (arith, nat_tests)

named-concerns : (s : State Text Own) (k n : ℕ) (o : Op) → n ≢ 0 → NamesRow s k n o → concerns s k n o ≡ true
named-concerns s k n o some named =
    ap (λ b. b && (row_named o == n || (asks_for_row o && (length (agent_of s k).own + 1 == n)))) (not-zero n some)
    ∙ elim named [
      | inl is ↦ ap (λ b. b || (asks_for_row o && (length (agent_of s k).own + 1 == n))) (same-number (row_named o) n is)
      | inr made ↦
          ap (λ b. row_named o == n || (b && (length (agent_of s k).own + 1 == n))) made.0
          ∙ ap (λ b. row_named o == n || b) (same-number (length (agent_of s k).own + 1) n made.1) ∙ or-true (row_named o == n)
    ]
  where
    or-true : (b : Bool) → (b || true) ≡ true
    or-true true = refl
    or-true false = refl

-- A call that was made under the turn, and not refused, settles the row that it names or makes.
pub named-settles : (s : State Text Own) (e : Entry) (n : ℕ) → e.turn ≡ true → is_refusal e.reply ≡ false → n ≢ 0 → NamesRow s e.agent n e.op → settles s e.agent n e ≡ true
named-settles s e n turn done some named =
    ap (λ b. b && not (is_refusal e.reply) && (e.agent == e.agent && concerns s e.agent n e.op)) turn
    ∙ ap (λ b. true && not b && (e.agent == e.agent && concerns s e.agent n e.op)) done
    ∙ ap (λ b. true && true && (b && concerns s e.agent n e.op)) (same-number e.agent e.agent refl)
    ∙ ap (λ b. true && true && (true && b)) (named-concerns s e.agent n e.op some named)

pub stream-copy : (tells : Type 0) (s : State Text Own) (w : StreamRow) (work : WorkingCopy) → IsStreamCopy tells w work → IsCopyOf tells s (own.Stream w) work
stream-copy tells s w work is = record {
  bytes = w.buffer;
  open_row = refl;
  size = is.size;
  same = λ told. (is.same told).same;
  position = is.position;
  reserve = is.reserve;
}

pub handle-copy : (tells : Type 0) (s : State Text Own) (h : HandleRow) (work : WorkingCopy) → IsHandleCopy tells s h work → IsCopyOf tells s (own.Handle h) work
handle-copy tells s h work is = record {
  bytes = bytes_at s h.file;
  open_row = refl;
  size = is.size;
  same = λ told. (is.same told).same;
  position = is.position;
  reserve = is.reserve;
}

pub left-stands : (tells : Type 0) (o : Opening) (h : List Entry) (e : Entry) (n : ℕ) (r : Own) (work : WorkingCopy) → e.turn ≡ true → is_refusal e.reply ≡ false → n ≢ 0 → NamesRow (state_after o h) e.agent n e.op
    → IsPaged work → own_of (agent_of (state_after o (h ++ e ∷ [])) e.agent) n ≡ Some r → IsCopyOf tells (state_after o (h ++ e ∷ [])) r work → StandsFor tells o (h ++ e ∷ []) e.agent n work
left-stands tells o h e n r work turn done some named paged there copy =
    stands-settled tells o h e e.agent n r work (named-settles (state_after o h) e n turn done some named) paged there copy
