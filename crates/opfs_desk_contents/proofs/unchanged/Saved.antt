-- The row that a flush or a close names, through pending calls, and the working copy that is left.
use Rattle.std.proofs.Common.{◌≡◌, ◌≢◌, ◌⊎◌, ℕ, ◌+◌, ◌-◌, zero, suc, Bool, true, false, List, [], ◌∷◌, ◌++◌, length, Option, Some, None, refl, sym, ap, ◌∙◌, subst, inl, inr, arith}
use Rattle.std.specs.Prelude.{IsTrue}
use Rattle.opfs_base.specs.Texts.{Text}
use Rattle.opfs_books.specs.Laws.Books.{Fixed}
use Rattle.opfs_store.specs.Copies.Copies.{StandsFor, IsCopyOf, IsPaged}
use Rattle.opfs_desk_contents.specs.Words.{flushes_nothing, may_only_read, may_write, stores_row}
use Rattle.opfs_pages.specs.HistoryLaws.Copies.{IsHandleCopy}
use Rattle.opfs_desk_steps.specs.Parts.Seen.{machine_in}
use Rattle.opfs_desk_steps.specs.declared.parts.call.ReadyCall.{ReadyCall}
use Rattle.opfs_desk_steps.specs.declared.parts.parts.Ledger.{Ledger}
use Rattle.opfs_desk_steps.specs.declared.parts.parts.OpenPages.{OpenPages}
use Rattle.opfs_desk_entries.specs.Answers.Silent.{BeginsCall}
use Rattle.opfs_desk_entries.proofs.answers.Noted.{mid-noted, sum_of}
use Rattle.opfs_desk_entries.proofs.answers.Words.{before}
use Rattle.opfs_desk_bytes.proofs.reading.Synced.{HandlesStand}
use Rattle.opfs_desk_steps.specs.Going.{HasTakenIn}
use Rattle.opfs_hist.specs.Sums.{asks_for_row}
use Rattle.opfs_hist.specs.declared.entry.Entry.{Entry}
use Rattle.opfs_hist.specs.declared.history.PendingSum.{PendingSum}
use Rattle.opfs_hist.specs.declared.op.Op.{Op}
use Rattle.opfs_hist.specs.declared.op.Op.TheVariants as op
use Rattle.opfs_hist.specs.declared.reply.Reply.{Reply}
use Rattle.opfs_laws.specs.Leaving.{ACallMovesItsAgent, IsMoved}
use Rattle.opfs_laws.specs.Lengths.Bridge.{LengthsFollowEachCall, LocalCallsAreKnownByTheirWord}
use Rattle.opfs_machine.specs.declared.own.HandleRow.{HandleRow}
use Rattle.opfs_machine.specs.declared.own.Outline.{Outline}
use Rattle.opfs_machine.specs.declared.own.Own.{Own}
use Rattle.opfs_machine.specs.declared.own.Own.TheVariants as own
use Rattle.opfs_machine.specs.declared.state.Agent.{Agent}
use Rattle.opfs_machine.specs.declared.state.State.{State}
use Rattle.opfs_machine.specs.Agents.{agent_of, handle_in, of_row, open_handle, own_of}
use Rattle.opfs_machine.specs.Contents.{in_lengths}
use Rattle.opfs_machine.specs.Histories.{state_after}
use Rattle.opfs_machine.specs.Openings.{Opening}
use Rattle.opfs_machine.specs.Replies.{bytes_at, row_named}
use Rattle.opfs_machine.specs.Steps.{after_reply, is_refusal}
use Rattle.opfs_outside.specs.declared.disk.Disk.{Ghosts as DiskWords}
use Rattle.opfs_pages.specs.Copies.{IsCopy}
use Rattle.opfs_records.specs.Replay.Built.{Built}
use Rattle.opfs_state_rows.specs.Standing.Noted.{with_sum}
use Rattle.opfs_state_rows.specs.Standing.Seen.{Machine}
use Rattle.opfs_state.proofs.laws.Readying.{agent-noted, handle-noted}
use Rattle.opfs_state.specs.Verdicts.Callers.{IsAgent}
use Rattle.opfs_work.specs.Works.{WorkingCopy}
use Rattle.opfs_desk_contents.specs.Unchanged.Saving.{saves_handle}
use Rattle.opfs_desk_contents.proofs.unchanged.Wordings.{makes-none}

-- ---- through its agent's pending calls

handle-at : (m : Machine) (k : ℕ) (sum : PendingSum) (n : ℕ) → IsAgent m k → open_handle in_lengths (with_sum m (k - 1) sum) k n ≡ open_handle in_lengths m k n
handle-at m zero sum n agent = absurd (omega (arith, agent.above))
handle-at m (suc at) sum n agent =
    ap (λ (i : ℕ). open_handle in_lengths (with_sum m i sum) (suc at) n) (before at)
    ∙ (ap (λ (a : Agent Outline). of_row handle_in (own_of a n)) (agent-noted m at sum (omega (arith, agent.within))) ∙ handle-noted (agent_of m (suc at)) sum.rows sum.moment n)

idle-noted : (m : Machine) (k : ℕ) (sum : PendingSum) (o : Op) → IsAgent m k → flushes_nothing (with_sum m (k - 1) sum) k o ≡ flushes_nothing m k o
idle-noted m k sum (op.SyncFlush n) agent = ap (λ o. may_only_read o) (handle-at m k sum n agent)
idle-noted m k sum o agent = refl

stores-noted : (m : Machine) (k : ℕ) (sum : PendingSum) (o : Op) → IsAgent m k → stores_row (with_sum m (k - 1) sum) k o ≡ stores_row m k o
stores-noted m k sum (op.SyncFlush n) agent = ap (λ o. may_write o) (handle-at m k sum n agent)
stores-noted m k sum (op.SyncClose n) agent = ap (λ o. may_write o) (handle-at m k sum n agent)
stores-noted m k sum o agent = refl

module _ {D : Type 0} (w : DiskWords D) (follow : LengthsFollowEachCall) (local : LocalCallsAreKnownByTheirWord) (f : Fixed D) (recorded : Built) (l mid : Ledger D) (p : OpenPages) (calls : List Entry) (c : ReadyCall) (work : WorkingCopy) (past : List Text)
    (begins : BeginsCall w f recorded l p calls c work past) (agent : IsAgent (machine_in l) c.agent) (took : HasTakenIn w f recorded l mid p calls c) where
  noted : machine_in mid ≡ with_sum (machine_in l) (c.agent - 1) (sum_of calls)
  noted = mid-noted w follow local f recorded l p calls c work past begins agent mid took

  pub handle-named : (n : ℕ) → open_handle in_lengths (machine_in mid) c.agent n ≡ open_handle in_lengths (machine_in l) c.agent n
  handle-named n = ap (λ (m : Machine). open_handle in_lengths m c.agent n) noted ∙ handle-at (machine_in l) c.agent (sum_of calls) n agent

  pub idle-named : flushes_nothing (machine_in mid) c.agent c.op ≡ flushes_nothing (machine_in l) c.agent c.op
  idle-named = ap (λ (m : Machine). flushes_nothing m c.agent c.op) noted ∙ idle-noted (machine_in l) c.agent (sum_of calls) c.op agent

  pub stores-named : stores_row (machine_in mid) c.agent c.op ≡ stores_row (machine_in l) c.agent c.op
  stores-named = ap (λ (m : Machine). stores_row m c.agent c.op) noted ∙ stores-noted (machine_in l) c.agent (sum_of calls) c.op agent

-- ---- its agent has as many rows

more-own : (a b : ℕ) (asks : Bool) → asks ≡ false → (b ≡ a) ⊎ ((b ≡ a + 1) × IsTrue asks) → b ≡ a
more-own a b asks none (inl same) = same
more-own a b asks none (inr more) = absurd (no-way (sym none ∙ more.1))
  where
    no-way : false ≡ true → ⊥
    no-way x = cc

pub rows-same : ACallMovesItsAgent → (s : State Text Own) (k : ℕ) (o : Op) (r : Reply) → IsTrue (agent_of s k).live → saves_handle o ≡ true → length (agent_of (after_reply s k o r) k).own ≡ length (agent_of s k).own
rows-same moves s k o r live saves =
    let moved : IsMoved (agent_of s k) o (agent_of (after_reply s k o r) k) = moves s [] k o r live in
    more-own _ _ (asks_for_row o) (makes-none o saves) moved.more

-- ---- the working copy that is left

pub row-some : (s : State Text Own) (k n : ℕ) (x : HandleRow) → own_of (agent_of s k) n ≡ Some (own.Handle x) → n ≢ 0
row-some s k n x at is = none-some (ap (λ (i : ℕ). own_of (agent_of s k) i) (sym is) ∙ at)
  where
    none-some : ◌≡◌ {A = Option Own} None (Some (own.Handle x)) → ⊥
    none-some e = cc

one-row : (a b : Own) → ◌≡◌ {A = Option Own} (Some a) (Some b) → a ≡ b
one-row a b e = cc

one-text : (a b : Text) → ◌≡◌ {A = Option Text} (Some a) (Some b) → a ≡ b
one-text a b e = cc

-- What a working copy of an access handle says.
pub copy-of : (tells : Type 0) (o : Opening) (h : List Entry) (k n : ℕ) (x : HandleRow) (work : WorkingCopy) → StandsFor tells o h k n work → own_of (agent_of (state_after o h) k) n ≡ Some (own.Handle x)
    → IsCopyOf tells (state_after o h) (own.Handle x) work
copy-of tells o h k n x work stood at = subst (λ (r : Own). IsCopyOf tells (state_after o h) r work) (one-row stood.row (own.Handle x) (sym stood.there ∙ at)) stood.copy

pub stands-left : (tells : Type 0) → HandlesStand tells → (o : Opening) (h new : List Entry) (e : Entry) (n : ℕ) (x : HandleRow) (work : WorkingCopy) → new ≡ h ++ e ∷ [] → e.turn ≡ true → is_refusal e.reply ≡ false → row_named e.op ≡ n
    → StandsFor tells o h e.agent n work → own_of (agent_of (state_after o h) e.agent) n ≡ Some (own.Handle x) → own_of (agent_of (state_after o new) e.agent) n ≡ Some (own.Handle x)
    → bytes_at (state_after o new) x.file ≡ bytes_at (state_after o h) x.file → IsPaged work → StandsFor tells o new e.agent n work
stands-left tells stand o h new e n x work grown turn done named stood at left bytes paged =
    let copy = copy-of tells o h e.agent n x work stood at in
    let was : copy.bytes ≡ bytes_at (state_after o h) x.file = sym (one-text (bytes_at (state_after o h) x.file) copy.bytes copy.open_row) in
    let now : bytes_at (state_after o (h ++ e ∷ [])) x.file ≡ copy.bytes = ap (λ (es : List Entry). bytes_at (state_after o es) x.file) (sym grown) ∙ bytes ∙ sym was in
    let is_copy : IsHandleCopy tells (state_after o (h ++ e ∷ [])) x work = record {
      size = copy.size ∙ ap length (sym now);
      same = λ t. subst (λ (b : Text). IsCopy b work) (sym now) (record { same = copy.same t });
      position = copy.position;
      reserve = copy.reserve;
    } in
    subst (λ (es : List Entry). StandsFor tells o es e.agent n work) (sym grown)
    (stand o h e n x work
    (record {
      turn = turn;
      done = done;
      some = row-some (state_after o h) e.agent n x at;
      named = inl named;
      there = ap (λ (es : List Entry). own_of (agent_of (state_after o es) e.agent) n) (sym grown) ∙ left;
    })
    paged is_copy)
