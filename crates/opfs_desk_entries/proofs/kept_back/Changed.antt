-- What is held once a call is entered with its change, where the rows afterwards name no more blocks.
use Rattle.std.proofs.Common.{◌≡◌, ◌⊎◌, ℕ, zero, suc, Bool, true, false, not, ◌&&◌, List, [], ◌∷◌, None, refl, sym, ap, subst, ◌∙◌, inl, inr}
use Rattle.std.specs.Prelude.{◌==◌}
use Rattle.opfs_base.specs.Texts.{Text}
use Rattle.opfs_books.specs.Laws.Books.{Fixed}
use Rattle.opfs_state_rows.specs.Changes.Changed.{tree_by}
use Rattle.opfs_codec.specs.declared.change.Change.{Change as Spelled}
use Rattle.opfs_pages.specs.HistoryLaws.Hands.{row_in_hand}
use Rattle.opfs_pages.specs.HistoryLaws.Laws.{BlocksGoOn}
use Rattle.opfs_pages.specs.HistoryLaws.Open.{if_open, open_at}
use Rattle.opfs_pages.specs.HistoryLaws.Spaced.{AreSpaced}
use Rattle.opfs_pages.proofs.history_laws.Hands.{hand-settles}
use Rattle.opfs_hist.specs.declared.entry.Entry.{Entry}
use Rattle.opfs_machine.specs.declared.own.Outline.{Outline}
use Rattle.opfs_machine.specs.declared.own.Own.{Own}
use Rattle.opfs_machine.specs.declared.state.Agent.{Agent}
use Rattle.opfs_machine.specs.declared.state.Sizes.{Sizes}
use Rattle.opfs_machine.specs.declared.state.State.{State}
use Rattle.opfs_machine.specs.Agents.{agent_in, own_of}
use Rattle.opfs_machine.specs.Histories.{state_after}
use Rattle.opfs_machine.specs.Steps.{is_refusal}
use Rattle.opfs_outside.specs.declared.disk.Disk.{Ghosts as DiskWords}
use Rattle.opfs_records.specs.Replay.Built.{Built}
use Rattle.opfs_pages.specs.RowCalls.Plans.{shelf}
use Rattle.opfs_records.specs.Checkpoint.Written.{stored_rows}
use Rattle.opfs_space.specs.Room.{Machine}
use Rattle.opfs_laws.specs.Steady.Steady.{settles, concerns}
use Rattle.opfs_tree.specs.Rows.{Rows as Tree}
use Rattle.opfs_desk_steps.specs.Parts.Held.{AreHeldAt, AreHeldWhole}
use Rattle.opfs_desk_steps.specs.Parts.Seen.{machine_in, tree_in}
use Rattle.opfs_desk_steps.specs.declared.parts.parts.Ledger.{Ledger}
use Rattle.opfs_desk_steps.specs.declared.parts.parts.OpenPages.{OpenPages}
use Rattle.opfs_desk_steps.proofs.book_steps.Held.{laid-more}
use Rattle.opfs_desk_steps.proofs.book_steps.LaidStays.{LaidBeside}
use Rattle.opfs_desk_entries.specs.KeptBack.Changing.{HasChanged}
use Rattle.opfs_desk_entries.specs.KeptBack.Words.{IsQuietCall}
use Rattle.opfs_desk_entries.proofs.kept_back.Fewer.{HasNoMore, spaced-fewer}

-- ---- such a call settles no row

and-false : (a b : Bool) → b ≡ false → (a && b) ≡ false
and-false true b is = is
and-false false b is = refl

no-row : (s : State Text Own) (k : ℕ) (e : Entry) → settles s k 0 e ≡ false
no-row s k e = and-false (e.turn && not (is_refusal e.reply)) (e.agent == k && concerns s k 0 e.op) (and-false (e.agent == k) (concerns s k 0 e.op) refl)

apart-zero : (i : ℕ) → suc i ≡ 0 → ⊥
apart-zero i e = cc

settles-none : (s : State Text Own) (k n : ℕ) (e : Entry) → row_in_hand s e.agent e.op ≡ 0 → settles s k n e ≡ false
settles-none s k zero e none = no-row s k e
settles-none s k (suc i) e none = hand-settles s e k (suc i) (λ is. apart-zero i (is.1 ∙ none))

module _ {D : Type 0} (w : DiskWords D) (beside : LaidBeside w.tells) (blocks : BlocksGoOn) (f : Fixed D) (recorded : Built) (base : State Text Own) (gone : List Text) (back new : Ledger D) (p : OpenPages) (e : Entry) (z : Sizes) (own : Spelled)
    (are : AreHeldAt w f recorded base gone back p) (words : IsQuietCall e.agent e.op e.reply) (less : HasNoMore (machine_in back) (tree_in back) (tree_by (machine_in back) (tree_in back) e.agent e.op z None))
    (changed : HasChanged w f recorded base gone back new p e z own) where
  opened : (k n : ℕ) → open_at (machine_in new) k n ≡ open_at (machine_in back) k n
  opened k n =
      ap (λ (m : Machine). open_at m k n) changed.machine
      ∙ ap (λ (agents : List (Agent Outline)). if_open (own_of (agent_in agents k) n)) (words.outlines (machine_in back) z)

  limits : (machine_in new).limits ≡ (machine_in back).limits
  limits = ap (λ (m : Machine). m.limits) changed.machine ∙ words.limits (machine_in back) z

  next-is : (changed.next.rows ≡ recorded.rows) ⊎ (changed.next.rows ≡ stored_rows (tree_in new))
  next-is = elim changed.either [ inl is ↦ inl (ap (λ (b : Built). b.rows) is) | inr is ↦ inr (ap (λ (b : Built). b.rows) is) ]

  spaced : AreSpaced (machine_in new) (shelf changed.next.rows (tree_in new) p.swap) p.space
  spaced =
      let grown = tree_by (machine_in back) (tree_in back) e.agent e.op z None in
      subst (λ (t : Tree). AreSpaced (machine_in new) (shelf changed.next.rows t p.swap) p.space) (sym changed.tree)
      (spaced-fewer blocks (machine_in back) (machine_in new) recorded.rows (tree_in back) grown changed.next.rows p.swap p.space opened limits less
      (subst (λ (t : Tree). (changed.next.rows ≡ recorded.rows) ⊎ (changed.next.rows ≡ stored_rows t)) changed.tree next-is) are.laid.spaced)

  pub changed-held : AreHeldWhole w f changed.next new p
  changed-held = record {
    books = changed.books;
    laid = laid-more w f recorded changed.next back new p (e ∷ []) beside changed.entries (λ k n. (settles-none (state_after f.opening back.books.history) k n e (words.hand _), tt)) opened changed.alike spaced are.laid;
    tied = changed.tied;
    fresh = changed.fresh;
  }
