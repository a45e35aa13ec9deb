-- Where nothing is kept back, the records build the rows as they are stored, also after a call that stores nothing.
use Rattle.std.proofs.Common.{◌≡◌, List, Option, None, sym, subst, ◌∙◌}
use Rattle.opfs_base.specs.Texts.{Text}
use Rattle.opfs_base.specs.declared.extents.Extent.{Extent}
use Rattle.opfs_books.specs.Stored.Laws.{CallsAreSpelled}
use Rattle.opfs_books.specs.Stored.Spelled.{spelled_by, stored_built, Makes}
use Rattle.opfs_books.specs.Laws.Books.{Fixed}
use Rattle.opfs_state_rows.specs.Changes.Allowed.{MayApply}
use Rattle.opfs_state_rows.specs.Changes.Changed.{tree_by}
use Rattle.opfs_hist.specs.declared.entry.Entry.{Entry}
use Rattle.opfs_laws.specs.Lengths.Kept.{Kept}
use Rattle.opfs_machine.specs.declared.own.Own.{Own}
use Rattle.opfs_machine.specs.declared.state.Sizes.{Sizes}
use Rattle.opfs_machine.specs.declared.state.State.{State}
use Rattle.opfs_machine.specs.Agents.{counted}
use Rattle.opfs_machine.specs.Contents.{in_lengths}
use Rattle.opfs_machine.specs.Effects.{effect}
use Rattle.opfs_outside.specs.declared.disk.Disk.{Ghosts as DiskWords}
use Rattle.opfs_records.specs.Replay.Built.{Built}
use Rattle.opfs_state_rows.specs.Standing.Seen.{lines_of}
use Rattle.opfs_desk_steps.specs.Parts.Held.{AreHeldAt}
use Rattle.opfs_desk_steps.specs.Parts.Seen.{machine_in, tree_in, book_in}
use Rattle.opfs_desk_steps.specs.declared.parts.parts.Ledger.{Ledger}
use Rattle.opfs_desk_steps.specs.declared.parts.parts.OpenPages.{OpenPages}

module _ {D : Type 0} (w : DiskWords D) (f : Fixed D) (recorded : Built) (base : State Text Own) (gone : List Text) (l new : Ledger D) (p : OpenPages) (e : Entry) (z : Sizes) (extents : Option (List Extent)) where
  pub told-fresh : CallsAreSpelled → AreHeldAt w f recorded base gone l p → lines_of (tree_in l) ≡ (machine_in l).rows → Kept (machine_in l) → MayApply (machine_in l) z e.agent e.op
      → spelled_by (machine_in l) (tree_in l) e.agent e.op z extents ≡ None
      → machine_in new ≡ counted (effect in_lengths (machine_in l) z e.agent e.op) e.agent → tree_in new ≡ tree_by (machine_in l) (tree_in l) e.agent e.op z extents → new.books.commits.count ≡ l.books.commits.count
      → new.books.commits.count ≡ 0 → recorded ≡ (book_in new).rows
  told-fresh spelled are tied kept may silent machine tree count none =
      are.fresh (sym count ∙ none)
      ∙ sym
      ((λ i. stored_built (tree i) (machine i).persistent)
      ∙ subst (λ c. Makes f.geometry.blocks c (stored_built (tree_in l) (machine_in l).persistent) (stored_built (tree_by (machine_in l) (tree_in l) e.agent e.op z extents) (effect in_lengths (machine_in l) z e.agent e.op).persistent)) silent
      (spelled.makes f.geometry.blocks (machine_in l) (tree_in l) e.agent tied kept.modes e.op z extents may.need may.ruled))
