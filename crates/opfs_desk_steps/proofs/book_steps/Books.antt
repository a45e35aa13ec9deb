-- What the books ask, over parts that are held.
use Rattle.std.proofs.Common.{◌≡◌, ℕ, ◌+◌, ◌<◌, ◌≤◌, ◌^◌, List, length, Option, ap, subst, ◌∙◌, arith}
use Rattle.std.specs.Prelude.{IsTrue}
use Rattle.std.specs.Vec.{vec_capacity}
use Rattle.opfs_base.specs.Places.{Place}
use Rattle.opfs_base.specs.Texts.{Text}
use Rattle.opfs_base.specs.declared.extents.Extent.{Extent}
use Rattle.opfs_books.specs.Laws.Books.{Fixed}
use Rattle.opfs_state_rows.specs.Changes.Changed.{freed_in}
use Rattle.opfs_hist.specs.declared.entry.Entry.{Entry}
use Rattle.opfs_hist.specs.declared.op.Op.{Op}
use Rattle.opfs_machine.specs.declared.own.Own.{Own}
use Rattle.opfs_machine.specs.declared.state.Sizes.{Sizes}
use Rattle.opfs_machine.specs.declared.state.State.{State}
use Rattle.opfs_outside.specs.declared.disk.Disk.{Ghosts as DiskWords}
use Rattle.opfs_records.specs.Replay.Built.{Built, named, is_once}
use Rattle.opfs_books.specs.Sharing.Serving.{MayApplyTo, MayRefuseTo}
use Rattle.opfs_tree.specs.Rows.{extents_within}
use Rattle.opfs_state.specs.Verdicts.Callers.{IsAgent}
use Rattle.opfs_desk_steps.specs.Parts.Answered.{MayChange}
use Rattle.opfs_desk_steps.specs.Parts.Held.{AreHeldAt}
use Rattle.opfs_desk_steps.specs.Parts.Seen.{machine_in, tree_in}
use Rattle.opfs_desk_steps.specs.declared.parts.parts.Ledger.{Ledger}
use Rattle.opfs_desk_steps.specs.declared.parts.parts.OpenPages.{OpenPages}
use Rattle.opfs_desk_steps.proofs.book_steps.Entries.{entries-few, limits-are}
use Rattle.opfs_desk_steps.proofs.book_steps.Evictions.{stored-named}
use Rattle.opfs_desk_steps.proofs.book_steps.Freed.{within-few, freed-few}

module _ {D : Type 0} (w : DiskWords D) (f : Fixed D) (recorded : Built) (base : State Text Own) (gone : List Text) (l : Ledger D) (p : OpenPages) (are : AreHeldAt w f recorded base gone l p) where
  limits-same : (machine_in l).limits.blocks ≡ f.geometry.blocks
  limits-same = ap (λ x. x.blocks) (limits-are w.tells f.opening l.books.history base gone (machine_in l) are.books.told are.books.machine) ∙ ap (λ x. x.blocks) are.books.limits

  once : IsTrue (is_once (named (tree_in l)))
  once = subst (λ (xs : List ℕ). IsTrue (is_once xs)) (stored-named (tree_in l)) are.books.stored.sound.once

  pub room-freed : (k : ℕ) (o : Op) (extents : Option (List Extent)) → length (freed_in (machine_in l) (tree_in l) k o extents) ≤ vec_capacity l.freed
  room-freed k o extents =
      let few = freed-few (machine_in l) recorded.rows (tree_in l) p.swap p.space f.geometry.blocks k o extents are.laid.spaced limits-same are.books.stored.sound.files once in
      omega (arith, few, are.tied.freed)

  pub room-within : (place : Place) → length (extents_within place (tree_in l)) ≤ vec_capacity l.freed
  room-within place =
      let few = within-few (machine_in l) recorded.rows (tree_in l) p.swap p.space f.geometry.blocks place are.laid.spaced limits-same are.books.stored.sound.files once in
      omega (arith, few, are.tied.freed)

  module _ (short : length l.books.history < 2 ^ 34) where
    pub one-more-entry : (machine_in l).entries + 1 < 2 ^ 64
    one-more-entry = entries-few w.tells f.opening l.books.history base gone (machine_in l) are.books.told are.books.machine short

    pub may-refuse : (k : ℕ) → IsAgent (machine_in l) k → MayRefuseTo l.books.state k
    may-refuse k agent = record { agent = agent; entries = one-more-entry }

    pub may-apply : (e : Entry) (z : Sizes) → MayChange l e z → MayApplyTo l.books.state e.agent e.op z
    may-apply e z is = record { agent = is.agent; kept = is.kept; may = is.may; sized = is.sized; prepared = is.prepared; few = is.few; entries = one-more-entry }
