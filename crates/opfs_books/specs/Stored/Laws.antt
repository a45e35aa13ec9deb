-- What the calls of the shared state store, spell and make; and how one meets a disk fault. This project's own.
use Rattle.std.specs.Prelude.{◌≡◌, ℕ, ◌≤◌, false, List, [], ◌∷◌, ◌++◌, fold, Option, Some, None, Ok, is_some, IsTrue}
use Rattle.opfs_base.specs.Texts.{Text}
use Rattle.opfs_base.specs.declared.extents.Extent.{Extent}
use Rattle.opfs_books.specs.Laws.Books.{IsNext}
use Rattle.opfs_books.specs.Laws.Laws.{failed}
use Rattle.opfs_state_rows.specs.Changes.Changed.{tree_by}
use Rattle.opfs_codec.specs.declared.change.Change.{Change as Spelled}
use Rattle.opfs_codec.specs.declared.change.Change.TheVariants.{Evict}
use Rattle.opfs_codec.specs.declared.change.Format.TheVariants.{New}
use Rattle.opfs_hist.specs.declared.entry.Entry.{Entry}
use Rattle.opfs_hist.specs.declared.op.Op.{Op}
use Rattle.opfs_laws.specs.Histories.Doubts.{faulted}
use Rattle.opfs_laws.specs.Whole.{is_rising}
use Rattle.opfs_laws.specs.Lengths.Kept.{Kept}
use Rattle.opfs_laws.specs.Lengths.Outlines.{in_lengths_of}
use Rattle.opfs_machine.specs.declared.own.Own.{Own}
use Rattle.opfs_machine.specs.declared.state.Need.{Need}
use Rattle.opfs_machine.specs.declared.state.Sizes.{Sizes}
use Rattle.opfs_machine.specs.declared.state.State.{State}
use Rattle.opfs_machine.specs.Changes.{Change, evict, stored_by}
use Rattle.opfs_machine.specs.Contents.{in_lengths}
use Rattle.opfs_machine.specs.Effects.{effect}
use Rattle.opfs_machine.specs.Histories.{evicted_by, IsCall}
use Rattle.opfs_machine.specs.Rows.{row_at}
use Rattle.opfs_machine.specs.Rulings.{ruling}
use Rattle.opfs_machine.specs.Steps.{evicted, step, is_refusal}
use Rattle.opfs_machine.specs.Sums.{charge, is_persistent}
use Rattle.opfs_records.specs.Replay.Applying.{tried}
use Rattle.opfs_records.specs.Replay.Sums.{charge_of}
use Rattle.opfs_state_rows.specs.Standing.Seen.{Machine, lines_of}
use Rattle.opfs_tree.specs.Rows.{Rows, without}
use Rattle.opfs_books.specs.Stored.Spelled.{spelled_by, bytes_stored, told_list, stored_built, Makes}

pub record CallsAreSpelled : Type 0 where
  -- What a call spells is what it stores.
  pub told : (s : State Text Own) (t : Rows) (k : ℕ) → lines_of t ≡ (in_lengths_of s).rows → Kept (in_lengths_of s) → (o : Op) (z : Sizes) (extents : Option (List Extent)) → evicted_by o ≡ None
      → stored_by s k o ≡ told_list (bytes_stored s k o) (spelled_by (in_lengths_of s) t k o z extents)
  -- It makes of what is stored what the call leaves; and a call that spells nothing leaves that as it is.
  pub makes : (size : ℕ) (m : Machine) (t : Rows) (k : ℕ) → lines_of t ≡ m.rows → IsTrue (is_rising m.persistent) → (o : Op) (z : Sizes) (extents : Option (List Extent)) (need : Need) → ruling in_lengths m z k o ≡ Ok need
      → Makes size (spelled_by m t k o z extents) (stored_built t m.persistent) (stored_built (tree_by m t k o z extents) (effect in_lengths m z k o).persistent)
  -- Where it stores something, the rows that it leaves are the machine's.
  pub tied : (m : Machine) (t : Rows) (k : ℕ) → lines_of t ≡ m.rows → (o : Op) (z : Sizes) (extents : Option (List Extent)) (c : Spelled) → spelled_by m t k o z extents ≡ Some c
      → lines_of (tree_by m t k o z extents) ≡ (effect in_lengths m z k o).rows
  -- So does an eviction.
  pub evicts : (size : ℕ) (m : Machine) (t : Rows) (unit : Text) → lines_of t ≡ m.rows → IsTrue (is_some (row_at m (unit, []))) → is_persistent m unit ≡ false
      → tried New size (stored_built t m.persistent) (Evict unit) ≡ Some (stored_built (without (unit, []) t) m.persistent)
  -- The machine's charge covers that of what is stored.
  pub covered : (m : Machine) (t : Rows) → lines_of t ≡ m.rows → charge_of New (stored_built t m.persistent) ≤ charge in_lengths m

pub record CallsMayFail (tells : Type 0) : Type 0 where
  -- A call that stores something may meet a disk fault, which leaves that in doubt.
  pub call : (base : State Text Own) (gone : List Text) (e : Entry) (c : Change) → IsNext tells base gone e → is_refusal e.reply ≡ false → stored_by (fold evicted base gone) e.agent e.op ≡ c ∷ []
      → IsCall base gone (failed e) × (faulted base gone (failed e) ≡ c ∷ [])
  -- A fault before the next victim is cleared leaves its eviction in doubt.
  pub eviction : (base : State Text Own) (gone rest : List Text) (unit : Text) (e : Entry) → (step base e.agent e.op).victims ≡ gone ++ unit ∷ rest → faulted base gone (failed e) ≡ evict unit ∷ []
