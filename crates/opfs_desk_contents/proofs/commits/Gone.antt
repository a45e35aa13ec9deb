-- The blocks that a file had before another content: they are blocks of the space, and free where its row alone was open on it.
use Rattle.std.proofs.Common.{◌≡◌, ℕ, ◌<◌, ◌||◌, nat_eq, Bool, true, false, List, [], ◌∷◌, length, Option, Some, refl, sym, ap, ◌∙◌, arith}
use Rattle.std.proofs.lemmas.Bool.{eq-eqb}
use Rattle.opfs_base.specs.Places.{Place}
use Rattle.opfs_base.specs.Texts.{Text}
use Rattle.opfs_base.specs.declared.extents.Extent.{Extent}
use Rattle.opfs_blocks.specs.Sets.{blocks_of, AreBelow}
use Rattle.opfs_books.specs.Laws.Books.{Fixed}
use Rattle.opfs_laws.specs.Lengths.Kept.{Kept}
use Rattle.opfs_machine.specs.declared.own.Own.{Own}
use Rattle.opfs_machine.specs.declared.state.FileRow.{FileRow as File}
use Rattle.opfs_machine.specs.declared.state.State.{State}
use Rattle.opfs_machine.specs.Rows.{file_at}
use Rattle.opfs_machine.specs.Rulings.{lock_in}
use Rattle.opfs_outside.specs.declared.disk.Disk.{Ghosts as DiskWords}
use Rattle.opfs_pages.specs.HistoryLaws.Open.{file_in, open_at}
use Rattle.opfs_pages.specs.RowCalls.Plans.{shelf}
use Rattle.opfs_pages.proofs.history_laws.Holding.{spaced-blocks}
use Rattle.opfs_records.specs.Replay.Built.{Built, has_block}
use Rattle.opfs_space.specs.Files.{file_has}
use Rattle.opfs_space.specs.Room.{Machine}
use Rattle.opfs_state_rows.specs.Standing.Seen.{lines_of}
use Rattle.opfs_state_rows.proofs.changes.Twice.{machine-file}
use Rattle.opfs_tree.specs.Rows.{Rows as Tree, file_at as file_in_tree}
use Rattle.opfs_tree.specs.declared.row.FileRow.{FileRow}
use Rattle.opfs_desk_steps.specs.Parts.Held.{AreHeldAt}
use Rattle.opfs_desk_steps.specs.Parts.Seen.{machine_in, tree_in}
use Rattle.opfs_desk_steps.specs.declared.parts.parts.Ledger.{Ledger}
use Rattle.opfs_desk_steps.specs.declared.parts.parts.OpenPages.{OpenPages}
use Rattle.opfs_desk_contents.specs.Blocks.{AreGone}
use Rattle.opfs_desk_contents.proofs.commits.Alone.{alone-on}
use Rattle.opfs_desk_contents.proofs.commits.Changes.{of-file}

pub all-below : (bs : List ℕ) (size : ℕ) → ((b : ℕ) → has_block bs b ≡ true → b < size) → AreBelow size bs
all-below [] size each = tt
all-below (x ∷ xs) size each = (each x (ap (λ t. t || has_block xs x) (eq-eqb x x refl)), all-below xs size (λ b is. each b (later (nat_eq b x) (has_block xs b) is)))
  where
    later : (a t : Bool) → t ≡ true → (a || t) ≡ true
    later true t is = refl
    later false t is = is

module _ (t : Tree) (place : Place) (file : FileRow) (there : file_in_tree place t ≡ Some file) (gone : List Extent) (same : gone ≡ file.extents) where
  pub of-gone : (b : ℕ) → has_block (blocks_of gone) b ≡ true → file_has t (Some place) b ≡ true
  of-gone b has = of-file t place file b there (ap (λ (xs : List Extent). has_block (blocks_of xs) b) (sym same) ∙ has)

pub gone-below : {D : Type 0} (w : DiskWords D) (f : Fixed D) (recorded : Built) (base : State Text Own) (l : Ledger D) (p : OpenPages) (place : Place) (file : FileRow) (gone : List Extent) → AreHeldAt w f recorded base [] l p → file_in_tree place (tree_in l) ≡ Some file → gone ≡ file.extents → AreBelow (length p.space.used) (blocks_of gone)
gone-below w f recorded base l p place file gone are there same =
    let blocks_are = spaced-blocks (machine_in l) (shelf recorded.rows (tree_in l) p.swap) p.space are.laid.spaced in
    all-below (blocks_of gone) (length p.space.used) (λ b has. (blocks_are.grounded b (blocks_are.inside b (blocks_are.held (Some place) b (of-gone (tree_in l) place file there gone same b has)))).0)

few-holders : (m : Machine) (t : Tree) (place : Place) (file : FileRow) → m.rows ≡ lines_of t → file_in_tree place t ≡ Some file → file.lock.1 < 2 → (lock_in (file_at m place)).1 < 2
few-holders m t place file lines there few =
    let lock : (lock_in (file_at m place)).1 ≡ file.lock.1 = ap (λ (o : Option (File ℕ)). (lock_in o).1) (machine-file m t place file lines there) in
    omega (arith, lock, few)

pub are-gone : (m : Machine) (t : Tree) (k n : ℕ) (place : Place) (file : FileRow) (alone : Bool) (gone : List Extent) → Kept m → m.rows ≡ lines_of t → file_in_tree place t ≡ Some file → gone ≡ file.extents → file_in (open_at m k n) ≡ Some place
    → (alone ≡ true → (x : FileRow) → file_in_tree place t ≡ Some x → x.lock.1 < 2) → AreGone m t k n place alone gone
are-gone m t k n place file alone gone kept lines there same opened few = record {
  of_file = of-gone t place file there gone same;
  nobody = λ is j i other apart. alone-on m kept place (few-holders m t place file lines there (few is file there)) k n j i opened other apart;
}
