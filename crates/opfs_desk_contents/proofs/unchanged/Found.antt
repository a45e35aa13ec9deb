-- The row of a call that stores its file's content again, and the file.
use Rattle.std.proofs.Common.{◌≡◌, ℕ, ◌<◌, true, length, Option, Some, None, refl, ap, inl, inr, arith}
use Rattle.std.proofs.lemmas.Bool.{false≢true}
use Rattle.opfs_base.specs.Blocks.{blocks}
use Rattle.opfs_base.specs.Places.{Place}
use Rattle.opfs_base.specs.Texts.{Text}
use Rattle.opfs_books.specs.Stored.Spelled.{bytes_stored, handle_bytes}
use Rattle.opfs_books.specs.Laws.Books.{Fixed}
use Rattle.opfs_books.specs.Laws.Laws.{BooksKeepTheState}
use Rattle.opfs_hist.specs.declared.op.Op.{Op}
use Rattle.opfs_hist.specs.declared.op.Op.TheVariants as op
use Rattle.opfs_laws.specs.Covered.{now_of, stored_of}
use Rattle.opfs_machine.specs.declared.own.HandleOutline.{HandleOutline}
use Rattle.opfs_machine.specs.declared.own.HandleRow.{HandleRow}
use Rattle.opfs_machine.specs.declared.own.Outline.{Outline}
use Rattle.opfs_machine.specs.declared.own.Outline.TheVariants as outline
use Rattle.opfs_machine.specs.declared.own.Own.{Own}
use Rattle.opfs_machine.specs.declared.own.Own.TheVariants as own
use Rattle.opfs_machine.specs.declared.state.FileRow.{FileRow as File}
use Rattle.opfs_machine.specs.declared.state.Sizes.{Sizes}
use Rattle.opfs_machine.specs.declared.state.State.{State}
use Rattle.opfs_machine.specs.Agents.{agent_of, handle_in, of_row, open_handle, own_of, stream_in}
use Rattle.opfs_machine.specs.Contents.{in_lengths, outline_of}
use Rattle.opfs_machine.specs.Histories.{state_after}
use Rattle.opfs_machine.specs.Replies.{bytes_at, row_named}
use Rattle.opfs_machine.specs.Rulings.{want_of}
use Rattle.opfs_outside.specs.declared.disk.Disk.{Ghosts as DiskWords}
use Rattle.opfs_records.specs.Replay.Built.{Built}
use Rattle.opfs_laws.specs.Reserves.Reserves.{FitsOrIsStored}
use Rattle.opfs_state_rows.specs.Standing.Seen.{Machine, lines_of}
use Rattle.opfs_state.specs.Reading.{file_of_row, row_file}
use Rattle.opfs_tree.specs.Rows.{file_at as file_in_tree}
use Rattle.opfs_tree.specs.declared.row.FileRow.{FileRow}
use Rattle.opfs_desk_contents.specs.Rows.{IsWriterOf, StoresFile}
use Rattle.opfs_desk_contents.specs.Words.{is_storing, size_stored, stores_row}
use Rattle.opfs_desk_steps.specs.Parts.Held.{AreHeldWhole}
use Rattle.opfs_desk_steps.specs.Parts.Seen.{machine_in, tree_in, book_in}
use Rattle.opfs_desk_steps.specs.declared.parts.parts.Ledger.{Ledger}
use Rattle.opfs_desk_steps.specs.declared.parts.parts.OpenPages.{OpenPages}
use Rattle.opfs_desk_contents.specs.Unchanged.Saving.{saves_handle}
use Rattle.opfs_desk_contents.proofs.unchanged.Own.{tree-there}

pub one-handle : (a b : HandleOutline) → ◌≡◌ {A = Option HandleOutline} (Some a) (Some b) → a ≡ b
one-handle a b e = cc

pub one-outline : (a b : HandleOutline) → outline.Handle a ≡ outline.Handle b → a ≡ b
one-outline a b e = cc

pub outline-by : (o : Option Outline) (h : HandleOutline) → of_row handle_in o ≡ Some h → o ≡ Some (outline.Handle h)
outline-by None h is = absurd (none_some is)
  where
    none_some : ◌≡◌ {A = Option HandleOutline} None (Some h) → ⊥
    none_some e = cc
outline-by (Some (outline.Handle x)) h is = ap (λ (y : HandleOutline). Some (outline.Handle y)) (one-handle x h is)
outline-by (Some r) h is = absurd cc

-- The file of an access handle is that of its row.
pub handle-file : (m : Machine) (k n : ℕ) (h : HandleOutline) → open_handle in_lengths m k n ≡ Some h → row_file m k n ≡ Some h.file
handle-file m k n h is =
    ap (λ (o : Option Outline). file_of_row (of_row (λ r. stream_in (in_lengths.outline r)) o) (of_row (λ r. handle_in (in_lengths.outline r)) o)) (outline-by (own_of (agent_of m k) n) h is)

pub one-place : (a b : Place) → ◌≡◌ {A = Option Place} (Some a) (Some b) → a ≡ b
one-place a b e = cc

-- It stands in the machine, and so in the tree.
module _ {D : Type 0} (w : DiskWords D) (known : BooksKeepTheState w) (f : Fixed D) (recorded : Built) (l : Ledger D) (p : OpenPages) (held : AreHeldWhole w f recorded l p) (lines : (machine_in l).rows ≡ lines_of (tree_in l)) where
  pub handle-stands : (k n : ℕ) (h : HandleOutline) → open_handle in_lengths (machine_in l) k n ≡ Some h → (r : FileRow) × (file_in_tree h.file (tree_in l) ≡ Some r)
  handle-stands k n h is =
      let kept = known.kept f recorded (state_after f.opening l.books.history) (book_in l) l.journal held.books in
      let there = kept.files k n (outline.Handle h) h.file (want_of h.mode) (outline-by (own_of (agent_of (machine_in l) k) n) h is) refl in
      tree-there (machine_in l) (tree_in l) h.file there.0 lines there.1

-- What is stored of an access handle's file.
pub handle-bytes-are : (s : State Text Own) (k : ℕ) (o : Op) (x : HandleRow) → saves_handle o ≡ true → own_of (agent_of s k) (row_named o) ≡ Some (own.Handle x) → bytes_stored s k o ≡ bytes_at s x.file
unfolding bytes_stored
handle-bytes-are s k (op.SyncFlush n) x saves at = ap (λ (r : Option Own). handle_bytes s (of_row (λ y. handle_in (outline_of y)) r)) at
handle-bytes-are s k (op.SyncClose n) x saves at = ap (λ (r : Option Own). handle_bytes s (of_row (λ y. handle_in (outline_of y)) r)) at
handle-bytes-are s k o x saves at = absurd (false≢true saves)

-- The call stores the file of its access handle.
pub stores-file : (m : Machine) (k : ℕ) (o : Op) (place : Place) (reserve : ℕ) → saves_handle o ≡ true → IsWriterOf m k (row_named o) place reserve → StoresFile m k o place reserve
stores-file m k (op.SyncFlush n) place reserve saves is = is
stores-file m k (op.SyncClose n) place reserve saves is = is
stores-file m k o place reserve saves is = absurd (false≢true saves)

pub stores-word : (m : Machine) (k : ℕ) (o : Op) → stores_row m k o ≡ true → is_storing o ≡ true
stores-word m k (op.Close n) is = refl
stores-word m k (op.SyncFlush n) is = refl
stores-word m k (op.SyncClose n) is = refl
stores-word m k o is = absurd (false≢true is)

pub size-saved : (z : Sizes) (o : Op) (r : FileRow) → saves_handle o ≡ true → size_stored z o r ≡ r.present
size-saved z (op.SyncFlush n) r saves = refl
size-saved z (op.SyncClose n) r saves = refl
size-saved z o r saves = absurd (false≢true saves)

-- No reserve that fits.
pub not-fits : (reserve size : ℕ) (h : HandleRow) (g : File Text) → h.reserve ≡ reserve → size ≡ length g.present → reserve < blocks size → FitsOrIsStored h g → (h.reserve ≡ 0) × (now_of g ≡ stored_of g)
not-fits reserve size h g kept is more (inr stored) = stored
not-fits reserve size h g kept is more (inl fits) = absurd (omega (arith, fits, kept, more, ap blocks is))
