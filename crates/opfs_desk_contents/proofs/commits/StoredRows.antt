-- The open row whose content a call stores, in bytes: which it is, what it stores, and what the call leaves of it.
use Rattle.std.proofs.Common.{◌≡◌, ℕ, Bool, true, false, if◌then◌else◌, length, option_map, Option, Some, None, refl, sym, ap, ◌∙◌}
use Rattle.std.proofs.lemmas.Bool.{false≢true}
use Rattle.std.specs.Prelude.{IsTrue}
use Rattle.opfs_base.specs.Places.{Place}
use Rattle.opfs_base.specs.Texts.{Text}
use Rattle.opfs_books.specs.Stored.Spelled.{bytes_stored, handle_bytes, stream_bytes, bytes_in as stored_in}
use Rattle.opfs_pages.specs.HistoryLaws.Open.{file_in, if_open, open_at}
use Rattle.opfs_pages.specs.HistoryLaws.RowsAfter.{CallsChangeTheirRow, IsDone}
use Rattle.opfs_pages.proofs.history_laws.Leaving.{open-is}
use Rattle.opfs_hist.specs.declared.op.Op.{Op}
use Rattle.opfs_hist.specs.declared.op.Op.TheVariants as op
use Rattle.opfs_hist.specs.declared.reply.Reply.{Reply}
use Rattle.opfs_laws.proofs.Spots.{file-changed}
use Rattle.opfs_laws.specs.Lengths.Kept.{Kept, hold_in}
use Rattle.opfs_laws.specs.Lengths.Outlines.{in_lengths_of}
use Rattle.opfs_laws.proofs.lengths.Readers.{file-on, row-at-on}
use Rattle.opfs_locks.specs.declared.Want.{Want}
use Rattle.opfs_locks.specs.declared.Want.TheVariants as want
use Rattle.opfs_machine.specs.declared.own.HandleOutline.{HandleOutline}
use Rattle.opfs_machine.specs.declared.own.HandleRow.{HandleRow}
use Rattle.opfs_machine.specs.declared.own.Outline.{Outline}
use Rattle.opfs_machine.specs.declared.own.Own.{Own}
use Rattle.opfs_machine.specs.declared.own.Own.TheVariants as own
use Rattle.opfs_machine.specs.declared.own.StreamRow.{StreamRow}
use Rattle.opfs_machine.specs.declared.state.FileRow.{FileRow as File}
use Rattle.opfs_machine.specs.declared.state.Sizes.{Sizes}
use Rattle.opfs_machine.specs.declared.state.State.{State}
use Rattle.opfs_machine.specs.Agents.{agent_of, handle_in, of_row, open_handle, own_of, stream_in, with_own, counted}
use Rattle.opfs_machine.specs.Contents.{in_bytes, in_lengths, outline_of}
use Rattle.opfs_machine.specs.Effects.{effect, flushed, flushes, refused, with_changed, with_written}
use Rattle.opfs_machine.specs.Histories.{is_handle, is_stream, may_enter}
use Rattle.opfs_machine.specs.Replies.{bytes_at, bytes_in, row_named, sizes_in, sizes_of}
use Rattle.opfs_machine.specs.Rows.{file_at, with_file}
use Rattle.opfs_machine.specs.Rulings.{is_read_write, want_of}
use Rattle.opfs_machine.specs.Steps.{after_reply, is_refusal}
use Rattle.opfs_machine.specs.Sums.{reserve_of}
use Rattle.opfs_laws.specs.Steady.Steady.{open_bytes, row_bytes}
use Rattle.opfs_tree.specs.declared.row.FileRow.{FileRow}
use Rattle.opfs_desk_contents.specs.Rows.{IsStreamOf, IsWriterOf, StoresFile}
use Rattle.opfs_desk_contents.specs.Words.{ends_row, may_write, size_stored, stores_row}
use Rattle.opfs_desk_steps.proofs.row_laws.Opens.{file-back}

-- An open stream on a file, with these bytes and so many blocks kept.
pub record IsStreamIn (s : State Text Own) (k n : ℕ) (place : Place) (bytes : Text) (reserve : ℕ) : Type 0 where
  pub row : StreamRow
  pub there : own_of (agent_of s k) n ≡ Some (own.Stream row)
  pub file : row.file ≡ place
  pub buffer : row.buffer ≡ bytes
  pub kept : row.reserve ≡ reserve

-- An open access handle that may write its file, which has these bytes.
pub record IsWriterIn (s : State Text Own) (k n : ℕ) (place : Place) (bytes : Text) (reserve : ℕ) : Type 0 where
  pub row : HandleRow
  pub there : own_of (agent_of s k) n ≡ Some (own.Handle row)
  pub writes : is_read_write row.mode ≡ true
  pub file : row.file ≡ place
  pub text : bytes_at s place ≡ bytes
  pub kept : row.reserve ≡ reserve

abbrev pub StoresRow : State Text Own → ℕ → Op → Place → Text → ℕ → Type 0
StoresRow s k (op.Close n) place bytes reserve = IsStreamIn s k n place bytes reserve
StoresRow s k (op.SyncFlush n) place bytes reserve = IsWriterIn s k n place bytes reserve
StoresRow s k (op.SyncClose n) place bytes reserve = IsWriterIn s k n place bytes reserve
StoresRow s k o place bytes reserve = ⊥

-- ---- which row it is

none-some : (bytes : Text) → ◌≡◌ {A = Option Text} None (Some bytes) → ⊥
none-some bytes x = cc

one-text : (a b : Text) → ◌≡◌ {A = Option Text} (Some a) (Some b) → a ≡ b
one-text a b is = cc

only-stream : (s : State Text Own) (r : Own) (bytes : Text) → is_stream (Some r) ≡ true → open_bytes s (Some r) ≡ Some bytes → (w : StreamRow) × (r ≡ own.Stream w) × (w.buffer ≡ bytes)
only-stream s (own.Stream w) bytes is opened = (w, refl, one-text w.buffer bytes opened)
only-stream s own.ClosedStream bytes is opened = absurd (none-some bytes opened)
only-stream s r bytes is opened = absurd cc

only-handle : (s : State Text Own) (r : Own) (bytes : Text) → is_handle (Some r) ≡ true → open_bytes s (Some r) ≡ Some bytes → (h : HandleRow) × (r ≡ own.Handle h) × (bytes_at s h.file ≡ bytes)
only-handle s (own.Handle h) bytes is opened = (h, refl, one-text (bytes_at s h.file) bytes opened)
only-handle s own.ClosedHandle bytes is opened = absurd (none-some bytes opened)
only-handle s r bytes is opened = absurd cc

pub outlined : (s : State Text Own) (k n : ℕ) (r : Own) → own_of (agent_of s k) n ≡ Some r → own_of (agent_of (in_lengths_of s) k) n ≡ Some (outline_of r)
outlined s k n r is = row-at-on length outline_of s k n ∙ ap (option_map outline_of) is

pub handle-outlined : (s : State Text Own) (k n : ℕ) (h : HandleRow) → own_of (agent_of s k) n ≡ Some (own.Handle h) → open_handle in_lengths (in_lengths_of s) k n ≡ Some (record { file = h.file; mode = h.mode; reserve = h.reserve })
handle-outlined s k n h is = ap (λ (o : Option Outline). of_row (λ (r : Outline). handle_in r) o) (outlined s k n (own.Handle h) is)

pub record StoresWith (s : State Text Own) (k : ℕ) (o : Op) (bytes : Text) : Type 0 where
  pub place : Place
  pub reserve : ℕ
  pub is : StoresRow s k o place bytes reserve

module _ (s : State Text Own) (k : ℕ) (r : Own) (bytes : Text) (opened : open_bytes s (Some r) ≡ Some bytes) where
  this-stream : (n : ℕ) → own_of (agent_of s k) n ≡ Some r → is_stream (own_of (agent_of s k) n) ≡ true → StoresWith s k (op.Close n) bytes
  this-stream n there may =
      let it = only-stream s r bytes (sym (ap (λ (o : Option Own). is_stream o) there) ∙ may) opened in
      record { place = it.0.file; reserve = it.0.reserve; is = record { row = it.0; there = there ∙ ap Some it.1; file = refl; buffer = it.2; kept = refl } }

  this-writer : (n : ℕ) → own_of (agent_of s k) n ≡ Some r → is_handle (own_of (agent_of s k) n) ≡ true → may_write (open_handle in_lengths (in_lengths_of s) k n) ≡ true → (place : Place) × (reserve : ℕ) × IsWriterIn s k n place bytes reserve
  this-writer n there may word =
      let it = only-handle s r bytes (sym (ap (λ (o : Option Own). is_handle o) there) ∙ may) opened in
      let here = there ∙ ap Some it.1 in
      (it.0.file, it.0.reserve, record { row = it.0; there = here; writes = sym (ap (λ (x : Option HandleOutline). may_write x) (handle-outlined s k n it.0 here)) ∙ word; file = refl; text = it.2; kept = refl })

  pub stores-this : (o : Op) → stores_row (in_lengths_of s) k o ≡ true → IsTrue (may_enter s k o) → own_of (agent_of s k) (row_named o) ≡ Some r → StoresWith s k o bytes
  unfolding may_enter
  stores-this (op.Close n) word may there = this-stream n there may
  stores-this (op.SyncFlush n) word may there = let it = this-writer n there may word in record { place = it.0; reserve = it.1; is = it.2 }
  stores-this (op.SyncClose n) word may there = let it = this-writer n there may word in record { place = it.0; reserve = it.1; is = it.2 }
  stores-this o word may there = absurd (false≢true word)

-- ---- as the shared store knows it

stream-of : (s : State Text Own) (k n : ℕ) (place : Place) (bytes : Text) (reserve : ℕ) → IsStreamIn s k n place bytes reserve → IsStreamOf (in_lengths_of s) k n place reserve
stream-of s k n place bytes reserve is = record {
  row = record { file = is.row.file; reserve = is.row.reserve };
  there = ap (λ (o : Option Outline). of_row (λ (r : Outline). stream_in r) o) (outlined s k n (own.Stream is.row) is.there);
  file = is.file;
  kept = is.kept;
}

writer-of : (s : State Text Own) (k n : ℕ) (place : Place) (bytes : Text) (reserve : ℕ) → IsWriterIn s k n place bytes reserve → IsWriterOf (in_lengths_of s) k n place reserve
writer-of s k n place bytes reserve is = record {
  row = record { file = is.row.file; mode = is.row.mode; reserve = is.row.reserve };
  there = handle-outlined s k n is.row is.there;
  writes = is.writes;
  file = is.file;
  kept = is.kept;
}

pub stores-file : (s : State Text Own) (k : ℕ) (o : Op) (place : Place) (bytes : Text) (reserve : ℕ) → StoresRow s k o place bytes reserve → StoresFile (in_lengths_of s) k o place reserve
stores-file s k (op.Close n) place bytes reserve is = stream-of s k n place bytes reserve is
stores-file s k (op.SyncFlush n) place bytes reserve is = writer-of s k n place bytes reserve is
stores-file s k (op.SyncClose n) place bytes reserve is = writer-of s k n place bytes reserve is
stores-file s k o place bytes reserve is = absurd is

-- An own row that is open, with its file and the blocks that are kept for it.
pub record IsOpenOutline (s : State Text Own) (k n : ℕ) (place : Place) (reserve : ℕ) : Type 0 where
  pub row : Own
  pub there : own_of (agent_of s k) n ≡ Some row
  pub outlined : own_of (agent_of (in_lengths_of s) k) n ≡ Some (outline_of row)
  pub kept : reserve_of (outline_of row) ≡ reserve
  pub how : Want
  pub holds : hold_in (outline_of row) ≡ Some (place, how)
  pub file : file_in (open_at (in_lengths_of s) k n) ≡ Some place

opened-file : (s : State Text Own) (k n : ℕ) (r : Own) → own_of (agent_of s k) n ≡ Some r → file_in (open_at (in_lengths_of s) k n) ≡ file_in (if_open (Some (outline_of r)))
opened-file s k n r is = ap file_in (open-is s k n ∙ ap (λ (o : Option Own). if_open (option_map outline_of o)) is)

stream-outline : (s : State Text Own) (k n : ℕ) (place : Place) (bytes : Text) (reserve : ℕ) → IsStreamIn s k n place bytes reserve → IsOpenOutline s k n place reserve
stream-outline s k n place bytes reserve is = record {
  row = own.Stream is.row;
  there = is.there;
  outlined = outlined s k n (own.Stream is.row) is.there;
  kept = is.kept;
  how = want.Shared;
  holds = ap (λ (p : Place). Some (p, want.Shared)) is.file;
  file = opened-file s k n (own.Stream is.row) is.there ∙ ap Some is.file;
}

writer-outline : (s : State Text Own) (k n : ℕ) (place : Place) (bytes : Text) (reserve : ℕ) → IsWriterIn s k n place bytes reserve → IsOpenOutline s k n place reserve
writer-outline s k n place bytes reserve is = record {
  row = own.Handle is.row;
  there = is.there;
  outlined = outlined s k n (own.Handle is.row) is.there;
  kept = is.kept;
  how = want_of is.row.mode;
  holds = ap (λ (p : Place). Some (p, want_of is.row.mode)) is.file;
  file = opened-file s k n (own.Handle is.row) is.there ∙ ap Some is.file;
}

pub open-outline : (s : State Text Own) (k : ℕ) (o : Op) (place : Place) (bytes : Text) (reserve : ℕ) → StoresRow s k o place bytes reserve → IsOpenOutline s k (row_named o) place reserve
open-outline s k (op.Close n) place bytes reserve is = stream-outline s k n place bytes reserve is
open-outline s k (op.SyncFlush n) place bytes reserve is = writer-outline s k n place bytes reserve is
open-outline s k (op.SyncClose n) place bytes reserve is = writer-outline s k n place bytes reserve is
open-outline s k o place bytes reserve is = absurd is

-- Its file is there.
pub its-file : (s : State Text Own) (k n : ℕ) (place : Place) (reserve : ℕ) → Kept (in_lengths_of s) → IsOpenOutline s k n place reserve → (x : File Text) × (file_at s place ≡ Some x)
its-file s k n place reserve kept is =
    let held = kept.files k n (outline_of is.row) place is.how is.outlined is.holds in
    let back = file-back (file_at s place) held.0 (sym (file-on length outline_of s place) ∙ held.1) in
    (back.0, back.1)

-- ---- what it stores

same-stored : (o : Option (File Text)) → stored_in o ≡ bytes_in o
same-stored None = refl
same-stored (Some f) = refl

stored-stream : (s : State Text Own) (k n : ℕ) (place : Place) (bytes : Text) (reserve : ℕ) → IsStreamIn s k n place bytes reserve → stream_bytes (own_of (agent_of s k) n) ≡ bytes
stored-stream s k n place bytes reserve is = ap (λ (o : Option Own). stream_bytes o) is.there ∙ is.buffer

stored-writer : (s : State Text Own) (k n : ℕ) (place : Place) (bytes : Text) (reserve : ℕ) → IsWriterIn s k n place bytes reserve → handle_bytes s (open_handle in_bytes s k n) ≡ bytes
stored-writer s k n place bytes reserve is =
    ap (λ (x : Option HandleOutline). handle_bytes s x) (ap (λ (o : Option Own). of_row (λ r. handle_in (outline_of r)) o) is.there)
    ∙ ap (λ (p : Place). stored_in (file_at s p)) is.file ∙ same-stored (file_at s place) ∙ is.text

pub stored-bytes : (s : State Text Own) (k : ℕ) (o : Op) (place : Place) (bytes : Text) (reserve : ℕ) → StoresRow s k o place bytes reserve → bytes_stored s k o ≡ bytes
unfolding bytes_stored
stored-bytes s k (op.Close n) place bytes reserve is = stored-stream s k n place bytes reserve is
stored-bytes s k (op.SyncFlush n) place bytes reserve is = stored-writer s k n place bytes reserve is
stored-bytes s k (op.SyncClose n) place bytes reserve is = stored-writer s k n place bytes reserve is
stored-bytes s k o place bytes reserve is = absurd is

size-writer : (s : State Text Own) (k n : ℕ) (place : Place) (bytes : Text) (reserve : ℕ) → IsWriterIn s k n place bytes reserve → (x : File Text) → file_at s place ≡ Some x → (present : ℕ) → present ≡ length x.present → length bytes ≡ present
size-writer s k n place bytes reserve is x there present same = ap length (sym is.text ∙ ap bytes_in there) ∙ sym same

-- As many bytes as the file has now.
pub size-stored-is : (s : State Text Own) (k : ℕ) (o : Op) (place : Place) (bytes : Text) (reserve : ℕ) → StoresRow s k o place bytes reserve → (z : Sizes) → z ≡ sizes_of s k o
    → (x : File Text) → file_at s place ≡ Some x → (file : FileRow) → file.present ≡ length x.present → length bytes ≡ size_stored z o file
size-stored-is s k (op.Close n) place bytes reserve is z sizes x there file present =
    ap length (sym is.buffer) ∙ sym (ap (λ (y : Sizes). y.size) (sizes ∙ ap (sizes_in s) is.there))
size-stored-is s k (op.SyncFlush n) place bytes reserve is z sizes x there file present = size-writer s k n place bytes reserve is x there file.present present
size-stored-is s k (op.SyncClose n) place bytes reserve is z sizes x there file present = size-writer s k n place bytes reserve is x there file.present present
size-stored-is s k o place bytes reserve is z sizes x there file present = absurd is

-- ---- what the call leaves of it

-- The row is closed.
pub record IsClosedRow (t : State Text Own) (k n : ℕ) : Type 0 where
  pub none : row_bytes t k n ≡ None
  pub shut : open_at (in_lengths_of t) k n ≡ None

-- It is the access handle with nothing reserved.
pub record IsFlushedRow (t : State Text Own) (k n : ℕ) (place : Place) (bytes : Text) (position : ℕ) : Type 0 where
  pub row : HandleRow
  pub there : own_of (agent_of t k) n ≡ Some (own.Handle row)
  pub file : row.file ≡ place
  pub text : bytes_at t place ≡ bytes
  pub kept : row.reserve ≡ 0
  pub cursor : row.cursor ≡ position

abbrev state_by : Bool → State Text Own → ℕ → Op → State Text Own
state_by refuses s k o = elim refuses [ true ↦ refused s k o | false ↦ effect in_bytes s (sizes_of s k o) k o ]

after-done : (s : State Text Own) (k : ℕ) (o : Op) (told : Reply) → is_refusal told ≡ false → after_reply s k o told ≡ counted (effect in_bytes s (sizes_of s k o) k o) k
after-done s k o told done = ap (λ b. counted (state_by b s k o) k) done

module _ (changes : CallsChangeTheirRow) (s : State Text Own) (k : ℕ) (told : Reply) (done : IsDone s k told) (place : Place) (bytes : Text) (reserve : ℕ) where
  closed-by : (t : State Text Own) (n : ℕ) (r : Own) → open_bytes t (Some r) ≡ None → if_open (Some (outline_of r)) ≡ None → own_of (agent_of t k) n ≡ Some r → IsClosedRow t k n
  closed-by t n r none shut is = record { none = ap (open_bytes t) is ∙ none; shut = open-is t k n ∙ (ap (λ (o : Option Own). if_open (option_map outline_of o)) is ∙ shut) }

  pub row-closed : (o : Op) → StoresRow s k o place bytes reserve → ends_row o ≡ true → IsClosedRow (after_reply s k o told) k (row_named o)
  row-closed (op.Close n) is ends = closed-by (after_reply s k (op.Close n) told) n own.ClosedStream refl refl (changes.closed s k told n is.row done is.there)
  row-closed (op.SyncFlush n) is ends = absurd (false≢true ends)
  row-closed (op.SyncClose n) is ends = closed-by (after_reply s k (op.SyncClose n) told) n own.ClosedHandle refl refl (changes.sync_closed s k told n is.row done is.there)
  row-closed o is ends = absurd is

  present-kept : (o : Option (File Text)) → bytes_in (option_map flushed o) ≡ bytes_in o
  present-kept None = refl
  present-kept (Some f) = refl

  bytes-changed : (t : State Text Own) (n : ℕ) (g : Own → Own) (p : Place) → bytes_at (with_changed t k n g) p ≡ bytes_at t p
  unfolding with_changed
  bytes-changed t n g p =
      elim (own_of (agent_of t k) n) as (λ o. bytes_at (elim o as (λ x. State Text Own) [ Some x ↦ with_own t k n (g x) | None ↦ t ]) p ≡ bytes_at t p) [ Some x ↦ refl | None ↦ refl ]

  bytes-flushed : (n : ℕ) (h : HandleRow) → own_of (agent_of s k) n ≡ Some (own.Handle h) → is_read_write h.mode ≡ true → bytes_at (after_reply s k (op.SyncFlush n) told) h.file ≡ bytes_at s h.file
  unfolding effect
  bytes-flushed n h is writes =
      let z = sizes_of s k (op.SyncFlush n) in
      ap (λ (t : State Text Own). bytes_at t h.file) (after-done s k (op.SyncFlush n) told done.done)
      ∙ ap (λ (x : Option HandleOutline). bytes_at (flushes in_bytes s z k n x) h.file) (ap (λ (o : Option Own). of_row (λ r. handle_in (outline_of r)) o) is)
      ∙ bytes-changed (with_written s h.mode h.file flushed) n (λ r. in_bytes.moved r z.position 0) h.file
      ∙ ap (λ (b : Bool). bytes_at (if b then with_file s h.file flushed else s) h.file) writes
      ∙ ap bytes_in (file-changed s h.file flushed) ∙ present-kept (file_at s h.file)

  pub row-flushed : (o : Op) → StoresRow s k o place bytes reserve → ends_row o ≡ false → IsFlushedRow (after_reply s k o told) k (row_named o) place bytes (sizes_of s k o).position
  row-flushed (op.Close n) is ends = absurd (false≢true (sym ends))
  row-flushed (op.SyncFlush n) is ends = record {
    row = record is.row { reserve = 0 };
    there = changes.flushed s k told n is.row done is.there;
    file = is.file;
    text =
        ap (λ (p : Place). bytes_at (after_reply s k (op.SyncFlush n) told) p) (sym is.file)
        ∙ bytes-flushed n is.row is.there is.writes ∙ ap (λ (p : Place). bytes_at s p) is.file ∙ is.text;
    kept = refl;
    cursor = sym (ap (λ (y : Sizes). y.position) (ap (sizes_in s) is.there));
  }
  row-flushed (op.SyncClose n) is ends = absurd (false≢true (sym ends))
  row-flushed o is ends = absurd is
