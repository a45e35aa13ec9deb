-- A call that stores a row's content, as it is asked for after its agent's pending calls.
use Rattle.std.proofs.Common.{◌≡◌, ◌≢◌, ℕ, ◌*◌, ◌^◌, ◌<◌, ◌≤◌, true, is_some, List, [], ◌++◌, length, Option, Some, None, refl, sym, ap, subst, ◌∙◌, arith}
use Rattle.std.proofs.lemmas.List.Sums.{fold-append}
use Rattle.opfs_base.specs.Blocks.{blocks}
use Rattle.opfs_base.specs.Places.{Place}
use Rattle.opfs_base.specs.Texts.{Text}
use Rattle.opfs_books.specs.Laws.Books.{Fixed}
use Rattle.opfs_books.specs.Laws.Commits.{StateLaws}
use Rattle.opfs_books.specs.Laws.Laws.{BooksKeepTheState}
use Rattle.opfs_store.specs.Copies.Copies.{StandsFor}
use Rattle.opfs_pages.specs.HistoryLaws.Open.{file_in, if_open, open_at}
use Rattle.opfs_hist.specs.declared.entry.Entry.{Entry}
use Rattle.opfs_laws.specs.Lengths.Bridge.{LengthsFollowEachCall, LocalCallsAreKnownByTheirWord}
use Rattle.opfs_laws.specs.Lengths.Kept.{hold_in}
use Rattle.opfs_locks.specs.declared.Want.{Want}
use Rattle.opfs_laws.specs.Lengths.Outlines.{in_lengths_of}
use Rattle.opfs_machine.specs.declared.own.Outline.{Outline}
use Rattle.opfs_machine.specs.declared.own.Outline.TheVariants as outline
use Rattle.opfs_machine.specs.declared.own.Own.{Own}
use Rattle.opfs_machine.specs.declared.own.Own.TheVariants as own
use Rattle.opfs_machine.specs.declared.state.Sizes.{Sizes}
use Rattle.opfs_machine.specs.declared.state.State.{State}
use Rattle.opfs_machine.specs.Agents.{agent_of, handle_in, of_row, own_of, stream_in}
use Rattle.opfs_machine.specs.Contents.{outline_of}
use Rattle.opfs_machine.specs.Histories.{after_entry, state_after}
use Rattle.opfs_machine.specs.Openings.{begun}
use Rattle.opfs_machine.specs.Replies.{bytes_at, row_named, sizes_in}
use Rattle.opfs_machine.specs.Sums.{reserve_of}
use Rattle.opfs_outside.specs.declared.disk.Disk.{Ghosts as DiskWords}
use Rattle.opfs_records.specs.Replay.Built.{Built}
use Rattle.opfs_space.specs.Room.{Machine}
use Rattle.opfs_state.specs.Reading.{file_of_row, row_file}
use Rattle.opfs_laws.specs.Steady.Steady.{open_bytes, row_bytes}
use Rattle.opfs_state.specs.Verdicts.Callers.{IsAgent}
use Rattle.opfs_work.specs.Works.{WorkingCopy}
use Rattle.opfs_desk_contents.specs.Putting.{KeepsEnough}
use Rattle.opfs_desk_contents.specs.Words.{is_storing, stores_row}
use Rattle.opfs_desk_contents.proofs.Stowed.{few-pages}
use Rattle.opfs_desk_steps.specs.Parts.Seen.{machine_in}
use Rattle.opfs_desk_steps.specs.declared.parts.call.ReadyCall.{ReadyCall}
use Rattle.opfs_desk_steps.specs.declared.parts.parts.Ledger.{Ledger}
use Rattle.opfs_desk_steps.specs.declared.parts.parts.OpenPages.{OpenPages}
use Rattle.opfs_desk_entries.specs.Answers.Silent.{BeginsCall}
use Rattle.opfs_desk_entries.proofs.answers.Noted.{noted-is, sum_of}
use Rattle.opfs_desk_bytes.proofs.reading.Synced.{handed}
use Rattle.opfs_desk_steps.specs.RowLaws.Copied.{CopiesAreStored, IsStoredCopy}
use Rattle.opfs_desk_steps.proofs.row_laws.Staying.{pending-stays}
use Rattle.opfs_desk_contents.specs.Commits.Fits.{FitsReserve}
use Rattle.opfs_desk_contents.proofs.commits.StoredRows.{IsOpenOutline, StoresWith, open-outline, stores-this}
use Rattle.opfs_desk_contents.proofs.commits.Words.{row-some, stores-noted, word-is}

-- ---- the file of an open row

row-file-open : (o : Option Outline) → file_of_row (of_row (λ (r : Outline). stream_in r) o) (of_row (λ (r : Outline). handle_in r) o) ≡ file_in (if_open o)
row-file-open None = refl
row-file-open (Some (outline.Stream w)) = refl
row-file-open (Some (outline.Handle h)) = refl
row-file-open (Some r) = refl

pub row-file-is : (m : Machine) (k n : ℕ) → row_file m k n ≡ file_in (open_at m k n)
row-file-is m k n = row-file-open (own_of (agent_of m k) n)

open-own : (o : Option Outline) (x : Outline) → if_open o ≡ Some x → o ≡ Some x
open-own None x is = cc
open-own (Some (outline.Stream w)) x is = is
open-own (Some (outline.Handle h)) x is = is
open-own (Some r) x is = absurd cc

open-holds : (r : Outline) (x : Place × Want) → hold_in r ≡ Some x → if_open (Some r) ≡ Some r
open-holds (outline.Stream w) x is = refl
open-holds (outline.Handle h) x is = refl
open-holds r x is = absurd cc

-- ---- sizes

one-text : (a b : Text) → ◌≡◌ {A = Option Text} (Some a) (Some b) → a ≡ b
one-text a b is = cc

size-in : (s : State Text Own) (r : Own) (bytes : Text) → open_bytes s (Some r) ≡ Some bytes → (sizes_in s (Some r)).size ≡ length bytes
size-in s (own.Stream w) bytes is = ap length (one-text w.buffer bytes is)
size-in s (own.Handle h) bytes is = ap length (one-text (bytes_at s h.file) bytes is)
size-in s r bytes is = absurd cc

module _ {D : Type 0} (w : DiskWords D) (follow : LengthsFollowEachCall) (local : LocalCallsAreKnownByTheirWord)
    (f : Fixed D) (recorded : Built) (l : Ledger D) (p : OpenPages) (calls : List Entry) (c : ReadyCall) (work : WorkingCopy)
    (begins : BeginsCall w f recorded l p calls c work []) (agent : IsAgent (machine_in l) c.agent) (word : stores_row (machine_in l) c.agent c.op ≡ true) where
  -- The state that the call finds, and the row that it names.
  abbrev pub s : State Text Own
  s = state_after f.opening (l.books.history ++ calls)

  abbrev pub row : ℕ
  row = row_named c.op

  pub storing : is_storing c.op ≡ true
  storing = word-is (machine_in l) c.agent c.op word

  pub word-now : stores_row (in_lengths_of s) c.agent c.op ≡ true
  word-now =
      subst (λ (m : Machine). stores_row m c.agent c.op ≡ true) (sym (noted-is w follow local f recorded l p calls c work [] begins agent))
      (stores-noted (machine_in l) c.agent (sum_of calls) c.op agent word)

  pub some : row ≢ 0
  some = row-some s c.agent c.op storing begins.asked.may.fitting

  pub stood : StandsFor w.tells f.opening (l.books.history ++ calls) c.agent row work
  stood = handed w.tells f.opening (l.books.history ++ calls) c.agent row work some begins.asked.may.copy

  abbrev pub bytes : Text
  bytes = stood.copy.bytes

  pub bytes-are : row_bytes s c.agent row ≡ Some bytes
  bytes-are = ap (open_bytes s) stood.there ∙ stood.copy.open_row

  pub its-row : StoresWith s c.agent c.op bytes
  its-row = stores-this s c.agent stood.row bytes stood.copy.open_row c.op word-now begins.asked.may.fitting stood.there

  abbrev pub place : Place
  place = its-row.place

  pub its-outline : IsOpenOutline s c.agent row place its-row.reserve
  its-outline = open-outline s c.agent c.op place bytes its-row.reserve its-row.is

  -- ---- before the pending calls are taken in

  open-same : open_at (machine_in l) c.agent row ≡ open_at (in_lengths_of s) c.agent row
  open-same =
      ap (λ (m : Machine). open_at m c.agent row) begins.held.books.machine
      ∙ sym
      (ap (λ (x : State Text Own). open_at (in_lengths_of x) c.agent row) (fold-append after_entry (begun f.opening) l.books.history calls)
      ∙ pending-stays follow local w.tells (state_after f.opening l.books.history) c.agent calls begins.asked.may.pending c.agent row)

  pub file-before : row_file (machine_in l) c.agent row ≡ Some place
  file-before = row-file-is (machine_in l) c.agent row ∙ ap file_in open-same ∙ its-outline.file

  pub file-there : is_some (row_file (machine_in l) c.agent row) ≡ true
  file-there = ap (λ (o : Option Place). is_some o) file-before

  -- ---- its sizes

  pub size-is : c.sizes.size ≡ work.length
  size-is =
      ap (λ (z : Sizes). z.size) (begins.asked.sizes ∙ ap (sizes_in s) stood.there)
      ∙ size-in s stood.row bytes stood.copy.open_row ∙ sym stood.copy.size

  one-own : (a b : Own) → ◌≡◌ {A = Option Own} (Some a) (Some b) → a ≡ b
  one-own a b is = cc

  pub reserve-is : its-row.reserve ≡ work.reserve
  reserve-is =
      sym its-outline.kept
      ∙ ap (λ (r : Own). reserve_of (outline_of r)) (one-own its-outline.row stood.row (sym its-outline.there ∙ stood.there))
      ∙ sym stood.copy.reserve

  own-before : own_of (agent_of (machine_in l) c.agent) row ≡ Some (outline_of its-outline.row)
  own-before =
      open-own (own_of (agent_of (machine_in l) c.agent) row) (outline_of its-outline.row)
      (open-same ∙ ap (λ (o : Option Outline). if_open o) its-outline.outlined ∙ open-holds (outline_of its-outline.row) (place, its-outline.how) its-outline.holds)

  module _ (fits : FitsReserve work) where
    enough-before : KeepsEnough l c.agent row (blocks work.length)
    enough-before = record { own = outline_of its-outline.row; there = own-before; within = let kept = its-outline.kept in omega (arith, fits, kept, reserve-is) }

    pub small : StateLaws → BooksKeepTheState w → work.length < 2 ^ 63
    small states keeps =
        let few = few-pages w states keeps f recorded l p begins.held c.agent row (blocks work.length) enough-before in
        let many : work.length ≤ 4096 * blocks work.length = omega arith in
        omega (arith, few, many)

  -- ---- what the store has of it

  module _ (copies : CopiesAreStored w) where
    pub stored-copy : IsStoredCopy w f l p calls c.agent row work
    stored-copy = copies f recorded l p calls c.agent row work begins.held begins.asked.may.pending some stood
