-- Where more blocks are wanted than are kept for the row, it is an access handle's.
use Rattle.std.proofs.Common.{◌≡◌, ℕ, ◌-◌, ◌<◌, true, List, [], ◌++◌, length, option_map, Option, Some, None, refl, sym, ap, subst, ◌∙◌, append-nil, arith}
use Rattle.opfs_base.specs.Blocks.{blocks}
use Rattle.opfs_base.specs.Places.{Place}
use Rattle.opfs_base.specs.Texts.{Text}
use Rattle.opfs_books.specs.Laws.Books.{Fixed}
use Rattle.opfs_books.specs.Laws.Commits.{StateLaws}
use Rattle.opfs_books.proofs.laws.Told.{told-whole}
use Rattle.opfs_hist.specs.declared.entry.Entry.{Entry}
use Rattle.opfs_hist.specs.declared.op.Op.{Op}
use Rattle.opfs_hist.specs.declared.op.Op.TheVariants as op
use Rattle.opfs_laws.specs.Histories.Unread.{IsTold}
use Rattle.opfs_laws.proofs.histories.Reading.{pending-told, told-more, unread-state}
use Rattle.opfs_laws.specs.GoingOn.{ArePending, LegalHistoriesGoOn}
use Rattle.opfs_laws.specs.Whole.{IsWhole}
use Rattle.opfs_laws.specs.Lengths.Bridge.{LengthsFollowEachCall, LocalCallsAreKnownByTheirWord}
use Rattle.opfs_laws.specs.Lengths.Outlines.{in_lengths_of, on_file}
use Rattle.opfs_laws.proofs.lengths.Readers.{file-on}
use Rattle.opfs_machine.specs.declared.own.HandleOutline.{HandleOutline}
use Rattle.opfs_machine.specs.declared.own.Own.{Own}
use Rattle.opfs_machine.specs.declared.state.FileRow.{FileRow as File}
use Rattle.opfs_machine.specs.declared.state.State.{State}
use Rattle.opfs_machine.specs.Agents.{open_handle}
use Rattle.opfs_machine.specs.Contents.{in_lengths, outline_of}
use Rattle.opfs_machine.specs.Histories.{state_after}
use Rattle.opfs_machine.specs.Replies.{bytes_at, bytes_in, row_named}
use Rattle.opfs_machine.specs.Rows.{file_at}
use Rattle.opfs_machine.specs.Rulings.{size_in}
use Rattle.opfs_outside.specs.declared.disk.Disk.{Ghosts as DiskWords}
use Rattle.opfs_records.specs.Replay.Built.{Built}
use Rattle.opfs_space.specs.Room.{Machine}
use Rattle.opfs_state.specs.Verdicts.Callers.{IsAgent}
use Rattle.opfs_work.specs.Works.{WorkingCopy}
use Rattle.opfs_desk_contents.specs.Unchanged.More.{HasMoreThanReserve}
use Rattle.opfs_desk_contents.specs.Rows.{StoresFile}
use Rattle.opfs_desk_contents.specs.Words.{stores_row}
use Rattle.opfs_desk_steps.specs.Parts.Seen.{machine_in}
use Rattle.opfs_desk_steps.specs.declared.parts.call.ReadyCall.{ReadyCall}
use Rattle.opfs_desk_steps.specs.declared.parts.parts.Ledger.{Ledger}
use Rattle.opfs_desk_steps.specs.declared.parts.parts.OpenPages.{OpenPages}
use Rattle.opfs_desk_entries.specs.Answers.Silent.{BeginsCall}
use Rattle.opfs_desk_entries.proofs.answers.Noted.{noted-is, sum_of}
use Rattle.opfs_desk_steps.proofs.row_laws.Locked.{base-whole}
use Rattle.opfs_desk_contents.proofs.commits.Asked.{its-row, reserve-is, stood}
use Rattle.opfs_desk_contents.proofs.commits.StoredRows.{IsWriterIn, StoresRow, handle-outlined, stores-file}
use Rattle.opfs_desk_contents.proofs.commits.Words.{handle-at}
use Rattle.opfs_state_rows.specs.Standing.Noted.{with_sum}

size-same : (o : Option (File Text)) → size_in in_lengths (option_map (on_file length) o) ≡ length (bytes_in o)
size-same None = refl
size-same (Some x) = refl

module _ (m : Machine) (s : State Text Own) (k : ℕ) (handles : (n : ℕ) → open_handle in_lengths m k n ≡ open_handle in_lengths (in_lengths_of s) k n) (files : (q : Place) → file_at m q ≡ file_at (in_lengths_of s) q) (whole : IsWhole s)
    (place : Place) (text : Text) (reserve : ℕ) (more : reserve < blocks (length text)) where
  present : (q : Place) → size_in in_lengths (file_at m q) ≡ length (bytes_at s q)
  present q = ap (λ x. size_in in_lengths x) (files q ∙ file-on length outline_of s q) ∙ size-same (file_at s q)

  of-writer : (o : Op) → IsWriterIn s k (row_named o) place text reserve → StoresFile (in_lengths_of s) k o place reserve → HasMoreThanReserve m k o
  of-writer o is file =
      let outline : HandleOutline = record { file = is.row.file; mode = is.row.mode; reserve = is.row.reserve } in
      let size : size_in in_lengths (file_at m is.row.file) ≡ length text = present is.row.file ∙ ap (λ (q : Place). length (bytes_at s q)) is.file ∙ ap length is.text in
      let many : blocks (size_in in_lengths (file_at m is.row.file)) ≡ blocks (length text) = ap blocks size in
      let kept = is.kept in
      record {
        handle = outline;
        there = handles (row_named o) ∙ handle-outlined s k (row_named o) is.row is.there;
        more = omega (arith, kept, many, more);
      }

  more-by : (o : Op) → StoresRow s k o place text reserve → HasMoreThanReserve m k o
  more-by (op.Close n) is =
      let fits = whole.buffers k n is.row is.there in
      let size : blocks (length is.row.buffer) ≡ blocks (length text) = ap (λ (b : Text). blocks (length b)) is.buffer in
      let kept = is.kept in
      absurd (omega (arith, fits, size, kept, more))
  more-by (op.SyncFlush n) is = of-writer (op.SyncFlush n) is (stores-file s k (op.SyncFlush n) place text reserve is)
  more-by (op.SyncClose n) is = of-writer (op.SyncClose n) is (stores-file s k (op.SyncClose n) place text reserve is)
  more-by o is = absurd is

module _ {D : Type 0} (w : DiskWords D) (goes : LegalHistoriesGoOn) (states : StateLaws) (follow : LengthsFollowEachCall) (local : LocalCallsAreKnownByTheirWord)
    (f : Fixed D) (recorded : Built) (l : Ledger D) (p : OpenPages) (calls : List Entry) (c : ReadyCall) (work : WorkingCopy)
    (begins : BeginsCall w f recorded l p calls c work []) (agent : IsAgent (machine_in l) c.agent) (word : stores_row (machine_in l) c.agent c.op ≡ true) where
  abbrev s : State Text Own
  s = state_after f.opening (l.books.history ++ calls)

  before : IsTold w.tells f.opening l.books.history
  before = told-whole w.tells f.opening l.books.history (state_after f.opening l.books.history) begins.held.books.told

  told-then : IsTold w.tells f.opening (l.books.history ++ calls)
  told-then =
      let waiting = pending-told w.tells (state_after f.opening l.books.history) c.agent calls begins.asked.may.pending in
      let pends = subst (λ (t : State Text Own). ArePending t c.agent waiting.real) (unread-state f.opening l.books.history before.real before.alike) waiting.pending in
      told-more w.tells f.opening l.books.history calls waiting.real before (goes.pending f.opening before.real waiting.real c.agent before.legal pends) waiting.alike waiting.told

  whole : IsWhole s
  whole = base-whole states w.tells f.opening (l.books.history ++ calls) s [] begins.held.books.whole (record { front = l.books.history ++ calls; told = told-then; state = refl; grown = sym (append-nil (l.books.history ++ calls)) })

  noted : in_lengths_of s ≡ with_sum (machine_in l) (c.agent - 1) (sum_of calls)
  noted = noted-is w follow local f recorded l p calls c work [] begins agent

  pub has-more : work.reserve < blocks work.length → HasMoreThanReserve (machine_in l) c.agent c.op
  has-more more =
      let it = its-row w follow local f recorded l p calls c work begins agent word in
      let its = stood w follow local f recorded l p calls c work begins agent word in
      let reserve = reserve-is w follow local f recorded l p calls c work begins agent word in
      let size : blocks work.length ≡ blocks (length its.copy.bytes) = ap blocks its.copy.size in
      more-by (machine_in l) s c.agent
      (λ n. sym (ap (λ (m : Machine). open_handle in_lengths m c.agent n) noted ∙ handle-at (machine_in l) c.agent (sum_of calls) n agent))
      (λ q. sym (ap (λ (m : Machine). file_at m q) noted)) whole it.place its.copy.bytes it.reserve (omega (arith, more, reserve, size)) c.op it.is
