-- Where the present bytes of a file are.
use Rattle.std.proofs.Common.{◌≡◌, ℕ, ◌+◌, ◌*◌, ◌^◌, ◌<◌, ◌≤◌, nat_lt, true, false, ◌||◌, List, [], ◌∷◌, ◌++◌, length, Option, Some, None, is_some, inl, inr, refl, sym, ap, subst, ◌∙◌, arith}
use Rattle.std.proofs.lemmas.Bool.{false≢true, lt-ltb}
use Rattle.std.proofs.lemmas.List.Sums.{fold-append}
use Rattle.std.specs.List.{AllByRecursion}
use Rattle.opfs_base.specs.Blocks.{blocks}
use Rattle.opfs_base.specs.Places.{Place}
use Rattle.opfs_base.specs.Texts.{Text}
use Rattle.opfs_base.specs.declared.extents.Extent.{Extent}
use Rattle.opfs_books.specs.Laws.Books.{Fixed}
use Rattle.opfs_books.specs.Laws.Commits.{StateLaws}
use Rattle.opfs_state_rows.proofs.changes.Twice.{machine-file}
use Rattle.opfs_data.specs.Pages.{page_of}
use Rattle.opfs_data.specs.Places.{bytes_of, room_of}
use Rattle.opfs_data.specs.Rows.{Rows, page_at, pages_at, row_of}
use Rattle.opfs_pages.specs.HistoryLaws.Handles.{AreHandlesWhole, HandlesStayWhole, handle_on}
use Rattle.opfs_pages.specs.HistoryLaws.Open.{if_open, open_at}
use Rattle.opfs_desk_steps.specs.Parts.Held.{AreHeldWhole}
use Rattle.opfs_desk_steps.specs.Parts.Seen.{machine_in, tree_in}
use Rattle.opfs_desk_steps.specs.declared.parts.parts.Ledger.{Ledger}
use Rattle.opfs_desk_steps.specs.declared.parts.parts.OpenPages.{OpenPages}
use Rattle.opfs_desk_bytes.specs.Reading.Reading.{IsFileRead, IsReadFrom}
use Rattle.opfs_desk_bytes.proofs.reading.Wholes.{pending-whole}
use Rattle.opfs_desk_bytes.specs.Reading.Files.{IsPresent, IsReadOfFile, has_writer, is_writer, writes_file}
use Rattle.opfs_desk_bytes.proofs.reading.Small.{few-blocks, few-bytes}
use Rattle.opfs_desk_bytes.proofs.reading.Writers.{IsOpenWriter, has-found, writer-known, writer-own, writer-there}
use Rattle.opfs_desk_steps.specs.RowLaws.Stored.{FilesAreStored, HasCleared, HistoriesAreCleared, IsStoredAt}
use Rattle.opfs_desk_steps.proofs.row_laws.Locked.{base-whole}
use Rattle.opfs_desk_steps.proofs.row_laws.Opens.{file-back, room-count}
use Rattle.opfs_desk_steps.proofs.row_laws.Staying.{open-with-bytes, pending-stays}
use Rattle.opfs_desk_steps.proofs.row_laws.Inside.{limits-are}
use Rattle.opfs_hist.specs.declared.entry.Entry.{Entry}
use Rattle.opfs_laws.specs.Histories.Unread.{ArePendingFor}
use Rattle.opfs_image.proofs.Formatted.{range_parts}
use Rattle.opfs_laws.specs.Holders.{IsLockOf, holders}
use Rattle.opfs_laws.specs.Whole.{IsWhole}
use Rattle.opfs_laws.proofs.lengths.Readers.{file-on}
use Rattle.opfs_laws.specs.Lengths.Kept.{Kept}
use Rattle.opfs_laws.specs.Lengths.Bridge.{LengthsFollowEachCall, LocalCallsAreKnownByTheirWord}
use Rattle.opfs_laws.specs.Lengths.Outlines.{in_lengths_of, on_file}
use Rattle.opfs_locks.specs.Taking.{Lock}
use Rattle.opfs_locks.specs.declared.LockValue.TheVariants as value
use Rattle.opfs_locks.specs.declared.Want.{Want}
use Rattle.opfs_locks.specs.declared.Want.TheVariants as want
use Rattle.opfs_machine.specs.declared.own.Outline.{Outline}
use Rattle.opfs_machine.specs.declared.own.Outline.TheVariants as outline
use Rattle.opfs_machine.specs.declared.own.Own.{Own}
use Rattle.opfs_machine.specs.declared.state.FileRow.{FileRow as File}
use Rattle.opfs_machine.specs.declared.state.Limits.{Limits}
use Rattle.opfs_machine.specs.declared.state.State.{State}
use Rattle.opfs_machine.specs.Agents.{agent_of, handle_in, of_row, own_of}
use Rattle.opfs_machine.specs.Contents.{in_lengths, outline_of}
use Rattle.opfs_machine.specs.Histories.{after_entry, state_after}
use Rattle.opfs_machine.specs.Openings.{begun}
use Rattle.opfs_machine.specs.Replies.{bytes_at, bytes_in, file_reply}
use Rattle.opfs_hist.specs.declared.reply.Reply.TheVariants as reply
use Rattle.opfs_journal.specs.Seen.{Seen}
use Rattle.opfs_machine.specs.Rows.{file_at}
use Rattle.opfs_machine.specs.Rulings.{lock_in}
use Rattle.opfs_outside.specs.declared.disk.Disk.{Ghosts as DiskWords}
use Rattle.opfs_pages.specs.Copies.{IsBegun}
use Rattle.opfs_records.specs.Replay.Built.{Built}
use Rattle.opfs_state_rows.specs.Standing.Seen.{Machine, lines_of}
use Rattle.opfs_state_rows.proofs.standing.Lines.{file_line}
use Rattle.opfs_laws.specs.Steady.Steady.{is_steady, open_bytes}
use Rattle.opfs_tree.specs.Rows.{file_at as file_in_tree}
use Rattle.opfs_tree.specs.declared.row.FileRow.{FileRow}

one-row : (a b : FileRow) → ◌≡◌ {A = Option FileRow} (Some a) (Some b) → a ≡ b
one-row a b e = cc

exclusive-lock : (lock : Lock) (count : Want → ℕ) → IsLockOf lock count → 1 ≤ count want.Exclusive → lock.0 ≡ value.Exclusive
exclusive-lock (value.Free, n) count is one = absurd (omega (arith, one, is.1.exclusive))
exclusive-lock (value.Exclusive, n) count is one = refl
exclusive-lock (value.Shared, n) count is one = absurd (omega (arith, one, is.1.exclusive))
exclusive-lock (value.ReadOnly, n) count is one = absurd (omega (arith, one, is.1.exclusive))

pages-enough : (n m : ℕ) → ((i : ℕ) → 4096 * i < n → i < m) → blocks n ≤ m
pages-enough n m each =
    elim (nat_lt (4096 * m) n) as (λ b. nat_lt (4096 * m) n ≡ b → blocks n ≤ m) [
      | true ↦ λ is. let below : 4096 * m < n = grind (arith, is) in absurd (omega (arith, each m below))
      | false ↦ λ is. grind (arith, is)
    ] refl

module _ (states : StateLaws) {D : Type 0} (w : DiskWords D) (files : FilesAreStored w) (between : HistoriesAreCleared w) (f : Fixed D) (recorded : Built) (v : Ledger D) (p : OpenPages)
    (held : AreHeldWhole w f recorded v p) (lines : (machine_in v).rows ≡ lines_of (tree_in v)) (place : Place) (found : FileRow) (there : file_in_tree place (tree_in v) ≡ Some found) where
  abbrev pub s : State Text Own
  s = state_after f.opening v.books.history

  cleared : HasCleared w.tells f.opening v.books.history s []
  cleared = between f recorded v p held

  whole : IsWhole s
  whole = base-whole states w.tells f.opening v.books.history s [] held.books.whole cleared

  abbrev pub its : (x : File Text) × (file_at s place ≡ Some x) × (file_line found ≡ on_file length x)
  its =
      file-back (file_at s place) (file_line found)
      (sym (file-on length outline_of s place) ∙ sym (ap (λ (m : Machine). file_at m place) held.books.machine) ∙ machine-file (machine_in v) (tree_in v) place found lines there)

  abbrev pub x : File Text
  x = its.0

  pub at-file : file_at s place ≡ Some x
  at-file = its.1

  pub size : found.present ≡ length x.present
  size = ap (λ (y : File ℕ). y.present) its.2

  pub stamp : found.present_stamp ≡ x.stamp
  stamp = ap (λ (y : File ℕ). y.stamp) its.2

  stored : IsStoredAt w f v p place x
  stored = files f recorded s [] v p held cleared (sym lines) place x at-file

  same-row : stored.row ≡ found
  same-row = one-row stored.row found (sym stored.there ∙ there)

  abbrev pub NoneWrites : Type 0
  NoneWrites = found.lock.0 ≡ value.Exclusive → has_writer (machine_in v) place p.swap ≡ false

  -- It has no more blocks than there are.
  pub small : found.present < 2 ^ 63
  small =
      let m = machine_in v in
      let kept : Kept m = subst Kept (sym held.books.machine) (states.lengths.whole s whole) in
      let few = few-blocks m kept place (file_line found) (machine-file m (tree_in v) place found lines there) in
      let most = ap (λ (y : Limits). y.blocks) (limits-are states w f recorded v p held) in
      let blocks-are = ap (λ (y : Limits). y.blocks) held.books.limits in
      few-bytes found.present (omega (arith, few, most, blocks-are, (range_parts f.geometry held.tied.range).1))

  -- Where no handle may write it, its bytes are stored.
  pub durable : NoneWrites → x.present ≡ x.durable
  durable none = elim (whole.covered place x at-file) [
    | inl same ↦ ap (λ y. y.0) same
    | inr writer ↦
        let open_one = writer-there s place writer.0 in
        let lock : IsLockOf x.lock (holders s place) = subst (λ (o : Option (File Text)). IsLockOf (lock_in o) (holders s place)) at-file (whole.locks place) in
        let known : is_writer (machine_in v) place (open_one.agent, open_one.row) ≡ true = ap (λ (m : Machine). is_writer m place (open_one.agent, open_one.row)) held.books.machine ∙ writer-known s place open_one in
        let has : is_some (row_of open_one.agent open_one.row p.swap) ≡ true =
        held.laid.rows open_one.agent open_one.row ∙ ap (λ (m : Machine). is_some (open_at m open_one.agent open_one.row)) held.books.machine
        ∙ open-with-bytes s open_one.agent open_one.row (bytes_at s open_one.writer.handle.file) (ap (open_bytes s) open_one.writer.there) in
        absurd (false≢true (sym (none (ap (λ (y : File ℕ). y.lock.0) its.2 ∙ exclusive-lock x.lock (holders s place) lock writer.0)) ∙ has-found (machine_in v) place p.swap open_one.agent open_one.row known has))
  ]

  pub below : AllByRecursion (λ (e : Extent). e.start + e.count ≤ f.geometry.blocks) found.extents
  below = subst (λ (r : FileRow). AllByRecursion (λ (e : Extent). e.start + e.count ≤ f.geometry.blocks) r.extents) same-row stored.sound.below

  pub fits : NoneWrites → found.present ≤ room_of found.extents
  fits none =
      let row_size : stored.row.length ≡ length x.present = stored.size ∙ sym (ap length (durable none)) in
      let enough : length x.present ≤ room_of stored.row.extents = omega (arith, row_size, room-count stored.row.extents, stored.sound.whole) in
      let room : room_of stored.row.extents ≡ room_of found.extents = ap (λ (r : FileRow). room_of r.extents) same-row in
      omega (arith, size, enough, room)

  pub told-blocks : w.tells → NoneWrites → bytes_of (w.content v.journal.disk) p.base found.extents found.present ≡ x.present
  told-blocks t none =
      subst (λ (r : FileRow). bytes_of (w.content v.journal.disk) p.base r.extents r.present ≡ x.present) same-row
      (ap (λ (n : ℕ). bytes_of (w.content v.journal.disk) p.base stored.row.extents n) (stored.present ∙ ap length (durable none) ∙ sym stored.size) ∙ stored.bytes t ∙ sym (durable none))

  module _ (handles : AreHandlesWhole f.opening v.books.history) where
    writer-of : (k n : ℕ) → is_writer (machine_in v) place (k, n) ≡ true → IsOpenWriter s place k n
    writer-of k n is = writer-own s place k n (sym (ap (λ (m : Machine). is_writer m place (k, n)) held.books.machine) ∙ is)

    steady : (k n i : ℕ) → is_writer (machine_in v) place (k, n) ≡ true → 4096 * i < found.present → is_steady f.opening v.books.history k n i ≡ true
    steady k n i is below =
        let y = writer-of k n is in
        let long = ap (λ (o : Option (File Text)). length (bytes_in o)) at-file in
        handles k n place (ap handle_on y.there ∙ ap Some y.file) i ∙ lt-ltb (4096 * i) (length (bytes_at s place)) (omega (arith, below, size, long))

    pub blocks-there : (k n : ℕ) → is_writer (machine_in v) place (k, n) ≡ true → blocks found.present ≤ length (pages_at k n p.swap)
    blocks-there k n is = pages-enough found.present (length (pages_at k n p.swap)) (λ i below. held.laid.there k n i (steady k n i is below))

    pub begun-pages : w.tells → (k n i : ℕ) → is_writer (machine_in v) place (k, n) ≡ true → 4096 * i < found.present → IsBegun (bytes_at s place) i (page_of (w.content v.journal.disk) p.base (page_at k n i p.swap))
    begun-pages t k n i is below =
        let y = writer-of k n is in
        (held.laid.told t).begins k n i (steady k n i is below) (bytes_at s place) (ap (open_bytes s) y.there ∙ ap (λ (q : Place). Some (bytes_at s q)) y.file)

-- ---- an agent's pending calls leave who may write a file

handle-open : (o : Option Outline) → of_row (λ r. handle_in (in_lengths.outline r)) o ≡ of_row (λ r. handle_in (in_lengths.outline r)) (if_open o)
handle-open None = refl
handle-open (Some (outline.Stream y)) = refl
handle-open (Some outline.ClosedStream) = refl
handle-open (Some (outline.Handle y)) = refl
handle-open (Some outline.ClosedHandle) = refl
handle-open (Some outline.Snapshot) = refl
handle-open (Some outline.Iterator) = refl

same-writer : (m t : Machine) (place : Place) (k n : ℕ) → open_at m k n ≡ open_at t k n → is_writer m place (k, n) ≡ is_writer t place (k, n)
same-writer m t place k n same =
    ap (writes_file place) (handle-open (own_of (agent_of m k) n) ∙ ap (of_row (λ r. handle_in (in_lengths.outline r))) same ∙ sym (handle-open (own_of (agent_of t k) n)))

same-has : (m t : Machine) (place : Place) → ((k n : ℕ) → is_writer m place (k, n) ≡ is_writer t place (k, n)) → (rows : Rows) → has_writer m place rows ≡ has_writer t place rows
same-has m t place each [] = refl
same-has m t place each (e ∷ es) = λ i. each e.0.0 e.0.1 i || same-has m t place each es i

module _ (follow : LengthsFollowEachCall) (local : LocalCallsAreKnownByTheirWord) {D : Type 0} (w : DiskWords D) (f : Fixed D) (recorded : Built) (l mid : Ledger D) (p : OpenPages) (k : ℕ) (calls : List Entry)
    (held : AreHeldWhole w f recorded l p) (now : AreHeldWhole w f recorded mid p) (entries : mid.books.history ≡ l.books.history ++ calls) (pending : ArePendingFor w.tells (state_after f.opening l.books.history) k calls) where
  still : (j n : ℕ) → open_at (machine_in l) j n ≡ open_at (machine_in mid) j n
  still j n =
      ap (λ (m : Machine). open_at m j n) held.books.machine
      ∙ (sym (pending-stays follow local w.tells (state_after f.opening l.books.history) k calls pending j n)
      ∙ (ap (λ (t : State Text Own). open_at (in_lengths_of t) j n) (sym (fold-append after_entry (begun f.opening) l.books.history calls) ∙ ap (state_after f.opening) (sym entries))
      ∙ sym (ap (λ (m : Machine). open_at m j n) now.books.machine)))

  pub writer-stays : (place : Place) (j n : ℕ) → is_writer (machine_in l) place (j, n) ≡ is_writer (machine_in mid) place (j, n)
  writer-stays place j n = same-writer (machine_in l) (machine_in mid) place j n (still j n)

  pub has-stays : (place : Place) (rows : Rows) → has_writer (machine_in l) place rows ≡ has_writer (machine_in mid) place rows
  has-stays place rows = same-has (machine_in l) (machine_in mid) place (writer-stays place) rows

  -- What was read by the tree before these calls is the file after them.
  module _ (states : StateLaws) (files : FilesAreStored w) (between : HistoriesAreCleared w) (handles : HandlesStayWhole) (lines : (machine_in mid).rows ≡ lines_of (tree_in mid)) (tree : tree_in mid ≡ tree_in l) (journal : mid.journal ≡ l.journal)
      (place : Place) (y : File Text) (at : file_at (state_after f.opening mid.books.history) place ≡ Some y) where
    as-found : (found : FileRow) (bytes : Text) (size_read stamp_read : ℕ) → file_in_tree place (tree_in mid) ≡ Some found → IsReadOfFile w.tells (machine_in l) place found p.swap (w.content l.journal.disk) p.base bytes size_read stamp_read
        → IsFileRead w.tells (AreHandlesWhole f.opening l.books.history) (state_after f.opening mid.books.history) place bytes size_read stamp_read
    as-found found bytes size_read stamp_read there raw =
        let here = at-file states w files between f recorded mid p now lines place found there in
        let same = size states w files between f recorded mid p now lines place found there in
        let at_time = stamp states w files between f recorded mid p now lines place found there in
        let bytes_are = ap bytes_in here in
        record {
          info = ap file_reply here ∙ (λ i. reply.FileInfo ((sym same ∙ sym raw.size_is) i) ((sym at_time ∙ sym raw.stamp_is) i));
          long = raw.long ∙ same ∙ sym (ap length bytes_are);
          told = λ t whole.
              let after = subst (AreHandlesWhole f.opening) (sym entries) (pending-whole handles w.tells f.opening l.books.history calls k pending whole) in
              let long = ap length bytes_are in
              let present : IsPresent (machine_in l) place found p.swap (w.content mid.journal.disk) p.base (bytes_at (state_after f.opening mid.books.history) place) =
              record {
                size = long ∙ sym same;
                written = λ j n is i below. begun-pages states w files between f recorded mid p now lines place found there after t j n i (sym (writer-stays place j n) ∙ is) (omega (arith, below, long, same));
                stored = λ none. told-blocks states w files between f recorded mid p now lines place found there t (λ ex. sym (has-stays place p.swap) ∙ none ex) ∙ sym bytes_are;
              } in
              raw.read t (bytes_at (state_after f.opening mid.books.history) place) (subst (λ (j : Seen D). IsPresent (machine_in l) place found p.swap (w.content j.disk) p.base (bytes_at (state_after f.opening mid.books.history) place)) journal present);
        }

    pub as-read : (bytes : Text) (size_read stamp_read : ℕ) → IsReadFrom w l p place bytes size_read stamp_read
        → IsFileRead w.tells (AreHandlesWhole f.opening l.books.history) (state_after f.opening (l.books.history ++ calls)) place bytes size_read stamp_read
    as-read bytes size_read stamp_read raw =
        let stored = files f recorded (state_after f.opening mid.books.history) [] mid p now (between f recorded mid p now) (sym lines) place y at in
        subst (λ (es : List Entry). IsFileRead w.tells (AreHandlesWhole f.opening l.books.history) (state_after f.opening es) place bytes size_read stamp_read) entries
        (as-found stored.row bytes size_read stamp_read stored.there (raw stored.row (ap (file_in_tree place) (sym tree) ∙ stored.there)))
