-- Examples of cursors and offsets.
use Rattle.std.specs.Prelude.{List, [], ◌∷◌, Some, None, codes, replicate, true, false}
use Rattle.opfs_base.specs.Texts.{Text}
use Rattle.opfs_base.specs.Units.{default_bucket}
use Rattle.opfs_base.specs.declared.locator.Kind.TheVariants as kind
use Rattle.opfs_hist.specs.declared.entry.Entry.{Entry}
use Rattle.opfs_hist.specs.declared.op.Mode.TheVariants as mode
use Rattle.opfs_hist.specs.declared.op.Op.TheVariants as op
use Rattle.opfs_hist.specs.declared.reply.Refusal.TheVariants as refusal
use Rattle.opfs_hist.specs.declared.reply.Reply.TheVariants as reply
use Rattle.opfs_locks.specs.declared.LockValue.TheVariants as lock
use Rattle.opfs_examples.specs.Room.{b_example, c_example}
use Rattle.opfs_examples.specs.Trying.{IsAnswered, a_example, by, directory_of, evicting, file_in, locked, refused, room_for}

-- A read past the end leaves the cursor at the end.
abbrev pub a_read_past_the_end_leaves_the_cursor_at_the_end_history : List Entry
a_read_past_the_end_leaves_the_cursor_at_the_end_history =
    by 1 1 (op.GetDirectory (default_bucket)) (reply.Done)
    ∷ by 1 2 (op.GetFileHandle (directory_of (a_example)) (codes "f") true) (reply.Done)
    ∷ by 1 3 (op.CreateWritable (file_in (a_example) (codes "f" ∷ [])) false) (reply.Done)
    ∷ by 1 4 (op.Write 1 (codes "abcd") None) (reply.Done)
    ∷ by 1 5 (op.Close 1) (reply.Done)
    ∷ by 1 6 (op.CreateSyncAccessHandle (file_in (a_example) (codes "f" ∷ [])) mode.ReadWrite) (reply.Done)
    ∷ by 1 7 (op.SyncRead 2 1 (Some 9)) (reply.Read [])
    ∷ by 1 8 (op.SyncWrite 2 (codes "e") None) (reply.Length 1)
    ∷ by 1 9 (op.SyncGetSize 2) (reply.Length 5)
    ∷ []

abbrev pub AReadPastTheEndLeavesTheCursorAtTheEnd : Type 0
AReadPastTheEndLeavesTheCursorAtTheEnd = IsAnswered (room_for 16384 16 4 (record { key = Some a_example; grant = false } ∷ [])) a_read_past_the_end_leaves_the_cursor_at_the_end_history 8 (reply.Length 10)

-- A truncate below the cursor moves it to the new size.
abbrev pub a_cut_file_moves_the_cursor_history : List Entry
a_cut_file_moves_the_cursor_history =
    by 1 1 (op.GetDirectory (default_bucket)) (reply.Done)
    ∷ by 1 2 (op.GetFileHandle (directory_of (a_example)) (codes "f") true) (reply.Done)
    ∷ by 1 3 (op.CreateWritable (file_in (a_example) (codes "f" ∷ [])) false) (reply.Done)
    ∷ by 1 4 (op.Write 1 (codes "abcd") None) (reply.Done)
    ∷ by 1 5 (op.Close 1) (reply.Done)
    ∷ by 1 6 (op.CreateSyncAccessHandle (file_in (a_example) (codes "f" ∷ [])) mode.ReadWrite) (reply.Done)
    ∷ by 1 7 (op.SyncRead 2 4 None) (reply.Read (codes "abcd"))
    ∷ by 1 8 (op.SyncTruncate 2 2) (reply.Done)
    ∷ by 1 9 (op.SyncWrite 2 (codes "e") None) (reply.Length 1)
    ∷ by 1 10 (op.SyncGetSize 2) (reply.Length 3)
    ∷ []

abbrev pub ACutFileMovesTheCursor : Type 0
ACutFileMovesTheCursor = IsAnswered (room_for 16384 16 4 (record { key = Some a_example; grant = false } ∷ [])) a_cut_file_moves_the_cursor_history 9 (reply.Length 5)

-- A write of an access handle at a place moves the cursor behind it.
abbrev pub a_write_of_a_handle_at_a_place_moves_the_cursor_history : List Entry
a_write_of_a_handle_at_a_place_moves_the_cursor_history =
    by 1 1 (op.GetDirectory (default_bucket)) (reply.Done)
    ∷ by 1 2 (op.GetFileHandle (directory_of (a_example)) (codes "f") true) (reply.Done)
    ∷ by 1 3 (op.CreateWritable (file_in (a_example) (codes "f" ∷ [])) false) (reply.Done)
    ∷ by 1 4 (op.Write 1 (codes "abcd") None) (reply.Done)
    ∷ by 1 5 (op.Close 1) (reply.Done)
    ∷ by 1 6 (op.CreateSyncAccessHandle (file_in (a_example) (codes "f" ∷ [])) mode.ReadWrite) (reply.Done)
    ∷ by 1 7 (op.SyncWrite 2 (codes "xy") (Some 6)) (reply.Length 2)
    ∷ by 1 8 (op.SyncWrite 2 (codes "z") None) (reply.Length 1)
    ∷ by 1 9 (op.SyncGetSize 2) (reply.Length 9)
    ∷ []

abbrev pub AWriteOfAHandleAtAPlaceMovesTheCursor : Type 0
AWriteOfAHandleAtAPlaceMovesTheCursor = IsAnswered (room_for 16384 16 4 (record { key = Some a_example; grant = false } ∷ [])) a_write_of_a_handle_at_a_place_moves_the_cursor_history 8 (reply.Length 8)

-- A write of a stream at a place moves the offset behind it.
abbrev pub a_write_of_a_stream_at_a_place_moves_the_offset_history : List Entry
a_write_of_a_stream_at_a_place_moves_the_offset_history =
    by 1 1 (op.GetDirectory default_bucket) (reply.Done)
    ∷ by 1 2 (op.GetFileHandle (directory_of (a_example)) (codes "f") true) (reply.Done)
    ∷ by 1 3 (op.CreateWritable (file_in (a_example) (codes "f" ∷ [])) false) (reply.Done)
    ∷ by 1 4 (op.Write 1 (codes "ab") (Some 3)) (reply.Done)
    ∷ by 1 5 (op.Write 1 (codes "c") None) (reply.Done)
    ∷ by 1 6 (op.Close 1) (reply.Done)
    ∷ by 1 7 (op.GetFile (file_in (a_example) (codes "f" ∷ []))) (reply.FileInfo 6 0)
    ∷ []

abbrev pub AWriteOfAStreamAtAPlaceMovesTheOffset : Type 0
AWriteOfAStreamAtAPlaceMovesTheOffset = IsAnswered (room_for 16384 16 4 (record { key = Some a_example; grant = false } ∷ [])) a_write_of_a_stream_at_a_place_moves_the_offset_history 6 (reply.FileInfo 5 0)

-- A truncate that extends leaves the offset.
abbrev pub an_extended_stream_keeps_its_offset_history : List Entry
an_extended_stream_keeps_its_offset_history =
    by 1 1 (op.GetDirectory default_bucket) (reply.Done)
    ∷ by 1 2 (op.GetFileHandle (directory_of (a_example)) (codes "f") true) (reply.Done)
    ∷ by 1 3 (op.CreateWritable (file_in (a_example) (codes "f" ∷ [])) false) (reply.Done)
    ∷ by 1 4 (op.Truncate 1 5) (reply.Done)
    ∷ by 1 5 (op.Write 1 (codes "x") None) (reply.Done)
    ∷ by 1 6 (op.Close 1) (reply.Done)
    ∷ by 1 7 (op.GetFile (file_in (a_example) (codes "f" ∷ []))) (reply.FileInfo 5 0)
    ∷ []

abbrev pub AnExtendedStreamKeepsItsOffset : Type 0
AnExtendedStreamKeepsItsOffset = IsAnswered (room_for 16384 16 4 (record { key = Some a_example; grant = false } ∷ [])) an_extended_stream_keeps_its_offset_history 6 (reply.FileInfo 6 0)

-- A write of no bytes past the end fills what lies between.
abbrev pub a_write_of_nothing_fills_a_gap_history : List Entry
a_write_of_nothing_fills_a_gap_history =
    by 1 1 (op.GetDirectory default_bucket) reply.Done
    ∷ by 1 2 (op.GetFileHandle (directory_of a_example) (codes "f") true) reply.Done
    ∷ by 1 3 (op.CreateWritable (file_in a_example (codes "f" ∷ [])) false) reply.Done
    ∷ by 1 4 (op.Write 1 [] (Some 5)) reply.Done
    ∷ by 1 5 (op.Close 1) reply.Done
    ∷ by 1 6 (op.GetFile (file_in a_example (codes "f" ∷ []))) (reply.FileInfo 5 0)
    ∷ []

abbrev pub AWriteOfNothingFillsAGap : Type 0
AWriteOfNothingFillsAGap = IsAnswered (room_for 16384 16 4 (record { key = Some a_example; grant = false } ∷ [])) a_write_of_nothing_fills_a_gap_history 5 (reply.FileInfo 0 0)

-- So it does by an access handle.
abbrev pub a_handle_that_writes_nothing_fills_a_gap_history : List Entry
a_handle_that_writes_nothing_fills_a_gap_history =
    by 1 1 (op.GetDirectory default_bucket) reply.Done
    ∷ by 1 2 (op.GetFileHandle (directory_of a_example) (codes "f") true) reply.Done
    ∷ by 1 3 (op.CreateSyncAccessHandle (file_in a_example (codes "f" ∷ [])) mode.ReadWrite) reply.Done
    ∷ by 1 4 (op.SyncWrite 1 [] (Some 5)) (reply.Length 0)
    ∷ by 1 5 (op.SyncGetSize 1) (reply.Length 5)
    ∷ []

abbrev pub AHandleThatWritesNothingFillsAGap : Type 0
AHandleThatWritesNothingFillsAGap = IsAnswered (room_for 16384 16 4 (record { key = Some a_example; grant = false } ∷ [])) a_handle_that_writes_nothing_fills_a_gap_history 4 (reply.Length 0)
