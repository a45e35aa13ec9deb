-- Examples of access handles.
use Rattle.std.specs.Prelude.{List, [], ◌∷◌, Some, None, codes, true, false, ◌≡◌}
use Rattle.opfs_base.specs.Texts.{Text}
use Rattle.opfs_base.specs.Units.{default_bucket}
use Rattle.opfs_hist.specs.declared.entry.Entry.{Entry}
use Rattle.opfs_hist.specs.declared.op.Mode.TheVariants as mode
use Rattle.opfs_hist.specs.declared.op.Op.TheVariants as op
use Rattle.opfs_hist.specs.declared.reply.Refusal.TheVariants as refusal
use Rattle.opfs_hist.specs.declared.reply.Reply.TheVariants as reply
use Rattle.opfs_examples.specs.Trying.{IsExample, try_opening, one_agent, root, the_file, by_one, refused, kept_at}

-- An access handle reads and writes at its cursor or at a place, and answers nothing once it is closed.
abbrev pub an_access_handle_reads_and_writes_at_its_cursor_history : List Entry
an_access_handle_reads_and_writes_at_its_cursor_history =
    by_one 1 (op.GetDirectory default_bucket) reply.Done
    ∷ by_one 2 (op.GetFileHandle root (codes "f") true) reply.Done
    ∷ by_one 3 (op.CreateWritable the_file false) reply.Done
    ∷ by_one 4 (op.Write 1 (codes "abcd") None) reply.Done
    ∷ by_one 5 (op.Close 1) reply.Done
    ∷ by_one 6 (op.CreateSyncAccessHandle the_file mode.ReadWrite) reply.Done
    ∷ by_one 7 (op.SyncRead 2 10 (Some 4)) (reply.Read [])
    ∷ by_one 8 (op.SyncRead 2 1 (Some 9)) (reply.Read [])
    ∷ by_one 9 (op.SyncRead 2 0 (Some 2)) (reply.Read [])
    ∷ by_one 10 (op.SyncRead 2 10 None) (reply.Read (codes "cd"))
    ∷ by_one 11 (op.SyncWrite 2 (codes "e") None) (reply.Length 1)
    ∷ by_one 12 (op.SyncGetSize 2) (reply.Length 5)
    ∷ by_one 13 (op.SyncTruncate 2 2) reply.Done
    ∷ by_one 14 (op.SyncRead 2 4 None) (reply.Read [])
    ∷ by_one 15 (op.SyncFlush 2) reply.Done
    ∷ by_one 16 (op.SyncClose 2) reply.Done
    ∷ by_one 17 (op.SyncClose 2) reply.Done
    ∷ by_one 18 (op.SyncGetSize 2) (refused refusal.InvalidStateError)
    ∷ by_one 19 op.End reply.Done
    ∷ []

abbrev pub an_access_handle_reads_and_writes_at_its_cursor_lines : List Text
an_access_handle_reads_and_writes_at_its_cursor_lines =
    codes "1.1 getDirectory ok"
    ∷ codes "1.2 getFileHandle ok"
    ∷ codes "1.3 createWritable ok"
    ∷ codes "1.4 write ok"
    ∷ codes "1.5 close ok"
    ∷ codes "1.6 createSyncAccessHandle ok"
    ∷ codes "1.7 syncRead ok 0"
    ∷ codes "1.8 syncRead ok 0"
    ∷ codes "1.9 syncRead ok 0"
    ∷ codes "1.10 syncRead ok 2 6364"
    ∷ codes "1.11 syncWrite ok 1"
    ∷ codes "1.12 syncGetSize ok 5"
    ∷ codes "1.13 syncTruncate ok"
    ∷ codes "1.14 syncRead ok 0"
    ∷ codes "1.15 syncFlush ok"
    ∷ codes "1.16 syncClose ok"
    ∷ codes "1.17 syncClose ok"
    ∷ codes "1.18 syncGetSize InvalidStateError"
    ∷ codes "1.19 end ok"
    ∷ []

abbrev pub AnAccessHandleReadsAndWritesAtItsCursor : Type 0
AnAccessHandleReadsAndWritesAtItsCursor =
    IsExample (try_opening one_agent) an_access_handle_reads_and_writes_at_its_cursor_history
    an_access_handle_reads_and_writes_at_its_cursor_lines 9 (reply.Read (codes "abcd"))

-- What an access handle writes is read at once, and one that is open at the end of the script is discarded.
abbrev pub an_open_access_handle_is_discarded_history : List Entry
an_open_access_handle_is_discarded_history =
    by_one 1 (op.GetDirectory default_bucket) reply.Done
    ∷ by_one 2 (op.GetFileHandle root (codes "f") true) reply.Done
    ∷ by_one 3 (op.CreateSyncAccessHandle the_file mode.ReadWrite) reply.Done
    ∷ by_one 4 (op.SyncWrite 1 (codes "ab") None) (reply.Length 2)
    ∷ by_one 5 (op.SyncFlush 1) reply.Done
    ∷ by_one 6 (op.SyncWrite 1 (codes "cd") None) (reply.Length 2)
    ∷ by_one 7 (op.GetFile the_file) (reply.FileInfo 4 0)
    ∷ by_one 8 (op.Discard 1) reply.Done
    ∷ by_one 9 op.End reply.Done
    ∷ []

abbrev pub an_open_access_handle_is_discarded_lines : List Text
an_open_access_handle_is_discarded_lines =
    codes "1.1 getDirectory ok"
    ∷ codes "1.2 getFileHandle ok"
    ∷ codes "1.3 createSyncAccessHandle ok"
    ∷ codes "1.4 syncWrite ok 2"
    ∷ codes "1.5 syncFlush ok"
    ∷ codes "1.6 syncWrite ok 2"
    ∷ codes "1.7 getFile ok 4 0"
    ∷ codes "1.8 discard ok"
    ∷ codes "1.9 end ok"
    ∷ []

abbrev pub AnOpenAccessHandleIsDiscarded : Type 0
AnOpenAccessHandleIsDiscarded =
    IsExample (try_opening one_agent) an_open_access_handle_is_discarded_history
    an_open_access_handle_is_discarded_lines 6 (reply.FileInfo 2 0)

-- What was flushed before the end stays, and nothing that was written after it.
abbrev pub OnlyFlushedBytesStay : Type 0
OnlyFlushedBytesStay =
    kept_at (try_opening one_agent) an_open_access_handle_is_discarded_history the_file ≡ Some (codes "ab", codes "ab")

-- What an access handle wrote and cut stays once it is closed.
abbrev pub WhatAClosedHandleWroteStays : Type 0
WhatAClosedHandleWroteStays =
    kept_at (try_opening one_agent) an_access_handle_reads_and_writes_at_its_cursor_history the_file
    ≡ Some (codes "ab", codes "ab")
