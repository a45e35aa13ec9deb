-- Examples of time stamps.
use Rattle.std.specs.Prelude.{List, [], ◌∷◌, Some, None, codes, replicate, true, false}
use Rattle.opfs_base.specs.Texts.{Text}
use Rattle.opfs_base.specs.Units.{default_bucket}
use Rattle.opfs_base.specs.declared.locator.Kind.TheVariants as kind
use Rattle.opfs_hist.specs.declared.entry.Entry.{Entry}
use Rattle.opfs_hist.specs.declared.op.Mode.TheVariants as mode
use Rattle.opfs_hist.specs.declared.op.Op.TheVariants as op
use Rattle.opfs_hist.specs.declared.reply.Refusal.TheVariants as refusal
use Rattle.opfs_hist.specs.declared.reply.Reply.TheVariants as reply
use Rattle.opfs_locks.specs.declared.LockValue.TheVariants as lock
use Rattle.opfs_examples.specs.Room.{b_example, c_example}
use Rattle.opfs_examples.specs.Trying.{IsAnswered, a_example, by, directory_of, evicting, file_in, locked, refused, room_for}

-- A write of an access handle sets the time stamp.
abbrev pub a_write_of_a_handle_sets_the_stamp_history : List Entry
a_write_of_a_handle_sets_the_stamp_history =
    by 1 1 (op.GetDirectory default_bucket) (reply.Done)
    ∷ by 1 2 (op.GetFileHandle (directory_of (a_example)) (codes "f") true) (reply.Done)
    ∷ by 1 3 (op.CreateSyncAccessHandle (file_in (a_example) (codes "f" ∷ [])) mode.ReadWrite) (reply.Done)
    ∷ by 1 4 (op.Moment 5) (reply.Done)
    ∷ by 1 5 (op.SyncWrite 1 (codes "a") None) (reply.Length 1)
    ∷ by 1 6 (op.GetFile (file_in (a_example) (codes "f" ∷ []))) (reply.FileInfo 1 5)
    ∷ []

abbrev pub AWriteOfAHandleSetsTheStamp : Type 0
AWriteOfAHandleSetsTheStamp = IsAnswered (room_for 16384 16 4 (record { key = Some a_example; grant = false } ∷ [])) a_write_of_a_handle_sets_the_stamp_history 5 (reply.FileInfo 1 0)

-- A discard sets the time stamp back with the bytes.
abbrev pub a_discard_sets_the_stamp_back_history : List Entry
a_discard_sets_the_stamp_back_history =
    by 1 1 (op.GetDirectory default_bucket) (reply.Done)
    ∷ by 1 2 (op.GetFileHandle (directory_of (a_example)) (codes "f") true) (reply.Done)
    ∷ by 1 3 (op.CreateSyncAccessHandle (file_in (a_example) (codes "f" ∷ [])) mode.ReadWrite) (reply.Done)
    ∷ by 1 4 (op.Moment 5) (reply.Done)
    ∷ by 1 5 (op.SyncWrite 1 (codes "a") None) (reply.Length 1)
    ∷ by 1 6 (op.Discard 1) (reply.Done)
    ∷ by 1 7 (op.GetFile (file_in (a_example) (codes "f" ∷ []))) (reply.FileInfo 0 0)
    ∷ []

abbrev pub ADiscardSetsTheStampBack : Type 0
ADiscardSetsTheStampBack = IsAnswered (room_for 16384 16 4 (record { key = Some a_example; grant = false } ∷ [])) a_discard_sets_the_stamp_back_history 6 (reply.FileInfo 0 5)

-- A new file has the moment of its making.
abbrev pub a_new_file_has_the_moment_history : List Entry
a_new_file_has_the_moment_history =
    by 1 1 (op.GetDirectory default_bucket) (reply.Done)
    ∷ by 1 2 (op.Moment 7) (reply.Done)
    ∷ by 1 3 (op.GetFileHandle (directory_of (a_example)) (codes "f") true) (reply.Done)
    ∷ by 1 4 (op.GetFile (file_in (a_example) (codes "f" ∷ []))) (reply.FileInfo 0 7)
    ∷ []

abbrev pub ANewFileHasTheMoment : Type 0
ANewFileHasTheMoment = IsAnswered (room_for 16384 16 4 (record { key = Some a_example; grant = false } ∷ [])) a_new_file_has_the_moment_history 3 (reply.FileInfo 0 0)
