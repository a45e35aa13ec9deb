-- Examples of locks.
use Rattle.std.specs.Prelude.{List, [], ◌∷◌, None, codes, true, false}
use Rattle.opfs_base.specs.Texts.{Text}
use Rattle.opfs_base.specs.Units.{default_bucket}
use Rattle.opfs_hist.specs.declared.entry.Entry.{Entry}
use Rattle.opfs_hist.specs.declared.op.Mode.TheVariants as mode
use Rattle.opfs_hist.specs.declared.op.Op.TheVariants as op
use Rattle.opfs_hist.specs.declared.reply.Refusal.TheVariants as refusal
use Rattle.opfs_hist.specs.declared.reply.Reply.TheVariants as reply
use Rattle.opfs_locks.specs.declared.LockValue.TheVariants as value
use Rattle.opfs_examples.specs.Trying.{IsExample, try_opening, one_agent, root, the_file, by_one, refused, locked}

-- Two streams share the lock of a file, and an access handle waits for neither of them: it is refused.
abbrev pub a_second_stream_shares_the_lock_history : List Entry
a_second_stream_shares_the_lock_history =
    by_one 1 (op.GetDirectory default_bucket) reply.Done
    ∷ by_one 2 (op.GetFileHandle root (codes "f") true) reply.Done
    ∷ by_one 3 (op.CreateWritable the_file false) reply.Done
    ∷ by_one 4 (op.CreateWritable the_file false) reply.Done
    ∷ by_one 5 (op.CreateSyncAccessHandle the_file mode.ReadWrite) (locked value.Shared 2)
    ∷ by_one 6 (op.Write 1 (codes "one") None) reply.Done
    ∷ by_one 7 (op.Write 2 (codes "two!") None) reply.Done
    ∷ by_one 8 (op.Close 1) reply.Done
    ∷ by_one 9 (op.CreateSyncAccessHandle the_file mode.ReadWrite) (locked value.Shared 1)
    ∷ by_one 10 (op.GetFile the_file) (reply.FileInfo 3 0)
    ∷ by_one 11 (op.Close 2) reply.Done
    ∷ by_one 12 (op.CreateSyncAccessHandle the_file mode.ReadWrite) reply.Done
    ∷ by_one 13 (op.GetFile the_file) (reply.FileInfo 4 0)
    ∷ by_one 14 (op.Discard 4) reply.Done
    ∷ by_one 15 op.End reply.Done
    ∷ []

abbrev pub a_second_stream_shares_the_lock_lines : List Text
a_second_stream_shares_the_lock_lines =
    codes "1.1 getDirectory ok"
    ∷ codes "1.2 getFileHandle ok"
    ∷ codes "1.3 createWritable ok"
    ∷ codes "1.4 createWritable ok"
    ∷ codes "1.5 createSyncAccessHandle NoModificationAllowedError taken-shared 2"
    ∷ codes "1.6 write ok"
    ∷ codes "1.7 write ok"
    ∷ codes "1.8 close ok"
    ∷ codes "1.9 createSyncAccessHandle NoModificationAllowedError taken-shared 1"
    ∷ codes "1.10 getFile ok 3 0"
    ∷ codes "1.11 close ok"
    ∷ codes "1.12 createSyncAccessHandle ok"
    ∷ codes "1.13 getFile ok 4 0"
    ∷ codes "1.14 discard ok"
    ∷ codes "1.15 end ok"
    ∷ []

abbrev pub ASecondStreamSharesTheLock : Type 0
ASecondStreamSharesTheLock =
    IsExample (try_opening one_agent) a_second_stream_shares_the_lock_history
    a_second_stream_shares_the_lock_lines 4 (locked value.Shared 1)

-- A taken lock refuses an access handle and a removal; an exclusive one refuses a stream too.
abbrev pub a_taken_lock_refuses_history : List Entry
a_taken_lock_refuses_history =
    by_one 1 (op.GetDirectory default_bucket) reply.Done
    ∷ by_one 2 (op.GetFileHandle root (codes "f") true) reply.Done
    ∷ by_one 3 (op.CreateWritable the_file false) reply.Done
    ∷ by_one 4 (op.CreateSyncAccessHandle the_file mode.ReadWrite) (locked value.Shared 1)
    ∷ by_one 5 (op.RemoveEntry root (codes "f") false) (locked value.Shared 1)
    ∷ by_one 6 (op.Abort 1) reply.Done
    ∷ by_one 7 (op.CreateSyncAccessHandle the_file mode.ReadWrite) reply.Done
    ∷ by_one 8 (op.CreateWritable the_file false) (locked value.Exclusive 0)
    ∷ by_one 9 (op.Close 1) (refused refusal.TypeError)
    ∷ by_one 10 (op.Discard 2) reply.Done
    ∷ by_one 11 op.End reply.Done
    ∷ []

abbrev pub a_taken_lock_refuses_lines : List Text
a_taken_lock_refuses_lines =
    codes "1.1 getDirectory ok"
    ∷ codes "1.2 getFileHandle ok"
    ∷ codes "1.3 createWritable ok"
    ∷ codes "1.4 createSyncAccessHandle NoModificationAllowedError taken-shared 1"
    ∷ codes "1.5 removeEntry NoModificationAllowedError taken-shared 1"
    ∷ codes "1.6 abort ok"
    ∷ codes "1.7 createSyncAccessHandle ok"
    ∷ codes "1.8 createWritable NoModificationAllowedError taken-exclusive 0"
    ∷ codes "1.9 close TypeError"
    ∷ codes "1.10 discard ok"
    ∷ codes "1.11 end ok"
    ∷ []

abbrev pub ATakenLockRefuses : Type 0
ATakenLockRefuses =
    IsExample (try_opening one_agent) a_taken_lock_refuses_history
    a_taken_lock_refuses_lines 7 reply.Done

-- Access handles that only read share the lock, and neither they nor a stream beside them may write.
abbrev pub read_only_handles_share_the_lock_history : List Entry
read_only_handles_share_the_lock_history =
    by_one 1 (op.GetDirectory default_bucket) reply.Done
    ∷ by_one 2 (op.GetFileHandle root (codes "f") true) reply.Done
    ∷ by_one 3 (op.CreateWritable the_file false) reply.Done
    ∷ by_one 4 (op.Write 1 (codes "abcd") None) reply.Done
    ∷ by_one 5 (op.Close 1) reply.Done
    ∷ by_one 6 (op.CreateSyncAccessHandle the_file mode.ReadOnly) reply.Done
    ∷ by_one 7 (op.CreateSyncAccessHandle the_file mode.ReadOnly) reply.Done
    ∷ by_one 8 (op.CreateWritable the_file false) (locked value.ReadOnly 2)
    ∷ by_one 9 (op.SyncWrite 2 (codes "x") None) (locked value.ReadOnly 2)
    ∷ by_one 10 (op.SyncRead 3 9 None) (reply.Read (codes "abcd"))
    ∷ by_one 11 (op.SyncFlush 2) reply.Done
    ∷ by_one 12 (op.SyncClose 2) reply.Done
    ∷ by_one 13 (op.SyncClose 3) reply.Done
    ∷ by_one 14 (op.CreateWritable the_file false) reply.Done
    ∷ by_one 15 (op.Abort 4) reply.Done
    ∷ by_one 16 op.End reply.Done
    ∷ []

abbrev pub read_only_handles_share_the_lock_lines : List Text
read_only_handles_share_the_lock_lines =
    codes "1.1 getDirectory ok"
    ∷ codes "1.2 getFileHandle ok"
    ∷ codes "1.3 createWritable ok"
    ∷ codes "1.4 write ok"
    ∷ codes "1.5 close ok"
    ∷ codes "1.6 createSyncAccessHandle ok"
    ∷ codes "1.7 createSyncAccessHandle ok"
    ∷ codes "1.8 createWritable NoModificationAllowedError taken-read-only 2"
    ∷ codes "1.9 syncWrite NoModificationAllowedError taken-read-only 2"
    ∷ codes "1.10 syncRead ok 4 61626364"
    ∷ codes "1.11 syncFlush ok"
    ∷ codes "1.12 syncClose ok"
    ∷ codes "1.13 syncClose ok"
    ∷ codes "1.14 createWritable ok"
    ∷ codes "1.15 abort ok"
    ∷ codes "1.16 end ok"
    ∷ []

abbrev pub ReadOnlyHandlesShareTheLock : Type 0
ReadOnlyHandlesShareTheLock =
    IsExample (try_opening one_agent) read_only_handles_share_the_lock_history
    read_only_handles_share_the_lock_lines 7 (locked value.ReadOnly 1)
