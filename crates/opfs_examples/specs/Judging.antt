-- Examples of what is judged, and in which order.
use Rattle.std.specs.Prelude.{List, [], ◌∷◌, Some, None, codes, replicate, true, false}
use Rattle.opfs_base.specs.Texts.{Text}
use Rattle.opfs_base.specs.Units.{default_bucket}
use Rattle.opfs_base.specs.declared.locator.Kind.TheVariants as kind
use Rattle.opfs_hist.specs.declared.entry.Entry.{Entry}
use Rattle.opfs_hist.specs.declared.op.Mode.TheVariants as mode
use Rattle.opfs_hist.specs.declared.op.Op.TheVariants as op
use Rattle.opfs_hist.specs.declared.reply.Refusal.TheVariants as refusal
use Rattle.opfs_hist.specs.declared.reply.Reply.TheVariants as reply
use Rattle.opfs_locks.specs.declared.LockValue.TheVariants as lock
use Rattle.opfs_examples.specs.Room.{b_example, c_example}
use Rattle.opfs_examples.specs.Trying.{IsAnswered, a_example, by, directory_of, evicting, file_in, locked, refused, room_for}

-- A snapshot has the present bytes, flushed or not.
abbrev pub a_snapshot_has_the_present_bytes_history : List Entry
a_snapshot_has_the_present_bytes_history =
    by 1 1 (op.GetDirectory default_bucket) (reply.Done)
    ∷ by 1 2 (op.GetFileHandle (directory_of (a_example)) (codes "f") true) (reply.Done)
    ∷ by 1 3 (op.CreateSyncAccessHandle (file_in (a_example) (codes "f" ∷ [])) mode.ReadWrite) (reply.Done)
    ∷ by 1 4 (op.SyncWrite 1 (codes "ab") None) (reply.Length 2)
    ∷ by 1 5 (op.GetFile (file_in (a_example) (codes "f" ∷ []))) (reply.FileInfo 2 0)
    ∷ by 1 6 (op.Slice 2 0 2) (reply.Read (codes "ab"))
    ∷ []

abbrev pub ASnapshotHasThePresentBytes : Type 0
ASnapshotHasThePresentBytes = IsAnswered (room_for 16384 16 4 (record { key = Some a_example; grant = false } ∷ [])) a_snapshot_has_the_present_bytes_history 5 (reply.Read [])

-- An iterator whose directory is gone gives nothing.
abbrev pub an_iterator_needs_its_directory_history : List Entry
an_iterator_needs_its_directory_history =
    by 1 1 (op.GetDirectory default_bucket) (reply.Done)
    ∷ by 1 2 (op.GetDirectoryHandle (directory_of (a_example)) (codes "d") true) (reply.Done)
    ∷ by 1 3 (op.Values (record { key = a_example; path = codes "d" ∷ []; kind = kind.Directory })) (reply.Done)
    ∷ by 1 4 (op.RemoveEntry (directory_of (a_example)) (codes "d") false) (reply.Done)
    ∷ by 1 5 (op.Next 1 (record { key = a_example; path = codes "d" ∷ []; kind = kind.Directory })) (refused (refusal.NotFoundError))
    ∷ []

abbrev pub AnIteratorNeedsItsDirectory : Type 0
AnIteratorNeedsItsDirectory = IsAnswered (room_for 16384 16 4 (record { key = Some a_example; grant = false } ∷ [])) an_iterator_needs_its_directory_history 4 (reply.Last)

-- A directory and a file in it are not the same.
abbrev pub two_entries_are_not_the_same_history : List Entry
two_entries_are_not_the_same_history =
    by 1 1 (op.GetDirectory default_bucket) (reply.Done)
    ∷ by 1 2 (op.GetFileHandle (directory_of (a_example)) (codes "f") true) (reply.Done)
    ∷ by 1 3 (op.IsSameEntry (directory_of (a_example)) (file_in (a_example) (codes "f" ∷ []))) (reply.Flag false)
    ∷ []

abbrev pub TwoEntriesAreNotTheSame : Type 0
TwoEntriesAreNotTheSame = IsAnswered (room_for 16384 16 4 (record { key = Some a_example; grant = false } ∷ [])) two_entries_are_not_the_same_history 2 (reply.Flag true)

-- That a directory has children is judged before the locks below it.
abbrev pub children_are_judged_before_locks_history : List Entry
children_are_judged_before_locks_history =
    by 1 1 (op.GetDirectory default_bucket) (reply.Done)
    ∷ by 1 2 (op.GetDirectoryHandle (directory_of (a_example)) (codes "d") true) (reply.Done)
    ∷ by 1 3 (op.GetFileHandle (record { key = a_example; path = codes "d" ∷ []; kind = kind.Directory }) (codes "f") true) (reply.Done)
    ∷ by 1 4 (op.CreateWritable (file_in (a_example) (codes "d" ∷ codes "f" ∷ [])) false) (reply.Done)
    ∷ by 1 5 (op.RemoveEntry (directory_of (a_example)) (codes "d") false) (refused (refusal.InvalidModificationError))
    ∷ []

abbrev pub ChildrenAreJudgedBeforeLocks : Type 0
ChildrenAreJudgedBeforeLocks = IsAnswered (room_for 16384 16 4 (record { key = Some a_example; grant = false } ∷ [])) children_are_judged_before_locks_history 4 (locked lock.Shared 1)

-- A name is judged before the directory that it is looked for in.
abbrev pub a_name_is_judged_before_its_directory_history : List Entry
a_name_is_judged_before_its_directory_history =
    by 1 1 (op.GetDirectory default_bucket) (reply.Done)
    ∷ by 1 2 (op.GetDirectoryHandle (directory_of (a_example)) (codes "d") true) (reply.Done)
    ∷ by 1 3 (op.RemoveEntry (directory_of (a_example)) (codes "d") false) (reply.Done)
    ∷ by 1 4 (op.RemoveEntry (record { key = a_example; path = codes "d" ∷ []; kind = kind.Directory }) (codes "") false) (refused (refusal.TypeError))
    ∷ []

abbrev pub ANameIsJudgedBeforeItsDirectory : Type 0
ANameIsJudgedBeforeItsDirectory = IsAnswered (room_for 16384 16 4 (record { key = Some a_example; grant = false } ∷ [])) a_name_is_judged_before_its_directory_history 3 (refused (refusal.NotFoundError))

-- That a bucket is persistent says nothing of another one.
abbrev pub another_bucket_is_not_persistent_history : List Entry
another_bucket_is_not_persistent_history =
    by 1 1 (op.Persist default_bucket) (reply.Flag true)
    ∷ by 1 2 (op.Persisted (codes "z")) (reply.Flag false)
    ∷ []

abbrev pub AnotherBucketIsNotPersistent : Type 0
AnotherBucketIsNotPersistent = IsAnswered (room_for 16384 16 4 (record { key = Some a_example; grant = true } ∷ [])) another_bucket_is_not_persistent_history 1 (reply.Flag true)

-- An agent without the grant is told that a bucket is persistent which is.
abbrev pub a_persistent_bucket_needs_no_grant_history : List Entry
a_persistent_bucket_needs_no_grant_history =
    by 1 1 (op.Persist default_bucket) (reply.Flag true)
    ∷ by 2 1 (op.Persist default_bucket) (reply.Flag true)
    ∷ []

abbrev pub APersistentBucketNeedsNoGrant : Type 0
APersistentBucketNeedsNoGrant = IsAnswered (room_for 16384 16 4 (record { key = Some a_example; grant = true } ∷ record { key = Some a_example; grant = false } ∷ [])) a_persistent_bucket_needs_no_grant_history 1 (reply.Flag false)

-- What a stream keeps of its file is charged to the area.
abbrev pub kept_data_are_charged_history : List Entry
kept_data_are_charged_history =
    by 1 1 (op.GetDirectory default_bucket) reply.Done
    ∷ by 1 2 (op.GetFileHandle (directory_of a_example) (codes "f") true) reply.Done
    ∷ by 1 3 (op.CreateWritable (file_in a_example (codes "f" ∷ [])) false) reply.Done
    ∷ by 1 4 (op.Write 1 (codes "x") None) reply.Done
    ∷ by 1 5 (op.Close 1) reply.Done
    ∷ by 1 6 (op.CreateWritable (file_in a_example (codes "f" ∷ [])) true) (refused (refusal.MetaFull 126 8 140))
    ∷ []

abbrev pub KeptDataAreCharged : Type 0
KeptDataAreCharged = IsAnswered (room_for 140 16 4 (record { key = Some a_example; grant = false } ∷ [])) kept_data_are_charged_history 5 reply.Done

-- The quota is judged before the area.
abbrev pub the_quota_is_judged_before_the_area_history : List Entry
the_quota_is_judged_before_the_area_history =
    by 1 1 (op.GetDirectory default_bucket) reply.Done
    ∷ by 1 2 (op.GetFileHandle (directory_of a_example) (codes "f") true) reply.Done
    ∷ by 1 3 (op.CreateWritable (file_in a_example (codes "f" ∷ [])) false) reply.Done
    ∷ by 1 4 (op.Write 1 (replicate 8192 65) None) (refused (refusal.QuotaExceededError 0 2 1))
    ∷ []

abbrev pub TheQuotaIsJudgedBeforeTheArea : Type 0
TheQuotaIsJudgedBeforeTheArea = IsAnswered (room_for 140 16 1 (record { key = Some a_example; grant = false } ∷ [])) the_quota_is_judged_before_the_area_history 3 (refused (refusal.MetaFull 118 16 140))

-- The limit of a name is judged before the area.
abbrev pub a_name_is_limited_before_the_area_history : List Entry
a_name_is_limited_before_the_area_history =
    by 1 1 (op.GetDirectory default_bucket) reply.Done
    ∷ by 1 2 (op.GetFileHandle (directory_of a_example) (replicate 256 97) true) (refused refusal.NameLimit)
    ∷ []

abbrev pub ANameIsLimitedBeforeTheArea : Type 0
ANameIsLimitedBeforeTheArea = IsAnswered (room_for 140 16 4 (record { key = Some a_example; grant = false } ∷ [])) a_name_is_limited_before_the_area_history 1 (refused (refusal.MetaFull 28 600 140))

-- That an agent has no origin is judged before the name of the bucket.
abbrev pub the_origin_is_judged_before_the_bucket_history : List Entry
the_origin_is_judged_before_the_bucket_history =
    by 1 1 (op.GetDirectory (codes "A b")) (refused refusal.SecurityError)
    ∷ []

abbrev pub TheOriginIsJudgedBeforeTheBucket : Type 0
TheOriginIsJudgedBeforeTheBucket = IsAnswered (room_for 16384 16 4 (record { key = None; grant = false } ∷ [])) the_origin_is_judged_before_the_bucket_history 0 (refused refusal.TypeError)

-- Of the locked files below a directory the first one is told.
abbrev pub the_first_locked_file_is_told_history : List Entry
the_first_locked_file_is_told_history =
    by 1 1 (op.GetDirectory default_bucket) reply.Done
    ∷ by 1 2 (op.GetDirectoryHandle (directory_of a_example) (codes "d") true) reply.Done
    ∷ by 1 3 (op.GetFileHandle (record { key = a_example; path = codes "d" ∷ []; kind = kind.Directory }) (codes "f") true) reply.Done
    ∷ by 1 4 (op.GetFileHandle (record { key = a_example; path = codes "d" ∷ []; kind = kind.Directory }) (codes "g") true) reply.Done
    ∷ by 1 5 (op.CreateWritable (file_in a_example (codes "d" ∷ codes "f" ∷ [])) false) reply.Done
    ∷ by 1 6 (op.CreateSyncAccessHandle (file_in a_example (codes "d" ∷ codes "g" ∷ [])) mode.ReadWrite) reply.Done
    ∷ by 1 7 (op.RemoveEntry (directory_of a_example) (codes "d") true) (locked lock.Shared 1)
    ∷ []

abbrev pub TheFirstLockedFileIsTold : Type 0
TheFirstLockedFileIsTold = IsAnswered (room_for 16384 16 4 (record { key = Some a_example; grant = false } ∷ [])) the_first_locked_file_is_told_history 6 (locked lock.Exclusive 1)

-- A directory and a file of one path are not the same.
abbrev pub entries_of_two_kinds_are_not_the_same_history : List Entry
entries_of_two_kinds_are_not_the_same_history =
    by 1 1 (op.GetDirectory default_bucket) reply.Done
    ∷ by 1 2 (op.GetDirectoryHandle (directory_of a_example) (codes "f") true) reply.Done
    ∷ by 1 3 (op.RemoveEntry (directory_of a_example) (codes "f") false) reply.Done
    ∷ by 1 4 (op.GetFileHandle (directory_of a_example) (codes "f") true) reply.Done
    ∷ by 1 5 (op.IsSameEntry (record { key = a_example; path = codes "f" ∷ []; kind = kind.Directory }) (file_in a_example (codes "f" ∷ []))) (reply.Flag false)
    ∷ []

abbrev pub EntriesOfTwoKindsAreNotTheSame : Type 0
EntriesOfTwoKindsAreNotTheSame = IsAnswered (room_for 16384 16 4 (record { key = Some a_example; grant = false } ∷ [])) entries_of_two_kinds_are_not_the_same_history 4 (reply.Flag true)
