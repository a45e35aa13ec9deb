-- Examples of what the quota counts.
use Rattle.std.specs.Prelude.{List, [], ◌∷◌, Some, None, codes, replicate, true, false}
use Rattle.opfs_base.specs.Texts.{Text}
use Rattle.opfs_base.specs.Units.{default_bucket}
use Rattle.opfs_base.specs.declared.locator.Kind.TheVariants as kind
use Rattle.opfs_hist.specs.declared.entry.Entry.{Entry}
use Rattle.opfs_hist.specs.declared.op.Mode.TheVariants as mode
use Rattle.opfs_hist.specs.declared.op.Op.TheVariants as op
use Rattle.opfs_hist.specs.declared.reply.Refusal.TheVariants as refusal
use Rattle.opfs_hist.specs.declared.reply.Reply.TheVariants as reply
use Rattle.opfs_locks.specs.declared.LockValue.TheVariants as lock
use Rattle.opfs_examples.specs.Room.{b_example, c_example}
use Rattle.opfs_examples.specs.Trying.{IsAnswered, a_example, by, directory_of, evicting, file_in, locked, refused, room_for}

-- All buckets of an origin share its quota.
abbrev pub named_buckets_share_the_quota_history : List Entry
named_buckets_share_the_quota_history =
    by 1 1 (op.GetDirectory (codes "drafts")) (reply.Done)
    ∷ by 1 2 (op.GetFileHandle (directory_of (codes "https://a.example#drafts")) (codes "f") true) (reply.Done)
    ∷ by 1 3 (op.CreateWritable (file_in (codes "https://a.example#drafts") (codes "f" ∷ [])) false) (reply.Done)
    ∷ by 1 4 (op.Write 1 (replicate 8192 65) None) (reply.Done)
    ∷ by 1 5 (op.Close 1) (reply.Done)
    ∷ by 1 6 (op.GetDirectory default_bucket) (reply.Done)
    ∷ by 1 7 (op.GetFileHandle (directory_of (a_example)) (codes "f") true) (reply.Done)
    ∷ by 1 8 (op.CreateWritable (file_in (a_example) (codes "f" ∷ [])) false) (reply.Done)
    ∷ by 1 9 (op.Write 2 (codes "x") None) (refused (refusal.QuotaExceededError 2 1 2))
    ∷ []

abbrev pub NamedBucketsShareTheQuota : Type 0
NamedBucketsShareTheQuota = IsAnswered (room_for 16384 16 2 (record { key = Some a_example; grant = false } ∷ [])) named_buckets_share_the_quota_history 8 (reply.Done)

-- The quota counts what an access handle has written, though nothing is stored yet.
abbrev pub what_is_written_counts_before_a_flush_history : List Entry
what_is_written_counts_before_a_flush_history =
    by 1 1 (op.GetDirectory default_bucket) (reply.Done)
    ∷ by 1 2 (op.GetFileHandle (directory_of (a_example)) (codes "f") true) (reply.Done)
    ∷ by 1 3 (op.CreateSyncAccessHandle (file_in (a_example) (codes "f" ∷ [])) mode.ReadWrite) (reply.Done)
    ∷ by 1 4 (op.SyncWrite 1 (replicate 8192 65) None) (reply.Length 8192)
    ∷ by 1 5 (op.GetFileHandle (directory_of (a_example)) (codes "g") true) (reply.Done)
    ∷ by 1 6 (op.CreateWritable (file_in (a_example) (codes "g" ∷ [])) false) (reply.Done)
    ∷ by 1 7 (op.Write 2 (codes "x") None) (refused (refusal.QuotaExceededError 2 1 2))
    ∷ []

abbrev pub WhatIsWrittenCountsBeforeAFlush : Type 0
WhatIsWrittenCountsBeforeAFlush = IsAnswered (room_for 16384 16 2 (record { key = Some a_example; grant = false } ∷ [])) what_is_written_counts_before_a_flush_history 6 (reply.Done)

-- The blocks that an access handle keeps are no usage beside its file's own.
abbrev pub a_reserve_of_a_handle_is_free_of_quota_history : List Entry
a_reserve_of_a_handle_is_free_of_quota_history =
    by 1 1 (op.GetDirectory default_bucket) (reply.Done)
    ∷ by 1 2 (op.GetFileHandle (directory_of (a_example)) (codes "f") true) (reply.Done)
    ∷ by 1 3 (op.CreateSyncAccessHandle (file_in (a_example) (codes "f" ∷ [])) mode.ReadWrite) (reply.Done)
    ∷ by 1 4 (op.SyncWrite 1 (replicate 4096 65) None) (reply.Length 4096)
    ∷ by 1 5 (op.GetFileHandle (directory_of (a_example)) (codes "g") true) (reply.Done)
    ∷ by 1 6 (op.CreateWritable (file_in (a_example) (codes "g" ∷ [])) false) (reply.Done)
    ∷ by 1 7 (op.Write 2 (codes "x") None) (reply.Done)
    ∷ []

abbrev pub AReserveOfAHandleIsFreeOfQuota : Type 0
AReserveOfAHandleIsFreeOfQuota = IsAnswered (room_for 16384 16 2 (record { key = Some a_example; grant = false } ∷ [])) a_reserve_of_a_handle_is_free_of_quota_history 6 (refused (refusal.QuotaExceededError 2 1 2))

-- A write of an access handle over bytes that are there needs no quota, though it keeps a block.
abbrev pub a_write_over_bytes_needs_no_quota_history : List Entry
a_write_over_bytes_needs_no_quota_history =
    by 1 1 (op.GetDirectory (default_bucket)) (reply.Done)
    ∷ by 1 2 (op.GetFileHandle (directory_of (a_example)) (codes "f") true) (reply.Done)
    ∷ by 1 3 (op.CreateWritable (file_in (a_example) (codes "f" ∷ [])) false) (reply.Done)
    ∷ by 1 4 (op.Write 1 (codes "x") None) (reply.Done)
    ∷ by 1 5 (op.Close 1) (reply.Done)
    ∷ by 1 6 (op.CreateSyncAccessHandle (file_in (a_example) (codes "f" ∷ [])) mode.ReadWrite) (reply.Done)
    ∷ by 1 7 (op.SyncWrite 2 (codes "y") (Some 0)) (reply.Length 1)
    ∷ []

abbrev pub AWriteOverBytesNeedsNoQuota : Type 0
AWriteOverBytesNeedsNoQuota = IsAnswered (room_for 16384 16 1 (record { key = Some a_example; grant = false } ∷ [])) a_write_over_bytes_needs_no_quota_history 6 (refused (refusal.QuotaExceededError 1 1 1))

-- A write of an access handle past the quota is refused.
abbrev pub a_write_of_a_handle_needs_quota_history : List Entry
a_write_of_a_handle_needs_quota_history =
    by 1 1 (op.GetDirectory default_bucket) (reply.Done)
    ∷ by 1 2 (op.GetFileHandle (directory_of (a_example)) (codes "f") true) (reply.Done)
    ∷ by 1 3 (op.CreateSyncAccessHandle (file_in (a_example) (codes "f" ∷ [])) mode.ReadWrite) (reply.Done)
    ∷ by 1 4 (op.SyncWrite 1 (replicate 4097 65) None) (refused (refusal.QuotaExceededError 0 2 1))
    ∷ []

abbrev pub AWriteOfAHandleNeedsQuota : Type 0
AWriteOfAHandleNeedsQuota = IsAnswered (room_for 16384 16 1 (record { key = Some a_example; grant = false } ∷ [])) a_write_of_a_handle_needs_quota_history 3 (reply.Length 4097)

-- A stream that keeps the data needs quota for its copy of them.
abbrev pub kept_data_need_quota_history : List Entry
kept_data_need_quota_history =
    by 1 1 (op.GetDirectory (default_bucket)) (reply.Done)
    ∷ by 1 2 (op.GetFileHandle (directory_of (a_example)) (codes "f") true) (reply.Done)
    ∷ by 1 3 (op.CreateWritable (file_in (a_example) (codes "f" ∷ [])) false) (reply.Done)
    ∷ by 1 4 (op.Write 1 (codes "x") None) (reply.Done)
    ∷ by 1 5 (op.Close 1) (reply.Done)
    ∷ by 1 6 (op.CreateWritable (file_in (a_example) (codes "f" ∷ [])) true) (refused (refusal.QuotaExceededError 1 1 1))
    ∷ []

abbrev pub KeptDataNeedQuota : Type 0
KeptDataNeedQuota = IsAnswered (room_for 16384 16 1 (record { key = Some a_example; grant = false } ∷ [])) kept_data_need_quota_history 5 (reply.Done)

-- A stream that is cut keeps its blocks.
abbrev pub a_reserve_stays_at_a_truncate_history : List Entry
a_reserve_stays_at_a_truncate_history =
    by 1 1 (op.GetDirectory default_bucket) (reply.Done)
    ∷ by 1 2 (op.GetFileHandle (directory_of (a_example)) (codes "f") true) (reply.Done)
    ∷ by 1 3 (op.CreateWritable (file_in (a_example) (codes "f" ∷ [])) false) (reply.Done)
    ∷ by 1 4 (op.Write 1 (replicate 8192 65) None) (reply.Done)
    ∷ by 1 5 (op.Truncate 1 0) (reply.Done)
    ∷ by 1 6 (op.Estimate) (reply.Estimate 8192 16384)
    ∷ []

abbrev pub AReserveStaysAtATruncate : Type 0
AReserveStaysAtATruncate = IsAnswered (room_for 16384 16 4 (record { key = Some a_example; grant = false } ∷ [])) a_reserve_stays_at_a_truncate_history 5 (reply.Estimate 0 16384)

-- The blocks that an access handle keeps are not fewer for a truncate.
abbrev pub a_reserve_of_a_handle_stays_at_a_truncate_history : List Entry
a_reserve_of_a_handle_stays_at_a_truncate_history =
    by 1 1 (op.GetDirectory default_bucket) reply.Done
    ∷ by 1 2 (op.GetFileHandle (directory_of a_example) (codes "f") true) reply.Done
    ∷ by 1 3 (op.CreateSyncAccessHandle (file_in a_example (codes "f" ∷ [])) mode.ReadWrite) reply.Done
    ∷ by 1 4 (op.SyncWrite 1 (replicate 8192 65) None) (reply.Length 8192)
    ∷ by 1 5 (op.SyncTruncate 1 0) reply.Done
    ∷ by 1 6 (op.GetFileHandle (directory_of a_example) (codes "g") true) reply.Done
    ∷ by 1 7 (op.CreateWritable (file_in a_example (codes "g" ∷ [])) false) reply.Done
    ∷ by 1 8 (op.Write 2 (codes "x") None) (refused (refusal.DataFull 2 1 2))
    ∷ []

abbrev pub AReserveOfAHandleStaysAtATruncate : Type 0
AReserveOfAHandleStaysAtATruncate = IsAnswered (room_for 16384 2 4 (record { key = Some a_example; grant = false } ∷ [])) a_reserve_of_a_handle_stays_at_a_truncate_history 7 reply.Done
