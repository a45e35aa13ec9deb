-- Examples of which bucket is cleared.
use Rattle.std.specs.Prelude.{List, [], ◌∷◌, Some, None, codes, replicate, true, false}
use Rattle.opfs_base.specs.Texts.{Text}
use Rattle.opfs_base.specs.Units.{default_bucket}
use Rattle.opfs_base.specs.declared.locator.Kind.TheVariants as kind
use Rattle.opfs_hist.specs.declared.entry.Entry.{Entry}
use Rattle.opfs_hist.specs.declared.op.Mode.TheVariants as mode
use Rattle.opfs_hist.specs.declared.op.Op.TheVariants as op
use Rattle.opfs_hist.specs.declared.reply.Refusal.TheVariants as refusal
use Rattle.opfs_hist.specs.declared.reply.Reply.TheVariants as reply
use Rattle.opfs_locks.specs.declared.LockValue.TheVariants as lock
use Rattle.opfs_examples.specs.Room.{b_example, c_example}
use Rattle.opfs_examples.specs.Trying.{IsAnswered, a_example, by, directory_of, evicting, file_in, locked, refused, room_for}

-- A bucket was last used when its origin was, by whichever bucket.
abbrev pub a_use_is_of_the_origin_history : List Entry
a_use_is_of_the_origin_history =
    by 1 1 (op.GetDirectory (codes "z")) (reply.Done)
    ∷ by 1 2 (op.GetFileHandle (directory_of (codes "https://a.example#z")) (codes "f") true) (reply.Done)
    ∷ by 1 3 (op.CreateWritable (file_in (codes "https://a.example#z") (codes "f" ∷ [])) false) (reply.Done)
    ∷ by 1 4 (op.Write 1 (codes "x") None) (reply.Done)
    ∷ by 1 5 (op.Close 1) (reply.Done)
    ∷ by 2 1 (op.GetDirectory (default_bucket)) (reply.Done)
    ∷ by 2 2 (op.GetFileHandle (directory_of (b_example)) (codes "f") true) (reply.Done)
    ∷ by 2 3 (op.CreateWritable (file_in (b_example) (codes "f" ∷ [])) false) (reply.Done)
    ∷ by 2 4 (op.Write 1 (codes "x") None) (reply.Done)
    ∷ by 2 5 (op.Close 1) (reply.Done)
    ∷ by 1 6 (op.GetDirectory default_bucket) (reply.Done)
    ∷ by 3 1 (op.GetDirectory default_bucket) (reply.Done)
    ∷ by 3 2 (op.GetFileHandle (directory_of (c_example)) (codes "f") true) (reply.Done)
    ∷ by 3 3 (op.CreateWritable (file_in (c_example) (codes "f" ∷ [])) false) (reply.Done)
    ∷ evicting (b_example)
    ∷ by 3 4 (op.Write 1 (codes "x") None) (reply.Done)
    ∷ []

abbrev pub AUseIsOfTheOrigin : Type 0
AUseIsOfTheOrigin = IsAnswered (room_for 16384 2 4 (record { key = Some a_example; grant = false } ∷ record { key = Some b_example; grant = false } ∷ record { key = Some c_example; grant = false } ∷ [])) a_use_is_of_the_origin_history 15 (refused (refusal.DataFull 2 1 2))

-- Of buckets of one origin the first in the order of their texts goes.
abbrev pub buckets_of_one_use_go_by_their_text_history : List Entry
buckets_of_one_use_go_by_their_text_history =
    by 1 1 (op.GetDirectory (default_bucket)) (reply.Done)
    ∷ by 1 2 (op.GetFileHandle (directory_of (a_example)) (codes "f") true) (reply.Done)
    ∷ by 1 3 (op.CreateWritable (file_in (a_example) (codes "f" ∷ [])) false) (reply.Done)
    ∷ by 1 4 (op.Write 1 (codes "x") None) (reply.Done)
    ∷ by 1 5 (op.Close 1) (reply.Done)
    ∷ by 1 6 (op.GetDirectory (codes "z")) (reply.Done)
    ∷ by 1 7 (op.GetFileHandle (directory_of (codes "https://a.example#z")) (codes "f") true) (reply.Done)
    ∷ by 1 8 (op.CreateWritable (file_in (codes "https://a.example#z") (codes "f" ∷ [])) false) (reply.Done)
    ∷ by 1 9 (op.Write 2 (codes "x") None) (reply.Done)
    ∷ by 1 10 (op.Close 2) (reply.Done)
    ∷ by 2 1 (op.GetDirectory default_bucket) (reply.Done)
    ∷ by 2 2 (op.GetFileHandle (directory_of (b_example)) (codes "f") true) (reply.Done)
    ∷ by 2 3 (op.CreateWritable (file_in (b_example) (codes "f" ∷ [])) false) (reply.Done)
    ∷ evicting (a_example)
    ∷ by 2 4 (op.Write 1 (codes "x") None) (reply.Done)
    ∷ []

abbrev pub BucketsOfOneUseGoByTheirText : Type 0
BucketsOfOneUseGoByTheirText = IsAnswered (room_for 16384 2 4 (record { key = Some a_example; grant = false } ∷ record { key = Some b_example; grant = false } ∷ [])) buckets_of_one_use_go_by_their_text_history 14 (refused (refusal.DataFull 2 1 2))

-- A bucket without blocks goes too, where it was used before one that has to go.
abbrev pub an_empty_bucket_goes_on_the_way_history : List Entry
an_empty_bucket_goes_on_the_way_history =
    by 1 1 (op.GetDirectory default_bucket) (reply.Done)
    ∷ by 2 1 (op.GetDirectory (default_bucket)) (reply.Done)
    ∷ by 2 2 (op.GetFileHandle (directory_of (b_example)) (codes "f") true) (reply.Done)
    ∷ by 2 3 (op.CreateWritable (file_in (b_example) (codes "f" ∷ [])) false) (reply.Done)
    ∷ by 2 4 (op.Write 1 (codes "x") None) (reply.Done)
    ∷ by 2 5 (op.Close 1) (reply.Done)
    ∷ by 3 1 (op.GetDirectory default_bucket) (reply.Done)
    ∷ by 3 2 (op.GetFileHandle (directory_of (c_example)) (codes "f") true) (reply.Done)
    ∷ by 3 3 (op.CreateWritable (file_in (c_example) (codes "f" ∷ [])) false) (reply.Done)
    ∷ evicting (a_example)
    ∷ evicting (b_example)
    ∷ by 3 4 (op.Write 1 (codes "x") None) (reply.Done)
    ∷ []

abbrev pub AnEmptyBucketGoesOnTheWay : Type 0
AnEmptyBucketGoesOnTheWay = IsAnswered (room_for 16384 1 4 (record { key = Some a_example; grant = false } ∷ record { key = Some b_example; grant = false } ∷ record { key = Some c_example; grant = false } ∷ [])) an_empty_bucket_goes_on_the_way_history 11 (refused (refusal.DataFull 1 1 1))

-- A call that is refused is a use of its origin.
abbrev pub a_refused_call_is_a_use_history : List Entry
a_refused_call_is_a_use_history =
    by 1 1 (op.GetDirectory (default_bucket)) (reply.Done)
    ∷ by 1 2 (op.GetFileHandle (directory_of (a_example)) (codes "f") true) (reply.Done)
    ∷ by 1 3 (op.CreateWritable (file_in (a_example) (codes "f" ∷ [])) false) (reply.Done)
    ∷ by 1 4 (op.Write 1 (codes "x") None) (reply.Done)
    ∷ by 1 5 (op.Close 1) (reply.Done)
    ∷ by 2 1 (op.GetDirectory (default_bucket)) (reply.Done)
    ∷ by 2 2 (op.GetFileHandle (directory_of (b_example)) (codes "f") true) (reply.Done)
    ∷ by 2 3 (op.CreateWritable (file_in (b_example) (codes "f" ∷ [])) false) (reply.Done)
    ∷ by 2 4 (op.Write 1 (codes "x") None) (reply.Done)
    ∷ by 2 5 (op.Close 1) (reply.Done)
    ∷ by 1 6 (op.GetFile (file_in (a_example) (codes "n" ∷ []))) (refused (refusal.NotFoundError))
    ∷ by 3 1 (op.GetDirectory default_bucket) (reply.Done)
    ∷ by 3 2 (op.GetFileHandle (directory_of (c_example)) (codes "f") true) (reply.Done)
    ∷ by 3 3 (op.CreateWritable (file_in (c_example) (codes "f" ∷ [])) false) (reply.Done)
    ∷ evicting (b_example)
    ∷ by 3 4 (op.Write 1 (codes "x") None) (reply.Done)
    ∷ []

abbrev pub ARefusedCallIsAUse : Type 0
ARefusedCallIsAUse = IsAnswered (room_for 16384 2 4 (record { key = Some a_example; grant = false } ∷ record { key = Some b_example; grant = false } ∷ record { key = Some c_example; grant = false } ∷ [])) a_refused_call_is_a_use_history 15 (refused (refusal.DataFull 2 1 2))

-- So is an agent's beginning to wait.
abbrev pub a_wait_is_a_use_history : List Entry
a_wait_is_a_use_history =
    by 1 1 (op.GetDirectory (default_bucket)) (reply.Done)
    ∷ by 1 2 (op.GetFileHandle (directory_of (a_example)) (codes "f") true) (reply.Done)
    ∷ by 1 3 (op.CreateWritable (file_in (a_example) (codes "f" ∷ [])) false) (reply.Done)
    ∷ by 1 4 (op.Write 1 (codes "x") None) (reply.Done)
    ∷ by 1 5 (op.Close 1) (reply.Done)
    ∷ by 2 1 (op.GetDirectory (default_bucket)) (reply.Done)
    ∷ by 2 2 (op.GetFileHandle (directory_of (b_example)) (codes "f") true) (reply.Done)
    ∷ by 2 3 (op.CreateWritable (file_in (b_example) (codes "f" ∷ [])) false) (reply.Done)
    ∷ by 2 4 (op.Write 1 (codes "x") None) (reply.Done)
    ∷ by 2 5 (op.Close 1) (reply.Done)
    ∷ by 1 6 (op.Wait (codes "t")) (reply.Done)
    ∷ by 3 1 (op.GetDirectory default_bucket) (reply.Done)
    ∷ by 3 2 (op.GetFileHandle (directory_of (c_example)) (codes "f") true) (reply.Done)
    ∷ by 3 3 (op.CreateWritable (file_in (c_example) (codes "f" ∷ [])) false) (reply.Done)
    ∷ evicting (b_example)
    ∷ by 3 4 (op.Write 1 (codes "x") None) (reply.Done)
    ∷ []

abbrev pub AWaitIsAUse : Type 0
AWaitIsAUse = IsAnswered (room_for 16384 2 4 (record { key = Some a_example; grant = false } ∷ record { key = Some b_example; grant = false } ∷ record { key = Some c_example; grant = false } ∷ record { key = Some a_example; grant = false } ∷ [])) a_wait_is_a_use_history 15 (refused (refusal.DataFull 2 1 2))

-- A persistent bucket makes no other bucket of its origin safe.
abbrev pub only_the_persistent_bucket_is_safe_history : List Entry
only_the_persistent_bucket_is_safe_history =
    by 1 1 (op.Persist default_bucket) (reply.Flag true)
    ∷ by 1 2 (op.GetDirectory (codes "z")) (reply.Done)
    ∷ by 1 3 (op.GetFileHandle (directory_of (codes "https://b.example#z")) (codes "f") true) (reply.Done)
    ∷ by 1 4 (op.CreateWritable (file_in (codes "https://b.example#z") (codes "f" ∷ [])) false) (reply.Done)
    ∷ by 1 5 (op.Write 1 (codes "x") None) (reply.Done)
    ∷ by 1 6 (op.Close 1) (reply.Done)
    ∷ by 2 1 (op.GetDirectory default_bucket) (reply.Done)
    ∷ by 2 2 (op.GetFileHandle (directory_of (a_example)) (codes "f") true) (reply.Done)
    ∷ by 2 3 (op.CreateWritable (file_in (a_example) (codes "f" ∷ [])) false) (reply.Done)
    ∷ evicting (codes "https://b.example#z")
    ∷ by 2 4 (op.Write 1 (codes "x") None) (reply.Done)
    ∷ []

abbrev pub OnlyThePersistentBucketIsSafe : Type 0
OnlyThePersistentBucketIsSafe = IsAnswered (room_for 16384 1 4 (record { key = Some b_example; grant = true } ∷ record { key = Some a_example; grant = false } ∷ [])) only_the_persistent_bucket_is_safe_history 10 (refused (refusal.DataFull 1 1 1))

-- A call that changes and opens nothing is a use of its origin.
abbrev pub a_use_need_not_change_anything_history : List Entry
a_use_need_not_change_anything_history =
    by 1 1 (op.GetDirectory default_bucket) reply.Done
    ∷ by 1 2 (op.GetFileHandle (directory_of a_example) (codes "f") true) reply.Done
    ∷ by 1 3 (op.CreateWritable (file_in a_example (codes "f" ∷ [])) false) reply.Done
    ∷ by 1 4 (op.Write 1 (codes "x") None) reply.Done
    ∷ by 1 5 (op.Close 1) reply.Done
    ∷ by 2 1 (op.GetDirectory default_bucket) reply.Done
    ∷ by 2 2 (op.GetFileHandle (directory_of b_example) (codes "f") true) reply.Done
    ∷ by 2 3 (op.CreateWritable (file_in b_example (codes "f" ∷ [])) false) reply.Done
    ∷ by 2 4 (op.Write 1 (codes "x") None) reply.Done
    ∷ by 2 5 (op.Close 1) reply.Done
    ∷ by 1 6 (op.Persisted default_bucket) (reply.Flag false)
    ∷ by 3 1 (op.GetDirectory default_bucket) reply.Done
    ∷ by 3 2 (op.GetFileHandle (directory_of c_example) (codes "f") true) reply.Done
    ∷ by 3 3 (op.CreateWritable (file_in c_example (codes "f" ∷ [])) false) reply.Done
    ∷ evicting b_example
    ∷ by 3 4 (op.Write 1 (codes "x") None) reply.Done
    ∷ []

abbrev pub AUseNeedNotChangeAnything : Type 0
AUseNeedNotChangeAnything = IsAnswered (room_for 16384 2 4 (record { key = Some a_example; grant = false } ∷ record { key = Some b_example; grant = false } ∷ record { key = Some c_example; grant = false } ∷ [])) a_use_need_not_change_anything_history 15 (refused (refusal.DataFull 2 1 2))

-- A bucket stays while a file of it is open to an access handle that only reads.
abbrev pub a_reader_keeps_its_bucket_history : List Entry
a_reader_keeps_its_bucket_history =
    by 1 1 (op.GetDirectory default_bucket) reply.Done
    ∷ by 1 2 (op.GetFileHandle (directory_of a_example) (codes "f") true) reply.Done
    ∷ by 1 3 (op.CreateWritable (file_in a_example (codes "f" ∷ [])) false) reply.Done
    ∷ by 1 4 (op.Write 1 (codes "x") None) reply.Done
    ∷ by 1 5 (op.Close 1) reply.Done
    ∷ by 1 6 (op.CreateSyncAccessHandle (file_in a_example (codes "f" ∷ [])) mode.ReadOnly) reply.Done
    ∷ by 2 1 (op.GetDirectory default_bucket) reply.Done
    ∷ by 2 2 (op.GetFileHandle (directory_of b_example) (codes "f") true) reply.Done
    ∷ by 2 3 (op.CreateWritable (file_in b_example (codes "f" ∷ [])) false) reply.Done
    ∷ by 2 4 (op.Write 1 (replicate 8192 65) None) (refused (refusal.DataFull 1 2 2))
    ∷ []

abbrev pub AReaderKeepsItsBucket : Type 0
AReaderKeepsItsBucket = IsAnswered (room_for 16384 2 4 (record { key = Some a_example; grant = false } ∷ record { key = Some b_example; grant = false } ∷ [])) a_reader_keeps_its_bucket_history 9 reply.Done
