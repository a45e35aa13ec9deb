-- What is stored though nothing changed, and a disk that fails between two evictions. This project's own.
use Rattle.std.specs.Prelude.{◌≡◌, List, [], ◌∷◌, codes, Some, None, true, false}
use Rattle.opfs_base.specs.Texts.{Text}
use Rattle.opfs_base.specs.Units.{default_bucket}
use Rattle.opfs_hist.specs.declared.entry.Entry.{Entry}
use Rattle.opfs_hist.specs.declared.op.Mode.TheVariants as mode
use Rattle.opfs_hist.specs.declared.op.Op.TheVariants as op
use Rattle.opfs_hist.specs.declared.reply.Refusal.TheVariants as refusal
use Rattle.opfs_hist.specs.declared.reply.Reply.TheVariants as reply
use Rattle.opfs_machine.specs.Changes.{changes, make_root, make_file, content}
use Rattle.opfs_machine.specs.Histories.{Legal}
use Rattle.opfs_machine.specs.Openings.{Opening}
use Rattle.opfs_examples.specs.Room.{b_example, c_example}
use Rattle.opfs_examples.specs.Trying.{a_example, by, directory_of, evicting, file_in, one_agent, refused, room_for}

-- Each flush and the close of an access handle that may write store a content, whether or not anything was written.
abbrev pub flushed_twice : List Entry
flushed_twice =
    by 1 1 (op.GetDirectory default_bucket) reply.Done
    ∷ by 1 2 (op.GetFileHandle (directory_of a_example) (codes "f") true) reply.Done
    ∷ by 1 3 (op.CreateSyncAccessHandle (file_in a_example (codes "f" ∷ [])) mode.ReadWrite) reply.Done
    ∷ by 1 4 (op.SyncFlush 1) reply.Done
    ∷ by 1 5 (op.SyncFlush 1) reply.Done
    ∷ by 1 6 (op.SyncClose 1) reply.Done
    ∷ []

abbrev pub EachFlushStores : Type 0
EachFlushStores =
    changes (room_for 16384 16 4 one_agent) flushed_twice
    ≡ make_root a_example
    ∷ make_file (a_example, codes "f" ∷ []) 0
    ∷ content (a_example, codes "f" ∷ []) 0 []
    ∷ content (a_example, codes "f" ∷ []) 0 []
    ∷ content (a_example, codes "f" ∷ []) 0 []
    ∷ []

-- Three origins over one block.
abbrev pub one_block_for_three : Opening
one_block_for_three =
    room_for 16384 1 4 (
    record { key = Some a_example; grant = false }
    ∷ record { key = Some b_example; grant = false }
    ∷ record { key = Some c_example; grant = false }
    ∷ [])

-- The first has an empty bucket, the second the block, and the third wants it: both have to go, in this order.
abbrev pub filled_by_the_second : List Entry → List Entry
filled_by_the_second rest =
    by 1 1 (op.GetDirectory default_bucket) reply.Done
    ∷ by 2 1 (op.GetDirectory default_bucket) reply.Done
    ∷ by 2 2 (op.GetFileHandle (directory_of b_example) (codes "f") true) reply.Done
    ∷ by 2 3 (op.CreateWritable (file_in b_example (codes "f" ∷ [])) false) reply.Done
    ∷ by 2 4 (op.Write 1 (codes "x") None) reply.Done
    ∷ by 2 5 (op.Close 1) reply.Done
    ∷ by 3 1 (op.GetDirectory default_bucket) reply.Done
    ∷ by 3 2 (op.GetFileHandle (directory_of c_example) (codes "f") true) reply.Done
    ∷ by 3 3 (op.CreateWritable (file_in c_example (codes "f" ∷ [])) false) reply.Done
    ∷ rest

-- The disk may fail after the first of the two evictions; the second is then that of the next call.
abbrev pub ADiskMayFailBetweenTwoEvictions : Type 0
ADiskMayFailBetweenTwoEvictions =
    Legal one_block_for_three (filled_by_the_second (
    evicting a_example
    ∷ by 3 4 (op.Write 1 (codes "x") None) (refused refusal.DiskFault)
    ∷ evicting b_example
    ∷ by 3 5 (op.Write 1 (codes "x") None) reply.Done
    ∷ []))

-- It does not fail after the second alone.
abbrev pub EvictionsKeepTheirOrder : Type 0
EvictionsKeepTheirOrder =
    Legal one_block_for_three (filled_by_the_second (
    evicting b_example
    ∷ by 3 4 (op.Write 1 (codes "x") None) (refused refusal.DiskFault)
    ∷ []))
    → ⊥
