-- Examples of what is charged to the area.
use Rattle.std.specs.Prelude.{List, [], ◌∷◌, Some, None, codes, replicate, true, false}
use Rattle.opfs_base.specs.Texts.{Text}
use Rattle.opfs_base.specs.Units.{default_bucket}
use Rattle.opfs_base.specs.declared.locator.Kind.TheVariants as kind
use Rattle.opfs_hist.specs.declared.entry.Entry.{Entry}
use Rattle.opfs_hist.specs.declared.op.Mode.TheVariants as mode
use Rattle.opfs_hist.specs.declared.op.Op.TheVariants as op
use Rattle.opfs_hist.specs.declared.reply.Refusal.TheVariants as refusal
use Rattle.opfs_hist.specs.declared.reply.Reply.TheVariants as reply
use Rattle.opfs_locks.specs.declared.LockValue.TheVariants as lock
use Rattle.opfs_examples.specs.Room.{b_example, c_example}
use Rattle.opfs_examples.specs.Trying.{IsAnswered, a_example, by, directory_of, evicting, file_in, locked, refused, room_for}

-- Each block of the pool is charged 8 bytes.
abbrev pub a_block_is_charged_8_bytes_history : List Entry
a_block_is_charged_8_bytes_history =
    by 1 1 (op.GetDirectory default_bucket) (reply.Done)
    ∷ by 1 2 (op.GetFileHandle (directory_of (a_example)) (codes "f") true) (reply.Done)
    ∷ by 1 3 (op.CreateWritable (file_in (a_example) (codes "f" ∷ [])) false) (reply.Done)
    ∷ by 1 4 (op.Write 1 (codes "x") None) (reply.Done)
    ∷ by 1 5 (op.Write 1 (replicate 4096 65) None) (refused (refusal.MetaFull 126 8 133))
    ∷ []

abbrev pub ABlockIsCharged8Bytes : Type 0
ABlockIsCharged8Bytes = IsAnswered (room_for 133 16 4 (record { key = Some a_example; grant = false } ∷ [])) a_block_is_charged_8_bytes_history 4 (reply.Done)

-- A file that is made is charged.
abbrev pub making_a_file_is_charged_history : List Entry
making_a_file_is_charged_history =
    by 1 1 (op.GetDirectory default_bucket) (reply.Done)
    ∷ by 1 2 (op.GetFileHandle (directory_of (a_example)) (codes "f") true) (refused (refusal.MetaFull 28 90 124))
    ∷ []

abbrev pub MakingAFileIsCharged : Type 0
MakingAFileIsCharged = IsAnswered (room_for 124 16 4 (record { key = Some a_example; grant = false } ∷ [])) making_a_file_is_charged_history 1 (reply.Done)

-- A file that is there is charged.
abbrev pub a_file_that_is_there_is_charged_history : List Entry
a_file_that_is_there_is_charged_history =
    by 1 1 (op.GetDirectory default_bucket) (reply.Done)
    ∷ by 1 2 (op.GetFileHandle (directory_of (a_example)) (codes "f") true) (reply.Done)
    ∷ by 1 3 (op.GetFileHandle (directory_of (a_example)) (codes "g") true) (refused (refusal.MetaFull 118 90 214))
    ∷ []

abbrev pub AFileThatIsThereIsCharged : Type 0
AFileThatIsThereIsCharged = IsAnswered (room_for 214 16 4 (record { key = Some a_example; grant = false } ∷ [])) a_file_that_is_there_is_charged_history 2 (reply.Done)

-- A unit that is persistent is charged for it.
abbrev pub a_mode_that_is_there_is_charged_history : List Entry
a_mode_that_is_there_is_charged_history =
    by 1 1 (op.Persist default_bucket) (reply.Flag true)
    ∷ by 1 2 (op.GetDirectory default_bucket) (refused (refusal.MetaFull 28 28 62))
    ∷ []

abbrev pub AModeThatIsThereIsCharged : Type 0
AModeThatIsThereIsCharged = IsAnswered (room_for 62 16 4 (record { key = Some a_example; grant = true } ∷ [])) a_mode_that_is_there_is_charged_history 1 (reply.Done)

-- Making a unit persistent is charged.
abbrev pub persisting_is_charged_history : List Entry
persisting_is_charged_history =
    by 1 1 (op.Persist default_bucket) (refused (refusal.MetaFull 0 28 34))
    ∷ []

abbrev pub PersistingIsCharged : Type 0
PersistingIsCharged = IsAnswered (room_for 34 16 4 (record { key = Some a_example; grant = true } ∷ [])) persisting_is_charged_history 0 (reply.Flag true)

-- Where the root is there, getDirectory makes nothing and is not charged.
abbrev pub a_root_that_is_there_is_made_once_history : List Entry
a_root_that_is_there_is_made_once_history =
    by 1 1 (op.GetDirectory default_bucket) (reply.Done)
    ∷ by 1 2 (op.GetDirectory default_bucket) (reply.Done)
    ∷ []

abbrev pub ARootThatIsThereIsMadeOnce : Type 0
ARootThatIsThereIsMadeOnce = IsAnswered (room_for 35 16 4 (record { key = Some a_example; grant = false } ∷ [])) a_root_that_is_there_is_made_once_history 1 (refused (refusal.MetaFull 28 28 35))

-- The area is judged before the pool.
abbrev pub the_area_is_judged_before_the_pool_history : List Entry
the_area_is_judged_before_the_pool_history =
    by 1 1 (op.GetDirectory default_bucket) (reply.Done)
    ∷ by 1 2 (op.GetFileHandle (directory_of (a_example)) (codes "f") true) (reply.Done)
    ∷ by 1 3 (op.CreateWritable (file_in (a_example) (codes "f" ∷ [])) false) (reply.Done)
    ∷ by 1 4 (op.Write 1 (replicate 8192 65) None) (refused (refusal.MetaFull 118 16 132))
    ∷ []

abbrev pub TheAreaIsJudgedBeforeThePool : Type 0
TheAreaIsJudgedBeforeThePool = IsAnswered (room_for 132 1 4 (record { key = Some a_example; grant = false } ∷ [])) the_area_is_judged_before_the_pool_history 3 (refused (refusal.DataFull 0 2 1))
