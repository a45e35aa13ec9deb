-- Entries that a party alone is not told. This project's own.
use Rattle.std.specs.Prelude.{List, [], ◌∷◌, codes, None, true, false}
use Rattle.opfs_base.specs.Texts.{Text}
use Rattle.opfs_base.specs.Units.{default_bucket}
use Rattle.opfs_hist.specs.declared.entry.Entry.{Entry}
use Rattle.opfs_hist.specs.declared.op.Op.TheVariants as op
use Rattle.opfs_hist.specs.declared.reply.Refusal.TheVariants as refusal
use Rattle.opfs_hist.specs.declared.reply.Reply.TheVariants as reply
use Rattle.opfs_machine.specs.Alone.{IsAlone}
use Rattle.opfs_machine.specs.declared.state.Party.TheVariants.{Origin}
use Rattle.opfs_examples.specs.Trying.{IsAnswered, a_example, by, directory_of, evicting, file_in, one_agent, refused, room_for}

-- The party of that origin, over a store with room.
abbrev pub ByItself : List Entry → Type 0
ByItself es = IsAlone (room_for 16384 16 4 one_agent) (Origin a_example) es

-- A party that stores nothing is not told that it stores too much.
abbrev pub NobodyElseFillsTheQuota : Type 0
NobodyElseFillsTheQuota =
    ByItself (
    by 1 1 (op.GetDirectory default_bucket) reply.Done
    ∷ by 1 2 (op.GetFileHandle (directory_of a_example) (codes "f") true) reply.Done
    ∷ by 1 3 (op.CreateWritable (file_in a_example (codes "f" ∷ [])) false) reply.Done
    ∷ by 1 4 (op.Write 1 (codes "x") None) (refused (refusal.QuotaExceededError 4 1 4))
    ∷ [])
    → ⊥

-- A refusal of the area tells what the call adds to the charge, and no other number.
abbrev pub ARefusalTellsItsOwnGrowth : Type 0
ARefusalTellsItsOwnGrowth = ByItself (by 1 1 (op.GetDirectory default_bucket) (refused (refusal.MetaFull 16384 27 16384)) ∷ []) → ⊥

-- The same with the growth that it has is told, since other parties may have filled the area.
abbrev pub OthersMayFillTheArea : Type 0
OthersMayFillTheArea = ByItself (by 1 1 (op.GetDirectory default_bucket) (refused (refusal.MetaFull 16384 28 16384)) ∷ [])

-- A bucket in which a lock is taken is not cleared.
abbrev pub ABucketInUseIsNotCleared : Type 0
ABucketInUseIsNotCleared =
    ByItself (
    by 1 1 (op.GetDirectory default_bucket) reply.Done
    ∷ by 1 2 (op.GetFileHandle (directory_of a_example) (codes "f") true) reply.Done
    ∷ by 1 3 (op.CreateWritable (file_in a_example (codes "f" ∷ [])) false) reply.Done
    ∷ evicting a_example
    ∷ [])
    → ⊥
