-- Calls determine what they are answered.
use Rattle.std.specs.Prelude.{◌≡◌, true, List, [], ◌∷◌, map, Some, None}
use Rattle.opfs_hist.specs.declared.entry.Entry.{Entry}
use Rattle.opfs_hist.specs.declared.reply.Refusal.TheVariants as refusal
use Rattle.opfs_hist.specs.declared.reply.Reply.TheVariants as reply
use Rattle.opfs_machine.specs.Histories.{Legal, evicted_by}
use Rattle.opfs_machine.specs.Openings.{Opening}
use Rattle.opfs_machine.specs.Runs.{Call}

-- The calls of a history: its entries but for the evictions, without their answers.
abbrev pub calls_of : List Entry → List Call
calls_of [] = []
calls_of (e ∷ es) = elim (evicted_by e.op) [
  | Some unit ↦ calls_of es
  | None ↦ record { agent = e.agent; number = e.number; op = e.op } ∷ calls_of es
]

-- No answer is a disk fault.
abbrev pub HasNoFault : List Entry → Type 0
HasNoFault [] = Unit {0}
HasNoFault (e ∷ es) = (e.reply ≡ reply.No refusal.DiskFault → ⊥) × HasNoFault es

-- An entry but for whether it was made under the turn.
abbrev pub told_by : Entry → Entry
told_by e = record e { turn = true }

-- Two legal histories of the same calls, in which the disk has no fault, have the same entries: each answer, and each
-- eviction in its place.
abbrev pub CallsDetermineAnswers : Type 0
CallsDetermineAnswers =
    (o : Opening) (es fs : List Entry) → Legal o es → Legal o fs → HasNoFault es → HasNoFault fs
    → calls_of es ≡ calls_of fs → map told_by es ≡ map told_by fs
