-- A script with two open streams at its end, and entries that are its run, or not. This project's own.
use Rattle.std.specs.Prelude.{ℕ, List, [], ◌∷◌, ◌++◌, codes, Some, None, true, false}
use Rattle.opfs_base.specs.Texts.{Text}
use Rattle.opfs_base.specs.Units.{default_bucket}
use Rattle.opfs_base.specs.declared.locator.Kind.TheVariants as kind
use Rattle.opfs_base.specs.declared.locator.Locator.{Locator}
use Rattle.opfs_hist.specs.declared.entry.Entry.{Entry}
use Rattle.opfs_hist.specs.declared.op.Op.{Op}
use Rattle.opfs_hist.specs.declared.op.Op.TheVariants as op
use Rattle.opfs_hist.specs.declared.reply.Reply.TheVariants as reply
use Rattle.opfs_script.specs.Scripts.{Asked}
use Rattle.opfs_script.specs.declared.step.Step.TheVariants as step
use Rattle.opfs_script_run.specs.Runs.Running.{IsRun, IsCut}

abbrev pub a_example : Text
a_example = codes "https://a.example"

abbrev pub root : Locator
root = record { key = a_example; path = []; kind = kind.Directory }

abbrev pub the_file : Locator
the_file = record { key = a_example; path = codes "f" ∷ []; kind = kind.File }

-- Two streams on one file, and no call that ends them.
abbrev pub two_streams : Asked
two_streams = record {
  key = Some a_example;
  grant = false;
  steps =
      step.GetDirectory default_bucket (codes "d")
      ∷ step.GetFileHandle (codes "d") (codes "f") true (codes "f")
      ∷ step.CreateWritable (codes "f") false (codes "w")
      ∷ step.CreateWritable (codes "f") false (codes "v")
      ∷ [];
}

-- An entry that was done.
abbrev pub entry : ℕ → Op → Entry
entry n asked = record { agent = 1; number = n; op = asked; reply = reply.Done; turn = true }

abbrev pub steps_done : List Entry → List Entry
steps_done rest =
    entry 1 (op.GetDirectory default_bucket)
    ∷ entry 2 (op.GetFileHandle root (codes "f") true)
    ∷ entry 3 (op.CreateWritable the_file false)
    ∷ entry 4 (op.CreateWritable the_file false)
    ∷ rest

abbrev pub IsEndedInOrder : Type 0
IsEndedInOrder = IsRun two_streams (steps_done (entry 5 (op.Abort 1) ∷ entry 6 (op.Abort 2) ∷ entry 7 op.End ∷ []))

abbrev pub IsNotEnded : Type 0
IsNotEnded = IsRun two_streams (steps_done (entry 5 (op.Abort 1) ∷ entry 6 (op.Abort 2) ∷ [])) → ⊥

abbrev pub IsEndedOnce : Type 0
IsEndedOnce = IsRun two_streams (steps_done (entry 5 (op.Abort 1) ∷ entry 6 (op.Abort 1) ∷ entry 7 op.End ∷ [])) → ⊥

abbrev pub IsNotEndedTwice : Type 0
IsNotEndedTwice = IsRun two_streams (steps_done (entry 5 (op.Abort 1) ∷ entry 6 (op.Abort 2) ∷ entry 7 op.End ∷ entry 8 op.End ∷ [])) → ⊥

abbrev pub IsNotEndedInAnotherOrder : Type 0
IsNotEndedInAnotherOrder = IsRun two_streams (steps_done (entry 5 (op.Abort 2) ∷ entry 6 (op.Abort 1) ∷ entry 7 op.End ∷ [])) → ⊥

-- The first three steps.
abbrev pub three_done : List Entry → List Entry
three_done rest =
    entry 1 (op.GetDirectory default_bucket)
    ∷ entry 2 (op.GetFileHandle root (codes "f") true)
    ∷ entry 3 (op.CreateWritable the_file false)
    ∷ rest

abbrev pub IsCutShort : Type 0
IsCutShort = IsCut two_streams (three_done (entry 4 (op.Abort 1) ∷ entry 5 op.End ∷ []))

abbrev pub IsNotCutWithoutItsEnd : Type 0
IsNotCutWithoutItsEnd = IsCut two_streams (three_done []) → ⊥

-- A script with an await.
abbrev pub one_await : Asked
one_await = record {
  key = Some a_example;
  grant = false;
  steps = step.Await (codes "t") ∷ step.Estimate ∷ [];
}

abbrev pub awaited : Op → List Entry
awaited first = entry 1 first ∷ entry 1 (op.Await (codes "t")) ∷ entry 2 op.Estimate ∷ entry 3 op.End ∷ []

pub record WaitsForItsAwaitAlone : Type 0 where
  pub before : IsRun one_await (awaited (op.Wait (codes "t")))
  pub other : IsRun one_await (awaited (op.Wait (codes "tt"))) → ⊥
  pub elsewhere : IsRun one_await (entry 1 (op.Await (codes "t")) ∷ entry 2 (op.Wait (codes "t")) ∷ entry 2 op.Estimate ∷ entry 3 op.End ∷ []) → ⊥
