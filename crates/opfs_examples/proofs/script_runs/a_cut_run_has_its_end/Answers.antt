use Rattle.std.proofs.Common.{◌≡◌, ℕ, zero, suc, [], true, false}
use Rattle.opfs_base.specs.Texts.{Text}
use Rattle.opfs_base.specs.declared.locator.Locator.{Locator}
use Rattle.opfs_hist.specs.declared.op.Op.TheVariants as op
use Rattle.opfs_script_run.specs.Runs.Running.{IsCutFrom, empty_hand}
use Rattle.opfs_examples.specs.ScriptRuns.Ends.{two_streams, three_done}
use Rattle.opfs_examples.proofs.script_runs.a_cut_run_has_its_end.Goals as goal

first : (bucket : Text) → op.GetDirectory bucket ≡ op.End → ⊥
first bucket e = cc

second : (at : Locator) (name : Text) → op.GetFileHandle at name true ≡ op.End → ⊥
second at name e = cc

third : (at : Locator) → op.CreateWritable at false ≡ op.End → ⊥
third at e = cc

none : (left : ℕ) → IsCutFrom (empty_hand two_streams.key) 1 false left two_streams.steps (three_done []) → ⊥
none zero h = first _ h.1
none (suc zero) h = second _ _ h.1.1
none (suc (suc zero)) h = third _ h.1.1.1
none (suc (suc (suc zero))) h = h.1.1.1
none (suc (suc (suc (suc left)))) h = h.1.1.1

pub returns : goal.returns
returns c = λ cut. none cut.0 cut.1
