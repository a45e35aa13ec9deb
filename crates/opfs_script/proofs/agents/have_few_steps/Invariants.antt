use Rattle.std.proofs.Common.{◌≡◌, ◌+◌, take}
use Rattle.opfs_script.specs.Limits.{steps_of_all}
use Rattle.opfs_script.proofs.agents.have_few_steps.Given as goal

abbrev pub invariant-loop-draft : goal.invariant-loop-draft
invariant-loop-draft l = l.left + steps_of_all (take l.draft-index l.drafts) ≡ 20000
