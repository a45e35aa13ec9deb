use Rattle.std.proofs.Common.{List, subst}
use Rattle.opfs_desk_runs.specs.Runs.{IsRunOn}
use Rattle.opfs_script.specs.Scripts.{Asked}
use Rattle.opfs_desk_runs.proofs.trial.Trials.{no-refusal, trial-of}
use Rattle.opfs_desk_runs.proofs.trial.trying.run_on.Goals as goal

pub short_of_memory-requires : goal.short_of_memory-requires
short_of_memory-requires g c =
    no-refusal g.D.Disk c.requires.tells c.requires.never c.args.script.now c.args.disk c.requires.empty c.in-Err.disk c.in-Err.refusal c.in-Err.ensures.refused c.in-Err.ensures.cause

pub returns-in-Ok : goal.returns-in-Ok
returns-in-Ok g c =
    trial-of g.D.Disk c.requires.tells c.requires.never c.args.script.now c.args.disk c.requires.empty c.in-Ok.run'
    (subst (λ (s : List Asked). IsRunOn g.D.Disk s c.args.disk c.in-Ok.run') c.agents.ensures.agents c.in-Ok.ensures.run)
    c.whole_history.result.1 c.whole_history.ensures.whole c.whole_history.ensures.history
