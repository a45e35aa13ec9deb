use Rattle.std.proofs.Common.{Some, unwrap_or, sym, ap, ◌∙◌}
use Rattle.opfs_locks.specs.Taking.{open_lock}
use Rattle.opfs_state.proofs.verdicts.FileLocks.{lock-first}
use Rattle.opfs_state.proofs.verdicts.locks.lock_at.Goals as goal

pub returns-in-Some-File : goal.returns-in-Some-File
returns-in-Some-File c =
    c.unwrap_or.ensures ∙ ap (λ o. unwrap_or o open_lock) c.first_locked.ensures
    ∙ lock-first c.args.standing.now.machine c.requires (c.args.unit.now, c.args.path.now) (sym c.kind.ensures ∙ c.in-Some-File.is ∙ ap Some c.in-Some-File.field-0-is)
