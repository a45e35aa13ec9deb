use Rattle.opfs_state.proofs.performing.perform_any.Goals as goal

pub returns-clause-done : goal.returns-clause-done
returns-clause-done c = c.perform.ensures.done c.args.extents
