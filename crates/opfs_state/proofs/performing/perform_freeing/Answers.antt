use Rattle.std.proofs.Common.{◌≡◌, ◌++◌, sym, subst}
use Rattle.opfs_state_rows.specs.Changes.Changed.{IsDone, freed_by}
use Rattle.opfs_state.proofs.performing.perform_freeing.Goals as goal

pub returns-in-RemoveEntry-clause-done : goal.returns-in-RemoveEntry-clause-done
returns-in-RemoveEntry-clause-done c = subst (λ o. IsDone c.args.store.now c.remove_entry.new.store c.args.caller.sizes c.args.caller.agent o c.args.extents) (sym c.in-RemoveEntry.is) (c.remove_entry.ensures.done c.args.extents)

pub returns-in-RemoveEntry-clause-freed : goal.returns-in-RemoveEntry-clause-freed
returns-in-RemoveEntry-clause-freed c =
    subst (λ o. c.remove_entry.new.freed.items ≡ c.args.freed.now.items ++ freed_by c.args.store.now c.args.caller.agent o c.args.extents) (sym c.in-RemoveEntry.is) (c.remove_entry.ensures.freed c.args.extents)
