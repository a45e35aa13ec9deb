use Rattle.std.proofs.Common.{sym, ◌∙◌}
use Rattle.opfs_desk_entries.proofs.buckets.Estimates.{used-is}
use Rattle.opfs_desk_entries.proofs.buckets.estimating.used.Goals as goal

pub returns : goal.returns
returns c = c.usage.ensures ∙ used-is c.args.state.now.store.machine c.args.agent c.in-Some.origin.now c.requires.own (sym c.in-Some.ensures)
