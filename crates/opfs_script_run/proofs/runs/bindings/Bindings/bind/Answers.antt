use Rattle.std.proofs.Common.{◌∙◌}
use Rattle.std.specs.Cmp.Lexicographic.{slice_cmp}
use Rattle.std.specs.Ordering.{nat_cmp}
use Rattle.opfs_script_run.proofs.runs.Ordered.{insert_entry-put}
use Rattle.opfs_script_run.proofs.runs.bindings.Bindings.bind.Goals as goal

pub returns-clause-ok : goal.returns-clause-ok
returns-clause-ok c = rw (← c.self.view_is) (c.in_ok-insert.ensures.entries ∙ insert_entry-put (slice_cmp nat_cmp) c.args.variable c.args.named c.self.inside.map.entries)
