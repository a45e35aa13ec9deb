use Rattle.std.proofs.Common.{◌∙◌}
use Rattle.std.specs.Cmp.Lexicographic.{slice_cmp}
use Rattle.std.specs.Ordering.{nat_cmp}
use Rattle.opfs_script_run.proofs.runs.Ordered.{lookup-find}
use Rattle.opfs_script_run.proofs.runs.bindings.Bindings.named_by.Goals as goal

pub returns : goal.returns
returns c = rw (← c.self.view_is) (c.get.ensures.value ∙ lookup-find (slice_cmp nat_cmp) c.args.variable.now c.self.inside.map.entries)
