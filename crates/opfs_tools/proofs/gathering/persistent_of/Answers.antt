use Rattle.std.proofs.Common.{length, ap, Some, arith}
use Rattle.std.specs.Option.{option_copied}
use Rattle.opfs_base.specs.Texts.{Text}
use Rattle.opfs_tools.proofs.Walking.{persistent_behind, persistent_more, persistent_done, gathered_more, gathered_all}
use Rattle.opfs_tools.proofs.gathering.persistent_of.Goals as goal

pub loop-key-preserved : goal.loop-key-preserved
loop-key-preserved c =
    let next = persistent_more (option_copied c.loop-key.last) c.args.shed.now.buckets c.in-Some.key.now c.in-Some.ensures.ordered c.in-Some.ensures.first in
    gathered_more c.loop-key.units.items (persistent_behind (option_copied c.loop-key.last) c.args.shed.now.buckets) (persistent_behind (Some c.in-Some.key.now) c.args.shed.now.buckets) _ c.push.new.self.items
    c.make.result c.in-Some.key.now c.make.ensures c.in_ok-push.ensures.items next c.loop-key.invariant

pub loop-key-smaller : goal.loop-key-smaller
loop-key-smaller c =
    let next = ap (length {A = Text}) (persistent_more (option_copied c.loop-key.last) c.args.shed.now.buckets c.in-Some.key.now c.in-Some.ensures.ordered c.in-Some.ensures.first) in
    omega (arith, next)

pub returns : goal.returns
returns c = gathered_all c.loop-key.units.items (persistent_behind (option_copied c.loop-key.last) c.args.shed.now.buckets) _ (persistent_done (option_copied c.loop-key.last) c.args.shed.now.buckets c.in_default.ensures.first) c.loop-key.invariant
