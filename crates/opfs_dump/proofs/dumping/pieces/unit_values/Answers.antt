use Rattle.std.proofs.Common.{length, ap, Some, ◌∙◌, arith}
use Rattle.std.specs.Option.{option_copied}
use Rattle.serde_json.specs.Data.{string}
use Rattle.opfs_base.specs.Texts.{Text}
use Rattle.opfs_tools.proofs.Walking.{persistent_behind, persistent_more, persistent_done}
use Rattle.opfs_dump.proofs.dumping.Rests.{units_more, units_all}
use Rattle.opfs_dump.proofs.dumping.pieces.unit_values.Goals as goal

pub loop-key-preserved : goal.loop-key-preserved
loop-key-preserved c =
    let next = persistent_more (option_copied c.loop-key.last) c.args.shed.now.buckets c.in-Some.key.now c.in-Some.ensures.ordered c.in-Some.ensures.first in
    units_more c.loop-key.values.items c.push.new.self.items c.in_ok-try_from_str.field-0 (persistent_behind (option_copied c.loop-key.last) c.args.shed.now.buckets)
    (persistent_behind (Some c.in-Some.key.now) c.args.shed.now.buckets) _ c.in-Some.key.now (c.in_ok-try_from_str.ensures ∙ ap string c.as_str.ensures) c.in_ok-push.ensures.items next c.loop-key.invariant

pub loop-key-smaller : goal.loop-key-smaller
loop-key-smaller c =
    let next = ap (length {A = Text}) (persistent_more (option_copied c.loop-key.last) c.args.shed.now.buckets c.in-Some.key.now c.in-Some.ensures.ordered c.in-Some.ensures.first) in
    omega (arith, next)

pub returns : goal.returns
returns c = units_all c.loop-key.values.items (persistent_behind (option_copied c.loop-key.last) c.args.shed.now.buckets) _ (persistent_done (option_copied c.loop-key.last) c.args.shed.now.buckets c.in_default.ensures.first) c.loop-key.invariant
