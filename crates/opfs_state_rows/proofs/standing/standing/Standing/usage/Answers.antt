use Rattle.std.proofs.Common.{ap, sym, ◌∙◌}
use Rattle.opfs_base.specs.Units.{origin_of}
use Rattle.opfs_machine.specs.Contents.{in_lengths}
use Rattle.opfs_machine.specs.Sums.{usage}
use Rattle.opfs_state_rows.specs.Standing.Seen.{Seen, machine_of}
use Rattle.opfs_state_rows.proofs.standing.Counted.{usage-is}
use Rattle.opfs_state_rows.proofs.standing.standing.Standing.usage.Goals as goal

pub returns : goal.returns
returns c =
    c.usage.ensures ∙ (c.self.invariant.usages (origin_of c.args.unit.now) ∙ (sym (usage-is (machine_of c.self.inside.tree.rows c.self.inside.shed.buckets c.self.inside.register) (origin_of c.args.unit.now)) ∙ ap (λ (s : Seen). usage in_lengths s.machine (origin_of c.args.unit.now)) c.self.view_is))
