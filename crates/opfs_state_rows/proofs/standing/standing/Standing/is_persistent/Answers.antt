use Rattle.std.proofs.Common.{sym, ap, ◌∙◌}
use Rattle.opfs_state_rows.specs.Standing.Seen.{Seen}
use Rattle.opfs_machine.specs.Sums.{is_persistent}
use Rattle.opfs_state_rows.proofs.standing.Lines.{persistent-is}
use Rattle.opfs_state_rows.proofs.standing.standing.Standing.is_persistent.Goals as goal

pub returns : goal.returns
returns c = c.is_persistent.ensures ∙ (sym (persistent-is c.args.unit.now c.self.inside.shed.buckets) ∙ ap (λ (s : Seen). is_persistent s.machine c.args.unit.now) c.self.view_is)
