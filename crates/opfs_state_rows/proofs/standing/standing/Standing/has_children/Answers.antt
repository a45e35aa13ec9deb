use Rattle.std.proofs.Common.{ap, ◌∙◌}
use Rattle.opfs_state_rows.specs.Standing.Seen.{Seen}
use Rattle.opfs_machine.specs.Rows.{has_children}
use Rattle.opfs_state_rows.proofs.standing.ReadLines.{children-read}
use Rattle.opfs_state_rows.proofs.standing.standing.Standing.has_children.Goals as goal

pub returns : goal.returns
returns c = c.has_children.ensures ∙ (children-read c.self.inside.tree.rows c.self.inside.shed.buckets c.self.inside.register (c.args.unit.now, c.args.path.now) ∙ ap (λ (s : Seen). has_children s.machine (c.args.unit.now, c.args.path.now)) c.self.view_is)
