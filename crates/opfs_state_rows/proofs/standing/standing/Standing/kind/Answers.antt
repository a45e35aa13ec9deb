use Rattle.std.proofs.Common.{option_map, ap, ◌∙◌}
use Rattle.opfs_state_rows.specs.Standing.Seen.{Seen}
use Rattle.opfs_machine.specs.Rows.{kind_of, row_at}
use Rattle.opfs_state_rows.proofs.standing.ReadLines.{kind-read}
use Rattle.opfs_state_rows.proofs.standing.standing.Standing.kind.Goals as goal

pub returns : goal.returns
returns c = c.kind.ensures ∙ (kind-read c.self.inside.tree.rows c.self.inside.shed.buckets c.self.inside.register (c.args.unit.now, c.args.path.now) ∙ ap (λ (s : Seen). option_map kind_of (row_at s.machine (c.args.unit.now, c.args.path.now))) c.self.view_is)
