use Rattle.std.proofs.Common.{ap, ◌∙◌}
use Rattle.opfs_state_rows.specs.Standing.Seen.{Seen}
use Rattle.opfs_machine.specs.Rows.{first_locked, rows_within}
use Rattle.opfs_state_rows.proofs.standing.ReadLines.{locked-read}
use Rattle.opfs_state_rows.proofs.standing.standing.Standing.first_locked.Goals as goal

pub returns : goal.returns
returns c = c.first_locked.ensures ∙ (locked-read c.self.inside.tree.rows c.self.inside.shed.buckets c.self.inside.register (c.args.unit.now, c.args.path.now) ∙ ap (λ (s : Seen). first_locked (rows_within s.machine (c.args.unit.now, c.args.path.now))) c.self.view_is)
