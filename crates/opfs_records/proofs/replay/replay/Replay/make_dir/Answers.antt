use Rattle.opfs_records.proofs.replay.Parents.{parent_there}
use Rattle.std.proofs.Common.{sym, ◌∙◌}
use Rattle.opfs_records.proofs.replay.Writable.{dir_writable}
use Rattle.opfs_records.proofs.replay.replay.Replay.make_dir.Goals as goal

pub with_row-requires-clause-parent : goal.with_row-requires-clause-parent
with_row-requires-clause-parent c =
    rw (← c.self.view_is) (parent_there c.args.unit c.args.path c.in-Some.path c.self.inside.tree (rw c.in-Some.is at c.in_ok-path.ensures))

pub with_row-requires-clause-writable : goal.with_row-requires-clause-writable
with_row-requires-clause-writable c =
    dir_writable c.args.format c.args.unit c.args.path c.in-Some.path c.self.inside.tree c.requires (sym c.is_unit_in.ensures ∙ c.if-not-is_unit_in.false) (rw c.in-Some.is at c.in_ok-path.ensures)
