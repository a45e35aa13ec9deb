use Rattle.std.proofs.Common.{List, sym, subst, ◌∙◌}
use Rattle.opfs_base.specs.Texts.{Text}
use Rattle.opfs_records.specs.Checkpoint.Written.{IsWritableRow}
use Rattle.opfs_records.proofs.replay.Writable.{root_writable}
use Rattle.opfs_tree.specs.declared.row.Row.TheVariants as row
use Rattle.opfs_records.proofs.replay.replay.Replay.make_root.Goals as goal

pub with_row-requires-clause-writable : goal.with_row-requires-clause-writable
with_row-requires-clause-writable c =
    subst (λ (p : List Text). IsWritableRow (c.args.unit, p) row.Dir) (sym c.root-path.ensures) (root_writable c.args.format c.args.unit c.requires (sym c.is_unit_in.ensures ∙ c.if-not-is_unit_in.false))
