use Rattle.std.proofs.Common.{◌≤◌, length, ap, subst}
use Rattle.opfs_codec.specs.declared.change.Format.TheVariants.{New}
use Rattle.opfs_tree.specs.Ready.Ready.{ReadyRows}
use Rattle.opfs_records.specs.Replay.Built.{IsSound}
use Rattle.opfs_records.specs.Replay.Sums.{charge_of, persistent_in}
use Rattle.opfs_records.specs.Checkpoint.Written.{stored_rows}
use Rattle.opfs_tree.specs.Rows.{Rows}
use Rattle.opfs_dump.proofs.loading.planning.spell.Goals as goal

pub returns-clause-fits : goal.returns-clause-fits
returns-clause-fits c size sound =
    let rows = ap (λ (s : ReadyRows). s.rows) c.make-tree.ensures in
    subst (λ (xs : Rows). IsSound size (stored_rows xs) → length c.snapshot.new.into.items ≤ charge_of New (record { rows = stored_rows xs; persistent = persistent_in c.args.shed.now.buckets })) rows
    (c.in_ok-snapshot.ensures.fits size) sound
