use Rattle.std.proofs.Common.{Some, sym, ap, subst, ◌∙◌, arith}
use Rattle.opfs_codec.specs.declared.change.Format.TheVariants.{New}
use Rattle.opfs_tree.specs.Rows.{Rows}
use Rattle.opfs_records.specs.Replay.Built.{IsSound}
use Rattle.opfs_records.specs.Replay.Sums.{charge_of, persistent_in}
use Rattle.opfs_records.proofs.checkpoint.StoredRows.{sound_stored}
use Rattle.opfs_image.specs.Agreeing.{built_in}
use Rattle.opfs_migrate.proofs.planning.read_plan.Goals as goal

pub returns-clause-fits : goal.returns-clause-fits
returns-clause-fits g c =
    let agrees = c.in_ok-image.ensures.agrees in
    let tree = c.in_ok-image.image.parts.tree in
    let same = sound_stored _ tree agrees.parts.sound.files in
    let fits = c.in_ok-body.ensures.fits _ (subst (IsSound _) (sym same) agrees.parts.sound) in
    omega (arith, fits, ap (λ (rows : Rows). charge_of New (record { rows = rows; persistent = persistent_in c.in_ok-image.image.parts.shed.buckets })) same, agrees.parts.charge_is, agrees.fits)

pub returns-clause-planned : goal.returns-clause-planned
returns-clause-planned g c = λ told. record {
  built = built_in c.in_ok-image.image.parts.tree c.in_ok-image.image.parts.shed;
  reads = c.in_ok-image.ensures.image told;
  counted = c.in_ok-files.ensures;
  builds =
      let sound = c.in_ok-image.ensures.agrees.parts.sound in
      let same = sound_stored _ c.in_ok-image.image.parts.tree sound.files in
      c.in_ok-body.ensures.builds _ (subst (IsSound _) (sym same) sound)
      ∙ ap (λ (rows : Rows). Some (record { rows = rows; persistent = persistent_in c.in_ok-image.image.parts.shed.buckets })) same;
}
