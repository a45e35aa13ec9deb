use Rattle.std.proofs.Common.{ℕ, ◌≡◌, ◌≤◌, ◌++◌, ap, ◌∙◌, false, arith}
use Rattle.opfs_image.specs.Agreeing.{built_in}
use Rattle.opfs_image.specs.Superblock.{data_base, image_size}
use Rattle.opfs_records.specs.Replay.Sums.{persistent_in}
use Rattle.opfs_tools.proofs.Filled.{rows_lie}
use Rattle.opfs_tools.proofs.Keeping.{journal_kept, image_kept}
use Rattle.opfs_dump.specs.Dumping.Pieces.{head_text, rest_text}
use Rattle.opfs_dump.proofs.dumping.Putting.{dumps_same}
use Rattle.opfs_dump.proofs.dumping.Rests.{text_whole}
use Rattle.opfs_dump.proofs.dumping.dumping.dump.Goals as goal

pub put_parts-requires-clause-lies : goal.put_parts-requires-clause-lies
put_parts-requires-clause-lies g c =
    let from = c.args.from.now in
    let fits : image_size from.geometry ≤ g.D.Disk.size from.journal.disk = from.journal_of.length in
    let base : c.data_base-base.result ≡ data_base from.geometry = c.data_base-base.ensures.same in
    rows_lie c.data_base-base.result from.geometry.blocks (g.D.Disk.size from.journal.disk) from.tree (omega (arith, fits, base)) from.agrees.parts.sound.files

pub invariant_of-from : goal.invariant_of-from
invariant_of-from g c =
    let laws = g.met.D.Disk in
    let from = c.args.from.now in
    let reads = c.put_parts.ensures.reads in
    record {
      agrees = from.agrees;
      journal_of = journal_kept g.D.Disk from.geometry from.journal c.put_parts.new.journal reads from.journal_of;
      image_of = λ told. image_kept g.D.Disk laws.falls from.geometry _ from.journal c.put_parts.new.journal told reads (from.image_of told);
    }

pub returns-clause-dumps : goal.returns-clause-dumps
returns-clause-dumps g c =
    let laws = g.met.D.Disk in
    let from = c.args.from.now in
    dumps_same g.D.Disk g.K.Sink laws.falls from.journal c.put_parts.new.journal c.args.sink.now c.put_parts.new.sink _ _ c.put_parts.result c.put_parts.ensures
    (λ x. ap (λ (n : ℕ). head_text from.geometry (persistent_in from.shed.buckets) ++ rest_text false n x from.tree) c.data_base-base.ensures.same ∙ text_whole from.geometry (data_base from.geometry) x (built_in from.tree from.shed))
