use Rattle.opfs_image.specs.Agreeing.{built_in}
use Rattle.opfs_commands.proofs.Dumping.{put_image, reads_only}
use Rattle.opfs_commands.proofs.dumps.put_image.Goals as goal

pub returns-clause-only : goal.returns-clause-only
returns-clause-only g c = reads_only g.D.Disk c.args.image.journal c.dump-dumped.new.from.journal c.give_back.result c.dump-dumped.ensures.dumps.reads c.give_back.ensures.disk

pub returns-clause-put : goal.returns-clause-put
returns-clause-put g c =
    let image = c.args.image in
    put_image g.D.Disk g.K.Sink image.journal c.dump-dumped.new.from.journal c.give_back.result c.args.sink.now c.dump-dumped.new.sink image.geometry (built_in image.tree image.shed) c.dump_answer.result
    (λ told. (image.image_of told).reads) c.give_back.ensures.disk c.dump-dumped.result c.dump-dumped.ensures.dumps
    c.dump_answer.ensures.done c.dump_answer.ensures.fault c.dump_answer.ensures.sink c.dump_answer.ensures.memory

pub returns-clause-later : goal.returns-clause-later
returns-clause-later g c = c.dump-dumped.ensures.dumps.later
