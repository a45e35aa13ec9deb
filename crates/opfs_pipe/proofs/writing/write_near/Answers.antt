use Rattle.opfs_pipe.proofs.Near.{near-does}
use Rattle.opfs_pipe.proofs.writing.write_near.Goals as goal

pub returns : goal.returns
returns g c =
    near-does g.S.Store.tells c.args.writer.now c.write_within-done.new.self c.know_kept.ensures c.know_kept-2.ensures c.args.to.now c.write_within-done.new.stream c.requires.stream c.args.bytes.now c.requires.near c.requires.at_end
    c.write_within-done.ensures.stream c.write_within-done.ensures.same.0 c.write_within-done.ensures.same.1 c.write_within-done.result c.write_within-done.ensures.local
