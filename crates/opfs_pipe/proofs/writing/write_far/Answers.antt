use Rattle.std.proofs.Common.{arith}
use Rattle.opfs_pipe.proofs.Joined.{write-does}
use Rattle.opfs_pipe.proofs.writing.write_far.Goals as goal

pub write_growing-done-requires-clause-small : goal.write_growing-done-requires-clause-small
write_growing-done-requires-clause-small g c = (omega (arith, c.requires.small), omega arith)

pub returns : goal.returns
returns g c =
    write-does g.S.Store.tells c.args.writer.now c.write_growing-done.new.self c.know_kept.ensures c.know_kept-2.ensures c.args.to.now c.write_growing-done.new.stream c.requires.stream c.args.bytes.now c.write_growing-done.result c.requires.at_end
    c.write_growing-done.ensures.shared c.write_growing-done.ensures.stream c.write_growing-done.ensures.same
