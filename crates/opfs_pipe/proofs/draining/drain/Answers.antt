use Rattle.std.proofs.Common.{[], ◌∷◌, length, rules, ap, ◌∙◌, arith}
use Rattle.std.proofs.lemmas.List.{length-append}
use Rattle.rtrb.specs.Ring.{received}
use Rattle.opfs_pipe.proofs.Drains.{drained-lost, drained-more, drained-none}
use Rattle.opfs_pipe.proofs.Joined.{written-end}
use Rattle.opfs_pipe.proofs.Rooms.{drain-room}
use Rattle.opfs_pipe.proofs.draining.drain.Goals as goal

pub loop-count-init : goal.loop-count-init
loop-count-init g c = record {
  drained = drained-none g.S.Store.tells c.args.writer.now c.args.to.now (received c.args.target.now) c.requires.stream;
  many = omega arith;
  within = omega arith;
  ring = search rules;
}

pub write-requires-clause-room : goal.write-requires-clause-room
write-requires-clause-room g c =
    let d = c.loop-count.invariant.drained in
    drain-room g.S.Store.tells c.args.writer.now c.loop-count.writer c.args.to.now c.loop-count.to (received c.args.target.now) (received c.loop-count.target) d 59500000 c.requires.few
    (omega (arith, c.loop-count.invariant.many, c.loop-count.invariant.within, ap length d.grown, length-append (received c.args.target.now) d.pieces))

pub write-requires-clause-at_end : goal.write-requires-clause-at_end
write-requires-clause-at_end g c =
    let d = c.loop-count.invariant.drained in
    written-end g.S.Store.tells c.args.writer.now c.loop-count.writer c.args.to.now c.loop-count.to d.pieces d.written c.requires.at_end

pub loop-count-preserved : goal.loop-count-preserved
loop-count-preserved g c = record {
  drained =
      drained-more g.S.Store.tells c.args.writer.now c.args.to.now (received c.args.target.now) c.loop-count.writer c.loop-count.to (received c.loop-count.target) c.loop-count.invariant.drained
      c.write.new.writer c.write.new.to c.in-Ok.piece (received c.pop.new.self) c.in-Ok.ensures.ok.0 c.in-Ok-write.ensures;
  many =
      ap length c.in-Ok.ensures.ok.0
      ∙ length-append (received c.loop-count.target) (c.in-Ok.piece ∷ [])
      ∙ omega (arith, c.loop-count.invariant.many);
  within = omega (arith, c.loop-count-test.true);
  ring = search rules;
}

pub returns-in-Err-clause-drained : goal.returns-in-Err-clause-drained
returns-in-Err-clause-drained g c =
    drained-lost g.S.Store.tells c.args.writer.now c.args.to.now (received c.args.target.now) c.loop-count.writer c.loop-count.to (received c.loop-count.target) c.loop-count.invariant.drained
    c.write.new.writer c.write.new.to c.in-Ok.piece (received c.pop.new.self) c.in-Err.stop c.in-Ok.ensures.ok.0 c.in-Err.ensures
