use Rattle.std.proofs.Common.{sym, ◌∙◌, arith}
use Rattle.rtrb.specs.Ring.{sent}
use Rattle.opfs_pipe.proofs.Lists.{cut-none}
use Rattle.opfs_pipe.proofs.Passes.{going-halts, going-more, going-none}
use Rattle.opfs_pipe.proofs.rounds.run_rounds.Goals as goal

pub loop-next-init : goal.loop-next-init
loop-next-init g c = record {
  going =
      going-none g.S.Store.tells c.args.reader.now c.args.writer.now c.args.span.now.from.now c.args.span.now.at c.args.span.now.end c.args.to.now c.requires.end.1 c.requires.snapshot c.requires.stream
      (cut-none c.args.span.now.from.now.bytes c.args.span.now.at c.args.span.now.end c.requires.end.2) (sent c.args.ring.now.source) c.requires.empty.0;
  pair = c.requires.pair;
  ring = c.requires.ring.0;
  none = c.requires.empty.1 ∙ sym c.requires.empty.0;
  free = omega (arith, c.requires.ring.1);
}

pub loop-next-preserved : goal.loop-next-preserved
loop-next-preserved g c = record {
  going =
      going-more g.S.Store.tells c.args.reader.now c.args.writer.now c.args.span.now.from.now c.args.span.now.at c.args.span.now.end c.args.to.now c.requires.end.1
      c.loop-next.reader c.loop-next.writer c.round.new.reader c.round.new.writer c.loop-next.next c.loop-next.to c.round.new.to (sent c.loop-next.ring.source) (sent c.round.new.ring.source) c.loop-next.invariant.going
      c.in-Ok.behind c.in-Ok.ensures.round;
  pair = c.round.ensures.pair;
  ring = c.round.ensures.ring;
  none = c.in-Ok.ensures.none;
  free = c.in-Ok.ensures.free;
}

pub returns-in-Err : goal.returns-in-Err
returns-in-Err g c =
    going-halts g.S.Store.tells c.args.reader.now c.args.writer.now c.args.span.now.from.now c.args.span.now.at c.args.span.now.end c.args.to.now c.requires.end.1
    c.loop-next.reader c.loop-next.writer c.round.new.reader c.round.new.writer c.loop-next.next c.loop-next.to c.round.new.to (sent c.loop-next.ring.source) (sent c.round.new.ring.source) c.loop-next.invariant.going
    c.in-Err.stop c.in-Err.ensures.round
