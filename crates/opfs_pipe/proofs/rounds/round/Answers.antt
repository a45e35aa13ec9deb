use Rattle.rtrb.specs.Ring.{known_items, received, sent}
use Rattle.opfs_pipe.proofs.Halts.{halted-early, halted-late, went-on}
use Rattle.opfs_pipe.proofs.rounds.round.Goals as goal

pub returns-in-Err-clause-round : goal.returns-in-Err-clause-round
returns-in-Err-clause-round g c =
    halted-early g.S.Store.tells c.args.reader.now c.work-drained.new.reader c.args.writer.now c.work-drained.new.writer c.args.rest.now.from.now c.args.rest.now.at c.args.rest.now.next c.args.rest.now.end c.args.to.now c.work-drained.new.to
    (sent c.args.ring.now.source) (sent c.work-drained.new.ring.source) (sent c.slots_beside.new.producer) (received c.args.ring.now.target) (received c.work-drained.new.ring.target) (received c.slots_beside.new.self) (known_items c.slots_beside.new.self)
    c.work-drained.result.1 c.work-drained.result.0 c.work-drained.ensures.filled c.work-drained.ensures.drained c.requires.none c.slots_beside.ensures.producer.1 c.slots_beside.ensures.looked.1 c.slots_beside.ensures.fifo
    c.in-Err.stop c.in-Err.is

pub returns-in-Err-drain_known-clause-round : goal.returns-in-Err-drain_known-clause-round
returns-in-Err-drain_known-clause-round g c =
    halted-late g.S.Store.tells c.args.reader.now c.work-drained.new.reader c.args.writer.now c.work-drained.new.writer c.args.rest.now.from.now c.args.rest.now.at c.args.rest.now.next c.args.rest.now.end c.args.to.now c.work-drained.new.to
    (sent c.args.ring.now.source) (sent c.work-drained.new.ring.source) (sent c.slots_beside.new.producer) (received c.args.ring.now.target) (received c.work-drained.new.ring.target) (received c.slots_beside.new.self) (known_items c.slots_beside.new.self)
    c.work-drained.result.1 c.work-drained.result.0 c.work-drained.ensures.filled c.work-drained.ensures.drained c.requires.none c.slots_beside.ensures.producer.1 c.slots_beside.ensures.looked.1 c.slots_beside.ensures.fifo
    c.in-Ok.is c.drain_known.new.writer c.drain_known.new.to (received c.drain_known.new.target) (known_items c.drain_known.new.target) c.drain_known.ensures.known
    c.in-Err-drain_known.stop c.in-Err-drain_known.ensures.drained

pub returns-clause-round : goal.returns-clause-round
returns-clause-round g c =
    went-on g.S.Store.tells c.args.reader.now c.work-drained.new.reader c.args.writer.now c.work-drained.new.writer c.args.rest.now.from.now c.args.rest.now.at c.args.rest.now.next c.args.rest.now.end c.args.to.now c.work-drained.new.to
    (sent c.args.ring.now.source) (sent c.work-drained.new.ring.source) (sent c.slots_beside.new.producer) (received c.args.ring.now.target) (received c.work-drained.new.ring.target) (received c.slots_beside.new.self) (known_items c.slots_beside.new.self)
    c.work-drained.result.1 c.work-drained.result.0 c.work-drained.ensures.filled c.work-drained.ensures.drained c.requires.none c.slots_beside.ensures.producer.1 c.slots_beside.ensures.looked.1 c.slots_beside.ensures.fifo
    c.in-Ok.is c.drain_known.new.writer c.drain_known.new.to (received c.drain_known.new.target) (known_items c.drain_known.new.target) c.drain_known.ensures.known
    c.in-Ok-drain_known.ensures.none c.in-Ok-drain_known.ensures.drained (sent c.slots_beside-2.new.self) c.slots_beside-2.ensures.looked.1
