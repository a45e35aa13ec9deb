use Rattle.std.proofs.Common.{[], ◌∷◌, ◌++◌, append_assoc, length, rules, sym, ap, ◌∙◌, arith}
use Rattle.std.proofs.lemmas.List.{length-append}
use Rattle.rtrb.specs.Ring.{known_items, received}
use Rattle.opfs_pipe.proofs.Drains.{drained-lost, drained-more}
use Rattle.opfs_pipe.proofs.Rooms.{drain-room}
use Rattle.opfs_pipe.proofs.draining.drain_known.Goals as goal

pub write-requires-clause-room : goal.write-requires-clause-room
write-requires-clause-room g c =
    let d = c.loop-left.invariant.drained in
    let i = c.loop-left.invariant in
    drain-room g.S.Store.tells c.args.writer.now c.loop-left.writer c.args.to.now c.loop-left.to (received c.args.target.now) (received c.loop-left.target) d c.args.writer.now.entries (c.requires.few.0, omega arith)
    (omega (
      arith,
      c.requires.few.1,
      ap length i.known,
      length-append (received c.loop-left.target) (known_items c.loop-left.target),
      length-append (received c.args.target.now) (known_items c.args.target.now),
      ap length d.grown,
      length-append (received c.args.target.now) d.pieces,
    ))

pub loop-left-preserved : goal.loop-left-preserved
loop-left-preserved g c =
    let i = c.loop-left.invariant in
    let popped = c.pop_known-piece.ensures.received in
    record {
      drained =
          drained-more g.S.Store.tells c.args.writer.now c.args.to.now (received c.args.target.now) c.loop-left.writer c.loop-left.to (received c.loop-left.target) i.drained
          c.write.new.writer c.write.new.to c.pop_known-piece.result (received c.pop_known-piece.new.self) popped.0 c.in-Ok.ensures;
      known =
          ap (λ ps. ps ++ known_items c.pop_known-piece.new.self) popped.0
          ∙ append_assoc (received c.loop-left.target) (c.pop_known-piece.result ∷ []) (known_items c.pop_known-piece.new.self)
          ∙ ap (λ ps. received c.loop-left.target ++ ps) (sym popped.1)
          ∙ i.known;
      many = omega (arith, i.many, ap length popped.1);
      ring = search rules;
    }

pub returns-in-Err-clause-drained : goal.returns-in-Err-clause-drained
returns-in-Err-clause-drained g c =
    drained-lost g.S.Store.tells c.args.writer.now c.args.to.now (received c.args.target.now) c.loop-left.writer c.loop-left.to (received c.loop-left.target) c.loop-left.invariant.drained
    c.write.new.writer c.write.new.to c.pop_known-piece.result (received c.pop_known-piece.new.self) c.in-Err.stop c.pop_known-piece.ensures.received.0 c.in-Err.ensures
