use Rattle.std.proofs.Common.{◌≡◌, ◌-◌, min, rules, sym, ◌∙◌, subst, arith}
use Rattle.rtrb.specs.Ring.{sent}
use Rattle.opfs_pipe.specs.Sides.{Filled}
use Rattle.opfs_pipe.proofs.Filled.{filled-more, filled-none, filled-still}
use Rattle.opfs_pipe.proofs.Rooms.{fill-room}
use Rattle.opfs_pipe.proofs.filling.fill.Goals as goal

pub loop-place-init : goal.loop-place-init
loop-place-init g c = record {
  filled = filled-none g.S.Store.tells c.args.reader.now c.args.from.now c.args.at c.args.next c.args.end (sent c.args.source.now) c.requires.cut c.requires.snapshot;
  ring = search rules;
  on = omega arith;
  free = c.requires.free;
}

pub push_piece-requires-clause-room : goal.push_piece-requires-clause-room
push_piece-requires-clause-room g c =
    fill-room g.S.Store.tells c.args.reader.now c.loop-place.reader c.args.from.now c.args.at c.args.next c.args.end (sent c.args.source.now) (sent c.loop-place.source) c.loop-place.place c.loop-place.invariant.filled c.requires.few c.requires.end.1

pub push_piece-requires-clause-snapshot : goal.push_piece-requires-clause-snapshot
push_piece-requires-clause-snapshot g c = c.loop-place.invariant.filled.sliced.has

pub returns-in-Err-clause-filled : goal.returns-in-Err-clause-filled
returns-in-Err-clause-filled g c = (
  c.in-Err.ensures.why,
  (
    c.loop-place.place,
    subst (λ ps. Filled g.S.Store.tells c.args.reader.now c.push_piece.new.reader c.args.from.now c.args.at c.args.next c.args.end (sent c.args.source.now) ps c.loop-place.place) (sym c.in-Err.ensures.left.0)
        (filled-still g.S.Store.tells c.args.reader.now c.args.from.now c.args.at c.args.next c.args.end (sent c.args.source.now) c.requires.cut c.loop-place.reader (sent c.loop-place.source) c.loop-place.place c.loop-place.invariant.filled
        c.push_piece.new.reader c.in-Err.ensures.left.1),
  ),
)

pub returns-then-free-eq0-clause-filled : goal.returns-then-free-eq0-clause-filled
returns-then-free-eq0-clause-filled g c =
    let size_is : c.min-size.result ≡ min 4096 (c.args.end - c.loop-place.place) = search rules in (
      omega (arith, c.loop-place.invariant.on, c.loop-place-test.true, size_is),
      filled-more g.S.Store.tells c.args.reader.now c.args.from.now c.args.at c.args.next c.args.end (sent c.args.source.now) c.requires.cut c.loop-place.reader (sent c.loop-place.source) c.loop-place.place c.loop-place.invariant.filled
          c.push_piece.new.reader c.min-size.result (sent c.slots-free.new.self) size_is c.loop-place-test.true c.requires.end.0 (c.slots-free.ensures.looked.1 ∙ c.in-Ok.ensures.pushed) c.in-Ok.ensures.sliced,
    )

pub loop-place-preserved : goal.loop-place-preserved
loop-place-preserved g c =
    let size_is : c.min-size.result ≡ min 4096 (c.args.end - c.loop-place.place) = search rules in
    record {
      filled =
          filled-more g.S.Store.tells c.args.reader.now c.args.from.now c.args.at c.args.next c.args.end (sent c.args.source.now) c.requires.cut c.loop-place.reader (sent c.loop-place.source) c.loop-place.place c.loop-place.invariant.filled
          c.push_piece.new.reader c.min-size.result (sent c.slots-free.new.self) size_is c.loop-place-test.true c.requires.end.0 (c.slots-free.ensures.looked.1 ∙ c.in-Ok.ensures.pushed) c.in-Ok.ensures.sliced;
      ring = search rules;
      on = omega (arith, c.loop-place.invariant.on);
      free = search rules;
    }
