use Rattle.std.proofs.Common.{ℕ, ◌+◌, ◌≤◌, ◌-◌, length, take, drop, subst, arith}
use Rattle.opfs_kv.specs.Records.Scans.{HasRead}
use Rattle.opfs_kv.proofs.records.Steps.{rest-piece, stopped-then, read-then}
use Rattle.opfs_kv.proofs.records.scanning.scan.Goals as goal

pub returns-in-Err-clause-bad : goal.returns-in-Err-clause-bad
returns-in-Err-clause-bad c =
    let inside : c.loop-next.next ≤ c.args.at + length c.args.piece.now = omega (arith, c.loop-next-test.true) in
    stopped-then c.args.size c.args.at c.loop-next.next c.args.piece.now (take (length c.args.piece.now - (c.loop-next.next - c.args.at)) (drop (c.loop-next.next - c.args.at) c.args.piece.now))
    c.args.index.now c.loop-next.index c.in-Err.why
    (λ whole is. rest-piece whole c.args.size c.args.at c.loop-next.next c.args.piece.now c.loop-next.invariant.from inside is)
    c.loop-next.invariant.read c.in-Err.ensures.bad

pub returns-then-behind-next-clause-read : goal.returns-then-behind-next-clause-read
returns-then-behind-next-clause-read c whole is =
    let inside : c.loop-next.next ≤ c.args.at + length c.args.piece.now = omega (arith, c.loop-next-test.true) in
    read-then whole c.args.at c.args.index.now c.loop-next.next c.loop-next.index c.loop-next.next c.step.new.index (c.loop-next.invariant.read whole is)
    (subst (λ (n : ℕ). HasRead whole c.loop-next.next c.loop-next.index n c.step.new.index) c.if-behind-next.true
    (c.in-Ok.ensures.read whole (rest-piece whole c.args.size c.args.at c.loop-next.next c.args.piece.now c.loop-next.invariant.from inside is)))

pub loop-next-preserved : goal.loop-next-preserved
loop-next-preserved c =
    let inside : c.loop-next.next ≤ c.args.at + length c.args.piece.now = omega (arith, c.loop-next-test.true) in
    let next = c.in-Ok.ensures.next in
    record {
      from = omega (arith, next.0, c.loop-next.invariant.from);
      within = next.1;
      fitting = next.2;
      read = λ whole is.
          read-then whole c.args.at c.args.index.now c.loop-next.next c.loop-next.index c.in-Ok.behind c.step.new.index (c.loop-next.invariant.read whole is)
          (c.in-Ok.ensures.read whole (rest-piece whole c.args.size c.args.at c.loop-next.next c.args.piece.now c.loop-next.invariant.from inside is));
    }
