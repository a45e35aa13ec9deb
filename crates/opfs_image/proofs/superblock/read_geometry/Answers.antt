use Rattle.std.proofs.Common.{inr, arith, sym, ◌∙◌}
use Rattle.opfs_image.specs.Superblock.{geometry_of}
use Rattle.opfs_image.proofs.Heads.{ok_of, err_of, short_is, long_is}
use Rattle.opfs_image.proofs.superblock.read_geometry.Goals as goal

pub returns-then-len-lt-BLOCK_SIZE-clause-refused : goal.returns-then-len-lt-BLOCK_SIZE-clause-refused
returns-then-len-lt-BLOCK_SIZE-clause-refused g c =
    let laws = g.met.D.Disk in
    inr (λ told. short_is (g.D.Disk.content c.args.disk.now) c.len-len.result (laws.full told c.args.disk.now ∙ sym c.len-len.ensures) c.if-len-lt-BLOCK_SIZE.true)

pub returns-clause-geometry : goal.returns-clause-geometry
returns-clause-geometry g c =
    let laws = g.met.D.Disk in
    ok_of g.D.Disk.tells (geometry_of (g.D.Disk.content c.args.disk.now)) c.judge.result
    (λ told. long_is (g.D.Disk.content c.args.disk.now) c.len-len.result c.in_ok-head.head c.judge.result (laws.full told c.args.disk.now ∙ sym c.len-len.ensures) (omega (arith, c.if-len-lt-BLOCK_SIZE.false)) (c.in_ok-head.ensures.bytes told) c.judge.ensures.judged)

pub returns-clause-refused : goal.returns-clause-refused
returns-clause-refused g c =
    let laws = g.met.D.Disk in
    err_of g.D.Disk.tells _ (geometry_of (g.D.Disk.content c.args.disk.now)) c.judge.result
    (λ told. long_is (g.D.Disk.content c.args.disk.now) c.len-len.result c.in_ok-head.head c.judge.result (laws.full told c.args.disk.now ∙ sym c.len-len.ensures) (omega (arith, c.if-len-lt-BLOCK_SIZE.false)) (c.in_ok-head.ensures.bytes told) c.judge.ensures.judged)
