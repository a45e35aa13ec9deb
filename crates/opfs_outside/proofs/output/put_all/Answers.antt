use Rattle.std.proofs.Common.{refl, arith}
use Rattle.opfs_outside.proofs.Putting.{more_put}
use Rattle.opfs_outside.proofs.output.put_all.Goals as goal

pub loop-rest-preserved : goal.loop-rest-preserved
loop-rest-preserved g c = record {
  so_far = more_put g.K.Sink c.args.sink.now c.loop-rest.sink c.write.new.self _ _ c.in-Ok.count _ refl c.loop-rest.invariant.so_far c.in-Ok.ensures.taken;
  later = omega (arith, c.loop-rest.invariant.later, c.write.ensures.later);
}
