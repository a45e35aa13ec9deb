use Rattle.std.proofs.Common.{refl, sym, arith}
use Rattle.opfs_records.proofs.replay.usages.fill.Goals as goal

pub loop-row-init : goal.loop-row-init
loop-row-init c = rw c.make-walk.ensures (record {
  used = sym c.requires.none;
  usage = λ unit. omega (arith, c.requires.unused unit);
  persistent = refl;
  same_quota = refl;
  charge = omega arith;
})
