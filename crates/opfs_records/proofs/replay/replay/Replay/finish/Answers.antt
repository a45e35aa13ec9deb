use Rattle.std.proofs.Common.{sym, subst, arith}
use Rattle.std.specs.List.{AllByRecursion}
use Rattle.opfs_codec.specs.Spelling.{IsKey}
use Rattle.opfs_codec.specs.declared.change.Format.TheVariants.{New}
use Rattle.opfs_records.specs.Replay.Sums.{charge_of}
use Rattle.opfs_records.proofs.replay.Filling.{unused_at, unused_whole}
use Rattle.opfs_records.proofs.replay.Keeping.{kept_sound, kept_used}
use Rattle.opfs_records.proofs.replay.replay.Replay.finish.Goals as goal

pub fill-requires-clause-unused : goal.fill-requires-clause-unused
fill-requires-clause-unused c unit = unused_at c.self.inside.shed.buckets c.self.invariant.modes unit

pub fill-requires-clause-none : goal.fill-requires-clause-none
fill-requires-clause-none c = unused_whole c.self.inside.shed.buckets c.self.invariant.modes

pub returns-clause-sound : goal.returns-clause-sound
returns-clause-sound c = rw (← c.self.view_is) (kept_sound c.self.inside.tree c.self.inside.map c.self.inside.shed.buckets c.self.inside.most c.self.inside.charge c.self.invariant)

pub returns-clause-writable : goal.returns-clause-writable
returns-clause-writable c = (c.self.invariant.writable.0, subst (AllByRecursion (IsKey New)) (sym c.in_ok-rows.ensures.persistent) c.self.invariant.writable.1)

pub returns-clause-used : goal.returns-clause-used
returns-clause-used c = rw (← c.self.view_is) (kept_used c.self.inside.tree c.self.inside.map c.self.inside.shed.buckets c.self.inside.most c.self.inside.charge c.self.invariant)

pub returns-clause-charge : goal.returns-clause-charge
unfolding charge_of
returns-clause-charge c = rw (← c.self.view_is) (omega (arith, c.in_ok-charge.ensures, c.in_ok-rows.ensures.charge, c.self.invariant.sum))
