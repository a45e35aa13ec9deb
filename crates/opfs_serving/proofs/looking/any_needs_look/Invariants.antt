use Rattle.opfs_serving.proofs.Quiet.{AreAtRestBelow}
use Rattle.opfs_serving.proofs.looking.any_needs_look.Given as goal

abbrev pub invariant-loop-place : goal.invariant-loop-place
invariant-loop-place g l = AreAtRestBelow (g.S.Store.opened (g.S.Chronicle.opening l.store)) (g.S.Chronicle.entries l.store) l.seats l.place
