use Rattle.opfs_rulings.proofs.Totals.{held_at, charge_is}
use Rattle.opfs_rulings.proofs.board.Board.charge.Goals as goal

pub returns-in_ok-total-in-Some : goal.returns-in_ok-total-in-Some
returns-in_ok-total-in-Some c = rw (← c.self.view_is) (charge_is c.self.inside.state _ _ _ (held_at _ _ _ c.in-Some.is c.self.invariant.kept.tallied) c.in_ok-blocks-in-Some.ensures c.in_ok-total-in-Some.ensures)
