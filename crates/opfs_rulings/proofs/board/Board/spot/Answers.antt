use Rattle.std.proofs.Common.{sym}
use Rattle.opfs_rulings.proofs.Rising.{change_missing}
use Rattle.opfs_rulings.proofs.board.Board.spot.Goals as goal

pub returns-in-Err-clause-missing : goal.returns-in-Err-clause-missing
returns-in-Err-clause-missing c change =
    rw (← c.self.view_is) (sym (change_missing _ change _ c.self.inside.state.rows c.in-Err.ensures.missing.behind c.in-Err.ensures.missing.before))
