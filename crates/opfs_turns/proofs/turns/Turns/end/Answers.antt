use Rattle.opfs_turns.specs.Agents.{seen}
use Rattle.opfs_turns.proofs.Beginning.{may-end}
use Rattle.opfs_turns.proofs.turns.Turns.end.Goals as goal

pub in_turn-requires-clause-may : goal.in_turn-requires-clause-may
in_turn-requires-clause-may g c =
    may-end g.S.Store.tells (seen g.S.Store.opened c.self.inside.caller.pass c.self.inside.caller.notes) c.fresh-work.result c.fresh-work.ensures (rw (← c.self.view_is) at c.requires.none)
