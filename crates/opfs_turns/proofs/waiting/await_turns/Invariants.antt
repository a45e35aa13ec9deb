use Rattle.std.proofs.Common.{◌≡◌}
use Rattle.opfs_turns.specs.Agents.{IsAgent, seen}
use Rattle.opfs_turns.specs.Waiting.{HasWaited}
use Rattle.opfs_turns.proofs.waiting.await_turns.Given as goal

-- the agent has waited or not, and its pass is idle
abbrev pub invariant-loop : goal.invariant-loop
invariant-loop g l =
    IsAgent g.S.Store.tells (seen g.S.Store.opened l.caller.pass l.caller.notes)
    × ((l.caller.pass ≡ record l.initial.caller.pass { base = l.caller.pass.base })
    × HasWaited g.S.Store.tells (seen g.S.Store.opened l.initial.caller.pass l.initial.caller.notes) (seen g.S.Store.opened l.caller.pass l.caller.notes) l.tag)
