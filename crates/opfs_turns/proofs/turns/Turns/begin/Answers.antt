use Rattle.std.proofs.Common.{List, sym, subst}
use Rattle.opfs_hist.specs.declared.entry.Entry.{Entry}
use Rattle.opfs_turns.specs.Agents.{IsAgent}
use Rattle.opfs_turns.specs.Calls.{new_agent}
use Rattle.opfs_turns.proofs.Beginning.{new-is}
use Rattle.opfs_turns.proofs.turns.Turns.begin.Goals as goal

pub invariant_of-result : goal.invariant_of-result
invariant_of-result g c =
    subst (λ (p : List Entry). IsAgent g.S.Store.tells (record (new_agent g.S.Store.opened c.args.pass c.args.key) { pending = p })) (sym c.make.ensures)
    (new-is g.S.Store.tells g.S.Store.opened c.args.pass c.args.key c.requires)
