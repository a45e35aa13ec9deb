use Rattle.std.proofs.Common.{◌+◌, ◌++◌, ◌∷◌, ℕ, List, [], sym, ap, ◌∙◌, subst, arith, false}
use Rattle.opfs_hist.specs.declared.entry.Entry.{Entry}
use Rattle.opfs_turns.specs.Agents.{IsAgent, seen}
use Rattle.opfs_turns.proofs.Keeping.{kept-agent, pending-few}
use Rattle.opfs_turns.proofs.Turning.{number-small}
use Rattle.opfs_turns.proofs.turns.Turns.keep.Goals as goal

pub add-requires : goal.add-requires
add-requires g c = omega (arith, pending-few g.S.Store.tells (seen g.S.Store.opened c.self.inside.caller.pass c.self.inside.caller.notes) c.self.invariant (rw (← c.self.view_is) at c.requires.room))

pub overflow_add-self : goal.overflow_add-self
overflow_add-self g c = omega (arith, number-small g.S.Store.tells (seen g.S.Store.opened c.self.inside.caller.pass c.self.inside.caller.notes) c.self.invariant (rw (← c.self.view_is) at c.requires.room))

pub invariant_of-self : goal.invariant_of-self
invariant_of-self g c =
    subst (λ (p : List Entry). IsAgent g.S.Store.tells (seen g.S.Store.opened c.self.inside.caller.pass (record c.self.inside.caller.notes { pending = p; number = c.self.inside.caller.notes.number + 1; entries = c.self.inside.caller.notes.entries + 1; rows = c.self.inside.caller.notes.rows + c.args.made })))
    (sym (c.add.ensures ∙ ap (λ (k : ℕ). c.self.inside.caller.notes.pending ++ record { agent = k; number = c.self.inside.caller.notes.number; op = c.args.op; reply = c.args.reply; turn = false } ∷ []) c.agent.ensures))
    (kept-agent g.S.Store.tells (seen g.S.Store.opened c.self.inside.caller.pass c.self.inside.caller.notes) c.self.invariant c.args.op c.args.reply c.args.made (rw (← c.self.view_is) at c.requires.local))
