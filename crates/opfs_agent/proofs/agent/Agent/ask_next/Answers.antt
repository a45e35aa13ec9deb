use Rattle.std.proofs.Common.{List, sym, subst}
use Rattle.opfs_base.specs.Texts.{Text}
use Rattle.opfs_base.specs.declared.locator.Locator.{Locator}
use Rattle.opfs_hist.specs.declared.op.Op.TheVariants as op
use Rattle.opfs_turns.specs.Asking.Answers.{MayAskPast}
use Rattle.opfs_agent.proofs.Iterating.{may-next}
use Rattle.opfs_agent.proofs.agent.Agent.ask_next.Goals as goal

pub ask_past-requires-clause-may : goal.ask_past-requires-clause-may
ask_past-requires-clause-may g c =
    subst (λ (past : List Text). MayAskPast c.self.inside.turns (op.Next c.iter.inside.row c.in-Ok.dir) past) (sym c.as_slice.ensures.value)
    (subst (λ (dir : Locator). MayAskPast c.self.inside.turns (op.Next c.iter.inside.row dir) c.iter.inside.given.items) (sym c.in-Ok.ensures)
    (may-next c.self.inside.turns (record { row = c.iter.inside.row; dir = c.iter.inside.dir; given = c.iter.inside.given.items }) (rw (← c.self.view_is, ← c.iter.view_is) at c.requires.iter)))
