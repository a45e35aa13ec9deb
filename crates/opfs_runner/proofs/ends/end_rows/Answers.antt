use Rattle.std.proofs.Common.{ap, sym, ◌∙◌, subst, arith}
use mathlib.Core.List.{reverse}
use Rattle.std.proofs.lemmas.List.{reverse-reverse}
use Rattle.opfs_runner.proofs.Endings.{Ending, ending-begins, ending-first, ending-more, ending-none, ending-closes, pop-left, nothing-left}
use Rattle.opfs_runner.proofs.ends.end_rows.Goals as goal

pub loop-agent_row-init : goal.loop-agent_row-init
loop-agent_row-init g c =
    let T = g.S.Store.tells in
    let a = c.args.agent.now in
    let agent_rows = c.args.agent_rows.items in
    subst (Ending T a agent_rows a) (sym (ap reverse c.reverse.ensures.items ∙ reverse-reverse agent_rows)) (ending-begins T a agent_rows c.know_kept.ensures c.requires.table c.requires.few)

pub end_agent_row-requires-clause-agent_row : goal.end_agent_row-requires-clause-agent_row
end_agent_row-requires-clause-agent_row g c =
    let T = g.S.Store.tells in
    let left = pop-left c.loop-agent_row.agent_rows.items c.pop.new.self.items c.in-Some.agent_row c.in-Some.ensures.items in
    ending-first T c.args.agent.now c.loop-agent_row.agent c.args.agent_rows.items c.in-Some.agent_row (reverse c.pop.new.self.items)
    (subst (Ending T c.args.agent.now c.args.agent_rows.items c.loop-agent_row.agent) left c.loop-agent_row.invariant)

pub loop-agent_row-preserved : goal.loop-agent_row-preserved
loop-agent_row-preserved g c =
    let T = g.S.Store.tells in
    let left = pop-left c.loop-agent_row.agent_rows.items c.pop.new.self.items c.in-Some.agent_row c.in-Some.ensures.items in
    ending-more T c.args.agent.now c.loop-agent_row.agent c.end_agent_row.new.agent c.args.agent_rows.items (reverse c.pop.new.self.items) c.in-Some.agent_row
    (subst (Ending T c.args.agent.now c.args.agent_rows.items c.loop-agent_row.agent) left c.loop-agent_row.invariant) c.know_kept-in-loop-agent_row.ensures c.end_agent_row.ensures

pub returns-clause-none : goal.returns-clause-none
returns-clause-none g c =
    ending-none g.S.Store.tells c.args.agent.now c.loop-agent_row.agent c.args.agent_rows.items (reverse c.loop-agent_row.agent_rows.items) (nothing-left c.loop-agent_row.agent_rows.items (omega (arith, c.in_default.ensures.cases.0, c.loop-agent_row.agent_rows.ok))) c.loop-agent_row.invariant

pub returns-clause-closes : goal.returns-clause-closes
returns-clause-closes g c =
    ending-closes g.S.Store.tells c.args.agent.now c.loop-agent_row.agent c.args.agent_rows.items (reverse c.loop-agent_row.agent_rows.items) (nothing-left c.loop-agent_row.agent_rows.items (omega (arith, c.in_default.ensures.cases.0, c.loop-agent_row.agent_rows.ok))) c.loop-agent_row.invariant
