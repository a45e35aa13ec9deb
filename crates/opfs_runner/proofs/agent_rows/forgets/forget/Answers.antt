use Rattle.std.proofs.Common.{◌-◌, slice_set, sym, ap, ◌∙◌, subst}
use Rattle.opfs_runner.specs.RunLaws.Leaving.{kinds_without}
use Rattle.opfs_runner.specs.AgentRows.Tables.{kinds_of, HasTable}
use Rattle.opfs_runner.proofs.agent_rows.Forgotten.{snapshot-is, snapshot-of, table-gone, kinds-gone}
use Rattle.opfs_runner.proofs.agent_rows.forgets.forget.Goals as goal

pub unreachable-requires : goal.unreachable-requires
unreachable-requires g c =
    let there = rw c.in-Some.is at c.requires.snapshot in
    let before = c.replace-before in
    let s = snapshot-of before.result (snapshot-is c.args.agent_rows.now.items c.in-Some.row there before.result _ (before.ensures.value ∙ c.index_mut.ensures.value)) in
    c.in_default-before.not-Snapshot s.0 s.1

pub returns-clause-table : goal.returns-clause-table
returns-clause-table g c =
    let agent_rows = c.args.agent_rows.now.items in
    let there = rw c.in-Some.is at c.requires.snapshot in
    subst (λ s. HasTable g.S.Store.tells c.args.agent.now (slice_set agent_rows (c.in-Some.row - 1) s)) (sym c.replace-before.ensures.after)
    (table-gone agent_rows c.in-Some.row there g.S.Store.tells c.args.agent.now c.requires.table)

pub returns-clause-kinds : goal.returns-clause-kinds
returns-clause-kinds g c =
    let agent_rows = c.args.agent_rows.now.items in
    let there = rw c.in-Some.is at c.requires.snapshot in
    ap (λ s. kinds_of (slice_set agent_rows (c.in-Some.row - 1) s)) c.replace-before.ensures.after
    ∙ kinds-gone agent_rows c.in-Some.row there
    ∙ ap (kinds_without (kinds_of agent_rows)) (sym c.in-Some.is)
