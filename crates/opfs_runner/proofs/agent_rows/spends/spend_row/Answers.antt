use Rattle.std.proofs.Common.{◌∙◌, Some, ap, sym, subst}
use Rattle.opfs_runner.specs.AgentRows.Tables.{kinds_of, kind_left, IsSpent, HasTable}
use Rattle.opfs_runner.proofs.agent_rows.Handed.{handed-has, handed-fits, handed-kind, handed-within, handed-taken, handed-place, handed-table}
use Rattle.opfs_runner.proofs.agent_rows.Using.{spent-agent_row, spends-row, spends-none, spent-told}
use Rattle.opfs_runner.proofs.agent_rows.spends.spend_row.Goals as goal

pub spend_agent_row-agent_row-requires-clause-agent_row : goal.spend_agent_row-agent_row-requires-clause-agent_row
spend_agent_row-agent_row-requires-clause-agent_row g c =
    let a = c.args.agent.now in
    let o = c.args.op.now in
    let agent_rows = c.args.agent_rows.now.items in
    let found = spent-agent_row a.key agent_rows c.args.row o c.requires.spends c.requires.may.names in
    handed-has agent_rows c.args.row o (IsSpent o) found (spends-row c.args.row o c.requires.spends) g.S.Store.tells a a c.know_kept.ensures c.know_kept.ensures c.requires.table
    c.replace-agent_row.result _ (c.replace-agent_row.ensures.value ∙ c.index_mut.ensures.value)

pub spend_agent_row-agent_row-requires-clause-spent : goal.spend_agent_row-agent_row-requires-clause-spent
spend_agent_row-agent_row-requires-clause-spent g c =
    let o = c.args.op.now in
    let agent_rows = c.args.agent_rows.now.items in
    let found = spent-agent_row c.args.agent.now.key agent_rows c.args.row o c.requires.spends c.requires.may.names in
    handed-fits agent_rows c.args.row o (IsSpent o) found (spends-row c.args.row o c.requires.spends) c.replace-agent_row.result _ (c.replace-agent_row.ensures.value ∙ c.index_mut.ensures.value)

pub put_back-requires-clause-there : goal.put_back-requires-clause-there
put_back-requires-clause-there g c =
    let o = c.args.op.now in
    let agent_rows = c.args.agent_rows.now.items in
    let found = spent-agent_row c.args.agent.now.key agent_rows c.args.row o c.requires.spends c.requires.may.names in
    handed-within agent_rows c.args.row o (IsSpent o) found (spends-row c.args.row o c.requires.spends) c.replace-agent_row.new.dest

pub put_back-requires-clause-taken : goal.put_back-requires-clause-taken
put_back-requires-clause-taken g c =
    let o = c.args.op.now in
    let agent_rows = c.args.agent_rows.now.items in
    let found = spent-agent_row c.args.agent.now.key agent_rows c.args.row o c.requires.spends c.requires.may.names in
    handed-taken agent_rows c.args.row o (IsSpent o) found (spends-row c.args.row o c.requires.spends) c.replace-agent_row.new.dest ∙ ap Some c.replace-agent_row.ensures.after

pub returns-clause-table : goal.returns-clause-table
returns-clause-table g c =
    let T = g.S.Store.tells in
    let a = c.args.agent.now in
    let b = c.spend_agent_row-agent_row.new.agent in
    let o = c.args.op.now in
    let agent_rows = c.args.agent_rows.now.items in
    let row = spends-row c.args.row o c.requires.spends in
    let found = spent-agent_row a.key agent_rows c.args.row o c.requires.spends c.requires.may.names in
    let left = c.spend_agent_row-agent_row.result in
    subst (HasTable T b) (sym (c.put_back.ensures ∙ handed-place agent_rows c.args.row o (IsSpent o) found row c.replace-agent_row.new.dest left.agent_row))
    (handed-table agent_rows c.args.row o (IsSpent o) found row T a b c.know_kept.ensures c.know_kept-2.ensures c.requires.table left.answer left.agent_row c.spend_agent_row-agent_row.ensures.called
    (spends-none c.args.row o c.requires.spends) c.spend_agent_row-agent_row.ensures.left.agent_row)

pub returns-clause-kinds : goal.returns-clause-kinds
returns-clause-kinds g c =
    let o = c.args.op.now in
    let agent_rows = c.args.agent_rows.now.items in
    let row = spends-row c.args.row o c.requires.spends in
    let found = spent-agent_row c.args.agent.now.key agent_rows c.args.row o c.requires.spends c.requires.may.names in
    let left = c.spend_agent_row-agent_row.result in
    let is = c.spend_agent_row-agent_row.ensures.left in
    ap kinds_of (c.put_back.ensures ∙ handed-place agent_rows c.args.row o (IsSpent o) found row c.replace-agent_row.new.dest left.agent_row)
    ∙ spent-told agent_rows found.place found.agent_row left.agent_row o left.answer found.there found.fits found.is
    (is.kind_is ∙ ap (λ kind. kind_left kind left.answer) (handed-kind agent_rows c.args.row o (IsSpent o) found row c.replace-agent_row.result _ (c.replace-agent_row.ensures.value ∙ c.index_mut.ensures.value)))
    is.done
