use Rattle.std.proofs.Common.{◌∷◌, [], ◌++◌, ◌∙◌, Err, Ok, sym, subst}
use Rattle.opfs_turns.proofs.other_rows.Leaving.{Leaves}
use Rattle.opfs_runner.specs.AgentRows.Tables.{HasTable}
use Rattle.opfs_runner.proofs.agent_rows.Tabled.{table-same, table-more, leaves-calls, err-rows}
use Rattle.opfs_runner.proofs.agent_rows.Using.{makes-row, makes-nobody}
use Rattle.opfs_runner.proofs.agent_rows.makes.make_row.Goals as goal

pub returns-in_err-agent_row-clause-table : goal.returns-in_err-agent_row-clause-table
returns-in_err-agent_row-clause-table g c =
    let T = g.S.Store.tells in
    let a = c.args.agent.now in
    let b = c.make_agent_row-done.new.agent in
    let o = c.args.op.now in
    let why = c.in_err-agent_row.field-0.0 in
    subst (HasTable T b) (sym c.reserve.ensures.items)
    (table-same T a b c.know_kept.ensures c.know_kept-2.ensures c.args.agent_rows.now.items c.requires.table
    (subst (Leaves T a b) (makes-row o c.requires.makes) (leaves-calls T a b c.know_kept.ensures c.know_kept-2.ensures o (Err why) c.in_err-agent_row.ensures.called))
    (err-rows T a b c.know_kept.ensures c.know_kept-2.ensures o why c.in_err-agent_row.ensures.called (makes-nobody o c.requires.makes)))

pub returns-clause-table : goal.returns-clause-table
returns-clause-table g c =
    let T = g.S.Store.tells in
    let a = c.args.agent.now in
    let b = c.make_agent_row-done.new.agent in
    let o = c.args.op.now in
    let made = c.in_ok-agent_row.ensures.made in
    subst (HasTable T b) (sym (c.push_reserved.ensures.items ∙ (λ i. c.reserve.ensures.items i ++ c.in_ok-agent_row.field-0.agent_row ∷ [])))
    (table-more T a b c.know_kept.ensures c.know_kept-2.ensures c.args.agent_rows.now.items c.requires.table c.in_ok-agent_row.field-0.agent_row
    (subst (Leaves T a b) (makes-row o c.requires.makes) (leaves-calls T a b c.know_kept.ensures c.know_kept-2.ensures o (Ok c.in_ok-agent_row.field-0.reply) c.in_ok-agent_row.ensures.called))
    made.more made.agent_row)
