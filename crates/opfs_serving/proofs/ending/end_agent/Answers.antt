use Rattle.std.proofs.Common.{sym, ◌∙◌}
use Rattle.opfs_serving.proofs.Ends.{ends-agent, ends-behind, ends-run, looked-may, looked-room}
use Rattle.opfs_serving.proofs.ending.end_agent.Goals as goal

pub end-requires-clause-room : goal.end-requires-clause-room
end-requires-clause-room g c = looked-room c.end_rows.new.agent c.look_behind.new.self c.look_behind.ensures.looked c.end_rows.ensures.room

pub end-requires-clause-none : goal.end-requires-clause-none
end-requires-clause-none g c = looked-may c.end_rows.new.agent c.look_behind.new.self c.look_behind.ensures.looked c.end_rows.ensures.none

pub returns-clause-ran : goal.returns-clause-ran
returns-clause-ran g c =
    ends-run g.S.Store.tells c.args.agent c.end_rows.new.agent c.look_behind.new.self c.end.result c.end_rows.ensures.same c.look_behind.ensures.looked c.end.ensures
    c.args.hall.now c.args.rows.items c.end_rows.ensures.closes

pub returns-clause-over : goal.returns-clause-over
returns-clause-over g c =
    ends-behind g.S.Store.tells c.args.agent c.end_rows.new.agent c.look_behind.new.self c.end.result c.end_rows.ensures.same c.look_behind.ensures.looked c.end.ensures
    (g.S.Chronicle.entries c.args.watch.now.last) c.look_behind.ensures.behind

pub returns-clause-agent : goal.returns-clause-agent
returns-clause-agent g c =
    ends-agent g.S.Store.tells c.args.agent c.end_rows.new.agent c.look_behind.new.self c.end.result c.end_rows.ensures.same c.look_behind.ensures.looked c.end.ensures

pub returns-clause-own : goal.returns-clause-own
returns-clause-own g c =
    let m = c.requires.may in
    (ends-run g.S.Store.tells c.args.agent c.end_rows.new.agent c.look_behind.new.self c.end.result c.end_rows.ensures.same c.look_behind.ensures.looked c.end.ensures
    c.args.hall.now c.args.rows.items c.end_rows.ensures.closes m.0 m.1 m.2 m.3).hall

pub returns-clause-idle : goal.returns-clause-idle
returns-clause-idle g c =
    let m = c.requires.may in
    (ends-run g.S.Store.tells c.args.agent c.end_rows.new.agent c.look_behind.new.self c.end.result c.end_rows.ensures.same c.look_behind.ensures.looked c.end.ensures
    c.args.hall.now c.args.rows.items c.end_rows.ensures.closes m.0 m.1 m.2 m.3).idle

pub returns-clause-alone : goal.returns-clause-alone
returns-clause-alone g c =
    let m = c.requires.may in
    (ends-run g.S.Store.tells c.args.agent c.end_rows.new.agent c.look_behind.new.self c.end.result c.end_rows.ensures.same c.look_behind.ensures.looked c.end.ensures
    c.args.hall.now c.args.rows.items c.end_rows.ensures.closes m.0 m.1 m.2 m.3).ended

pub returns-clause-real : goal.returns-clause-real
returns-clause-real g c =
    let m = c.requires.may in
    let ran = ends-run g.S.Store.tells c.args.agent c.end_rows.new.agent c.look_behind.new.self c.end.result c.end_rows.ensures.same c.look_behind.ensures.looked c.end.ensures
    c.args.hall.now c.args.rows.items c.end_rows.ensures.closes m.0 m.1 m.2 m.3 in
    λ zero_is. ran.real (sym ran.agent_is ∙ zero_is)
