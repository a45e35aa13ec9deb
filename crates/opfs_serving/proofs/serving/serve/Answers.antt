use Rattle.std.proofs.Common.{ap, length, refl, true, ◌∙◌}
use Rattle.opfs_serving.proofs.Starting.{people-of, serving-begins}
use Rattle.opfs_serving.specs.Served.{IsSilent, words}
use Rattle.opfs_serving.specs.declared.progress.State.TheVariants as state
use Rattle.opfs_serving.proofs.serving.serve.Given.{Over}
use Rattle.opfs_serving.proofs.serving.serve.Goals as goal
use Rattle.opfs_serving.proofs.serving.serve.Goals.{After-begin-watch}

-- It stands before its first answer.
silent : (g : Over) (c : After-begin-watch g)
    → IsSilent (words g.S.Chronicle.opening g.S.Store.opened g.S.Chronicle.entries g.S.Store.keeps g.S.Chronicle.goes_on g.S.Store.tells g.P.Port.tells g.P.Port.said g.P.Port.faults) c.in-Ok-begin_agents.started.court c.args.agents.now c.args.port.now
    c.begin-watch.result c.seat_all.new.seats.items (record { count = 0; state = state.On; whole = true })
silent g c =
    let w = words g.S.Chronicle.opening g.S.Store.opened g.S.Chronicle.entries g.S.Store.keeps g.S.Chronicle.goes_on g.S.Store.tells g.P.Port.tells g.P.Port.said g.P.Port.faults in
    let started = c.in-Ok-begin_agents.started in
    let known = c.in-Ok-begin_agents.ensures in
    let people = ap (λ o. length (g.S.Store.opened o).agents) known.opening ∙ people-of (g.S.Store.opened (g.S.Chronicle.opening c.args.store)) c.args.agents.now c.requires.agents in
    serving-begins w started.court c.args.agents.now started.agents.items c.in-Ok.hands.items c.seat_all.new.seats.items c.seat_all.ensures.seated c.in-Ok.ensures known.ready known.count c.requires.alone
    c.args.port.now c.begin-watch.result started.owner (record { count = 0; state = state.On; whole = true }) c.requires.few known.agents people known.owner c.begin-watch.ensures.pass c.begin-watch.ensures.opening refl

pub greet-greeted-requires-clause-silent : goal.greet-greeted-requires-clause-silent
greet-greeted-requires-clause-silent g c = (c.args.agents.now, silent g (goal.at.greet-greeted-requires-clause-silent g c).After-begin-watch)

pub converse-spoken-requires : goal.converse-spoken-requires
converse-spoken-requires g c =
    let begun = silent g (goal.at.converse-spoken-requires g c).After-begin-watch in
    record { serves = record { agents = c.args.agents.now; begun = c.args.port.now; is = c.greet-greeted.ensures c.args.agents.now begun } }

pub finish-requires : goal.finish-requires
finish-requires g c =
    let begun = silent g (goal.at.finish-requires g c).After-begin-watch in
    record { serves = record { agents = c.args.agents.now; begun = c.args.port.now; is = c.converse-spoken.ensures.on_with c.args.agents.now c.args.port.now (c.greet-greeted.ensures c.args.agents.now begun) } }

pub returns-clause-served : goal.returns-clause-served
returns-clause-served g c =
    let begun = silent g (goal.at.returns-clause-served g c).After-begin-watch in
    c.finish.ensures.served c.args.agents.now c.args.port.now (c.converse-spoken.ensures.on_with c.args.agents.now c.args.port.now (c.greet-greeted.ensures c.args.agents.now begun))

pub returns-clause-all : goal.returns-clause-all
returns-clause-all g c = λ on b. c.finish.ensures.rest b ∙ c.converse-spoken.ensures.all (c.finish.ensures.still on) b

pub returns-clause-failed : goal.returns-clause-failed
returns-clause-failed g c =
    let begun = silent g (goal.at.returns-clause-failed g c).After-begin-watch in
    (c.finish.ensures.served c.args.agents.now c.args.port.now (c.converse-spoken.ensures.on_with c.args.agents.now c.args.port.now (c.greet-greeted.ensures c.args.agents.now begun))).faulted.failed

pub returns-clause-later : goal.returns-clause-later
returns-clause-later g c =
    let begun = silent g (goal.at.returns-clause-later g c).After-begin-watch in
    (c.finish.ensures.served c.args.agents.now c.args.port.now (c.converse-spoken.ensures.on_with c.args.agents.now c.args.port.now (c.greet-greeted.ensures c.args.agents.now begun))).faulted.later
