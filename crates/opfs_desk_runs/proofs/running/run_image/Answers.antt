use Rattle.std.proofs.Common.{◌∙◌, sym}
use Rattle.opfs_desk_runs.proofs.Keys.{few-agents, own-keys}
use Rattle.opfs_desk_runs.proofs.Runs.{run-over}
use Rattle.opfs_books.specs.Openings.Openings.{caller_by}
use Rattle.opfs_desk_runs.proofs.running.run_image.Goals as goal

pub make-requires-clause-few : goal.make-requires-clause-few
make-requires-clause-few g c = few-agents caller_by c.in-Ok.agents.items c.args.scripts.now c.in-Ok.ensures.agents c.requires.few

pub make-requires-clause-keys : goal.make-requires-clause-keys
make-requires-clause-keys g c = own-keys c.args.scripts.now _ c.in-Ok.ensures.agents c.in-Ok.ensures.keys

pub returns-in-Ok-run_desk-clause-run : goal.returns-in-Ok-run_desk-clause-run
returns-in-Ok-run_desk-clause-run g c =
    let laws = g.met.D.Disk g.world.𝓛 g.world.𝓜 g.world.𝓡 ((λ s x. x), (λ x. x), (λ x. x), λ x. x) in
    let end = c.end_run.ensures in
    run-over g.D.Disk (λ t. laws.reads t) c.in-Ok-run_desk.field-0.store c.args.scripts.now c.end_run.result end.history c.args.from c.in-Ok.agents.items c.in-Ok.ensures.agents
    (c.in-Ok-run_desk.ensures.fixed ∙ c.in_ok-desk.ensures.fixed) c.in-Ok-run_desk.ensures.cut (λ whole. c.in-Ok-run_desk.ensures.run (sym end.whole ∙ whole)) end.apart end.stands end.left end.fronts end.keeps end.sizes end.time end.faults end.failed
