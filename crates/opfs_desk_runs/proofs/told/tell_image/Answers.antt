use Rattle.std.proofs.Common.{◌∙◌, ap, sym}
use Rattle.opfs_desk_runs.proofs.Keys.{few-agents, own-keys}
use Rattle.opfs_desk_runs.proofs.Runs.{run-over}
use Rattle.opfs_books.specs.Openings.Openings.{caller_by}
use Rattle.opfs_desk_runs.proofs.told.tell_image.Goals as goal

pub make-requires-clause-few : goal.make-requires-clause-few
make-requires-clause-few g c = few-agents caller_by c.in-Ok.agents.items c.args.scripts.now c.in-Ok.ensures.agents c.requires.few

pub make-requires-clause-keys : goal.make-requires-clause-keys
make-requires-clause-keys g c = own-keys c.args.scripts.now _ c.in-Ok.ensures.agents c.in-Ok.ensures.keys

pub returns-in-Ok-tell_scripts-clause-run : goal.returns-in-Ok-tell_scripts-clause-run
returns-in-Ok-tell_scripts-clause-run g c =
    let laws = g.met.D.Disk g.world.𝓛 g.world.𝓜 g.world.𝓡 ((λ s x. x), (λ x. x), (λ x. x), λ x. x) in
    let end = c.end_run.ensures in
    let told = c.in-Ok-tell_scripts in
    run-over g.D.Disk (λ t. laws.reads t) told.field-0.store c.args.scripts.now c.end_run.result end.history c.args.from c.in-Ok.agents.items c.in-Ok.ensures.agents
    (ap (λ o. o.fixed) told.ensures.opening ∙ c.in_ok-desk.ensures.fixed) told.ensures.cut (λ whole. told.ensures.run (sym end.whole ∙ whole)) end.apart end.stands end.left end.fronts end.keeps end.sizes end.time end.faults end.failed

pub returns-in-Ok-tell_scripts-clause-put : goal.returns-in-Ok-tell_scripts-clause-put
returns-in-Ok-tell_scripts-clause-put g c = rw (c.end_run.ensures.history) c.in-Ok-tell_scripts.ensures.put
