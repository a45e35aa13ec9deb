use Rattle.std.proofs.Common.{◌∙◌, ap}
use Rattle.opfs_books.specs.Openings.Openings.{caller_by}
use Rattle.opfs_desk_runs.proofs.Keys.{few-agents, own-keys}
use Rattle.opfs_serve_runs.proofs.Held.{served-over}
use Rattle.opfs_serve_runs.proofs.disk.serve_image.Goals as goal

pub make-requires-clause-few : goal.make-requires-clause-few
make-requires-clause-few g c = few-agents caller_by c.in-Ok.callers.items c.args.agents.now c.in-Ok.ensures.agents c.requires.few

pub make-requires-clause-keys : goal.make-requires-clause-keys
make-requires-clause-keys g c = own-keys c.args.agents.now _ c.in-Ok.ensures.agents c.in-Ok.ensures.keys

pub returns-in-Ok-serve-clause-served : goal.returns-in-Ok-serve-clause-served
returns-in-Ok-serve-clause-served g c =
    let end = c.end_run.ensures in
    let held = c.in-Ok-serve.ensures.served in
    served-over g.D.Disk g.P.Port.tells g.P.Port.said c.args.agents.now c.args.port.now c.serve.new.port c.args.from c.end_run.result c.in-Ok-serve.field-0.state (λ t. g.met.D.Disk.reads t) c.in-Ok-serve.field-0.store
    c.in-Ok-serve.field-0.whole c.in-Ok.callers.items c.in-Ok.ensures.agents (ap (λ o. o.fixed) c.in-Ok-serve.ensures.opening ∙ c.in_ok-desk.ensures.fixed) held.scripts held.told held.talk held.greeted held.cut held.runs held.all
    end.whole end.history end.apart end.stands end.left end.fronts end.keeps end.stays end.sizes end.time end.faults end.failed
