use Rattle.std.proofs.Common.{◌∙◌, sym}
use Rattle.opfs_base.specs.Places.{same_locator}
use Rattle.opfs_turns.proofs.asking.Plains.{same-local}
use Rattle.opfs_agent.proofs.agent.Agent.same_entry.Goals as goal

pub keep_call-requires-clause-local : goal.keep_call-requires-clause-local
keep_call-requires-clause-local g c =
    same-local g.S.Store.tells c.args.self.now c.know_kept.ensures c.in-Ok.entry c.in-Ok.other c.same-flag.result
    (c.same-flag.ensures ∙ (λ i. same_locator (sym c.in-Ok.ensures.0 i) (sym c.in-Ok.ensures.1 i)))
