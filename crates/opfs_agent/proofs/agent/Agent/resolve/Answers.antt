use Rattle.std.proofs.Common.{◌∙◌, ap, sym}
use Rattle.opfs_base.specs.Places.{resolved}
use Rattle.opfs_machine.specs.Replies.{path_reply}
use Rattle.opfs_turns.proofs.asking.Plains.{resolve-local}
use Rattle.opfs_agent.proofs.agent.Agent.resolve.Goals as goal

pub keep_call-requires-clause-local : goal.keep_call-requires-clause-local
keep_call-requires-clause-local g c =
    resolve-local g.S.Store.tells c.args.self.now c.know_kept.ensures c.in-Ok-copies.dir c.in-Ok-copies.entry c.path_reply.result
    (c.path_reply.ensures ∙ ap path_reply (c.in-Ok-resolve.ensures ∙ (λ i. resolved (sym c.in-Ok-copies.ensures.0 i) (sym c.in-Ok-copies.ensures.1 i))))
