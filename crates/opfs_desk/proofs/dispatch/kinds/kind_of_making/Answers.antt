use Rattle.std.proofs.Common.{◌∙◌}
use Rattle.opfs_desk.proofs.dispatch.Words.{kept-made}
use Rattle.opfs_desk.proofs.dispatch.kinds.kind_of_making.Goals as goal

pub returns-else-growth-eq0 : goal.returns-else-growth-eq0
returns-else-growth-eq0 c =
    kept-made c.args.state.now.store.machine c.args.agent c.args.op.now c.requires.word (λ none. c.if-growth-eq0.false (c.growth.ensures ∙ (c.requires.prepared.growth ∙ none)))
