use Rattle.std.proofs.Common.{◌∙◌}
use Rattle.opfs_desk.proofs.dispatch.Words.{mode-given}
use Rattle.opfs_desk.proofs.dispatch.kinds.kind_of_persist.Goals as goal

pub returns-else-growth-eq0 : goal.returns-else-growth-eq0
returns-else-growth-eq0 c = mode-given c.args.state.now.store.machine c.args.agent c.args.bucket.now (λ none. c.if-growth-eq0.false (c.growth.ensures ∙ (c.requires.prepared.growth ∙ none)))
