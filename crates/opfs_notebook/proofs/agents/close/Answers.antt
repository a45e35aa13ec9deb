use Rattle.std.proofs.Common.{sym, ap, ◌∙◌, subst}
use Rattle.opfs_hall.specs.Seen.{HasAll, joined}
use Rattle.opfs_notebook.proofs.Beginning.{all-joined}
use Rattle.opfs_notebook.proofs.agents.close.Goals as goal

pub close-requires-clause-all : goal.close-requires-clause-all
close-requires-clause-all g c =
    subst HasAll (sym (c.join-2.ensures ∙ ap (λ p. joined p c.args.second) c.join.ensures))
    (all-joined c.args.court c.args.owner c.args.first c.args.second c.requires.owner c.requires.agents c.requires.first c.requires.second)
