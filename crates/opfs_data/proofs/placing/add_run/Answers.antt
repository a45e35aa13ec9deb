use Rattle.std.proofs.Common.{◌++◌, ◌∷◌, [], None, Some, ◌+◌, List, sym, ap, ◌∙◌, append_assoc}
use Rattle.opfs_data.specs.declared.page.Page.{Page}
use Rattle.opfs_data.specs.Pages.{pages_from}
use Rattle.opfs_data.proofs.RowLemmas.{pages_more}
use Rattle.opfs_data.proofs.placing.add_run.Goals as goal

pub loop-k-preserved : goal.loop-k-preserved
loop-k-preserved c =
    let last : List Page = (record { block = Some (c.args.extent.start + c.loop-k.k); kept = None }) ∷ [] in
    c.in_ok-push.ensures.items
    ∙ ap (λ (ps : List Page). ps ++ last) c.loop-k.invariant
    ∙ append_assoc c.args.pages.now.items (pages_from c.args.extent.start c.loop-k.k) last
    ∙ ap (λ (ps : List Page). c.args.pages.now.items ++ ps) (sym (pages_more c.args.extent.start c.loop-k.k))
