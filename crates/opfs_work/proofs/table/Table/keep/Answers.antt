use Rattle.std.proofs.Common.{◌≡◌, ap, ◌∙◌, arith, set}
use Rattle.opfs_work.specs.declared.pages.Page.{Page}
use Rattle.opfs_work.specs.declared.pages.Page.TheVariants.{Zero}
use Rattle.opfs_work.specs.Pages.{page_at, one_near, as_kept}
use Rattle.opfs_work.proofs.Counts.{kept_set}
use Rattle.opfs_work.proofs.Places.{both_set, with_pages}
use Rattle.opfs_work.proofs.OnePage.{kept-one}
use Rattle.opfs_work.proofs.table.Table.keep.Goals as goal

pub invariant_of-self : goal.invariant_of-self
invariant_of-self c =
    let page : c.kept.result ≡ as_kept (page_at c.self.inside.pages.items c.args.page) = c.kept.ensures ∙ ap as_kept c.put-old.ensures.was in
    let one : one_near c.kept.result ≡ one_near (page_at c.self.inside.pages.items c.args.page) = ap one_near page ∙ kept-one (page_at c.self.inside.pages.items c.args.page) in
    kept_set c.self.inside.pages.items c.put-old.new.pages.items c.put-zero.new.pages.items c.args.page Zero c.kept.result c.self.inside.near _ _ _ _ _ _ _ _ c.self.invariant (rw (← c.self.view_is) at c.requires)
    c.put-old.ensures.after c.put-zero.ensures.after (omega arith) c.self.invariant.few (omega arith) (omega (arith, c.put-old.ensures.places, c.put-zero.ensures.places)) (omega arith)

pub returns : goal.returns
returns c =
    let page : c.kept.result ≡ as_kept (page_at c.self.inside.pages.items c.args.page) = c.kept.ensures ∙ ap as_kept c.put-old.ensures.was in
    let items : c.put-zero.new.pages.items ≡ set c.self.inside.pages.items c.args.page (as_kept (page_at c.self.inside.pages.items c.args.page)) =
    both_set c.self.inside.pages.items c.put-old.new.pages.items c.put-zero.new.pages.items c.args.page Zero c.kept.result c.put-old.ensures.after c.put-zero.ensures.after
    ∙ ap (λ (p : Page). set c.self.inside.pages.items c.args.page p) page in
    rw (← c.self.view_is) (ap (with_pages c.self.inside.room) items)
