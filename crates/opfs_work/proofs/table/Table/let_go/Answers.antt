use Rattle.std.proofs.Common.{◌≡◌, ap, ◌∙◌, arith}
use Rattle.opfs_work.specs.declared.pages.Page.TheVariants.{Far}
use Rattle.opfs_work.specs.Pages.{page_at, one_near}
use Rattle.opfs_work.proofs.Counts.{near_one, kept_put}
use Rattle.opfs_work.proofs.table.Table.let_go.Goals as goal

pub overflow_sub-self : goal.overflow_sub-self
overflow_sub-self c =
    omega (arith, c.one_near.ensures, ap one_near c.put-old.ensures.was, near_one c.self.inside.pages.items c.args.page _ _ _ _ _ c.self.invariant (rw (← c.self.view_is) at c.requires))

pub give_back-requires : goal.give_back-requires
give_back-requires c =
    omega (arith, ap one_near c.put-old.ensures.was, c.self.invariant.returned, near_one c.self.inside.pages.items c.args.page _ _ _ _ _ c.self.invariant (rw (← c.self.view_is) at c.requires))

pub invariant_of-self : goal.invariant_of-self
invariant_of-self c =
    let one : c.one_near.result ≡ one_near (page_at c.self.inside.pages.items c.args.page) = c.one_near.ensures ∙ ap one_near c.put-old.ensures.was in
    let there = rw (← c.self.view_is) at c.requires in
    let most = near_one c.self.inside.pages.items c.args.page _ _ _ _ _ c.self.invariant there in
    kept_put c.self.inside.pages.items c.put-old.new.pages.items c.args.page Far _ _ _ _ _ _ _ _ _ c.self.invariant there c.put-old.ensures.after (omega arith) (omega (arith, c.self.invariant.few))
    (omega (arith, c.give_back.ensures.spare, ap one_near c.put-old.ensures.was)) (omega (arith, c.put-old.ensures.places)) c.give_back.ensures.kept
