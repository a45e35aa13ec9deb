use Rattle.std.proofs.Common.{◌≡◌, ◌∙◌, ◌<◌, ◌/◌, length, arith, ap}
use Rattle.opfs_work.specs.declared.pages.Page.TheVariants.{Zero}
use Rattle.opfs_work.specs.Pages.{page_at, one_near}
use Rattle.opfs_work.proofs.Counts.{kept_set, near_count-changed}
use Rattle.opfs_work.proofs.Places.{wiped-before, wiped-behind}
use Rattle.opfs_work.proofs.table.Table.wipe.Goals as goal

pub invariant_of-self : goal.invariant_of-self
invariant_of-self c =
    let there : c.args.place / 4096 < length c.self.inside.pages.items = rw (← c.self.view_is) at c.requires.there in
    let one : one_near c.wiped.result ≡ one_near (page_at c.self.inside.pages.items (c.args.place / 4096)) = c.wiped.ensures.one ∙ ap one_near c.put-old.ensures.was in
    kept_set c.self.inside.pages.items c.put-old.new.pages.items c.put-zero.new.pages.items (c.args.place / 4096) Zero c.wiped.result c.self.inside.near _ _ _ _ _ _ _ _
    c.self.invariant there c.put-old.ensures.after c.put-zero.ensures.after (omega arith) c.self.invariant.few (omega arith) (omega (arith, c.put-old.ensures.places, c.put-zero.ensures.places)) (omega arith)

pub returns-clause-before : goal.returns-clause-before
returns-clause-before c = λ far i below.
    rw (← c.self.view_is)
    (wiped-before far c.self.inside.pages.items c.put-old.new.pages.items c.put-zero.new.pages.items Zero c.wiped.result c.args.place i
    (rw (← c.self.view_is) at c.requires.there) c.put-old.ensures.after c.put-zero.ensures.after (rw (← c.put-old.ensures.was) c.wiped.ensures.before) below)

pub returns-clause-behind : goal.returns-clause-behind
returns-clause-behind c = λ i from here.
    wiped-behind c.self.inside.pages.items c.put-old.new.pages.items c.put-zero.new.pages.items Zero c.wiped.result c.args.place i
    (rw (← c.self.view_is) at c.requires.there) c.put-old.ensures.after c.put-zero.ensures.after c.wiped.ensures.behind from here

pub returns-clause-count : goal.returns-clause-count
returns-clause-count c =
    let one : one_near c.wiped.result ≡ one_near (page_at c.self.inside.pages.items (c.args.place / 4096)) = c.wiped.ensures.one ∙ ap one_near c.put-old.ensures.was in
    let count =
    near_count-changed c.self.inside.pages.items c.put-old.new.pages.items c.put-zero.new.pages.items (c.args.place / 4096) Zero c.wiped.result (rw (← c.self.view_is) at c.requires.there) c.put-old.ensures.after c.put-zero.ensures.after in
    rw (← c.self.view_is) (omega (arith, count))
