use Rattle.std.specs.List.{slice_range}
use Rattle.std.proofs.Common.{◌≡◌, ◌∙◌, ◌+◌, ◌<◌, ◌/◌, length, arith, ap, false, ℕ, slice_index}
use Rattle.opfs_work.specs.declared.pages.Page.TheVariants.{Zero, Near}
use Rattle.opfs_work.specs.Pages.{page_at, page_byte, one_near, near_count, is_far}
use Rattle.opfs_work.proofs.Counts.{kept_set, near_count-changed, one_spare, one_near-le}
use Rattle.std.proofs.lemmas.Bool.{eqb-true}
use Rattle.opfs_work.proofs.Copying.{not_true, sliced}
use Rattle.opfs_work.proofs.Places.{written-inside, written-before, written-behind}
use Rattle.opfs_work.proofs.table.Table.write.Goals as goal

pub taken-buffer-requires : goal.taken-buffer-requires
taken-buffer-requires c =
    rw c.put-old.ensures.was
    (one_spare c.self.inside.pages.items (c.args.place / 4096) _ _ _ _ _ c.self.invariant (rw (← c.self.view_is) at c.requires.there) (rw (← c.self.view_is) at c.requires.few))

pub invariant_of-self : goal.invariant_of-self
invariant_of-self c =
    let there : c.args.place / 4096 < length c.self.inside.pages.items = rw (← c.self.view_is) at c.requires.there in
    let few : near_count c.self.inside.pages.items < 256 + one_near (page_at c.self.inside.pages.items (c.args.place / 4096)) = rw (← c.self.view_is) at c.requires.few in
    let one : c.one_near.result ≡ one_near (page_at c.self.inside.pages.items (c.args.place / 4096)) = c.one_near.ensures ∙ ap one_near c.put-old.ensures.was in
    let spares = rw c.put-old.ensures.was at c.taken-buffer.ensures.spare in
    kept_set c.self.inside.pages.items c.put-old.new.pages.items c.put-zero.new.pages.items (c.args.place / 4096) Zero (Near c.write.new.self) c.self.inside.near _ _ _ _ _ _ _ _
    c.self.invariant there c.put-old.ensures.after c.put-zero.ensures.after (omega (arith, c.self.invariant.counted, one_near-le (page_at c.self.inside.pages.items (c.args.place / 4096)))) (omega (arith, c.self.invariant.counted)) spares (omega (arith, c.put-old.ensures.places, c.put-zero.ensures.places)) (omega (arith, c.taken-buffer.ensures.kept))

pub returns-clause-inside : goal.returns-clause-inside
returns-clause-inside c = λ far i from below.
    written-inside far c.self.inside.pages.items c.put-old.new.pages.items c.put-zero.new.pages.items Zero c.args.place i (slice_range c.args.given.now c.args.from c.args.to) c.write.new.self
    (rw (← c.self.view_is) at c.requires.there) c.put-old.ensures.after c.put-zero.ensures.after c.requires.within c.write.ensures.inside from below

pub returns-clause-before : goal.returns-clause-before
returns-clause-before c = λ far i below.
    let owns : (length (slice_range c.args.given.now c.args.from c.args.to) ≡ 4096 → ⊥) → is_far (page_at c.self.inside.pages.items (c.args.place / 4096)) ≡ false → (f j : ℕ) → slice_index c.taken-buffer.result j ≡ page_byte f (page_at c.self.inside.pages.items (c.args.place / 4096)) j =
    λ part. rw (← c.put-old.ensures.was) (c.taken-buffer.ensures.bytes (not_true _ (λ is. part (omega (arith, eqb-true _ _ is, sliced c.args.given.now c.args.from c.args.to c.requires.order c.requires.end))))) in
    rw (← c.self.view_is)
    (written-before far c.self.inside.pages.items c.put-old.new.pages.items c.put-zero.new.pages.items Zero c.args.place i (slice_range c.args.given.now c.args.from c.args.to) c.taken-buffer.result c.write.new.self
    (rw (← c.self.view_is) at c.requires.there) c.put-old.ensures.after c.put-zero.ensures.after c.requires.within (rw (← c.self.view_is) at c.requires.whole) owns c.write.ensures.before below)

pub returns-clause-behind : goal.returns-clause-behind
returns-clause-behind c = λ far i past.
    let owns : (length (slice_range c.args.given.now c.args.from c.args.to) ≡ 4096 → ⊥) → is_far (page_at c.self.inside.pages.items (c.args.place / 4096)) ≡ false → (f j : ℕ) → slice_index c.taken-buffer.result j ≡ page_byte f (page_at c.self.inside.pages.items (c.args.place / 4096)) j =
    λ part. rw (← c.put-old.ensures.was) (c.taken-buffer.ensures.bytes (not_true _ (λ is. part (omega (arith, eqb-true _ _ is, sliced c.args.given.now c.args.from c.args.to c.requires.order c.requires.end))))) in
    rw (← c.self.view_is)
    (written-behind far c.self.inside.pages.items c.put-old.new.pages.items c.put-zero.new.pages.items Zero c.args.place i (slice_range c.args.given.now c.args.from c.args.to) c.taken-buffer.result c.write.new.self
    (rw (← c.self.view_is) at c.requires.there) c.put-old.ensures.after c.put-zero.ensures.after c.requires.within (rw (← c.self.view_is) at c.requires.whole) owns c.write.ensures.behind past)

pub returns-clause-count : goal.returns-clause-count
returns-clause-count c =
    rw (← c.self.view_is)
    (near_count-changed c.self.inside.pages.items c.put-old.new.pages.items c.put-zero.new.pages.items (c.args.place / 4096) Zero (Near c.write.new.self) (rw (← c.self.view_is) at c.requires.there) c.put-old.ensures.after c.put-zero.ensures.after)
