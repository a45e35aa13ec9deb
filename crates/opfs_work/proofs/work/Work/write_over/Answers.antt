use Rattle.std.proofs.Common.{◌≡◌, ◌∙◌, ◌+◌, ℕ, length, max, ap, arith}
use Rattle.opfs_work.specs.Pages.{page_at, near_count, one_near}
use Rattle.opfs_work.proofs.Holding.{covers_copy, added_same, write_law}
use Rattle.opfs_work.proofs.work.Work.write_over.Goals as goal

pub copy-requires-clause-whole : goal.copy-requires-clause-whole
copy-requires-clause-whole c =
    let same : (k : ℕ) → page_at c.self-2.inside.table.pages k ≡ page_at c.self.inside.table.pages k = rw (← c.self-2.view_is, ← c.self.view_is) at c.stretch.ensures.same in
    covers_copy c.self.inside.table.pages c.self-2.inside.table.pages _ _ _ c.args.at _ c.self.invariant.0 (rw (← c.self.view_is) at c.requires.near.whole) same

pub copy-requires-clause-few : goal.copy-requires-clause-few
copy-requires-clause-few c =
    let same : (k : ℕ) → page_at c.self-2.inside.table.pages k ≡ page_at c.self.inside.table.pages k = rw (← c.self-2.view_is, ← c.self.view_is) at c.stretch.ensures.same in
    let near : near_count c.self-2.inside.table.pages ≡ near_count c.self.inside.table.pages = rw (← c.self-2.view_is, ← c.self.view_is) at c.stretch.ensures.near in
    let few = rw (← c.self.view_is) at c.requires.near.few in
    omega (arith, few, added_same c.self.inside.table.pages c.self-2.inside.table.pages c.args.at (length c.args.given.now) (λ k. ap one_near (same k)))

pub returns-clause-bytes : goal.returns-clause-bytes
returns-clause-bytes c = λ far.
    let same : (k : ℕ) → page_at c.self-2.inside.table.pages k ≡ page_at c.self.inside.table.pages k = rw (← c.self-2.view_is, ← c.self.view_is) at c.stretch.ensures.same in
    let size : c.self-2.inside.length ≡ max c.self.inside.length (c.args.at + length c.args.given.now) = (rw (← c.self-2.view_is, ← c.self.view_is) at c.stretch.ensures.length) ∙ ap (λ (n : ℕ). max c.self.inside.length (c.args.at + n)) c.len.ensures in
    rw (← c.self.view_is)
    (write_law far c.self.inside.table.pages c.self-2.inside.table.pages c.copy.new.self.pages _ c.self.inside.length _ c.self-2.inside.length c.args.at c.args.given.now c.self.invariant.0 size
    (rw (← c.self.view_is) at c.requires.near.whole) same (c.copy.ensures.inside far) (c.copy.ensures.before far) (c.copy.ensures.behind far))

pub returns-clause-count : goal.returns-clause-count
returns-clause-count c =
    let same : (k : ℕ) → page_at c.self-2.inside.table.pages k ≡ page_at c.self.inside.table.pages k = rw (← c.self-2.view_is, ← c.self.view_is) at c.stretch.ensures.same in
    let near : near_count c.self-2.inside.table.pages ≡ near_count c.self.inside.table.pages = rw (← c.self-2.view_is, ← c.self.view_is) at c.stretch.ensures.near in
    rw (← c.self.view_is)
    (omega (arith, c.copy.ensures.count, added_same c.self.inside.table.pages c.self-2.inside.table.pages c.args.at (length c.args.given.now) (λ k. ap one_near (same k))))
