use Rattle.std.proofs.Common.{◌≡◌, ◌/◌, ℕ, take, arith, refl, inl, inr, ◌∙◌, sym, ap}
use Rattle.std.proofs.lemmas.Bool.{cases_eq}
use Rattle.opfs_base.specs.Blocks.{blocks}
use Rattle.opfs_work.specs.Pages.{Table, page_at, is_far, is_changed, is_held}
use Rattle.opfs_work.proofs.Places.{byte_apart}
use Rattle.opfs_work.proofs.Holding.{work_cut, cut_page}
use Rattle.opfs_work.proofs.Changing.{between_less, cut_less}
use Rattle.opfs_work.proofs.work.Work.shrink.Goals as goal

pub invariant_of-self : goal.invariant_of-self
invariant_of-self c =
    let pages : c.cut.new.self.pages ≡ take (blocks c.args.size) c.self.inside.table.pages = ap (λ (t : Table). t.pages) c.cut.ensures ∙ ap (λ (n : ℕ). take n c.self.inside.table.pages) c.blocks-2.ensures in (
      work_cut c.self.inside.table.pages c.cut.new.self.pages c.cut.new.self.pages _ _ c.self.inside.length c.args.size _ c.self.invariant.0 (rw (← c.self.view_is) at c.requires) (ap (λ (t : Table). t.room) c.cut.ensures) pages refl
          (λ i from here some. absurd (omega (arith, c.if-size-eq0.true))),
      between_less c.self.inside.table.pages c.cut.new.self.pages _ _ c.self.invariant.1 (cut_less c.self.inside.table.pages c.cut.new.self.pages (blocks c.args.size) pages),
    )

pub returns-then-size-eq0-clause-same : goal.returns-then-size-eq0-clause-same
returns-then-size-eq0-clause-same c = λ far i below.
    let pages : c.cut.new.self.pages ≡ take (blocks c.args.size) c.self.inside.table.pages = ap (λ (t : Table). t.pages) c.cut.ensures ∙ ap (λ (n : ℕ). take n c.self.inside.table.pages) c.blocks-2.ensures in
    rw (← c.self.view_is) (byte_apart far c.self.inside.table.pages c.cut.new.self.pages i (cut_page c.self.inside.table.pages c.cut.new.self.pages (blocks c.args.size) (i / 4096) pages (omega arith)))

pub invariant_of-self-2 : goal.invariant_of-self-2
invariant_of-self-2 c =
    let pages : c.cut.new.self.pages ≡ take (blocks c.args.size) c.self.inside.table.pages = ap (λ (t : Table). t.pages) c.cut.ensures ∙ ap (λ (n : ℕ). take n c.self.inside.table.pages) c.blocks-2.ensures in (
      work_cut c.self.inside.table.pages c.cut.new.self.pages c.wipe.new.self.pages _ _ c.self.inside.length c.args.size _ c.self.invariant.0 (rw (← c.self.view_is) at c.requires)
          (c.wipe.ensures.room ∙ ap (λ (t : Table). t.room) c.cut.ensures) pages c.wipe.ensures.length (λ i from here some. c.wipe.ensures.behind i from here),
      between_less c.self.inside.table.pages c.wipe.new.self.pages _ _ c.self.invariant.1
          (λ k changed.
          cut_less c.self.inside.table.pages c.cut.new.self.pages (blocks c.args.size) pages k
          ((elim (cases_eq k (c.args.size / 4096)) [
            | inl here ↦ ap (λ (n : ℕ). is_changed (page_at c.cut.new.self.pages n)) here ∙ sym c.wipe.ensures.changed ∙ ap (λ (n : ℕ). is_changed (page_at c.wipe.new.self.pages n)) (sym here)
            | inr apart ↦ sym (ap is_changed (c.wipe.ensures.others k apart))
          ]) ∙ changed)),
    )

pub returns-clause-same : goal.returns-clause-same
returns-clause-same c = λ far i below.
    let pages : c.cut.new.self.pages ≡ take (blocks c.args.size) c.self.inside.table.pages = ap (λ (t : Table). t.pages) c.cut.ensures ∙ ap (λ (n : ℕ). take n c.self.inside.table.pages) c.blocks-2.ensures in
    rw (← c.self.view_is)
    (c.wipe.ensures.before far i below ∙ byte_apart far c.self.inside.table.pages c.cut.new.self.pages i (cut_page c.self.inside.table.pages c.cut.new.self.pages (blocks c.args.size) (i / 4096) pages (omega arith)))

pub returns-clause-far : goal.returns-clause-far
returns-clause-far c = λ k below.
    let pages : c.cut.new.self.pages ≡ take (blocks c.args.size) c.self.inside.table.pages = ap (λ (t : Table). t.pages) c.cut.ensures ∙ ap (λ (n : ℕ). take n c.self.inside.table.pages) c.blocks-2.ensures in
    rw (← c.self.view_is)
    ((elim (cases_eq k (c.args.size / 4096)) [
      | inl here ↦ ap (λ (n : ℕ). is_far (page_at c.wipe.new.self.pages n)) here ∙ c.wipe.ensures.far ∙ ap (λ (n : ℕ). is_far (page_at c.cut.new.self.pages n)) (sym here)
      | inr apart ↦ ap is_far (c.wipe.ensures.others k apart)
    ]) ∙ ap is_far (cut_page c.self.inside.table.pages c.cut.new.self.pages (blocks c.args.size) k pages below))

pub returns-clause-held : goal.returns-clause-held
returns-clause-held c = λ k below.
    let pages : c.cut.new.self.pages ≡ take (blocks c.args.size) c.self.inside.table.pages = ap (λ (t : Table). t.pages) c.cut.ensures ∙ ap (λ (n : ℕ). take n c.self.inside.table.pages) c.blocks-2.ensures in
    rw (← c.self.view_is)
    ((elim (cases_eq k (c.args.size / 4096)) [
      | inl here ↦ ap (λ (n : ℕ). is_held (page_at c.wipe.new.self.pages n)) here ∙ c.wipe.ensures.held ∙ ap (λ (n : ℕ). is_held (page_at c.cut.new.self.pages n)) (sym here)
      | inr apart ↦ ap is_held (c.wipe.ensures.others k apart)
    ]) ∙ ap is_held (cut_page c.self.inside.table.pages c.cut.new.self.pages (blocks c.args.size) k pages below))
