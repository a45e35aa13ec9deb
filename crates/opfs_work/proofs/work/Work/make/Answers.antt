use Rattle.std.proofs.Common.{◌≡◌, [], ℕ, List, length, arith, refl, ◌∙◌, ap}
use Rattle.opfs_splice.specs.Splicing.{splice}
use Rattle.opfs_work.specs.Works.{WorkingCopy, contents}
use Rattle.opfs_work.proofs.Laws.{splice_nothing}
use Rattle.opfs_work.proofs.Holding.{make_near, nothing_there}
use Rattle.opfs_work.proofs.work.Work.make.Goals as goal

pub write_within-requires : goal.write_within-requires
write_within-requires c =
    let pages : c.grow.new.self.pages ≡ [] = ap (λ (w : WorkingCopy). w.pages) (c.grow.ensures) ∙ ap (λ (w : WorkingCopy). w.pages) c.in_ok-prepare.ensures.same ∙ ap (λ (w : WorkingCopy). w.pages) c.fresh-work.ensures in
    let size : c.grow.new.self.length ≡ 0 = ap (λ (w : WorkingCopy). w.length) (c.grow.ensures) ∙ ap (λ (w : WorkingCopy). w.length) c.in_ok-prepare.ensures.same ∙ ap (λ (w : WorkingCopy). w.length) c.fresh-work.ensures in
    let reserve = ap (λ (w : WorkingCopy). w.reserve) (c.grow.ensures) in
    make_near c.grow.new.self 0 (length c.args.given.now) pages size refl (omega (arith, c.blocks-count.ensures, c.len.ensures)) (omega (arith, c.requires))

pub returns-clause-bytes : goal.returns-clause-bytes
returns-clause-bytes c = λ far.
    let size : c.grow.new.self.length ≡ 0 = ap (λ (w : WorkingCopy). w.length) (c.grow.ensures) ∙ ap (λ (w : WorkingCopy). w.length) c.in_ok-prepare.ensures.same ∙ ap (λ (w : WorkingCopy). w.length) c.fresh-work.ensures in
    ap (contents far) c.grow-2.ensures ∙ ap (contents far) c.drop_reserve.ensures ∙ ap (contents far) c.seek.ensures ∙ c.write_within.ensures.bytes far
    ∙ ap (λ (old : List ℕ). splice old 0 c.args.given.now) (nothing_there far c.grow.new.self.pages c.grow.new.self.length size) ∙ splice_nothing c.args.given.now
