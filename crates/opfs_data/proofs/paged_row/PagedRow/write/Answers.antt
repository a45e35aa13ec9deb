use Rattle.std.proofs.Common.{ℕ, sym, subst, ◌∙◌}
use Rattle.opfs_data.specs.Pages.{ArePlaced}
use Rattle.opfs_data.specs.Writes.{page_writes}
use Rattle.opfs_data.proofs.PlacedLemmas.{ok_holds, none_kept, placed_written, written_size, written_fresh}
use Rattle.opfs_data.proofs.paged_row.PagedRow.write.Goals as goal

-- nothing was kept before, and so nothing is after
pub count_left-self-inside-requires : goal.count_left-self-inside-requires
count_left-self-inside-requires g c = λ none.
    none_kept c.args.pages c.self.inside.pages.items c.deref-2.result.now (page_writes c.args.writes.now c.args.given.now)
    (c.deref-2.ensures.value ∙ ok_holds c.write_row.result _ c.if-is_err.ensures.value c.write_row.ensures.written) (sym c.self.invariant.0 ∙ none)

-- pages that had a block have one
pub count_placed-self-inside-requires : goal.count_placed-self-inside-requires
count_placed-self-inside-requires g c =
    let is = c.deref-3.ensures.value ∙ ok_holds c.write_row.result _ c.if-is_err.ensures.value c.write_row.ensures.written in
    subst (λ (k : ℕ). ArePlaced k c.deref-3.result.now) (sym c.min.ensures)
    (placed_written c.args.pages c.self.inside.placed c.self.inside.pages.items c.deref-3.result.now (page_writes c.args.writes.now c.args.given.now) is c.self.invariant.1)

pub returns-clause-size : goal.returns-clause-size
returns-clause-size g c = written_size c.args.pages c.self.inside.pages.items c.write_row.new.pages.items (page_writes c.args.writes.now c.args.given.now) (ok_holds c.write_row.result _ c.if-is_err.ensures.value c.write_row.ensures.written)

pub returns-clause-fresh : goal.returns-clause-fresh
returns-clause-fresh g c = λ j past below none.
    written_fresh c.args.pages c.self.inside.pages.items c.write_row.new.pages.items (page_writes c.args.writes.now c.args.given.now) j (ok_holds c.write_row.result _ c.if-is_err.ensures.value c.write_row.ensures.written) (rw (← c.self.view_is) at past) below none
