use Rattle.std.proofs.Common.{rules, ◌≡◌, ℕ, ◌%◌, ◌/◌, List, length, slice_index, sym, ap, subst, ◌∙◌}
use Rattle.opfs_data.specs.Rows.{pages_at}
use Rattle.opfs_pages.specs.Copies.{IsPageOf}
use Rattle.opfs_pages.specs.Stages.{changed}
use Rattle.opfs_pages.proofs.row_calls.Buffers.{buffer-whole, held-far}
use Rattle.opfs_pages.proofs.row_calls.call.page_left.Goals as goal

pub returns-clause-page : goal.returns-clause-page
returns-clause-page g c =
    let len : c.in_ok-page.page.len ≡ length c.in_ok-page.page.items = search rules in
    let same = buffer-whole c.in_ok-page.page.len c.page_after.new.buffer c.in_ok-page.page.items len (c.page_after.ensures.buffer ∙ sym c.in_ok-page.ensures) in
    let work = c.args.work.now in
    record {
      page = λ told bytes copy held.
          subst (λ (xs : List ℕ). IsPageOf (changed bytes c.args.wanted.now.at c.args.wanted.now.given.now c.args.wanted.now.size) (c.args.position / 4096) xs) (sym same)
          (c.in_ok-page_after.ensures.read told bytes copy (held-far bytes work (g.D.Disk.content c.args.journal.now.disk) c.args.planning.now.base (pages_at c.args.wanted.now.agent c.args.wanted.now.row c.args.swap.now) (c.args.position / 4096) held));
      whole = ap (λ (xs : List ℕ). length xs) same ∙ c.page_after.ensures.buffer;
      tail = λ i past here. ap (λ (xs : List ℕ). slice_index xs (i % 4096)) same ∙ c.in_ok-page_after.ensures.tail i past here;
    }
