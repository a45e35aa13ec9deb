use Rattle.std.proofs.Common.{◌≡◌, true, length, replicate, sym, ◌∙◌, arith}
use Rattle.std.proofs.lemmas.List.{length-replicate}
use Rattle.opfs_work.specs.Pages.{page_at, is_near, is_far}
use Rattle.opfs_pages.specs.Copies.{IsBegun}
use Rattle.opfs_pages.proofs.PageBytes.{near_whole, zero_whole, copied_length, is_elsewhere, zeros_at, not_near}
use Rattle.opfs_pages.proofs.reading.read_page.Goals as goal

pub returns-in-Some-clause-read : goal.returns-in-Some-clause-read
returns-in-Some-clause-read g c = λ told bytes is held.
    rw c.copy_from_slice.ensures.after (near_whole bytes c.in-Some.near.now c.args.source.now.work.now c.args.page is c.in-Some.ensures.bytes c.in-Some.ensures.length c.in-Some.ensures.tail)

pub returns-then-is_zero-clause-read : goal.returns-then-is_zero-clause-read
returns-then-is_zero-clause-read g c = λ told bytes is held.
    let zeros : c.fill.new.self ≡ replicate (length c.args.into.now) 0 = c.fill.ensures.after (λ y is. is) in
    rw zeros
    (zero_whole bytes (replicate (length c.args.into.now) 0) c.args.source.now.work.now c.args.page is (sym c.is_zero.ensures ∙ c.if-is_zero.true) (length-replicate (length c.args.into.now) 0 ∙ c.requires.whole) (zeros_at (length c.args.into.now)))

pub cut_page-requires-clause-page : goal.cut_page-requires-clause-page
cut_page-requires-clause-page g c = omega (arith, c.requires.there, c.pages-pages.ensures.pages, c.pages-pages.ensures.blocks, c.size.ensures)

pub returns-clause-read : goal.returns-clause-read
returns-clause-read g c = λ told bytes is held.
    let far : is_far (page_at c.args.source.now.work.now.pages c.args.page) ≡ true =
    is_elsewhere (page_at c.args.source.now.work.now.pages c.args.page) (not_near (is_near (page_at c.args.source.now.work.now.pages c.args.page)) c.in_default.ensures.none) (sym c.is_zero.ensures ∙ c.if-is_zero.false) in
    let begun : IsBegun bytes c.args.page c.read.new.into = rw (c.in_ok-read.ensures.read told) (held far) in
    c.cut_page.ensures.filled bytes (copied_length bytes c.args.source.now.work.now is ∙ sym c.size.ensures) begun
