use Rattle.std.proofs.Common.{◌≡◌, ℕ, length, replicate, ◌∙◌, arith}
use Rattle.std.proofs.lemmas.List.{length-replicate}
use Rattle.opfs_pages.proofs.PageBytes.{past_whole, zeros_at}
use Rattle.opfs_pages.proofs.reading.fill_page.Goals as goal

pub returns-then-page-pages-clause-read : goal.returns-then-page-pages-clause-read
returns-then-page-pages-clause-read g c = λ told bytes is held.
    let zeros : c.fill.new.self ≡ replicate (length c.args.buffer.now) 0 = c.fill.ensures.after (λ y is. is) in
    rw zeros
    (past_whole bytes (replicate (length c.args.buffer.now) 0) c.args.source.now.work.now c.args.page is (omega (arith, c.if-page-pages.true, c.pages.ensures.blocks)) (length-replicate {A = ℕ} (length c.args.buffer.now) 0 ∙ c.requires.buffer) (zeros_at (length c.args.buffer.now)))
