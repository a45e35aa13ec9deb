use Rattle.std.proofs.Common.{rules, ◌≡◌, ◌+◌, ◌∷◌, ◌++◌, ℕ, [], None, take, sym, ap, ◌∙◌, arith}
use Rattle.opfs_space.specs.Spaces.{page_blocks}
use Rattle.opfs_pages.proofs.row_calls.Blocks.{page-bare, run-added}
use Rattle.opfs_pages.proofs.row_calls.content.add_run.Goals as goal

pub returns-in_default-clause-blocks : goal.returns-in_default-clause-blocks
returns-in_default-clause-blocks c = λ before.
    let none : c.block_of.result ≡ None = search rules in
    before ∙ sym (page-bare c.args.row.now c.args.page (omega (arith, c.requires.inside, c.requires.there)) (sym c.block_of.ensures ∙ none))

pub returns-clause-blocks : goal.returns-clause-blocks
returns-clause-blocks c = λ before.
    let pushed : c.push.new.self.items ≡ c.args.into.now.items ++ (record { start = c.in-Some.start; count = c.run_length-count.result }) ∷ [] = search rules in
    run-added c.args.row.now c.args.page c.in-Some.start c.run_length-count.result c.args.into.now.items c.push.new.self.items (omega (arith, c.run_length-count.ensures.within, c.requires.there)) c.run_length-count.ensures.run pushed before
    ∙ ap (λ (n : ℕ). page_blocks (take (c.args.page + n) c.args.row.now)) (sym c.from.ensures)
