use Rattle.std.proofs.Common.{ℕ, ◌++◌, ◌∷◌, [], List, sym, ap, ◌∙◌, append_assoc}
use Rattle.opfs_blocks.specs.Sets.{blocks_in, blocks_of}
use Rattle.opfs_blocks.proofs.SetLemmas.{range_more}
use Rattle.opfs_blocks.proofs.runs.grow.Goals as goal

pub returns-then-run-block-clause-blocks : goal.returns-then-run-block-clause-blocks
returns-then-run-block-clause-blocks c =
    ap (λ (xs : List ℕ). blocks_of c.args.into.now.items ++ xs) (range_more c.args.run.start c.args.run.count ∙ ap (λ (b : ℕ). blocks_in c.args.run ++ b ∷ []) c.if-run-block.true)
    ∙ sym (append_assoc (blocks_of c.args.into.now.items) (blocks_in c.args.run) (c.args.block ∷ []))
