use Rattle.std.proofs.Common.{◌≡◌, ◌+◌, ◌/◌, ◌%◌, ◌^◌, ◌<◌, get_or, ap, ◌∙◌, inl, inr, arith}
use Rattle.std.specs.Int.{w64, trailing_ones}
use Rattle.std.proofs.lemmas.Bool.{cases_lt}
use Rattle.opfs_blocks.specs.Words.{bit_of}
use Rattle.opfs_blocks.proofs.BitLemmas.{ones_pass, ones_end}
use Rattle.opfs_blocks.proofs.bits.first_clear_bit.Goals as goal

pub returns-then-ones-block-clause-passed : goal.returns-then-ones-block-clause-passed
returns-then-ones-block-clause-passed c = λ k from lt.
    let words = c.args.words.now in
    let block = c.loop-block.block in
    let fits : get_or words (block / 64) 0 < 2 ^ 64 = omega (arith, c.type_inv.words (block / 64)) in
    elim (cases_lt k block) [
      | inl before ↦ c.loop-block.invariant.2 k from before
      | inr behind ↦ ones_pass words block k fits behind (omega arith) (omega arith)
    ]

pub returns-then-ones-block-clause-clear : goal.returns-then-ones-block-clause-clear
returns-then-ones-block-clause-clear c = λ lt.
    let words = c.args.words.now in
    let block = c.loop-block.block in
    let fits : get_or words (block / 64) 0 < 2 ^ 64 = omega (arith, c.type_inv.words (block / 64)) in
    let e : c.min.result ≡ block + trailing_ones w64 (get_or words (block / 64) 0 / 2 ^ (block % 64)) = omega arith in
    ap (bit_of words) e ∙ ones_end words block fits (omega arith)

pub loop-block-preserved : goal.loop-block-preserved
loop-block-preserved c =
    let words = c.args.words.now in
    let block = c.loop-block.block in
    let fits : get_or words (block / 64) 0 < 2 ^ 64 = omega (arith, c.type_inv.words (block / 64)) in (
      omega arith,
      omega arith,
      λ k from lt.
          elim (cases_lt k block) [
            | inl before ↦ c.loop-block.invariant.2 k from before
            | inr behind ↦ ones_pass words block k fits behind (omega arith) (omega arith)
          ],
    )
