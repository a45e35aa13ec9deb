use Rattle.std.proofs.Common.{◌<◌, ◌∙◌, arith}
use Rattle.opfs_blocks.proofs.BitLemmas.{flag_seen, size_is}
use Rattle.opfs_blocks.proofs.bits.Bits.first_clear.Goals as goal

pub first_clear_bit-requires-clause-ordered : goal.first_clear_bit-requires-clause-ordered
first_clear_bit-requires-clause-ordered c = omega (arith, size_is _ _ _ c.self.view_is)

pub returns-clause-bounds : goal.returns-clause-bounds
returns-clause-bounds c =
    (c.first_clear_bit.ensures.bounds.0, omega (arith, size_is _ _ _ c.self.view_is, c.first_clear_bit.ensures.bounds.1))

pub returns-clause-passed : goal.returns-clause-passed
returns-clause-passed c = λ k from below.
    flag_seen _ _ _ c.deref.result.now k c.self.view_is c.deref.ensures.value (omega (arith, c.first_clear_bit.ensures.bounds.1)) ∙ c.first_clear_bit.ensures.passed k from below

pub returns-clause-clear : goal.returns-clause-clear
returns-clause-clear c = λ below.
    let inside : c.first_clear_bit.result < c.self.inside.size = omega (arith, size_is _ _ _ c.self.view_is) in
    flag_seen _ _ _ c.deref.result.now c.first_clear_bit.result c.self.view_is c.deref.ensures.value inside ∙ c.first_clear_bit.ensures.clear inside
