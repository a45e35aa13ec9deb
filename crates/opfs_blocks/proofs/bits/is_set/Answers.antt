use Rattle.std.proofs.Common.{ap, ◌%◌, nat_eq, ℕ}
use Rattle.std.proofs.lemmas.Nat.Bits.{shr_and_one}
use Rattle.opfs_blocks.specs.Words.{bit_of}
use Rattle.opfs_blocks.proofs.bits.is_set.Goals as goal

pub returns : goal.returns
unfolding bit_of
returns c = ap (λ (b : ℕ). nat_eq b 1) (shr_and_one _ (c.args.block % 64))
