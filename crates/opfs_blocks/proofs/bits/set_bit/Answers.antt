use Rattle.std.proofs.Common.{◌%◌, arith}
use Rattle.std.specs.Int.{w64}
use Rattle.std.proofs.lemmas.Nat.Bits.{bit_at_set_same, bit_at_set_other}
use Rattle.opfs_blocks.proofs.BitLemmas.{set_same, set_other}
use Rattle.opfs_blocks.proofs.bits.set_bit.Goals as goal

pub returns-clause-same : goal.returns-clause-same
returns-clause-same c = set_same c.args.words.now c.args.block _ 1 (omega arith) (bit_at_set_same w64 _ (c.args.block % 64) (omega arith))

pub returns-clause-other : goal.returns-clause-other
returns-clause-other c = λ k ne. set_other c.args.words.now c.args.block k _ ne (λ i lt ne'. bit_at_set_other w64 _ (c.args.block % 64) (omega arith) i ne')
