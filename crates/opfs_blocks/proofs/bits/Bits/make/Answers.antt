use Rattle.opfs_blocks.proofs.BitLemmas.{made}
use Rattle.opfs_blocks.proofs.bits.Bits.make.Goals as goal

pub returns : goal.returns
returns c = made c.resize.new.self.items c.new-words.result.items c.div_ceil.result _ c.args.size c.in_ok-resize.ensures.items c.new-words.ensures.items c.new-words.ensures.len
