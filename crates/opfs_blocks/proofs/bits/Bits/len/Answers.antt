use Rattle.std.proofs.Common.{length, sym, ap, ◌∙◌}
use Rattle.opfs_blocks.proofs.BitLemmas.{length-flags}
use Rattle.opfs_blocks.proofs.bits.Bits.len.Goals as goal

pub returns : goal.returns
returns c = sym (length-flags c.self.inside.words.items c.self.inside.size) ∙ ap length c.self.view_is
