use Rattle.std.proofs.Common.{length, sym, ap, ◌∙◌, arith}
use Rattle.opfs_blocks.proofs.BitLemmas.{flag_seen, size_is}
use Rattle.opfs_blocks.proofs.bits.Bits.get.Goals as goal

pub is_set-requires : goal.is_set-requires
is_set-requires c = omega (arith, size_is _ _ _ c.self.view_is, ap length c.deref.ensures.value, c.self.invariant)

pub returns : goal.returns
returns c =
    c.is_set.ensures ∙ sym (flag_seen _ _ _ c.deref.result.now c.args.block c.self.view_is c.deref.ensures.value (omega (arith, size_is _ _ _ c.self.view_is)))
