use Rattle.std.proofs.Common.{◌≡◌, ◌∙◌, length, sym, ap, arith}
use Rattle.std.proofs.lemmas.List.{with_items_is}
use Rattle.opfs_blocks.proofs.BitLemmas.{flags_seen, size_is}
use Rattle.opfs_blocks.proofs.bits.Bits.set.Goals as goal

pub set_bit-requires : goal.set_bit-requires
set_bit-requires c = omega (arith, size_is _ _ _ c.self.view_is, ap length c.deref_mut.ensures.value, c.self.invariant)

pub clear_bit-requires : goal.clear_bit-requires
clear_bit-requires c = omega (arith, size_is _ _ _ c.self.view_is, ap length c.deref_mut-else-flag.ensures.value, c.self.invariant)

pub returns-then-flag : goal.returns-then-flag
returns-then-flag c =
    let same-len : length c.set_bit.new.words ≡ c.self.inside.words.len = c.set_bit.auto.words ∙ c.deref_mut.ensures.len in
    rw (with_items_is c.self.inside.words c.set_bit.new.words same-len) (flags_seen _ _ _ c.deref_mut.result.now _ c.args.block c.args.flag c.self.view_is c.deref_mut.ensures.value (omega (arith, size_is _ _ _ c.self.view_is)) (c.set_bit.ensures.same ∙ sym c.if-flag.true) c.set_bit.ensures.other)

pub returns-else-flag : goal.returns-else-flag
returns-else-flag c =
    let same-len : length c.clear_bit.new.words ≡ c.self.inside.words.len = c.clear_bit.auto.words ∙ c.deref_mut-else-flag.ensures.len in
    rw (with_items_is c.self.inside.words c.clear_bit.new.words same-len) (flags_seen _ _ _ c.deref_mut-else-flag.result.now _ c.args.block c.args.flag c.self.view_is c.deref_mut-else-flag.ensures.value (omega (arith, size_is _ _ _ c.self.view_is)) (c.clear_bit.ensures.same ∙ sym c.if-flag.false) c.clear_bit.ensures.other)
