use Rattle.std.proofs.Common.{◌≡◌, ◌∙◌, length}
use Rattle.std.proofs.lemmas.List.{with_items_is}
use Rattle.opfs_blocks.proofs.BitLemmas.{cleared}
use Rattle.opfs_blocks.proofs.bits.Bits.clear.Goals as goal

pub returns : goal.returns
returns c =
    let zeros = c.clear_words.ensures in
    let same-len : length c.clear_words.new.words ≡ c.self.inside.words.len = c.clear_words.auto.words ∙ c.deref_mut.ensures.len in
    rw (with_items_is c.self.inside.words c.clear_words.new.words same-len) (cleared _ _ _ (length c.deref_mut.result.now) c.clear_words.new.words c.self.view_is zeros)
