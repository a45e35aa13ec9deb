use Rattle.std.proofs.Common.{◌≡◌, false, drop}
use Rattle.std.specs.Ordering.{is_lt}
use Rattle.opfs_base.specs.Texts.{Text}
use Rattle.opfs_desk_steps.specs.Iterating.Below.{AreUpTo}
use Rattle.opfs_desk_steps.proofs.iterating.Names.{text_cmp}
use Rattle.opfs_desk_steps.proofs.iterating.iterators.greatest.Given as goal

abbrev pub invariant-loop-name : goal.invariant-loop-name
invariant-loop-name l = (x : Text) → is_lt (text_cmp x l.most) ≡ false → AreUpTo x (drop l.name-index l.past) → AreUpTo x l.past
