use Rattle.std.proofs.Common.{◌≡◌, ◌||◌, drop}
use Rattle.std.specs.List.{list_any}
use Rattle.std.specs.BTreeSet.{contains}
use Rattle.opfs_base.specs.Texts.{Text, same_text}
use Rattle.opfs_tree.specs.Units.{text_cmp}
use Rattle.opfs_tree.proofs.given.names_of.Given as goal

abbrev pub invariant-loop-name : goal.invariant-loop-name
invariant-loop-name l =
    (x : Text) → (contains text_cmp l.names x || list_any (same_text x) (drop l.name-index l.past)) ≡ list_any (same_text x) l.past
