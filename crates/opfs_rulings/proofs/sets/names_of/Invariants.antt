use Rattle.std.proofs.Common.{◌≡◌, ◌||◌, drop}
use Rattle.std.specs.List.{list_any}
use Rattle.std.specs.BTreeSet.{contains}
use Rattle.std.specs.Cmp.Lexicographic.{slice_cmp}
use Rattle.std.specs.Ordering.{nat_cmp}
use Rattle.opfs_base.specs.Texts.{Text, same_text}
use Rattle.opfs_rulings.proofs.sets.names_of.Given as goal

abbrev pub invariant-loop-name : goal.invariant-loop-name
invariant-loop-name l =
    (x : Text) → (contains (slice_cmp nat_cmp) l.names x || list_any (same_text x) (drop l.name-index l.given)) ≡ list_any (same_text x) l.given
