use Rattle.std.proofs.Common.{◌≡◌, ◌&&◌, not, drop}
use Rattle.std.specs.List.{list_all}
use Rattle.std.specs.BTreeSet.{contains}
use Rattle.std.specs.Cmp.Lexicographic.{slice_cmp}
use Rattle.std.specs.Ordering.{nat_cmp}
use Rattle.opfs_base.specs.Texts.{Text}
use Rattle.opfs_rulings.specs.Known.{is_untaken}
use Rattle.opfs_rulings.proofs.room.taken_units.Given as goal

abbrev pub invariant-loop-entry : goal.invariant-loop-entry
invariant-loop-entry l =
    (unit : Text) → (not (contains (slice_cmp nat_cmp) l.taken unit) && list_all (is_untaken unit) (drop l.entry-index l.rows)) ≡ list_all (is_untaken unit) l.rows
