-- What a set says of the list that it was made from.
use Rattle.std.specs.Prelude.{◌≡◌, not, List}
use Rattle.std.specs.List.{list_any, list_all}
use Rattle.std.specs.BTreeSet.{BTreeSet, contains}
use Rattle.std.specs.Cmp.Lexicographic.{slice_cmp}
use Rattle.std.specs.Ordering.{nat_cmp}
use Rattle.opfs_base.specs.Texts.{Text, same_text}
use Rattle.opfs_machine.specs.Rows.{Rows}
use Rattle.opfs_rulings.specs.Known.{is_untaken}

-- A set has what a list has.
abbrev pub IsSetOf : List Text → BTreeSet Text → Type 0
IsSetOf xs set = (x : Text) → contains (slice_cmp nat_cmp) set x ≡ list_any (same_text x) xs

-- A set has the units with a file whose lock is taken.
abbrev pub IsTakenSet : Rows Text → BTreeSet Text → Type 0
IsTakenSet rows set = (unit : Text) → not (contains (slice_cmp nat_cmp) set unit) ≡ list_all (is_untaken unit) rows
