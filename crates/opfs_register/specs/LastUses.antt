-- The last use of each origin that has agents. This project's own.
use Rattle.std.specs.Prelude.{ℕ, ◌==◌, Bool, not, List, is_some, filter}
use Rattle.std.specs.Map.{lookup}
use Rattle.std.specs.BTreeMap.{is_at}
use Rattle.std.specs.Cmp.Lexicographic.{slice_cmp}
use Rattle.std.specs.Ordering.{nat_cmp}
use Rattle.std.specs.declared.cmp.Ordering.{Ordering}
use Rattle.opfs_base.specs.Texts.{Text}

-- The order of texts.
abbrev pub text_cmp : Text → Text → Ordering
text_cmp = slice_cmp nat_cmp

-- Origins with the number of the last entry of their agents; 0 where there is none.
abbrev pub Counts : Type 0
Counts = List (Text × ℕ)

-- Those that were used.
abbrev pub is_used : Text × ℕ → Bool
is_used e = not (e.1 == 0)

abbrev pub used_in : Counts → Counts
used_in counts = filter is_used counts

-- Whether an origin is among them.
abbrev pub is_known : Counts → Text → Bool
is_known counts origin = is_some (lookup (is_at (text_cmp origin)) counts)
