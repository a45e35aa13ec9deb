-- What units keep of the pool of data blocks. This project's own.
use Rattle.std.specs.Prelude.{ℕ, Bool, true, false, List, sum_by, unwrap_or, is_some}
use Rattle.std.specs.Map.{lookup, set_value, values_of}
use Rattle.std.specs.BTreeMap.{is_at, insert_entry}
use Rattle.std.specs.Ordering.{nat_cmp}
use Rattle.std.specs.declared.cmp.Ordering.{Ordering}
use Rattle.std.specs.Cmp.Lexicographic.{slice_cmp}
use Rattle.opfs_base.specs.Texts.{Text}
use Rattle.opfs_pool.specs.declared.pool.Share.{Share}

-- The share of each unit that has one, in the order of the units' texts.
abbrev pub Shares : Type 0
Shares = List (Text × Share)

-- The order of texts.
abbrev pub text_cmp : Text → Text → Ordering
text_cmp = slice_cmp nat_cmp

-- Whether a unit is this one.
abbrev pub is_unit : Text → Text → Bool
is_unit unit = is_at (text_cmp unit)

-- Whether a unit has a share.
abbrev pub has_share : Shares → Text → Bool
has_share shares unit = is_some (lookup (is_unit unit) shares)

-- A share as it first is: of no blocks, of a unit that is no candidate.
abbrev pub first_share : Share
first_share = record { candidate = false; blocks = 0 }

-- The share of a unit, as it first is where it has none.
abbrev pub share_at : Shares → Text → Share
share_at shares unit = unwrap_or (lookup (is_unit unit) shares) first_share

-- The blocks of all shares together.
abbrev pub held : Shares → ℕ
held shares = sum_by (λ share. share.blocks) (values_of shares)

-- The shares with another one of a unit, and as they are where the unit has none.
abbrev pub with_share : Shares → Text → Share → Shares
with_share shares unit share = set_value (is_unit unit) shares share

-- The shares with a unit's among them: one that is new comes as it first is, in its place.
abbrev pub touched : Shares → Text → Shares
touched shares unit = elim (has_share shares unit) [ true ↦ shares | false ↦ insert_entry text_cmp shares unit first_share ]

-- How many blocks there are, and the shares of them.
pub record Blocks : Type 0 where
  pub size : ℕ
  pub shares : Shares

-- The pool with another share of a unit.
abbrev pub changed : Blocks → Text → Share → Blocks
changed pool unit share = record pool { shares = with_share pool.shares unit share }
