-- Up to which name an iterator has given all that its directory has. This project's own.
use Rattle.std.specs.Prelude.{◌≡◌, ℕ, Bool, true, false, not, List, Option, Some, None}
use Rattle.std.specs.Cmp.Lexicographic.{slice_cmp}
use Rattle.std.specs.List.{AllByRecursion, list_any}
use Rattle.std.specs.Ordering.{is_lt, nat_cmp}
use Rattle.opfs_base.specs.Places.{Place, place_of}
use Rattle.opfs_base.specs.Texts.{Text, same_text}
use Rattle.opfs_base.specs.declared.locator.Locator.{Locator}
use Rattle.opfs_hist.specs.declared.op.Op.{Op}
use Rattle.opfs_hist.specs.declared.op.Op.TheVariants as op
use Rattle.opfs_machine.specs.declared.own.Own.{Own}
use Rattle.opfs_machine.specs.declared.own.Own.TheVariants as own
use Rattle.opfs_machine.specs.declared.state.State.{State}
use Rattle.opfs_machine.specs.Agents.{agent_of, own_of}
use Rattle.opfs_machine.specs.Rows.{children_of}

-- Of names in order, those were given that are not above one.
abbrev pub AreGivenUpTo : List Text → Text → List Text → Type 0
AreGivenUpTo past last names = AllByRecursion (λ name. list_any (same_text name) past ≡ not (is_lt (slice_cmp nat_cmp last name))) names

-- None of the names that are above one was given.
abbrev pub AreNotGivenAbove : List Text → Text → List Text → Type 0
AreNotGivenAbove past name names = AllByRecursion (λ other. is_lt (slice_cmp nat_cmp name other) ≡ true → list_any (same_text other) past ≡ false) names

-- The iterator that a call asks; 0 for any other call.
abbrev pub asked_row : Op → ℕ
asked_row (op.Next n dir) = n
asked_row o = 0

-- Whether a call may make a row.
abbrev pub may_make : Op → Bool
may_make (op.GetDirectory bucket) = true
may_make (op.GetDirectoryHandle dir name create) = create
may_make (op.GetFileHandle dir name create) = create
may_make o = false

-- The name, if one is known, up to which a next's iterator has given all that its directory has now.
abbrev pub IsUpTo : (Place → List Text) → Op → List Text → Option Text → Type 0
IsUpTo names o past None = Unit {0}
IsUpTo names (op.Next n dir) past (Some last) = AreGivenUpTo past last (names (place_of dir))
IsUpTo names o past (Some last) = Unit {0}

-- An agent's own row is an iterator, which has given all that its directory has up to a name, and nothing above it that is there.
pub record HasReached (s : State Text Own) (k n : ℕ) (last : Text) : Type 0 where
  pub dir : Locator
  pub given : List Text
  pub there : own_of (agent_of s k) n ≡ Some (own.Iterator (record { dir = dir; given = given }))
  pub up_to : AreGivenUpTo given last (children_of s (place_of dir))
