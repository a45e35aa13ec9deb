-- What the plain machine's parts say of lists of rows and of agents.
use Rattle.std.specs.Prelude.{ℕ, ◌<◌, ◌≤◌, ◌||◌, Bool, true, false, not, is_none, filter, sum_by, List, [], ◌∷◌, length, Option, None, Some, Ok, Err}
use Rattle.std.specs.Ordering.{is_gt}
use Rattle.std.specs.declared.cmp.Ordering.{Ordering}
use Rattle.std.specs.List.{list_any}
use Rattle.opfs_base.specs.Texts.{Text, same_text}
use Rattle.opfs_machine.specs.declared.own.Own.{Own}
use Rattle.opfs_machine.specs.declared.state.Agent.{Agent}
use Rattle.opfs_machine.specs.declared.state.State.{State}
use Rattle.opfs_locks.specs.Taking.{Lock}
use Rattle.opfs_machine.specs.declared.state.Need.{Need}
use Rattle.opfs_machine.specs.Ruled.{Ruled}
use Rattle.opfs_machine.specs.Rulings.{locked_by}
use Rattle.opfs_machine.specs.Sums.{no_need, durable_blocks}
use Rattle.opfs_machine.specs.Contents.{in_bytes}
use Rattle.opfs_machine.specs.Rows.{taken_lock}
use Rattle.opfs_machine.specs.declared.state.Row.{Row}
use Rattle.opfs_base.specs.Places.{Place}

-- There is an agent of this number.
pub record IsAgent (s : State Text Own) (k : ℕ) : Type 0 where
  pub above : 0 < k
  pub within : k ≤ length s.agents

-- There is an own row of this number.
pub record IsOwn (a : Agent Own) (row : ℕ) : Type 0 where
  pub above : 0 < row
  pub within : row ≤ length a.own

-- What is refused where a lock is not open.
abbrev pub lock_ruling : Option Lock → Ruled Need
lock_ruling None = Ok no_need
lock_ruling (Some lock) = Err (locked_by lock)

-- Whether a list begins with no item below another.
abbrev pub begins_from : {A : Type 0} → (A → A → Ordering) → A → List A → Bool
begins_from R x [] = true
begins_from R x (y ∷ ys) = not (is_gt (R x y))

-- Whether a list of entries begins with no key below another.
abbrev pub keys_from : {K X : Type 0} → (K → K → Ordering) → K → List (K × X) → Bool
keys_from R k [] = true
keys_from R k (e ∷ es) = not (is_gt (R k e.0))

-- Whether a unit is not among some.
unfoldable pub is_left : List Text → Text → Bool
is_left gone unit = not (list_any (λ u. same_text u unit) gone)

-- The blocks that clearing a unit frees, once some units are cleared.
abbrev pub freed : List Text → Text → List (Place × Row Text) → ℕ
freed gone unit rows =
    elim (list_any (λ u. same_text u unit) gone) [
      | true ↦ 0
      | false ↦ sum_by (λ e. durable_blocks in_bytes e.1) (filter (λ e. same_text unit e.0.0) rows)
    ]

-- Whether a row is not a unit's file with a taken lock.
abbrev pub is_untaken : Text → Place × Row Text → Bool
is_untaken unit e = not (same_text unit e.0.0) || is_none (taken_lock e.1)
