-- Who holds the lock of a file: the open streams and access handles on it. This project's own.
use Rattle.std.specs.Prelude.{◌≡◌, ℕ, ◌<◌, Bool, true, false, cond, ◌&&◌, Option, Some, None, sum_by}
use Rattle.std.specs.Ordering.{eq_by_cmp}
use Rattle.opfs_base.specs.Places.{Place, place_cmp}
use Rattle.opfs_base.specs.Texts.{Text}
use Rattle.opfs_locks.specs.Taking.{Lock}
use Rattle.opfs_locks.specs.declared.LockValue.TheVariants as value
use Rattle.opfs_locks.specs.declared.Want.{Want}
use Rattle.opfs_locks.specs.declared.Want.TheVariants as want
use Rattle.opfs_machine.specs.declared.own.Own.{Own}
use Rattle.opfs_machine.specs.declared.own.Own.TheVariants as own
use Rattle.opfs_machine.specs.declared.state.State.{State}
use Rattle.opfs_machine.specs.Rows.{file_at}
use Rattle.opfs_machine.specs.Rulings.{lock_in, want_of}
use Rattle.opfs_machine.specs.Sums.{all_own}

-- The file of an open stream or access handle, and how it asked for its lock.
abbrev pub hold_of : Own → Option (Place × Want)
hold_of (own.Stream w) = Some (w.file, want.Shared)
hold_of (own.Handle h) = Some (h.file, want_of h.mode)
hold_of r = None

abbrev pub same_want : Want → Want → Bool
same_want want.Exclusive want.Exclusive = true
same_want want.Shared want.Shared = true
same_want want.ReadOnly want.ReadOnly = true
same_want v w = false

abbrev pub counts : Place → Want → Option (Place × Want) → ℕ
counts place w None = 0
counts place w (Some held) = cond (eq_by_cmp place_cmp place held.0 && same_want w held.1) 1 0

-- How many open streams, or access handles of a mode, there are on a place.
abbrev pub holders : State Text Own → Place → Want → ℕ
holders s place w = sum_by (λ r. counts place w (hold_of r)) (all_own s)

-- So many hold the lock by each way of asking for it.
pub record AreHolders (count : Want → ℕ) (writers streams readers : ℕ) : Type 0 where
  pub exclusive : count want.Exclusive ≡ writers
  pub shared : count want.Shared ≡ streams
  pub read_only : count want.ReadOnly ≡ readers

-- What a lock tells of its holders: open, nobody; taken-exclusive, one access handle that may write; taken-shared,
-- so many streams; taken-read-only, so many access handles that may not write.
abbrev pub IsLockOf : Lock → (Want → ℕ) → Type 0
IsLockOf (value.Free, n) count = (n ≡ 0) × AreHolders count 0 0 0
IsLockOf (value.Exclusive, n) count = (n ≡ 0) × AreHolders count 1 0 0
IsLockOf (value.Shared, n) count = (0 < n) × AreHolders count 0 n 0
IsLockOf (value.ReadOnly, n) count = (0 < n) × AreHolders count 0 0 n

-- Each file's lock tells its holders. No stream and no access handle is open where no file is.
abbrev pub AreLocksOfHolders : State Text Own → Type 0
AreLocksOfHolders s = (place : Place) → IsLockOf (lock_in (file_at s place)) (holders s place)
