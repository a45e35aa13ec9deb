-- File locks: File System, "take a lock" and "release the lock". The value taken-read-only, and that a lock keeps the
-- count of its holders, are this project's own.
use Rattle.std.specs.Prelude.{ℕ, ◌+◌, ◌-◌, Bool, true, false, Option, Some, None, ◌==◌}
use Rattle.opfs_locks.specs.declared.LockValue.{LockValue}
use Rattle.opfs_locks.specs.declared.LockValue.TheVariants as value
use Rattle.opfs_locks.specs.declared.Want.{Want}
use Rattle.opfs_locks.specs.declared.Want.TheVariants as want

-- A lock: its value, and the number of its holders where it is taken-shared or taken-read-only.
abbrev pub Lock : Type 0
Lock = LockValue × ℕ

-- Nobody holds the lock.
abbrev pub open_lock : Lock
open_lock = (value.Free, 0)

-- The value that a lock has once it is taken as asked.
abbrev pub value_of : Want → LockValue
value_of want.Exclusive = value.Exclusive
value_of want.Shared = value.Shared
value_of want.ReadOnly = value.ReadOnly

-- The lock after it was taken, or None where taking it fails. Exclusive is given only from open; shared from open
-- and from taken-shared; read-only from open and from taken-read-only.
abbrev pub taken : Want → Lock → Option Lock
taken want.Exclusive (value.Free, n) = Some (value.Exclusive, 0)
taken want.Exclusive (v, n) = None
taken want.Shared (value.Free, n) = Some (value.Shared, 1)
taken want.Shared (value.Shared, n) = Some (value.Shared, n + 1)
taken want.Shared (v, n) = None
taken want.ReadOnly (value.Free, n) = Some (value.ReadOnly, 1)
taken want.ReadOnly (value.ReadOnly, n) = Some (value.ReadOnly, n + 1)
taken want.ReadOnly (v, n) = None

-- The lock after one holder released it: one holder less where there are several, otherwise open.
abbrev pub released : Lock → Lock
released (value.Free, n) = open_lock
released (value.Exclusive, n) = open_lock
released (value.Shared, n) = elim (n == 1) [ true ↦ open_lock | false ↦ (value.Shared, n - 1) ]
released (value.ReadOnly, n) = elim (n == 1) [ true ↦ open_lock | false ↦ (value.ReadOnly, n - 1) ]

-- Nobody holds the lock.
abbrev pub is_open : LockValue → Bool
is_open value.Free = true
is_open v = false
