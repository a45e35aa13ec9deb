-- Who may release a lock: this project's own.
use Rattle.std.specs.Prelude.{◌≡◌, ◌<◌}
use Rattle.opfs_locks.specs.declared.LockValue.TheVariants as value
use Rattle.opfs_locks.specs.declared.Want.{Want}
use Rattle.opfs_locks.specs.declared.Want.TheVariants as want
use Rattle.opfs_locks.specs.Taking.{Lock}

-- The lock is taken as it was asked for, and somebody holds it.
abbrev pub IsTakenAs : Want → Lock → Type 0
IsTakenAs want.Exclusive lock = lock.0 ≡ value.Exclusive
IsTakenAs want.Shared lock = (lock.0 ≡ value.Shared) × (0 < lock.1)
IsTakenAs want.ReadOnly lock = (lock.0 ≡ value.ReadOnly) × (0 < lock.1)
