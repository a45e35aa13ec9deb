-- What holds of counts.
use Rattle.std.specs.Prelude.{ℕ, ◌-◌, ◌^◌, ◌≤◌, min}
use Rattle.std.proofs.Common.{arith}

-- no count passes that of a `u64`
pub capped : (n : ℕ) → min n (2 ^ 64 - 1) ≤ 2 ^ 64 - 1
capped n = omega arith
