-- Counts of faults end where 64 bits do. This project's own.
use Rattle.std.specs.Prelude.{ℕ, ◌-◌, ◌^◌, ◌≤◌, min}
use Rattle.std.proofs.Common.{arith}

pub capped : (n : ℕ) → min n (2 ^ 64 - 1) ≤ 2 ^ 64 - 1
capped n = omega arith
