-- Numbers of calls, and the lists that name calls by these numbers. This project's own.
use Rattle.std.specs.Prelude.{ℕ, ◌+◌, ◌-◌, ◌^◌, ◌≤◌, min, Bool, List, ◌==◌}
use Rattle.std.specs.List.{list_any}
use Rattle.std.proofs.Common.{arith}

-- the next number of a `u64`, which stands still at its end
abbrev pub counted : ℕ → ℕ
counted n = min (n + 1) (2 ^ 64 - 1)

-- the list names this number
abbrev pub is_named : List ℕ → ℕ → Bool
is_named fails n = list_any (λ k. k == n) fails

-- no count passes that of a `u64`
pub capped : (n : ℕ) → min n (2 ^ 64 - 1) ≤ 2 ^ 64 - 1
capped n = omega arith
