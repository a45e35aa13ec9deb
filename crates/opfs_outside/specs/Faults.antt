-- Counts of faults, which never fall. This project's own.
use Rattle.std.specs.Prelude.{◌≡◌, ℕ, ◌+◌, ◌-◌, ◌^◌, ◌<◌, ◌≤◌, ◌⊎◌}

-- the count has risen; at its type's end it stands still, and counts as risen
abbrev pub Rose : ℕ → ℕ → Type 0
Rose a b = (a < b) ⊎ (b ≡ 2 ^ 64 - 1)

-- the count has risen by n at least; at its type's end it counts as risen by any number
abbrev pub RoseBy : ℕ → ℕ → ℕ → Type 0
RoseBy n a b = (a + n ≤ b) ⊎ (b ≡ 2 ^ 64 - 1)
