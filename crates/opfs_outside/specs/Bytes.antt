-- Bytes by place. This project's own.
use Rattle.std.specs.Prelude.{◌≡◌, ℕ, zero, suc, ◌+◌, ◌<◌, ◌≤◌, ◌⊎◌, List, [], ◌∷◌, slice_index}

-- the same byte at each of these places
abbrev pub Same : (ℕ → Type 0) → List ℕ → List ℕ → Type 0
Same W c d = (i : ℕ) → W i → slice_index c i ≡ slice_index d i

-- n bytes from a place on
abbrev pub window : List ℕ → ℕ → ℕ → List ℕ
window c at zero = []
window c at (suc n) = slice_index c at ∷ window c (at + 1) n

-- the places outside of n bytes from a place on
abbrev pub Beside : ℕ → ℕ → ℕ → Type 0
Beside at n i = (i < at) ⊎ (at + n ≤ i)
