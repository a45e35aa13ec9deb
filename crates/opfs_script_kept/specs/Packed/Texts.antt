-- Texts that stand one behind another: this project's own.
use Rattle.std.specs.Prelude.{ℕ, ◌+◌, List, [], ◌∷◌, take, drop}

-- The texts of these lengths.
abbrev pub cut : List ℕ → List ℕ → List (List ℕ)
cut [] bytes = []
cut (n ∷ lengths) bytes = take n bytes ∷ cut lengths (drop n bytes)

-- How many bytes lengths come to.
abbrev pub sum_of : List ℕ → ℕ
sum_of [] = 0
sum_of (n ∷ lengths) = n + sum_of lengths
