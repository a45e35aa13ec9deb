-- The bytes that make an area's records.
use Rattle.std.specs.Prelude.{◌≡◌, ℕ, ◌+◌, ◌%◌, ◌<◌, ◌≤◌, ◌⊎◌, ◌==◌, Bool, true, false, not, List, [], ◌∷◌, length, slice_index}
use Rattle.opfs_outside.specs.Bytes.{window}
use Rattle.opfs_journal.specs.Format.{is_open, number_at, begin_of, is_generation, next_of, Opened, Stored, stored_in}
use Rattle.opfs_journal.specs.declared.areas.Areas.{Areas}

-- from this gate on there are records of these bodies, and then the gate at tail
abbrev pub Walks : List ℕ → ℕ → List (List ℕ) → ℕ → Type 0
Walks c gate [] tail = gate ≡ tail
Walks c gate (body ∷ more) tail =
    (is_open c gate ≡ true) × (number_at c (gate + 1) ≡ length body) × (window c (gate + 5) (length body) ≡ body) × Walks c (gate + 5 + length body) more tail

-- which area rules, its first record's generation byte and body, the bodies of the others, and the gate behind them
pub record Shape : Type 0 where
  pub second : Bool
  pub generation : ℕ
  pub first : List ℕ
  pub more : List (List ℕ)
  pub tail : ℕ

abbrev pub bodies_of : Shape → List (List ℕ)
bodies_of s = (s.generation ∷ s.first) ∷ s.more

abbrev pub stored_of : Shape → Stored
stored_of s = stored_in (bodies_of s)

abbrev pub opened_of : Shape → Opened
opened_of s = record { second = s.second; bodies = bodies_of s; tail = s.tail }

-- an area of generation byte g rules over the other one of byte o
abbrev pub Rules : Bool → ℕ → ℕ → Type 0
Rules false g o = (o % 16 == next_of g) ≡ false
Rules true g o = (g % 16 == next_of o) ≡ true

-- the other area's first record is none that refuses the image or rules, were its gate open
pub record IsRuled (a : Areas) (second : Bool) (generation : ℕ) (c : List ℕ) : Type 0 where
  pub some : number_at c (begin_of a (not second) + 1) ≡ 0 → ⊥
  pub within : 5 + number_at c (begin_of a (not second) + 1) ≤ a.bytes
  pub known : is_generation (slice_index c (begin_of a (not second) + 5)) ≡ true
  pub rules : Rules second generation (slice_index c (begin_of a (not second) + 5))

-- the image has the records of this shape
pub record Rests (a : Areas) (s : Shape) (c : List ℕ) : Type 0 where
  pub walks : Walks c (begin_of a s.second) (bodies_of s) s.tail
  pub shut : is_open c s.tail ≡ false
  pub room : s.tail < begin_of a s.second + a.bytes
  pub known : is_generation s.generation ≡ true
  pub other : is_open c (begin_of a (not s.second)) ≡ true → IsRuled a s.second s.generation c

-- the places that the records of a shape are read from
abbrev pub Relevant : Areas → Shape → ℕ → Type 0
Relevant a s i =
    ((begin_of a s.second ≤ i) × (i ≤ s.tail)) ⊎ ((begin_of a (not s.second) ≤ i) × (i < begin_of a (not s.second) + 6))
