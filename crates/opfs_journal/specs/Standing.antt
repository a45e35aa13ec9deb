-- What a journal knows of its disk between two calls.
use Rattle.std.specs.Prelude.{◌≡◌, ◌≢◌, ℕ, ◌+◌, ◌*◌, ◌^◌, ◌<◌, ◌≤◌, Bool, true, false, not, Option, Some, None, List, [], ◌∷◌, ◌++◌, length}
use Rattle.opfs_outside.specs.Bytes.{Same, window, Beside}
use Rattle.opfs_outside.specs.Moments.{Elapses}
use Rattle.opfs_journal.specs.Clauses.{Outside}
use Rattle.opfs_journal.specs.Format.{is_open, number_at, begin_of, is_generation}
use Rattle.opfs_journal.specs.Reading.{Shape, IsRuled, Rests}
use Rattle.opfs_journal.specs.declared.areas.Areas.{Areas}

-- the other area's first gate is closed, or its first record, were the gate open, would not rule
abbrev pub OtherIs : Areas → Shape → Bool → List ℕ → Type 0
OtherIs a s true c = is_open c (begin_of a (not s.second)) ≡ false
OtherIs a s false c = IsRuled a s.second s.generation c

pub record Stands (a : Areas) (s : Shape) (closed : Bool) (c : List ℕ) : Type 0 where
  pub rests : Rests a s c
  pub other : OtherIs a s closed c

-- behind a gate there are this body and a gate that is not open
pub record IsFramed (c : List ℕ) (gate : ℕ) (body : List ℕ) : Type 0 where
  pub size : number_at c (gate + 1) ≡ length body
  pub bytes : window c (gate + 5) (length body) ≡ body
  pub shut : is_open c (gate + 5 + length body) ≡ false

-- one gate alone decides which of two shapes an image has
pub record IsPoised (a : Areas) (gate : ℕ) (s : Shape) (closed : Bool) (s' : Shape) (closed' : Bool) (c : List ℕ) : Type 0 where
  pub if_shut : (d : List ℕ) → Same (λ i. i ≢ gate) d c → is_open d gate ≡ false → Stands a s closed d
  pub if_open : (d : List ℕ) → Same (λ i. i ≢ gate) d c → is_open d gate ≡ true → Stands a s' closed' d

-- the shape with one record more, and the shape of one record alone in the other area
abbrev pub longer : Shape → List ℕ → Shape
longer s b = record { second = s.second; generation = s.generation; first = s.first; more = s.more ++ b ∷ []; tail = s.tail + 5 + length b }

abbrev pub alone : Areas → Shape → ℕ → List ℕ → Shape
alone a s g b = record { second = not s.second; generation = g; first = b; more = []; tail = begin_of a (not s.second) + 5 + length (g ∷ b) }

-- what a write and its sync do to the images, whatever they answer
pub record Torn {D : Type 0} (content : D → List ℕ) (moment : D → ℕ) (since : D → ℕ → List ℕ → Type 0) (at n : ℕ) (old new : D) : Type 0 where
  pub elsewhere : Same (Beside at n) (content new) (content old)
  pub time : Elapses moment since old new
  pub moments : (c : List ℕ) → since new (moment old) c → (d : List ℕ) × since old (moment old) d × Same (Beside at n) c d

-- and where both are done
pub record Wrote {D : Type 0} (content : D → List ℕ) (moment : D → ℕ) (since : D → ℕ → List ℕ → Type 0) (at : ℕ) (bytes : List ℕ) (new : D) : Type 0 where
  pub written : window (content new) at (length bytes) ≡ bytes
  pub durable : (c : List ℕ) → since new (moment new) c → c ≡ content new

-- no gate is in doubt: the content and each image now stand
pub record IsAtRest (a : Areas) (s : Shape) (closed : Bool) (content : List ℕ) (now : List ℕ → Type 0) : Type 0 where
  pub here : Stands a s closed content
  pub images : (c : List ℕ) → now c → Stands a s closed c

-- a gate is in doubt: it alone decides, and each image now has the content but for it
pub record IsInDoubt (a : Areas) (gate : ℕ) (s : Shape) (closed : Bool) (s' : Shape) (closed' : Bool) (content : List ℕ) (now : List ℕ → Type 0) : Type 0 where
  pub poised : IsPoised a gate s closed s' closed' content
  pub behind : (c : List ℕ) → now c → Same (λ i. i ≢ gate) c content

-- the shape that the journal knows, and what the disk then holds
pub record Told (a : Areas) (second : Bool) (generation tail : ℕ) (closed : Bool) (doubt : Option ℕ) (content : List ℕ) (now : List ℕ → Type 0) : Type 0 where
  pub shape : Shape
  pub of_second : shape.second ≡ second
  pub of_generation : shape.generation ≡ generation
  pub of_tail : shape.tail ≡ begin_of a second + tail
  pub rest : doubt ≡ None → IsAtRest a shape closed content now
  pub next : Shape
  pub next_closed : Bool
  pub unsure : (gate : ℕ) → doubt ≡ Some gate → IsInDoubt a gate shape closed next next_closed content now

-- where the areas and the tail lie
pub record Bounds (a : Areas) (size generation tail : ℕ) (doubt : Option ℕ) : Type 0 where
  pub lies : a.first + 2 * a.bytes ≤ size
  pub fits : a.first + 2 * a.bytes < 2 ^ 64
  pub least : 7 ≤ a.bytes
  pub most : a.bytes ≤ 16777216
  pub within : tail < a.bytes
  pub known : is_generation generation ≡ true
  pub gate : (gate : ℕ) → doubt ≡ Some gate → (a.first ≤ gate) × (gate < a.first + 2 * a.bytes)

-- what holds of a journal's fields and its disk
pub record Holds {D : Type 0} (tells : Type 0) (size : D → ℕ) (content : D → List ℕ) (moment : D → ℕ) (since : D → ℕ → List ℕ → Type 0)
    (a : Areas) (second : Bool) (generation tail : ℕ) (closed : Bool) (doubt : Option ℕ) (disk : D) : Type 0 where
  pub bounds : Bounds a (size disk) generation tail doubt
  pub told : tells → Told a second generation tail closed doubt (content disk) (since disk (moment disk))

-- Calls that began at start wrote in the areas alone: outside, the content and each image since have what was there.
pub record Began {D : Type 0} (content : D → List ℕ) (moment : D → ℕ) (since : D → ℕ → List ℕ → Type 0) (a : Areas) (start disk : D) : Type 0 where
  pub time : Elapses moment since start disk
  pub outside : Same (Outside a) (content disk) (content start)
  pub from : (c : List ℕ) → since disk (moment start) c → (d : List ℕ) × since start (moment start) d × Same (Outside a) c d
