-- Records one behind another.
use Rattle.std.proofs.Common.{◌≡◌, ℕ, zero, suc, ◌+◌, ◌*◌, ◌<◌, ◌≤◌, true, false, leb, List, [], ◌∷◌, ◌++◌, length, refl, sym, ◌∙◌, ap, subst, arith, Ok, Err}
use Rattle.std.specs.Prelude.{slice_index, ◌==◌}
use Rattle.std.proofs.lemmas.Bool.{le-leb, lt-leb}
use Rattle.opfs_outside.specs.Bytes.{Same, window}
use Rattle.opfs_outside.specs.Windows.{same_window}
use Rattle.opfs_journal.specs.Format.{is_open, number_at, chain}
use Rattle.opfs_journal.specs.Reading.{Walks}

pub walks_le : (c : List ℕ) (gate : ℕ) (bodies : List (List ℕ)) (tail : ℕ) → Walks c gate bodies tail → gate ≤ tail
walks_le c gate [] tail w = omega arith
walks_le c gate (b ∷ more) tail w = omega (arith, walks_le c (gate + 5 + length b) more tail w.3)

-- a number and a gate are read from their own bytes
pub same_number : (d c : List ℕ) (at : ℕ) → Same (λ i. (at ≤ i) × (i < at + 4)) d c → number_at d at ≡ number_at c at
same_number d c at same =
    let e0 = same at (omega arith, omega arith) in
    let e1 = same (at + 1) (omega arith, omega arith) in
    let e2 = same (at + 2) (omega arith, omega arith) in
    let e3 = same (at + 3) (omega arith, omega arith) in
    λ i. e0 i + 256 * e1 i + 65536 * e2 i + 16777216 * e3 i

pub same_gate : (d c : List ℕ) (gate : ℕ) → slice_index d gate ≡ slice_index c gate → is_open d gate ≡ is_open c gate
same_gate d c gate e = ap (λ x. x == 165) e

-- they are read from the bytes below the gate behind them
pub walks_same : (d c : List ℕ) (gate : ℕ) (bodies : List (List ℕ)) (tail : ℕ) → Same (λ i. (gate ≤ i) × (i < tail)) d c → Walks c gate bodies tail → Walks d gate bodies tail
walks_same d c gate [] tail same w = w
walks_same d c gate (b ∷ more) tail same w =
    let below = walks_le c (gate + 5 + length b) more tail w.3 in (
      same_gate d c gate (same gate (omega arith, omega (arith, below))) ∙ w.0,
      same_number d c (gate + 1) (λ i h. same i (omega (arith, h.0), omega (arith, h.1, below))) ∙ w.1,
      same_window d c (gate + 5) (length b) (λ k h. same (gate + 5 + k) (omega arith, omega (arith, below))) ∙ w.2,
      walks_same d c (gate + 5 + length b) more tail (λ i h. same i (omega (arith, h.0), h.1)) w.3,
    )

-- one more behind them
pub walks_more : (c : List ℕ) (gate : ℕ) (bodies : List (List ℕ)) (tail : ℕ) (b : List ℕ) → Walks c gate bodies tail
    → is_open c tail ≡ true → number_at c (tail + 1) ≡ length b → window c (tail + 5) (length b) ≡ b → Walks c gate (bodies ++ b ∷ []) (tail + 5 + length b)
walks_more c gate [] tail b w is_opened size body =
    let P : ℕ → Type 0 = λ g. (is_open c g ≡ true) × (number_at c (g + 1) ≡ length b) × (window c (g + 5) (length b) ≡ b) × (g + 5 + length b ≡ tail + 5 + length b) in
    subst P (sym w) (is_opened, size, body, refl)
walks_more c gate (x ∷ more) tail b w is_opened size body = (w.0, w.1, w.2, walks_more c (gate + 5 + length x) more tail b w.3 is_opened size body)

-- the reader finds them
pub chain_walks : (most : ℕ) (c : List ℕ) (gate stop : ℕ) (bodies : List (List ℕ)) (tail : ℕ) → Walks c gate bodies tail → is_open c tail ≡ false → tail < stop → tail < gate + most
    → chain most c gate stop ≡ Ok (record { bodies = bodies; tail = tail })
chain_walks zero c gate stop bodies tail w shut inside fuel = absurd (omega (arith, walks_le c gate bodies tail w))
chain_walks (suc most) c gate stop [] tail w shut inside fuel =
    let here : is_open c gate ≡ false = ap (λ g. is_open c g) w ∙ shut in
    rw here (ap (λ t. Ok (record { bodies = []; tail = t })) w)
chain_walks (suc most) c gate stop (b ∷ more) tail w shut inside fuel =
    let below = walks_le c (gate + 5 + length b) more tail w.3 in
    let fits : leb (gate + 6 + number_at c (gate + 1)) stop ≡ true = le-leb (gate + 6 + number_at c (gate + 1)) stop (omega (arith, w.1, below)) in
    let rest = chain_walks most c (gate + 5 + length b) stop more tail w.3 shut inside (omega arith) in
    rw (w.0, fits, w.1, w.2, rest) refl

-- or the first gate that is bad
pub chain_bad : (most : ℕ) (c : List ℕ) (gate stop : ℕ) (bodies : List (List ℕ)) (bad : ℕ) → Walks c gate bodies bad → is_open c bad ≡ true → stop < bad + 6 + number_at c (bad + 1) → bad < stop → bad < gate + most
    → chain most c gate stop ≡ Err bad
chain_bad zero c gate stop bodies bad w is_opened past inside fuel = absurd (omega (arith, walks_le c gate bodies bad w))
chain_bad (suc most) c gate stop [] bad w is_opened past inside fuel =
    let here : is_open c gate ≡ true = ap (λ g. is_open c g) w ∙ is_opened in
    let e : number_at c (gate + 1) ≡ number_at c (bad + 1) = ap (λ g. number_at c (g + 1)) w in
    let fits : leb (gate + 6 + number_at c (gate + 1)) stop ≡ false = lt-leb (gate + 6 + number_at c (gate + 1)) stop (omega (arith, e, w)) in
    rw (here, fits) (ap (λ t. Err t) w)
chain_bad (suc most) c gate stop (b ∷ more) bad w is_opened past inside fuel =
    let below = walks_le c (gate + 5 + length b) more bad w.3 in
    let fits : leb (gate + 6 + number_at c (gate + 1)) stop ≡ true = le-leb (gate + 6 + number_at c (gate + 1)) stop (omega (arith, w.1, below)) in
    let rest = chain_bad most c (gate + 5 + length b) stop more bad w.3 is_opened past inside (omega arith) in
    rw (w.0, fits, w.1, w.2, rest) refl
