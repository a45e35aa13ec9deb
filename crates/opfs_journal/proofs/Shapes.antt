-- What an image of a shape reads as, and which bytes matter.
use Rattle.std.proofs.Common.{◌≡◌, ℕ, ◌+◌, ◌%◌, ◌<◌, ◌≤◌, Bool, true, false, not, ◌&&◌, ◌||◌, ◌⊎◌, ltb, eqb, List, ◌∷◌, length, inl, inr, refl, sym, ◌∙◌, ap, arith, Ok, add-zero}
use Rattle.std.specs.Prelude.{slice_index, ◌==◌}
use Rattle.std.proofs.lemmas.Bool.{cases_Bool}
use Rattle.std.proofs.lemmas.Bool.Decides.{nat_tests}
use Rattle.opfs_outside.specs.Bytes.{Same}
use Rattle.opfs_outside.specs.Windows.{slice_index-window}
use Rattle.opfs_journal.specs.Format.{is_open, number_at, begin_of, is_generation, next_of, is_bad_first, chain, read_areas}
use Rattle.opfs_journal.specs.Reading.{Shape, bodies_of, opened_of, IsRuled, Rests, Relevant}
use Rattle.opfs_journal.specs.declared.areas.Areas.{Areas}
use Rattle.opfs_journal.proofs.Chains.{walks_le, walks_same, same_number, same_gate, chain_walks}

good_first : (is_opened : Bool) (n bytes : ℕ) (known : Bool) → (n ≡ 0 → ⊥) → 5 + n ≤ bytes → known ≡ true → (is_opened && ((eqb n 0 || ltb bytes (5 + n)) || not known)) ≡ false
good_first true n bytes true some within e = grind (arith, nat_tests)
good_first true n bytes false some within e = grind (arith, nat_tests)
good_first false n bytes known some within e = refl

module _ (a : Areas) (s : Shape) (c : List ℕ) (r : Rests a s c) where
  abbrev begin : ℕ
  begin = begin_of a s.second

  abbrev other : ℕ
  other = begin_of a (not s.second)

  pub generation_is : slice_index c (begin + 5) ≡ s.generation
  generation_is = rw (← add-zero (begin + 5)) (sym (slice_index-window c (begin + 5) (length (s.generation ∷ s.first)) 0 (omega arith)) ∙ ap (λ w. slice_index w 0) r.walks.2)

  pub first_fits : 5 + number_at c (begin + 1) ≤ a.bytes
  first_fits = omega (arith, r.walks.1, walks_le c (begin + 5 + length (s.generation ∷ s.first)) s.more s.tail r.walks.3, r.room)

  pub first_some : number_at c (begin + 1) ≡ 0 → ⊥
  first_some none = omega (arith, r.walks.1, none)

  pub first_good : is_bad_first c begin a.bytes ≡ false
  first_good = good_first (is_open c begin) (number_at c (begin + 1)) a.bytes (is_generation (slice_index c (begin + 5))) first_some first_fits (ap is_generation generation_is ∙ r.known)

  pub other_good : is_bad_first c other a.bytes ≡ false
  other_good = elim (cases_Bool (is_open c other)) [
    | inl is_opened ↦ let ruled = r.other is_opened in good_first (is_open c other) (number_at c (other + 1)) a.bytes (is_generation (slice_index c (other + 5))) ruled.some ruled.within ruled.known
    | inr is_shut ↦ rw is_shut refl
  ]

  pub chain_is : chain a.bytes c begin (begin + a.bytes) ≡ Ok (record { bodies = bodies_of s; tail = s.tail })
  chain_is = chain_walks a.bytes c begin (begin + a.bytes) (bodies_of s) s.tail r.walks r.shut r.room r.room

no_area : (x y : Bool) → (x ≡ true) ⊎ (y ≡ true) → (not x && not y) ≡ false
no_area true y h = refl
no_area false true h = refl
no_area false false (inl h) = absurd (cc)
no_area false false (inr h) = absurd (cc)

-- which area rules
second_rules : (x y : Bool) (e : Bool) → y ≡ true → (x ≡ true → e ≡ true) → (y && (not x || e)) ≡ true
second_rules true y e h over = rw (h, over refl) refl
second_rules false y e h over = rw h refl

first_rules : (x y : Bool) (e : Bool) → x ≡ true → (y ≡ true → e ≡ false) → (y && (not x || e)) ≡ false
first_rules x true e h over = rw (h, over refl) refl
first_rules x false e h over = refl

reads_at : (a : Areas) (second : Bool) (generation : ℕ) (first : List ℕ) (more : List (List ℕ)) (tail : ℕ) (c : List ℕ)
    → Rests a (record { second = second; generation = generation; first = first; more = more; tail = tail }) c
    → read_areas a c ≡ Ok (record { second = second; bodies = (generation ∷ first) ∷ more; tail = tail })
reads_at a false generation first more tail c r =
    let s : Shape = record { second = false; generation = generation; first = first; more = more; tail = tail } in
    let some_area = no_area (is_open c a.first) (is_open c (a.first + a.bytes)) (inl r.walks.0) in
    let rules : (is_open c (a.first + a.bytes) && (not (is_open c a.first) || (slice_index c (a.first + a.bytes + 5) % 16 == next_of (slice_index c (a.first + 5))))) ≡ false =
    first_rules (is_open c a.first) (is_open c (a.first + a.bytes)) (slice_index c (a.first + a.bytes + 5) % 16 == next_of (slice_index c (a.first + 5))) r.walks.0
    (λ is_opened. ap (λ g. slice_index c (a.first + a.bytes + 5) % 16 == next_of g) (generation_is a s c r) ∙ (r.other is_opened).rules) in
    rw (some_area, first_good a s c r, other_good a s c r, rules, chain_is a s c r) refl
reads_at a true generation first more tail c r =
    let s : Shape = record { second = true; generation = generation; first = first; more = more; tail = tail } in
    let some_area = no_area (is_open c a.first) (is_open c (a.first + a.bytes)) (inr r.walks.0) in
    let rules : (is_open c (a.first + a.bytes) && (not (is_open c a.first) || (slice_index c (a.first + a.bytes + 5) % 16 == next_of (slice_index c (a.first + 5))))) ≡ true =
    second_rules (is_open c a.first) (is_open c (a.first + a.bytes)) (slice_index c (a.first + a.bytes + 5) % 16 == next_of (slice_index c (a.first + 5))) r.walks.0
    (λ is_opened. ap (λ g. g % 16 == next_of (slice_index c (a.first + 5))) (generation_is a s c r) ∙ (r.other is_opened).rules) in
    rw (some_area, other_good a s c r, first_good a s c r, rules, chain_is a s c r) refl

-- an image of a shape has its records
pub rests_reads : (a : Areas) (s : Shape) (c : List ℕ) → Rests a s c → read_areas a c ≡ Ok (opened_of s)
rests_reads a s c r = reads_at a s.second s.generation s.first s.more s.tail c r

-- the areas lie apart
pub apart : (a : Areas) (second : Bool) (i : ℕ) → begin_of a second ≤ i → i < begin_of a second + a.bytes → begin_of a (not second) ≤ i → i < begin_of a (not second) + a.bytes → ⊥
apart a true i h1 h2 h3 h4 = omega arith
apart a false i h1 h2 h3 h4 = omega arith

module _ (a : Areas) (s : Shape) (d c : List ℕ) where
  pub ruled_same : Same (λ i. (begin_of a (not s.second) + 1 ≤ i) × (i < begin_of a (not s.second) + 6)) d c → IsRuled a s.second s.generation c → IsRuled a s.second s.generation d
  ruled_same same r =
      let size : number_at d (begin_of a (not s.second) + 1) ≡ number_at c (begin_of a (not s.second) + 1) =
      same_number d c (begin_of a (not s.second) + 1) (λ i h. same i (h.0, omega (arith, h.1))) in
      let byte : slice_index d (begin_of a (not s.second) + 5) ≡ slice_index c (begin_of a (not s.second) + 5) = same (begin_of a (not s.second) + 5) (omega arith, omega arith) in
      record { some = λ none. r.some (sym size ∙ none); within = omega (arith, r.within, size); known = ap is_generation byte ∙ r.known; rules = rw byte r.rules }

  pub rests_same : Same (Relevant a s) d c → Rests a s c → Rests a s d
  rests_same same r = record {
    walks = walks_same d c (begin_of a s.second) (bodies_of s) s.tail (λ i h. same i (inl (h.0, omega (arith, h.1)))) r.walks;
    shut = same_gate d c s.tail (same s.tail (inl (walks_le c (begin_of a s.second) (bodies_of s) s.tail r.walks, omega arith))) ∙ r.shut;
    room = r.room;
    known = r.known;
    other = λ is_opened. ruled_same (λ i h. same i (inr (omega (arith, h.0), h.1)))
        (r.other (sym (same_gate d c (begin_of a (not s.second)) (same (begin_of a (not s.second)) (inr (omega arith, omega arith)))) ∙ is_opened));
  }
