-- Records one behind another, and what they build.
use Rattle.std.proofs.Common.{◌≡◌, ℕ, zero, suc, ◌+◌, Bool, true, false, List, [], ◌∷◌, inl, inr, refl, sym, ap, subst}
use Rattle.std.specs.Prelude.{Option, Some, None, Result, Ok, Err, drop, nat_le, if◌then◌else◌, ◌⊎◌}
use Rattle.opfs_codec.specs.declared.change.Format.{Format}
use Rattle.opfs_outside.specs.Bytes.{window}
use Rattle.opfs_journal.specs.Format.{Chain, chain, with_body, is_open, number_at}
use Rattle.opfs_codec.specs.Reading.{◌>>=◌}
use Rattle.opfs_records.specs.Replay.Applying.{built_by, built_by_all}
use Rattle.opfs_records.specs.Replay.Built.{Built}
use Rattle.opfs_image.specs.Reading.{replayed, then_built, or_bad_at}

-- the bodies with so many bytes of the first one left out
abbrev pub cut : ℕ → List (List ℕ) → List (List ℕ)
cut skip [] = []
cut skip (first ∷ more) = drop skip first ∷ more

pub cut-none : (bodies : List (List ℕ)) → cut 0 bodies ≡ bodies
cut-none [] = refl
cut-none (first ∷ more) = refl

-- a record that builds
module _ (gate : ℕ) (k : Built → Result Built ℕ) (b b' : Built) where
  step_in : (o fits : Bool) (x : Option Built) → (if o then (if fits then then_built (or_bad_at gate x) k else Err gate) else Ok b) ≡ Ok b'
      → ((o ≡ false) × (b ≡ b')) ⊎ ((o ≡ true) × (fits ≡ true) × ((next : Built) × (x ≡ Some next) × (k next ≡ Ok b')))
  step_in false fits x h = inl (refl, cc)
  step_in true false x h = absurd (cc)
  step_in true true None h = absurd (cc)
  step_in true true (Some next) h = inr (refl, refl, (next, refl, h))

-- a record that is read
module _ (gate : ℕ) (body : List ℕ) (found : Chain) where
  chain_in : (o fits : Bool) (rest : Result Chain ℕ) → (if o then (if fits then with_body body rest else Err gate) else Ok (record { bodies = []; tail = gate })) ≡ Ok found
      → ((o ≡ false) × (found.bodies ≡ [])) ⊎ ((o ≡ true) × (fits ≡ true) × ((more : Chain) × (rest ≡ Ok more) × (found.bodies ≡ body ∷ more.bodies)))
  chain_in false fits rest h = inl (refl, sym (ap bodies_in h))
    where
      bodies_in : Result Chain ℕ → List (List ℕ)
      bodies_in (Ok x) = x.bodies
      bodies_in (Err x) = []
  chain_in true false rest h = absurd (cc)
  chain_in true true (Err x) h = absurd (cc)
  chain_in true true (Ok more) h = inr (refl, refl, (more, refl, sym (ap bodies_in h)))
    where
      bodies_in : Result Chain ℕ → List (List ℕ)
      bodies_in (Ok x) = x.bodies
      bodies_in (Err x) = []

-- one body more
built_more : (f : Format) (size : ℕ) (body : List ℕ) (more : List (List ℕ)) (b next b' : Built) → built_by f size body b ≡ Some next → built_by_all f size more next ≡ Some b' → built_by_all f size (body ∷ more) b ≡ Some b'
unfolding built_by_all
built_more f size body more b next b' first rest = rw first rest

built_none : (f : Format) (size : ℕ) (b b' : Built) → b ≡ b' → built_by_all f size [] b ≡ Some b'
unfolding built_by_all
built_none f size b b' e = ap (λ x. Some x) e

built_none_in : (f : Format) (size : ℕ) (b b' : Built) → built_by_all f size [] b ≡ Some b' → b ≡ b'
unfolding built_by_all
built_none_in f size b b' h = cc

built_by_is : (f : Format) (size : ℕ) (more : List (List ℕ)) (b' : Built) (x : Option Built) → (x >>= (λ next. built_by_all f size more next)) ≡ Some b' → (next : Built) × (x ≡ Some next) × (built_by_all f size more next ≡ Some b')
built_by_is f size more b' None h = absurd (cc)
built_by_is f size more b' (Some next) h = (next, refl, h)

built_more_in : (f : Format) (size : ℕ) (body : List ℕ) (more : List (List ℕ)) (b b' : Built) → built_by_all f size (body ∷ more) b ≡ Some b' → (next : Built) × (built_by f size body b ≡ Some next) × (built_by_all f size more next ≡ Some b')
unfolding built_by_all
built_more_in f size body more b b' h = built_by_is f size more b' (built_by f size body b) h

module _ (f : Format) (size : ℕ) (c : List ℕ) (stop : ℕ) where
  pub record IsChained (most skip gate : ℕ) (b b' : Built) : Type 0 where
    pub found : Chain
    pub is : chain most c gate stop ≡ Ok found
    pub built : built_by_all f size (cut skip found.bodies) b ≡ Some b'

  pub to_chain : (most skip gate : ℕ) (b b' : Built) → replayed most f size c skip gate stop b ≡ Ok b' → IsChained most skip gate b b'
  to_chain zero skip gate b b' h = absurd (cc)
  to_chain (suc most) skip gate b b' h =
      let len = number_at c (gate + 1) in
      let body = window c (gate + 5) len in
      elim (step_in gate (λ next. replayed most f size c 0 (gate + 5 + len) stop next) b b' (is_open c gate) (nat_le (gate + 6 + len) stop) (built_by f size (drop skip body) b) h) [
        | inl s ↦ record { found = record { bodies = []; tail = gate }; is = rw s.0 refl; built = built_none f size b b' s.1 }
        | inr s ↦
            let next = s.2.0 in
            let r = to_chain most 0 (gate + 5 + len) next b' s.2.2 in
            record {
              found = record { bodies = body ∷ r.found.bodies; tail = r.found.tail };
              is = rw (s.0, s.1, r.is) refl;
              built = built_more f size (drop skip body) r.found.bodies b next b' s.2.1 (subst (λ bodies. built_by_all f size bodies next ≡ Some b') (cut-none r.found.bodies) r.built);
            }
      ]

  pub from_chain : (most skip gate : ℕ) (b b' : Built) (found : Chain) → chain most c gate stop ≡ Ok found → built_by_all f size (cut skip found.bodies) b ≡ Some b' → replayed most f size c skip gate stop b ≡ Ok b'
  from_chain zero skip gate b b' found h built = absurd (cc)
  from_chain (suc most) skip gate b b' found h built =
      let len = number_at c (gate + 1) in
      let body = window c (gate + 5) len in
      elim (chain_in gate body found (is_open c gate) (nat_le (gate + 6 + len) stop) (chain most c (gate + 5 + len) stop) h) [
        | inl s ↦ rw s.0 (ap (λ x. Ok x) (built_none_in f size b b' (subst (λ bodies. built_by_all f size (cut skip bodies) b ≡ Some b') s.1 built)))
        | inr s ↦
            let more = s.2.0 in
            let n = built_more_in f size (drop skip body) more.bodies b b' (subst (λ bodies. built_by_all f size (cut skip bodies) b ≡ Some b') s.2.2 built) in
            let rest = from_chain most 0 (gate + 5 + len) n.0 b' more s.2.1 (subst (λ bodies. built_by_all f size bodies n.0 ≡ Some b') (sym (cut-none more.bodies)) n.2) in
            rw (s.0, s.1, n.1) rest
      ]

  -- behind an open gate there is a first body
  pub first_body : (most gate : ℕ) (found : Chain) → chain most c gate stop ≡ Ok found → is_open c gate ≡ true → (more : List (List ℕ)) × (found.bodies ≡ window c (gate + 5) (number_at c (gate + 1)) ∷ more)
  first_body zero gate found h opened = absurd (cc)
  first_body (suc most) gate found h opened =
      let len = number_at c (gate + 1) in
      elim (chain_in gate (window c (gate + 5) len) found (is_open c gate) (nat_le (gate + 6 + len) stop) (chain most c (gate + 5 + len) stop) h) [
        | inl s ↦ absurd (cc)
        | inr s ↦ (s.2.0.bodies, s.2.2)
      ]
