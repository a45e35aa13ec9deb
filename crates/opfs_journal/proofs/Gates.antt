-- One gate decides.
use Rattle.std.proofs.Common.{◌≡◌, ◌≢◌, ℕ, ◌+◌, ◌%◌, ◌<◌, ◌≤◌, Bool, true, false, not, ◌&&◌, ◌⊎◌, List, ◌∷◌, length, inl, inr, refl, sym, ◌∙◌, ap, subst, arith}
use Rattle.std.specs.Prelude.{slice_index, ◌==◌}
use Rattle.std.proofs.lemmas.Bool.{both_ways, agree_below_at, eq-eqb}
use Rattle.std.proofs.lemmas.Bool.Decides.{nat_tests}
use Rattle.opfs_outside.specs.Bytes.{Same}
use Rattle.opfs_outside.specs.Windows.{same_window}
use Rattle.opfs_journal.specs.Format.{is_open, number_at, begin_of, is_generation, next_of}
use Rattle.opfs_journal.specs.Reading.{Walks, Shape, bodies_of, Rules, IsRuled, Rests, Relevant}
use Rattle.opfs_journal.specs.Standing.{OtherIs, Stands, IsFramed, IsPoised, longer, alone}
use Rattle.opfs_journal.specs.declared.areas.Areas.{Areas}
use Rattle.opfs_journal.proofs.Chains.{walks_le, walks_same, walks_more, same_number, same_gate}
use Rattle.opfs_journal.proofs.Shapes.{ruled_same, rests_same, apart, generation_is, first_fits, first_some}

-- a frame is read from its own bytes
pub framed_same : (d c : List ℕ) (gate : ℕ) (b : List ℕ) → Same (λ i. (gate + 1 ≤ i) × (i < gate + 6 + length b)) d c → IsFramed c gate b → IsFramed d gate b
framed_same d c gate b same f = record {
  size = same_number d c (gate + 1) (λ i h. same i (h.0, omega (arith, h.1))) ∙ f.size;
  bytes = same_window d c (gate + 5) (length b) (λ k h. same (gate + 5 + k) (omega arith, omega arith)) ∙ f.bytes;
  shut = same_gate d c (gate + 5 + length b) (same (gate + 5 + length b) (omega arith, omega arith)) ∙ f.shut;
}

module _ (a : Areas) (s : Shape) (closed : Bool) (c : List ℕ) where
  -- what is known of the other area is read from its first bytes
  pub other_same : (d : List ℕ) → Same (λ i. (begin_of a (not s.second) ≤ i) × (i < begin_of a (not s.second) + 6)) d c → (closed : Bool) → OtherIs a s closed c → OtherIs a s closed d
  other_same d same true o = same_gate d c (begin_of a (not s.second)) (same (begin_of a (not s.second)) (omega arith, omega arith)) ∙ o
  other_same d same false o = ruled_same a s d c (λ i h. same i (omega (arith, h.0), h.1)) o

  pub stands_same : (d : List ℕ) → Same (Relevant a s) d c → Stands a s closed c → Stands a s closed d
  stands_same d same st = record { rests = rests_same a s d c same st.rests; other = other_same d (λ i h. same i (inr h)) closed st.other }

  -- the other area is apart from what rules
  pub tail_apart : Rests a s c → 6 ≤ a.bytes → (i : ℕ) → begin_of a (not s.second) ≤ i → i < begin_of a (not s.second) + a.bytes → i ≢ s.tail
  tail_apart r least i from to e = apart a s.second i (omega (arith, e, walks_le c (begin_of a s.second) (bodies_of s) s.tail r.walks)) (omega (arith, e, r.room)) from to

  -- the last gate, with a record behind it
  pub poised_append : 7 ≤ a.bytes → Stands a s closed c → (b : List ℕ) → IsFramed c s.tail b → s.tail + 6 + length b ≤ begin_of a s.second + a.bytes
      → IsPoised a s.tail s closed (longer s b) closed c
  poised_append least st b framed room = record {
    if_shut = λ d same is_shut. record {
      rests = record {
        walks = walks_in d same;
        shut = is_shut;
        room = st.rests.room;
        known = st.rests.known;
        other = λ is_opened. ruled_same a s d c (λ i h. same i (apart_from i (omega (arith, h.0)) (omega (arith, h.1, least)))) (st.rests.other (sym (other_gate d same) ∙ is_opened));
      };
      other = other_in d same;
    };
    if_open = λ d same is_opened. record {
      rests = record {
        walks = walks_more d (begin_of a s.second) (bodies_of s) s.tail b (walks_in d same) is_opened (frame_in d same).size (frame_in d same).bytes;
        shut = (frame_in d same).shut;
        room = omega (arith, room);
        known = st.rests.known;
        other = λ other_open. ruled_same a s d c (λ i h. same i (apart_from i (omega (arith, h.0)) (omega (arith, h.1, least)))) (st.rests.other (sym (other_gate d same) ∙ other_open));
      };
      other = other_in d same;
    };
  }
    where
      apart_from : (i : ℕ) → begin_of a (not s.second) ≤ i → i < begin_of a (not s.second) + a.bytes → i ≢ s.tail
      apart_from i from to = tail_apart st.rests (omega (arith, least)) i from to

      other_gate : (d : List ℕ) → Same (λ i. i ≢ s.tail) d c → is_open d (begin_of a (not s.second)) ≡ is_open c (begin_of a (not s.second))
      other_gate d same = same_gate d c (begin_of a (not s.second)) (same (begin_of a (not s.second)) (apart_from (begin_of a (not s.second)) (omega arith) (omega (arith, least))))

      walks_in : (d : List ℕ) → Same (λ i. i ≢ s.tail) d c → Walks d (begin_of a s.second) (bodies_of s) s.tail
      walks_in d same = walks_same d c (begin_of a s.second) (bodies_of s) s.tail (λ i h. same i (λ e. omega (arith, e, h.1))) st.rests.walks

      frame_in : (d : List ℕ) → Same (λ i. i ≢ s.tail) d c → IsFramed d s.tail b
      frame_in d same = framed_same d c s.tail b (λ i h. same i (λ e. omega (arith, e, h.0))) framed

      other_in : (d : List ℕ) → Same (λ i. i ≢ s.tail) d c → OtherIs a s closed d
      other_in d same = other_same d (λ i h. same i (apart_from i h.0 (omega (arith, h.1, least)))) closed st.other

not_not : (b : Bool) → not (not b) ≡ b
not_not true = refl
not_not false = refl

small_generation : (g : ℕ) → is_generation g ≡ true → g < 19
small_generation g known = grind (arith, nat_tests)

and_true : (x y : Bool) → (x && y) ≡ false → y ≡ true → x ≡ false
and_true true true e h = e
and_true true false e h = absurd (cc)
and_true false y e h = refl

-- the next generation rules over the one before
before_next : (g : ℕ) → is_generation g ≡ true → (g % 16 == (next_of g + 1) % 3) ≡ false
before_next g known =
    and_true (g % 16 == (next_of g + 1) % 3) (is_generation g)
    (agree_below_at (λ g. (g % 16 == (next_of g + 1) % 3) && is_generation g) (λ _. false) 19 g refl (small_generation g known)) known

next_rules : (second : Bool) (g next : ℕ) → is_generation g ≡ true → next % 16 ≡ next_of g → Rules (not second) next g
next_rules false g next known e = eq-eqb (next % 16) (next_of g) e
next_rules true g next known e = ap (λ n. g % 16 == (n + 1) % 3) e ∙ before_next g known

module _ (a : Areas) (s : Shape) (c : List ℕ) (g : ℕ) (b : List ℕ) (least : 7 ≤ a.bytes) (st : Stands a s true c)
    (framed : IsFramed c (begin_of a (not s.second)) (g ∷ b)) (room : 7 + length b ≤ a.bytes) (known : is_generation g ≡ true) (next : g % 16 ≡ next_of s.generation) where
  abbrev other : ℕ
  other = begin_of a (not s.second)

  off : (i : ℕ) → begin_of a s.second ≤ i → i < begin_of a s.second + a.bytes → i ≢ other
  off i from to e = apart a s.second i from to (omega (arith, e)) (omega (arith, e, least))

  below : (d : List ℕ) → Same (λ i. i ≢ other) d c → Same (λ i. (begin_of a s.second ≤ i) × (i ≤ s.tail)) d c
  below d same i h = same i (off i h.0 (omega (arith, h.1, st.rests.room)))

  tail_after : begin_of a s.second ≤ s.tail
  tail_after = walks_le c (begin_of a s.second) (bodies_of s) s.tail st.rests.walks

  -- the first gate of the other area, with a record behind it
  pub poised_other : IsPoised a other s true (alone a s g b) false c
  poised_other = record {
    if_shut = λ d same is_shut. record {
      rests = record {
        walks = walks_same d c (begin_of a s.second) (bodies_of s) s.tail (λ i h. below d same i (h.0, omega (arith, h.1))) st.rests.walks;
        shut = same_gate d c s.tail (below d same s.tail (tail_after, omega arith)) ∙ st.rests.shut;
        room = st.rests.room;
        known = st.rests.known;
        other = λ is_opened. absurd (both_ways (is_open d other) is_shut is_opened);
      };
      other = is_shut;
    };
    if_open = λ d same is_opened.
        let frame : IsFramed d other (g ∷ b) = framed_same d c other (g ∷ b) (λ i h. same i (λ e. omega (arith, e, h.0))) framed in
        let size : number_at d (begin_of a s.second + 1) ≡ number_at c (begin_of a s.second + 1) =
        same_number d c (begin_of a s.second + 1) (λ i h. same i (off i (omega (arith, h.0)) (omega (arith, h.1, least)))) in
        let byte : slice_index d (begin_of a s.second + 5) ≡ s.generation =
        same (begin_of a s.second + 5) (off (begin_of a s.second + 5) (omega arith) (omega (arith, least))) ∙ generation_is a s c st.rests in
        let ruled : IsRuled a (not s.second) g d =
        let P : Bool → Type 0 = λ second. (number_at d (begin_of a second + 1) ≡ 0 → ⊥) × (5 + number_at d (begin_of a second + 1) ≤ a.bytes) × (is_generation (slice_index d (begin_of a second + 5)) ≡ true) × Rules (not s.second) g (slice_index d (begin_of a second + 5)) in
        let parts : P (not (not s.second)) = subst P (sym (not_not s.second))
        (λ none. first_some a s c st.rests (sym size ∙ none), omega (arith, size, first_fits a s c st.rests), ap is_generation byte ∙ st.rests.known, rw byte (next_rules s.second s.generation g st.rests.known next)) in
        record { some = parts.0; within = parts.1; known = parts.2; rules = parts.3 } in
        record {
          rests = record {
            walks = (is_opened, frame.size, frame.bytes, refl);
            shut = frame.shut;
            room = omega (arith, room);
            known = known;
            other = λ _. ruled;
          };
          other = ruled;
        };
  }

-- with the other area closed, its first gate alone matters of it
pub stands_closed_same : (a : Areas) (s : Shape) (d c : List ℕ) → Same (λ i. ((begin_of a s.second ≤ i) × (i ≤ s.tail)) ⊎ (i ≡ begin_of a (not s.second))) d c → Stands a s true c → Stands a s true d
stands_closed_same a s d c same st =
    let other : is_open d (begin_of a (not s.second)) ≡ false = same_gate d c (begin_of a (not s.second)) (same (begin_of a (not s.second)) (inr refl)) ∙ st.other in
    record {
      rests = record {
        walks = walks_same d c (begin_of a s.second) (bodies_of s) s.tail (λ i h. same i (inl (h.0, omega (arith, h.1)))) st.rests.walks;
        shut = same_gate d c s.tail (same s.tail (inl (walks_le c (begin_of a s.second) (bodies_of s) s.tail st.rests.walks, omega arith))) ∙ st.rests.shut;
        room = st.rests.room;
        known = st.rests.known;
        other = λ is_opened. absurd (both_ways (is_open d (begin_of a (not s.second))) other is_opened);
      };
      other = other;
    }

-- with an other area that would not rule, its first gate does not matter
pub stands_ruled_same : (a : Areas) (s : Shape) (d c : List ℕ) → 7 ≤ a.bytes → Same (λ i. i ≢ begin_of a (not s.second)) d c → Stands a s false c → Stands a s false d
stands_ruled_same a s d c least same st =
    let off : (i : ℕ) → begin_of a s.second ≤ i → i ≤ s.tail → i ≢ begin_of a (not s.second) = λ i from to e.
    apart a s.second i from (omega (arith, to, st.rests.room)) (omega (arith, e)) (omega (arith, e, least)) in
    let ruled = ruled_same a s d c (λ i h. same i (λ e. omega (arith, e, h.0))) st.other in
    record {
      rests = record {
        walks = walks_same d c (begin_of a s.second) (bodies_of s) s.tail (λ i h. same i (off i h.0 (omega (arith, h.1)))) st.rests.walks;
        shut = same_gate d c s.tail (same s.tail (off s.tail (walks_le c (begin_of a s.second) (bodies_of s) s.tail st.rests.walks) (omega arith))) ∙ st.rests.shut;
        room = st.rests.room;
        known = st.rests.known;
        other = λ _. ruled;
      };
      other = ruled;
    }
