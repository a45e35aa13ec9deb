-- One record takes the place of all: it is written into the other area, whose first gate is closed, and then that gate
-- is opened.
use Rattle.std.proofs.Common.{◌≡◌, ℕ, zero, suc, ◌+◌, ◌-◌, ◌*◌, ◌%◌, ◌<◌, ◌≤◌, ◌⊎◌, Bool, true, false, not, List, [], ◌∷◌, length, inl, inr, refl, sym, ◌∙◌, ap, subst, arith, Option, Some, None}
use Rattle.std.specs.Prelude.{slice_index, ◌==◌, is_some}
use Rattle.opfs_outside.specs.Bytes.{Same, Beside}
use Rattle.opfs_outside.specs.declared.disk.Disk.{Ghosts as DiskWords}
use Rattle.opfs_journal.specs.Calls.{IsTorn, IsDurable}
use Rattle.opfs_journal.specs.Clauses.{Outside, After, OneOf}
use Rattle.opfs_journal.specs.Format.{begin_of, is_generation, next_of, format_of, Stored, records_of, framed}
use Rattle.opfs_journal.specs.Reading.{Shape, bodies_of, stored_of, Rests}
use Rattle.opfs_journal.specs.Seen.{Seen, seen, kept, one_record}
use Rattle.opfs_journal.specs.Standing.{Stands, Torn, Wrote, IsAtRest, IsInDoubt, IsPoised, Told, Began, IsFramed, alone}
use Rattle.opfs_journal.specs.declared.areas.Areas.{Areas}
use Rattle.opfs_journal.proofs.Appends.{torn_as, wrote_as, in_areas}
use Rattle.opfs_journal.proofs.Chains.{walks_le}
use Rattle.opfs_journal.proofs.Frames.{is_framed, length-framed}
use Rattle.opfs_journal.proofs.Gates.{poised_other, stands_closed_same, stands_ruled_same}
use Rattle.opfs_journal.proofs.Moves.{told_at_rest, told_in_doubt}
use Rattle.opfs_journal.proofs.Opens.{began_here, began_more, staged_image, staged_rest, images_more, only_before, opened_began, opened_moments, opens, opened_after, opened_unsure, opened_behind}
use Rattle.opfs_journal.proofs.Views.{stored_at, kept_told, doubt_told, beside_one}

-- the first gate of the other area is closed for good
pub record IsClosed {D : Type 0} (content : D → List ℕ) (moment : D → ℕ) (since : D → ℕ → List ℕ → Type 0) (a : Areas) (s : Shape) (start disk : D) : Type 0 where
  pub began : Began content moment since a start disk
  pub images : (c : List ℕ) → since disk (moment start) c → Rests a s c
  pub rest : IsAtRest a s true (content disk) (since disk (moment disk))

other_free : (a : Areas) (second : Bool) (tail n i : ℕ) → tail < begin_of a second + a.bytes → begin_of a second ≤ tail → 1 + n ≤ a.bytes → 7 ≤ a.bytes
    → ((begin_of a second ≤ i) × (i ≤ tail)) ⊎ (i ≡ begin_of a (not second)) → Beside (begin_of a (not second) + 1) n i
other_free a true tail n i room begins fits least (inl h) = inr (omega arith)
other_free a true tail n i room begins fits least (inr e) = inl (omega arith)
other_free a false tail n i room begins fits least (inl h) = inl (omega arith)
other_free a false tail n i room begins fits least (inr e) = inl (omega arith)

module _ {D : Type 0} (content : D → List ℕ) (moment : D → ℕ) (since : D → ℕ → List ℕ → Type 0)
    (falls : (d : D) (t u : ℕ) (c : List ℕ) → t ≤ u → since d u c → since d t c)
    (a : Areas) (s : Shape) (least : 7 ≤ a.bytes) where
  abbrev other : ℕ
  other = begin_of a (not s.second)

  other_in : (a.first ≤ other) × (other + a.bytes ≤ a.first + 2 * a.bytes)
  other_in =
      let low = in_areas a (not s.second) other (omega arith) (omega arith) in
      let high = in_areas a (not s.second) (other + a.bytes) (omega arith) (omega arith) in
      (low.0, high.1)

  close_keeps : (c d : List ℕ) → Same (Beside other 1) c d → Stands a s false d → Stands a s false c
  close_keeps c d same st = stands_ruled_same a s c d least (λ i off. same i (beside_one other i off)) st

  module _ (old new : D) (rest : IsAtRest a s false (content old) (since old (moment old))) (torn : Torn content moment since other 1 old new) where
    pub closing_began : Began content moment since a old new
    closing_began = began_more content moment since falls a old old new other 1 other_in.0 (omega (arith, other_in.1, least)) (began_here content moment since falls a old) torn

    pub closing_rest : IsAtRest a s false (content new) (since new (moment new))
    closing_rest = staged_rest content moment since falls a s false old new other 1 close_keeps rest torn

    pub closing_images : (c : List ℕ) → since new (moment old) c → Rests a s c
    closing_images c is = (staged_image content moment since falls a s false old new other 1 close_keeps rest torn c is).rests

    pub closed_now : Wrote content moment since other (0 ∷ []) new → IsClosed content moment since a s old new
    closed_now w =
        let byte : slice_index (content new) other ≡ 0 = λ i. slice_index (w.written i) 0 in
        let stands : Stands a s true (content new) = record { rests = closing_rest.here.rests; other = ap (λ x. x == 165) byte } in
        record {
          began = closing_began;
          images = closing_images;
          rest = record { here = stands; images = λ c is. subst (λ c. Stands a s true c) (sym (w.durable c is)) stands };
        }

  pub closed_before : (old : D) → IsAtRest a s true (content old) (since old (moment old)) → IsClosed content moment since a s old old
  closed_before old rest = record { began = began_here content moment since falls a old; images = λ c is. (rest.images c is).rests; rest = rest }

  -- the gate is closed where it has to be
  pub is_closed : (closed : Bool) (old new : D) → IsAtRest a s closed (content old) (since old (moment old)) → (closed ≡ true → new ≡ old)
      → (closed ≡ false → Torn content moment since other 1 old new) → (closed ≡ false → Wrote content moment since other (0 ∷ []) new) → IsClosed content moment since a s old new
  is_closed true old new rest none torn wrote = subst (λ d. IsClosed content moment since a s old d) (sym (none refl)) (closed_before old rest)
  is_closed false old new rest none torn wrote = closed_now old new rest (torn refl) (wrote refl)

-- the next generation byte, in this format
pub next_byte : (g format : ℕ) → (format ≡ 1) ⊎ (format ≡ 2) → (is_generation (next_of g + 16 * (format - 1)) ≡ true) × ((next_of g + 16 * (format - 1)) % 16 ≡ next_of g) × (format_of (next_of g + 16 * (format - 1)) ≡ format)
next_byte g format h = of_small (next_of g) format (omega arith) h
  where
    of_small : (n format : ℕ) → n < 3 → (format ≡ 1) ⊎ (format ≡ 2) → (is_generation (n + 16 * (format - 1)) ≡ true) × ((n + 16 * (format - 1)) % 16 ≡ n) × (format_of (n + 16 * (format - 1)) ≡ format)
    of_small zero format h (inl e) = rw e (refl, refl, refl)
    of_small zero format h (inr e) = rw e (refl, refl, refl)
    of_small (suc zero) format h (inl e) = rw e (refl, refl, refl)
    of_small (suc zero) format h (inr e) = rw e (refl, refl, refl)
    of_small (suc (suc zero)) format h (inl e) = rw e (refl, refl, refl)
    of_small (suc (suc zero)) format h (inr e) = rw e (refl, refl, refl)
    of_small (suc (suc (suc n))) format h e = absurd (omega arith)

pub not_closed : (closed : Bool) → (closed ≡ true → ⊥) → closed ≡ false
not_closed true never = absurd (never refl)
not_closed false never = refl

module _ {D : Type 0} (w : DiskWords D) (falls : (d : D) (t u : ℕ) (c : List ℕ) → t ≤ u → w.since d u c → w.since d t c)
    (a : Areas) (second : Bool) (generation tail : ℕ) (closed : Bool) (spare : ℕ) (doubt : Option ℕ) (old d1 : D)
    (t : Told a second generation tail closed doubt (w.content old) (w.since old (w.moment old))) (sure : doubt ≡ None) (least : 7 ≤ a.bytes)
    (at : ℕ) (at_is : at ≡ begin_of a (not second)) where
  abbrev named : at ≡ begin_of a (not t.shape.second)
  named = at_is ∙ sym (ap (λ x. begin_of a (not x)) t.of_second)

  abbrev before : Seen D
  before = seen w.content a generation tail spare doubt old

  -- after the gate is closed, where it before not
  pub closes : (closed ≡ true → d1 ≡ old) → (closed ≡ false → Torn w.content w.moment w.since at 1 old d1) → (closed ≡ false → Wrote w.content w.moment w.since at (0 ∷ []) d1)
      → IsClosed w.content w.moment w.since a t.shape old d1
  closes none torn wrote =
      is_closed w.content w.moment w.since falls a t.shape least closed old d1 (t.rest sure) none
      (λ e. subst (λ g. Torn w.content w.moment w.since g 1 old d1) named (torn e)) (λ e. subst (λ g. Wrote w.content w.moment w.since g (0 ∷ []) d1) named (wrote e))

  -- and where that failed
  module _ (e : closed ≡ false) (torn_there : Torn w.content w.moment w.since at 1 old d1) where
    rest0 : IsAtRest a t.shape false (w.content old) (w.since old (w.moment old))
    rest0 = subst (λ x. IsAtRest a t.shape x (w.content old) (w.since old (w.moment old))) e (t.rest sure)

    torn : Torn w.content w.moment w.since (begin_of a (not t.shape.second)) 1 old d1
    torn = subst (λ g. Torn w.content w.moment w.since g 1 old d1) named torn_there

    rest1 : IsAtRest a t.shape false (w.content d1) (w.since d1 (w.moment d1))
    rest1 = closing_rest w.content w.moment w.since falls a t.shape least old d1 rest0 torn

    pub told1 : (t' : Told a second generation tail closed doubt (w.content d1) (w.since d1 (w.moment d1))) × (t'.shape ≡ t.shape)
    told1 = told_at_rest a second generation tail closed doubt (w.content d1) (w.since d1 (w.moment d1)) t.shape t.of_second t.of_generation t.of_tail sure
        (subst (λ x. IsAtRest a t.shape x (w.content d1) (w.since d1 (w.moment d1))) (sym e) rest1)

    began1 : Began w.content w.moment w.since a old d1
    began1 = closing_began w.content w.moment w.since falls a t.shape least old d1 rest0 torn

    kept_old : kept before ≡ stored_of t.shape
    kept_old = kept_told w.content a second generation tail closed spare old (w.since old (w.moment old)) doubt t

    moments1 : (next : Stored) (c : List ℕ) → w.since d1 (w.moment old) c
        → OneOf (records_of a) (w.since old (w.moment old)) (Outside a) (kept before) next (w.content old) c
    moments1 next c is = subst (λ (r : Stored). OneOf (records_of a) (w.since old (w.moment old)) (Outside a) r next (w.content old) c) (sym kept_old)
        (only_before w.content w.moment w.since falls a t.shape false old d1 next began1 (closing_images w.content w.moment w.since falls a t.shape least old d1 rest0 torn) c is)

    records1 : kept (seen w.content a generation tail spare doubt d1) ≡ kept before
    records1 = kept_told w.content a second generation tail closed spare d1 (w.since d1 (w.moment d1)) doubt told1.0 ∙ ap stored_of told1.1 ∙ sym kept_old

    known1 : (c : List ℕ) → w.since d1 (w.moment d1) c → records_of a c ≡ Some (kept before)
    known1 c is = stored_at a t.shape c (rest1.images c is).rests ∙ ap (λ r. Some r) (sym kept_old)

    pub stopped1 : (next : Stored) → IsTorn w next before (seen w.content a generation tail spare doubt d1)
    stopped1 next = record {
      written = record { outside = began1.outside; time = began1.time; moments = moments1 next };
      records = records1;
      doubt = λ unsure. absurd (cc (ap is_some sure, unsure));
      known = λ _. known1;
      behind = λ unsure. absurd (cc (ap is_some sure, unsure));
    }

module _ {D : Type 0} (w : DiskWords D) (falls : (d : D) (t u : ℕ) (c : List ℕ) → t ≤ u → w.since d u c → w.since d t c)
    (a : Areas) (second : Bool) (generation tail : ℕ) (closed : Bool) (spare : ℕ) (doubt : Option ℕ) (old d1 : D)
    (t : Told a second generation tail closed doubt (w.content old) (w.since old (w.moment old))) (sure : doubt ≡ None) (least : 7 ≤ a.bytes)
    (at : ℕ) (at_is : at ≡ begin_of a (not second)) (none : closed ≡ true → d1 ≡ old)
    (torn_first : closed ≡ false → Torn w.content w.moment w.since at 1 old d1) (wrote_first : closed ≡ false → Wrote w.content w.moment w.since at (0 ∷ []) d1)
    (b : List ℕ) (format : ℕ) (most : a.bytes ≤ 16777216) (room : length b + 7 ≤ a.bytes) (in_format : (format ≡ 1) ⊎ (format ≡ 2))
    (bytes : List ℕ) (bytes_are : bytes ≡ framed ((next_of generation + 16 * (format - 1)) ∷ b))
    (d2 : D) (torn_there : Torn w.content w.moment w.since (at + 1) (length bytes) d1 d2) where
  abbrev gate : ℕ
  gate = begin_of a (not second)

  abbrev s : Shape
  s = t.shape

  abbrev byte : ℕ
  byte = next_of generation + 16 * (format - 1)

  abbrev s' : Shape
  s' = alone a s byte b

  abbrev was : Seen D
  was = seen w.content a generation tail spare doubt old

  k : IsClosed w.content w.moment w.since a s old d1
  k = closes w falls a second generation tail closed spare doubt old d1 t sure least at at_is none torn_first wrote_first

  torn2 : Torn w.content w.moment w.since (gate + 1) (length (framed (byte ∷ b))) d1 d2
  torn2 = torn_as w.content w.moment w.since (at + 1) (gate + 1) bytes (framed (byte ∷ b)) d1 d2 (ap (λ x. x + 1) at_is) bytes_are torn_there

  size : length (framed (byte ∷ b)) ≡ length b + 6
  size = omega (arith, length-framed (byte ∷ b))

  other_is : begin_of a (not s.second) ≡ gate
  other_is = ap (λ x. begin_of a (not x)) t.of_second

  keeps : (c d : List ℕ) → Same (Beside (gate + 1) (length (framed (byte ∷ b)))) c d → Stands a s true d → Stands a s true c
  keeps c d same st = stands_closed_same a s c d (λ i h.
      let free : Beside (begin_of a (not s.second) + 1) (length (framed (byte ∷ b))) i =
      other_free a s.second s.tail (length (framed (byte ∷ b))) i st.rests.room (walks_le d (begin_of a s.second) (bodies_of s) s.tail st.rests.walks) (omega (arith, size, room)) least h in
      same i (subst (λ x. Beside (x + 1) (length (framed (byte ∷ b))) i) other_is free)) st

  gate_in : (a.first ≤ gate) × (gate + 7 + length b ≤ a.first + 2 * a.bytes)
  gate_in =
      let low = in_areas a (not second) gate (omega arith) (omega arith) in
      let high = in_areas a (not second) (gate + 7 + length b) (omega arith) (omega (arith, room)) in
      (low.0, high.1)

  kept_is : kept was ≡ stored_of s
  kept_is = kept_told w.content a second generation tail closed spare old (w.since old (w.moment old)) doubt t

  stored_is : stored_of s' ≡ one_record format b
  stored_is = ap (λ f. one_record f b) (next_byte generation format in_format).2

  -- the record is written, or in part
  rest2 : IsAtRest a s true (w.content d2) (w.since d2 (w.moment d2))
  rest2 = staged_rest w.content w.moment w.since falls a s true d1 d2 (gate + 1) (length (framed (byte ∷ b))) keeps k.rest torn2

  pub told2 : (t' : Told a second generation tail true doubt (w.content d2) (w.since d2 (w.moment d2))) × (t'.shape ≡ s)
  told2 = told_at_rest a second generation tail true doubt (w.content d2) (w.since d2 (w.moment d2)) s t.of_second t.of_generation t.of_tail sure rest2

  began2 : Began w.content w.moment w.since a old d2
  began2 = began_more w.content w.moment w.since falls a old d1 d2 (gate + 1) (length (framed (byte ∷ b))) (omega (arith, gate_in)) (omega (arith, gate_in, size)) k.began torn2

  images2 : (c : List ℕ) → w.since d2 (w.moment old) c → Rests a s c
  images2 = images_more w.content w.moment w.since falls a s true old d1 d2 (gate + 1) (length (framed (byte ∷ b))) keeps k.began k.images k.rest torn2

  moments2 : (c : List ℕ) → w.since d2 (w.moment old) c
      → OneOf (records_of a) (w.since old (w.moment old)) (Outside a) (kept was) (one_record format b) (w.content old) c
  moments2 c is = subst (λ (r : Stored). OneOf (records_of a) (w.since old (w.moment old)) (Outside a) r (one_record format b) (w.content old) c) (sym kept_is) (only_before w.content w.moment w.since falls a s true old d2 (one_record format b) began2 images2 c is)

  records2 : kept (seen w.content a generation tail spare doubt d2) ≡ kept was
  records2 = kept_told w.content a second generation tail true spare d2 (w.since d2 (w.moment d2)) doubt told2.0 ∙ ap stored_of told2.1 ∙ sym kept_is

  known2 : (c : List ℕ) → w.since d2 (w.moment d2) c → records_of a c ≡ Some (kept was)
  known2 c is = stored_at a s c (rest2.images c is).rests ∙ ap (λ r. Some r) (sym kept_is)

  pub stopped2 : IsTorn w (one_record format b) was (seen w.content a generation tail spare doubt d2)
  stopped2 = record {
    written = record { outside = began2.outside; time = began2.time; moments = moments2 };
    records = records2;
    doubt = λ unsure. absurd (cc (ap is_some sure, unsure));
    known = λ _. known2;
    behind = λ unsure. absurd (cc (ap is_some sure, unsure));
  }

  module _ (wrote_there : Wrote w.content w.moment w.since (at + 1) bytes d2) where
    wrote2 : Wrote w.content w.moment w.since (gate + 1) (framed (byte ∷ b)) d2
    wrote2 = wrote_as w.content w.moment w.since (at + 1) (gate + 1) bytes (framed (byte ∷ b)) d2 (ap (λ x. x + 1) at_is) bytes_are wrote_there

    poised2 : IsPoised a gate s true s' false (w.content d2)
    poised2 =
        let frame : IsFramed (w.content d2) gate (byte ∷ b) = is_framed (w.content d2) gate (byte ∷ b) (omega (arith, room, most)) wrote2.written in
        let n = next_byte generation format in_format in
        subst (λ g. IsPoised a g s true s' false (w.content d2)) other_is
        (poised_other a s (w.content d2) byte b least rest2.here (subst (λ g. IsFramed (w.content d2) g (byte ∷ b)) (sym other_is) frame) (omega (arith, room)) n.0 (n.1 ∙ ap next_of (sym t.of_generation)))

    unsure2 : IsInDoubt a gate s true s' false (w.content d2) (w.since d2 (w.moment d2))
    unsure2 = record { poised = poised2; behind = λ c is i other. ap (λ d. slice_index d i) (wrote2.durable c is) }

    module _ (d3 : D) (torn_gate : Torn w.content w.moment w.since at 1 d2 d3) where
      torn3 : Torn w.content w.moment w.since gate 1 d2 d3
      torn3 = subst (λ x. Torn w.content w.moment w.since x 1 d2 d3) at_is torn_gate

      gate_to : gate < a.first + 2 * a.bytes
      gate_to = omega (arith, gate_in)

      began3 : Began w.content w.moment w.since a old d3
      began3 = opened_began w.content w.moment w.since falls a s true s' false old d2 d3 gate gate_in.0 gate_to began2 images2 unsure2 torn3

      moments3 : (c : List ℕ) → w.since d3 (w.moment old) c
          → OneOf (records_of a) (w.since old (w.moment old)) (Outside a) (kept was) (one_record format b) (w.content old) c
      moments3 c is =
          let raw = opened_moments w.content w.moment w.since falls a s true s' false old d2 d3 gate gate_in.0 gate_to began2 images2 unsure2 torn3 c is in
          let named = subst (λ (r : Stored). OneOf (records_of a) (w.since old (w.moment old)) (Outside a) (stored_of s) r (w.content old) c) stored_is raw in
          subst (λ (r : Stored). OneOf (records_of a) (w.since old (w.moment old)) (Outside a) r (one_record format b) (w.content old) c) (sym kept_is) named

      -- the gate is in doubt
      pub told3 : (t' : Told a second generation tail true (Some gate) (w.content d3) (w.since d3 (w.moment d3))) × (t'.shape ≡ s) × (t'.next ≡ s')
      told3 = told_in_doubt a second generation tail true gate (w.content d3) (w.since d3 (w.moment d3)) s s' false t.of_second t.of_generation t.of_tail
          (opened_unsure w.content w.moment w.since falls a s true s' false old d2 d3 gate gate_in.0 gate_to began2 images2 unsure2 torn3)

      records3 : kept (seen w.content a generation tail spare (Some gate) d3) ≡ kept was
      records3 = kept_told w.content a second generation tail true spare d3 (w.since d3 (w.moment d3)) (Some gate) told3.0 ∙ ap stored_of told3.1 ∙ sym kept_is

      doubt3 : gate < length (w.content d3) → (seen w.content a generation tail spare (Some gate) d3).doubt ≡ one_record format b
      doubt3 inside = doubt_told w.content a second generation tail true spare d3 (w.since d3 (w.moment d3)) gate (Some gate) refl told3.0 inside ∙ ap stored_of told3.2 ∙ stored_is

      behind3 : (c : List ℕ) → w.since d3 (w.moment d3) c → Same (Outside a) c (w.content d3)
      behind3 = opened_behind w.content w.moment w.since falls a s true s' false old d2 d3 gate gate_in.0 gate_to began2 images2 unsure2 torn3

      pub stopped3 : gate < length (w.content d3) → IsTorn w (one_record format b) was (seen w.content a generation tail spare (Some gate) d3)
      stopped3 inside = record {
        written = record { outside = began3.outside; time = began3.time; moments = moments3 };
        records = records3;
        doubt = λ _. doubt3 inside;
        known = λ settled. absurd (cc settled);
        behind = λ _. behind3;
      }

      -- the gate is open for good
      module _ (wrote_gate : Wrote w.content w.moment w.since at (165 ∷ []) d3) where
        wrote3 : Wrote w.content w.moment w.since gate (165 ∷ []) d3
        wrote3 = subst (λ x. Wrote w.content w.moment w.since x (165 ∷ []) d3) at_is wrote_gate

        pub told4 : (t' : Told a (not second) byte (length b + 6) false doubt (w.content d3) (w.since d3 (w.moment d3))) × (t'.shape ≡ s')
        told4 = told_at_rest a (not second) byte (length b + 6) false doubt (w.content d3) (w.since d3 (w.moment d3)) s' (ap not t.of_second) refl
            (omega (arith, other_is)) sure (opens w.content w.moment w.since falls a s true s' false old d2 d3 gate gate_in.0 gate_to began2 images2 unsure2 torn3 wrote3)

        records4 : kept (seen w.content a byte (length b + 6) spare doubt d3) ≡ one_record format b
        records4 = kept_told w.content a (not second) byte (length b + 6) false spare d3 (w.since d3 (w.moment d3)) doubt told4.0 ∙ ap stored_of told4.1 ∙ stored_is

        durable4 : (c : List ℕ) → w.since d3 (w.moment d3) c → After (records_of a) (one_record format b) (w.content old) (Outside a) c
        durable4 c is = subst (λ (r : Stored). After (records_of a) r (w.content old) (Outside a) c) stored_is (opened_after w.content w.moment w.since falls a s true s' false old d2 d3 gate gate_in.0 gate_to began2 images2 unsure2 torn3 wrote3 c is)

        pub stored4 : IsDurable w (one_record format b) was (seen w.content a byte (length b + 6) spare doubt d3)
        stored4 = record {
          written = record { outside = began3.outside; time = began3.time; moments = moments3 };
          records = records4;
          durable = durable4;
        }
