-- A record is added: its bytes are written behind the last gate, and then the gate is opened.
use Rattle.std.proofs.Common.{◌≡◌, ℕ, ◌+◌, ◌*◌, ◌<◌, ◌≤◌, ◌⊎◌, Bool, true, false, not, List, [], ◌∷◌, length, inl, inr, refl, sym, ◌∙◌, ap, subst, arith, Option, Some, None}
use Rattle.opfs_outside.specs.Bytes.{Same, Beside}
use Rattle.opfs_outside.specs.declared.disk.Disk.{Ghosts as DiskWords}
use Rattle.std.specs.Prelude.{slice_index, is_some}
use Rattle.opfs_journal.specs.Calls.{IsTorn, IsDurable}
use Rattle.opfs_journal.specs.Clauses.{Outside, After, OneOf}
use Rattle.opfs_journal.specs.Format.{begin_of, Stored, records_of, framed}
use Rattle.opfs_journal.specs.Reading.{Shape, bodies_of, stored_of, Rests, Relevant}
use Rattle.opfs_journal.specs.Seen.{Seen, seen, kept, with_record}
use Rattle.opfs_journal.specs.Standing.{Stands, Torn, Wrote, IsAtRest, IsInDoubt, IsPoised, Told, Began, IsFramed, longer}
use Rattle.opfs_journal.specs.declared.areas.Areas.{Areas}
use Rattle.opfs_journal.proofs.Chains.{walks_le}
use Rattle.opfs_journal.proofs.Frames.{is_framed, length-framed}
use Rattle.opfs_journal.proofs.Gates.{poised_append, stands_same}
use Rattle.opfs_journal.proofs.Moves.{told_at_rest, told_in_doubt}
use Rattle.opfs_journal.proofs.Opens.{began_here, began_more, staged_image, staged_rest, only_before, opened_began, opened_moments, opens, opened_after, opened_unsure, opened_behind}
use Rattle.opfs_journal.proofs.Views.{stored_at, kept_told, doubt_told}

-- the same range and the same bytes under other names
pub torn_as : {D : Type 0} (content : D → List ℕ) (moment : D → ℕ) (since : D → ℕ → List ℕ → Type 0) (at at' : ℕ) (xs ys : List ℕ) (old new : D)
    → at ≡ at' → xs ≡ ys → Torn content moment since at (length xs) old new → Torn content moment since at' (length ys) old new
torn_as content moment since at at' xs ys old new e f t = subst (λ x. Torn content moment since x (length ys) old new) e (subst (λ zs. Torn content moment since at (length zs) old new) f t)

pub wrote_as : {D : Type 0} (content : D → List ℕ) (moment : D → ℕ) (since : D → ℕ → List ℕ → Type 0) (at at' : ℕ) (xs ys : List ℕ) (new : D)
    → at ≡ at' → xs ≡ ys → Wrote content moment since at xs new → Wrote content moment since at' ys new
wrote_as content moment since at at' xs ys new e f w = subst (λ x. Wrote content moment since x ys new) e (subst (λ zs. Wrote content moment since at zs new) f w)

-- behind the last gate nothing matters
free_behind : (a : Areas) (second : Bool) (tail n i : ℕ) → begin_of a second ≤ tail → tail + 1 + n ≤ begin_of a second + a.bytes → 7 ≤ a.bytes
    → ((begin_of a second ≤ i) × (i ≤ tail)) ⊎ ((begin_of a (not second) ≤ i) × (i < begin_of a (not second) + 6)) → Beside (tail + 1) n i
free_behind a true tail n i begins fits least (inl h) = inl (omega arith)
free_behind a true tail n i begins fits least (inr h) = inl (omega arith)
free_behind a false tail n i begins fits least (inl h) = inl (omega arith)
free_behind a false tail n i begins fits least (inr h) = inr (omega arith)

-- both areas lie together
pub in_areas : (a : Areas) (second : Bool) (at : ℕ) → begin_of a second ≤ at → at ≤ begin_of a second + a.bytes → (a.first ≤ at) × (at ≤ a.first + 2 * a.bytes)
in_areas a true at from to = (omega arith, omega arith)
in_areas a false at from to = (omega arith, omega arith)

pub gate_bounds_of : (a : Areas) (second : Bool) → 7 ≤ a.bytes → (a.first ≤ begin_of a second) × (begin_of a second < a.first + 2 * a.bytes)
gate_bounds_of a true least = (omega arith, omega arith)
gate_bounds_of a false least = (omega arith, omega arith)

pub gate_bounds : (a : Areas) (second : Bool) (tail : ℕ) → tail < a.bytes → (a.first ≤ begin_of a second + tail) × (begin_of a second + tail < a.first + 2 * a.bytes)
gate_bounds a true tail within = (omega arith, omega arith)
gate_bounds a false tail within = (omega arith, omega arith)

module _ {D : Type 0} (w : DiskWords D) (falls : (d : D) (t u : ℕ) (c : List ℕ) → t ≤ u → w.since d u c → w.since d t c)
    (a : Areas) (second : Bool) (generation tail : ℕ) (closed : Bool) (spare : ℕ) (doubt : Option ℕ) (old : D) (b : List ℕ)
    (t : Told a second generation tail closed doubt (w.content old) (w.since old (w.moment old))) (sure : doubt ≡ None) (least : 7 ≤ a.bytes) (most : a.bytes ≤ 16777216)
    (room : tail + length b + 6 ≤ a.bytes) (at : ℕ) (at_is : at ≡ begin_of a second + tail) (bytes : List ℕ) (bytes_are : bytes ≡ framed b)
    (d1 : D) (torn_there : Torn w.content w.moment w.since (at + 1) (length bytes) old d1) where
  abbrev gate : ℕ
  gate = begin_of a second + tail

  abbrev s : Shape
  s = t.shape

  abbrev was : Seen D
  was = seen w.content a generation tail spare doubt old

  abbrev next : Stored
  next = with_record (kept was) b

  torn1 : Torn w.content w.moment w.since (gate + 1) (length (framed b)) old d1
  torn1 = torn_as w.content w.moment w.since (at + 1) (gate + 1) bytes (framed b) old d1 (ap (λ x. x + 1) at_is) bytes_are torn_there

  size : length (framed b) ≡ length b + 5
  size = length-framed b

  free : (i : ℕ) → Relevant a s i → Beside (gate + 1) (length (framed b)) i
  free i h =
      let inside : Beside (s.tail + 1) (length (framed b)) i =
      free_behind a s.second s.tail (length (framed b)) i (walks_le (w.content old) (begin_of a s.second) (bodies_of s) s.tail (t.rest sure).here.rests.walks)
      (omega (arith, size, t.of_tail, room, ap (λ x. begin_of a x) t.of_second)) least h in
      subst (λ x. Beside (x + 1) (length (framed b)) i) t.of_tail inside

  keeps : (c d : List ℕ) → Same (Beside (gate + 1) (length (framed b))) c d → Stands a s closed d → Stands a s closed c
  keeps c d same st = stands_same a s closed d c (λ i h. same i (free i h)) st

  gate_in : (a.first ≤ gate) × (gate + 6 + length b ≤ a.first + 2 * a.bytes)
  gate_in =
      let low = in_areas a second gate (omega arith) (omega (arith, room)) in
      let high = in_areas a second (gate + 6 + length b) (omega arith) (omega (arith, room)) in
      (low.0, high.1)

  -- the bytes are written, or in part
  rest1 : IsAtRest a s closed (w.content d1) (w.since d1 (w.moment d1))
  rest1 = staged_rest w.content w.moment w.since falls a s closed old d1 (gate + 1) (length (framed b)) keeps (t.rest sure) torn1

  pub told1 : (t' : Told a second generation tail closed doubt (w.content d1) (w.since d1 (w.moment d1))) × (t'.shape ≡ s)
  told1 = told_at_rest a second generation tail closed doubt (w.content d1) (w.since d1 (w.moment d1)) s t.of_second t.of_generation t.of_tail sure rest1

  began1 : Began w.content w.moment w.since a old d1
  began1 = began_more w.content w.moment w.since falls a old old d1 (gate + 1) (length (framed b)) (omega (arith, gate_in)) (omega (arith, gate_in, size)) (began_here w.content w.moment w.since falls a old) torn1

  images1 : (c : List ℕ) → w.since d1 (w.moment old) c → Rests a s c
  images1 c is = (staged_image w.content w.moment w.since falls a s closed old d1 (gate + 1) (length (framed b)) keeps (t.rest sure) torn1 c is).rests

  kept_is : kept was ≡ stored_of s
  kept_is = kept_told w.content a second generation tail closed spare old (w.since old (w.moment old)) doubt t

  moments1 : (c : List ℕ) → w.since d1 (w.moment old) c
      → OneOf (records_of a) (w.since old (w.moment old)) (Outside a) (kept was) next (w.content old) c
  moments1 c is = subst (λ (k : Stored). OneOf (records_of a) (w.since old (w.moment old)) (Outside a) k (with_record k b) (w.content old) c) (sym kept_is) (only_before w.content w.moment w.since falls a s closed old d1 (with_record (stored_of s) b) began1 images1 c is)

  records1 : kept (seen w.content a generation tail spare doubt d1) ≡ kept was
  records1 = kept_told w.content a second generation tail closed spare d1 (w.since d1 (w.moment d1)) doubt told1.0 ∙ ap stored_of told1.1 ∙ sym kept_is

  known1 : (c : List ℕ) → w.since d1 (w.moment d1) c → records_of a c ≡ Some (kept was)
  known1 c is = stored_at a s c (rest1.images c is).rests ∙ ap (λ k. Some k) (sym kept_is)

  pub stopped1 : IsTorn w next was (seen w.content a generation tail spare doubt d1)
  stopped1 = record {
    written = record { outside = began1.outside; time = began1.time; moments = moments1 };
    records = records1;
    doubt = λ unsure. absurd (cc (ap is_some sure, unsure));
    known = λ _. known1;
    behind = λ unsure. absurd (cc (ap is_some sure, unsure));
  }

  module _ (wrote_there : Wrote w.content w.moment w.since (at + 1) bytes d1) where
    wrote1 : Wrote w.content w.moment w.since (gate + 1) (framed b) d1
    wrote1 = wrote_as w.content w.moment w.since (at + 1) (gate + 1) bytes (framed b) d1 (ap (λ x. x + 1) at_is) bytes_are wrote_there

    poised1 : IsPoised a gate s closed (longer s b) closed (w.content d1)
    poised1 =
        let frame = is_framed (w.content d1) gate b (omega (arith, room, most)) wrote1.written in
        subst (λ g. IsPoised a g s closed (longer s b) closed (w.content d1)) t.of_tail
        (poised_append a s closed (w.content d1) least rest1.here b (subst (λ g. IsFramed (w.content d1) g b) (sym t.of_tail) frame) (omega (arith, t.of_tail, room, ap (λ x. begin_of a x) t.of_second)))

    unsure1 : IsInDoubt a gate s closed (longer s b) closed (w.content d1) (w.since d1 (w.moment d1))
    unsure1 = record { poised = poised1; behind = λ c is i other. ap (λ d. slice_index d i) (wrote1.durable c is) }

    module _ (d2 : D) (torn_gate : Torn w.content w.moment w.since at 1 d1 d2) where
      torn2 : Torn w.content w.moment w.since gate 1 d1 d2
      torn2 = subst (λ x. Torn w.content w.moment w.since x 1 d1 d2) at_is torn_gate

      gate_to : gate < a.first + 2 * a.bytes
      gate_to = omega (arith, gate_in)

      began2 : Began w.content w.moment w.since a old d2
      began2 = opened_began w.content w.moment w.since falls a s closed (longer s b) closed old d1 d2 gate gate_in.0 gate_to began1 images1 unsure1 torn2

      moments2 : (c : List ℕ) → w.since d2 (w.moment old) c
          → OneOf (records_of a) (w.since old (w.moment old)) (Outside a) (kept was) next (w.content old) c
      moments2 c is = subst (λ (k : Stored). OneOf (records_of a) (w.since old (w.moment old)) (Outside a) k (with_record k b) (w.content old) c) (sym kept_is) (opened_moments w.content w.moment w.since falls a s closed (longer s b) closed old d1 d2 gate gate_in.0 gate_to began1 images1 unsure1 torn2 c is)

      -- the gate is in doubt
      pub told2 : (t' : Told a second generation tail closed (Some gate) (w.content d2) (w.since d2 (w.moment d2))) × (t'.shape ≡ s) × (t'.next ≡ longer s b)
      told2 = told_in_doubt a second generation tail closed gate (w.content d2) (w.since d2 (w.moment d2)) s (longer s b) closed t.of_second t.of_generation t.of_tail
          (opened_unsure w.content w.moment w.since falls a s closed (longer s b) closed old d1 d2 gate gate_in.0 gate_to began1 images1 unsure1 torn2)

      records2 : kept (seen w.content a generation tail spare (Some gate) d2) ≡ kept was
      records2 = kept_told w.content a second generation tail closed spare d2 (w.since d2 (w.moment d2)) (Some gate) told2.0 ∙ ap stored_of told2.1 ∙ sym kept_is

      doubt2 : gate < length (w.content d2) → (seen w.content a generation tail spare (Some gate) d2).doubt ≡ next
      doubt2 inside =
          doubt_told w.content a second generation tail closed spare d2 (w.since d2 (w.moment d2)) gate (Some gate) refl told2.0 inside ∙ ap stored_of told2.2 ∙ ap (λ k. with_record k b) (sym kept_is)

      behind2 : (c : List ℕ) → w.since d2 (w.moment d2) c → Same (Outside a) c (w.content d2)
      behind2 = opened_behind w.content w.moment w.since falls a s closed (longer s b) closed old d1 d2 gate gate_in.0 gate_to began1 images1 unsure1 torn2

      pub stopped2 : gate < length (w.content d2) → IsTorn w next was (seen w.content a generation tail spare (Some gate) d2)
      stopped2 inside = record {
        written = record { outside = began2.outside; time = began2.time; moments = moments2 };
        records = records2;
        doubt = λ _. doubt2 inside;
        known = λ settled. absurd (cc settled);
        behind = λ _. behind2;
      }

      -- the gate is open for good
      module _ (wrote_gate : Wrote w.content w.moment w.since at (165 ∷ []) d2) where
        wrote2 : Wrote w.content w.moment w.since gate (165 ∷ []) d2
        wrote2 = subst (λ x. Wrote w.content w.moment w.since x (165 ∷ []) d2) at_is wrote_gate

        pub told3 : (t' : Told a second generation (tail + (5 + length b)) closed doubt (w.content d2) (w.since d2 (w.moment d2))) × (t'.shape ≡ longer s b)
        told3 = told_at_rest a second generation (tail + (5 + length b)) closed doubt (w.content d2) (w.since d2 (w.moment d2)) (longer s b) t.of_second t.of_generation
            (omega (arith, t.of_tail)) sure (opens w.content w.moment w.since falls a s closed (longer s b) closed old d1 d2 gate gate_in.0 gate_to began1 images1 unsure1 torn2 wrote2)

        records3 : kept (seen w.content a generation (tail + (5 + length b)) spare doubt d2) ≡ next
        records3 = kept_told w.content a second generation (tail + (5 + length b)) closed spare d2 (w.since d2 (w.moment d2)) doubt told3.0 ∙ ap stored_of told3.1 ∙ ap (λ k. with_record k b) (sym kept_is)

        durable3 : (c : List ℕ) → w.since d2 (w.moment d2) c → After (records_of a) next (w.content old) (Outside a) c
        durable3 c is = subst (λ (k : Stored). After (records_of a) (with_record k b) (w.content old) (Outside a) c) (sym kept_is) (opened_after w.content w.moment w.since falls a s closed (longer s b) closed old d1 d2 gate gate_in.0 gate_to began1 images1 unsure1 torn2 wrote2 c is)

        pub stored3 : IsDurable w next was (seen w.content a generation (tail + (5 + length b)) spare doubt d2)
        stored3 = record {
          written = record { outside = began2.outside; time = began2.time; moments = moments2 };
          records = records3;
          durable = durable3;
        }
