-- What a journal is seen as.
use Rattle.std.proofs.Common.{◌≡◌, ◌≢◌, ℕ, ◌+◌, ◌*◌, ◌<◌, ◌≤◌, ◌⊎◌, Bool, true, false, not, List, length, inl, inr, refl, sym, ◌∙◌, ap, arith, Option, Some, None, Result, Ok, Err}
use Rattle.std.specs.Prelude.{is_some, is_err, unwrap_or, OnOk, OnErr, slice_set}
use Rattle.std.proofs.lemmas.List.{get_or-set_same, get_or-set_other, set_past, get_or_past}
use Rattle.std.proofs.lemmas.Bool.{cases_lt}
use Rattle.opfs_outside.specs.Bytes.{Same, Beside}
use Rattle.opfs_journal.specs.Clauses.{Outside}
use Rattle.opfs_journal.specs.Format.{is_open, begin_of, stored_if_ok, records_of, format_of}
use Rattle.opfs_journal.specs.Reading.{Shape, stored_of, Rests, Relevant}
use Rattle.opfs_journal.specs.Seen.{seen, kept, nothing}
use Rattle.opfs_journal.specs.Standing.{Told}
use Rattle.opfs_journal.specs.declared.areas.Areas.{Areas}
use Rattle.opfs_journal.proofs.Shapes.{rests_reads}

pub none_from : {X : Type 0} (o : Option X) → is_some o ≡ false → o ≡ None
none_from None e = refl
none_from (Some x) e = absurd (cc)

pub some_same : {X : Type 0} {x y : X} → Some x ≡ Some y → x ≡ y
some_same e = cc

pub on_err : {T E P : Type 0} (r : Result T E) → P → OnErr r P
on_err (Ok x) p = tt {0}
on_err (Err x) p = p

pub on_ok : {T E P : Type 0} (r : Result T E) → P → OnOk r P
on_ok (Ok x) p = p
on_ok (Err x) p = tt {0}

-- an image of a shape has these records
pub stored_at : (a : Areas) (s : Shape) (c : List ℕ) → Rests a s c → records_of a c ≡ Some (stored_of s)
stored_at a s c r = ap stored_if_ok (rests_reads a s c r)

-- one byte is changed
pub set_gate : (c : List ℕ) (gate byte : ℕ) → Same (λ i. i ≢ gate) (slice_set c gate byte) c
set_gate c gate byte i other = get_or-set_other c gate i byte 0 other

pub shut_gate : (c : List ℕ) (gate : ℕ) → is_open (slice_set c gate 0) gate ≡ false
shut_gate c gate = elim (cases_lt gate (length c)) [
  | inl inside ↦ rw (get_or-set_same c gate 0 0 inside) refl
  | inr past ↦ rw (set_past c gate 0 past, get_or_past c gate 0 past) refl
]

pub open_gate : (c : List ℕ) (gate : ℕ) → gate < length c → is_open (slice_set c gate 165) gate ≡ true
open_gate c gate inside = rw (get_or-set_same c gate 165 0 inside) refl

module _ {D : Type 0} (content : D → List ℕ) (a : Areas) (second : Bool) (generation tail : ℕ) (closed : Bool) (spare : ℕ) (disk : D) (now : List ℕ → Type 0) where
  -- the records that are seen are those of the shape
  pub kept_told : (doubt : Option ℕ) (t : Told a second generation tail closed doubt (content disk) now) → kept (seen content a generation tail spare doubt disk) ≡ stored_of t.shape
  kept_told None t =
      let stored = stored_at a t.shape (content disk) (t.rest refl).here.rests in
      let same = t.of_generation in
      λ i. record { format = format_of (sym same i); records = (unwrap_or (stored i) nothing).records }
  kept_told (Some gate) t =
      let stored = stored_at a t.shape (slice_set (content disk) gate 0) ((t.unsure gate refl).poised.if_shut (slice_set (content disk) gate 0) (set_gate (content disk) gate 0) (shut_gate (content disk) gate)).rests in
      let same = t.of_generation in
      λ i. record { format = format_of (sym same i); records = (unwrap_or (stored i) nothing).records }

  -- and so are those in doubt
  pub doubt_told : (gate : ℕ) (doubt : Option ℕ) (e : doubt ≡ Some gate) (t : Told a second generation tail closed doubt (content disk) now) → gate < length (content disk) → (seen content a generation tail spare doubt disk).doubt ≡ stored_of t.next
  doubt_told gate doubt e t inside =
      let stored = stored_at a t.next (slice_set (content disk) gate 165) ((t.unsure gate e).poised.if_open (slice_set (content disk) gate 165) (set_gate (content disk) gate 165) (open_gate (content disk) gate inside)).rests in
      ap (λ o. (seen content a generation tail spare o disk).doubt) e ∙ ap (λ o. unwrap_or o nothing) stored

inside_areas : (a : Areas) (second : Bool) (tail i : ℕ) → tail < begin_of a second + a.bytes → 7 ≤ a.bytes
    → ((begin_of a second ≤ i) × (i ≤ tail)) ⊎ ((begin_of a (not second) ≤ i) × (i < begin_of a (not second) + 6)) → (a.first ≤ i) × (i < a.first + 2 * a.bytes)
inside_areas a true tail i room least (inl h) = (omega (arith, h.0), omega (arith, h.1))
inside_areas a true tail i room least (inr h) = (omega (arith, h.0), omega (arith, h.1))
inside_areas a false tail i room least (inl h) = (omega (arith, h.0), omega (arith, h.1))
inside_areas a false tail i room least (inr h) = (omega (arith, h.0), omega (arith, h.1))

-- what matters lies in the areas
pub relevant_inside : (a : Areas) (s : Shape) (c : List ℕ) → Rests a s c → 7 ≤ a.bytes → (i : ℕ) → Relevant a s i → (a.first ≤ i) × (i < a.first + 2 * a.bytes)
relevant_inside a s c r least i h = inside_areas a s.second s.tail i r.room least h

-- a range beside the areas is beside what matters
pub beside_areas : (a : Areas) (at n i : ℕ) → (at + n ≤ a.first) ⊎ (a.first + 2 * a.bytes ≤ at) → a.first ≤ i → i < a.first + 2 * a.bytes → Beside at n i
beside_areas a at n i (inl before) from to = inr (omega arith)
beside_areas a at n i (inr behind) from to = inl (omega arith)

-- a place outside of the areas is none of theirs
pub outside_not : (a : Areas) (i gate : ℕ) → Outside a i → a.first ≤ gate → gate < a.first + 2 * a.bytes → i ≢ gate
outside_not a i gate (inl before) from to e = omega arith
outside_not a i gate (inr behind) from to e = omega arith

pub beside_one : (gate i : ℕ) → i ≢ gate → Beside gate 1 i
beside_one gate i other = elim (cases_lt i gate) [
  | inl below ↦ inl below
  | inr above ↦ inr (omega arith)
]

-- what is said of Ok holds where it is no error
pub if_no_error : {T E P : Type 0} (r : Result T E) → is_err r ≡ false → OnOk r P → P
if_no_error (Ok x) e p = p
if_no_error (Err x) e p = absurd (cc e)
