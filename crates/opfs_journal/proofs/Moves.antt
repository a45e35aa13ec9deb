-- What a call of the disk leaves of what the journal knows.
use Rattle.std.proofs.Common.{◌≡◌, ◌≢◌, ℕ, ◌+◌, ◌*◌, ◌<◌, ◌≤◌, ◌⊎◌, Bool, false, List, [], ◌∷◌, length, inl, inr, refl, sym, ◌∙◌, ap, subst, Option, Some, None}
use Rattle.std.specs.Prelude.{slice_index, ◌==◌}
use Rattle.std.proofs.lemmas.Bool.{cases_Bool}
use Rattle.opfs_outside.specs.Bytes.{Same, Beside}
use Rattle.opfs_outside.specs.Moments.{Elapses}
use Rattle.opfs_outside.specs.declared.disk.Disk.{Ghosts as DiskWords}
use Rattle.opfs_journal.specs.Calls.{IsShut}
use Rattle.opfs_journal.specs.Clauses.{Outside, OutsideBut, Before, OneOf}
use Rattle.opfs_journal.specs.Format.{is_open, begin_of, Stored, records_of}
use Rattle.opfs_journal.specs.Reading.{Shape, stored_of}
use Rattle.opfs_journal.specs.Seen.{seen, kept}
use Rattle.opfs_journal.specs.Standing.{Stands, Torn, Wrote, IsAtRest, IsInDoubt, IsPoised, Told}
use Rattle.opfs_journal.specs.declared.areas.Areas.{Areas}
use Rattle.opfs_journal.proofs.Gates.{stands_same}
use Rattle.opfs_journal.proofs.Views.{stored_at, kept_told, doubt_told, relevant_inside, beside_areas, outside_not, beside_one}

-- no more images over the same content
pub told_less : (a : Areas) (second : Bool) (generation tail : ℕ) (closed : Bool) (doubt : Option ℕ) (content content' : List ℕ) (now now' : List ℕ → Type 0)
    → content' ≡ content → ((c : List ℕ) → now' c → now c) → Told a second generation tail closed doubt content now → Told a second generation tail closed doubt content' now'
told_less a second generation tail closed doubt content content' now now' same fewer t = record {
  shape = t.shape;
  of_second = t.of_second;
  of_generation = t.of_generation;
  of_tail = t.of_tail;
  rest = λ e. record { here = subst (λ c. Stands a t.shape closed c) (sym same) (t.rest e).here; images = λ c is. (t.rest e).images c (fewer c is) };
  next = t.next;
  next_closed = t.next_closed;
  unsure = λ gate e. record {
    poised = subst (λ c. IsPoised a gate t.shape closed t.next t.next_closed c) (sym same) (t.unsure gate e).poised;
    behind = λ c is i other. (t.unsure gate e).behind c (fewer c is) i other ∙ ap (λ d. slice_index d i) (sym same);
  };
}

-- a write beside the areas
pub told_put : (a : Areas) (second : Bool) (generation tail : ℕ) (closed : Bool) (doubt : Option ℕ) (content content' : List ℕ) (now now' : List ℕ → Type 0) (at n : ℕ)
    → doubt ≡ None → 7 ≤ a.bytes → (at + n ≤ a.first) ⊎ (a.first + 2 * a.bytes ≤ at) → Same (Beside at n) content' content
    → ((c : List ℕ) → now' c → (d : List ℕ) × now d × Same (Beside at n) c d) → (t : Told a second generation tail closed doubt content now) → (t' : Told a second generation tail closed doubt content' now') × (t'.shape ≡ t.shape)
told_put a second generation tail closed doubt content content' now now' at n sure least apart same torn t =
    let rest = t.rest sure in
    let keeps : (c d : List ℕ) → Same (Beside at n) c d → Stands a t.shape closed d → Stands a t.shape closed c = λ c d beside st.
    stands_same a t.shape closed d c (λ i h. let inside = relevant_inside a t.shape d st.rests least i h in beside i (beside_areas a at n i apart inside.0 inside.1)) st in (
      record {
        shape = t.shape;
        of_second = t.of_second;
        of_generation = t.of_generation;
        of_tail = t.of_tail;
        rest = λ e. record { here = keeps content' content same rest.here; images = λ c is. let was = torn c is in keeps c was.0 was.2 (rest.images was.0 was.1) };
        next = t.next;
        next_closed = t.next_closed;
        unsure = λ gate e. absurd (cc (sure, e));
      },
      refl,
    )

-- an image since then has what it had
pub put_before : {D : Type 0} (content : D → List ℕ) (a : Areas) (second : Bool) (generation tail : ℕ) (closed : Bool) (spare : ℕ) (disk : D) (now : List ℕ → Type 0) (doubt : Option ℕ)
    (t : Told a second generation tail closed doubt (content disk) now) (at n : ℕ) → doubt ≡ None → 7 ≤ a.bytes → (at + n ≤ a.first) ⊎ (a.first + 2 * a.bytes ≤ at)
    → (c : List ℕ) → (d : List ℕ) × now d × Same (Beside at n) c d → Before (records_of a) (kept (seen content a generation tail spare doubt disk)) now (OutsideBut a at n) c
put_before content a second generation tail closed spare disk now doubt t at n sure least apart c was =
    let st = (t.rest sure).images was.0 was.1 in
    let here = stands_same a t.shape closed was.0 c (λ i h. let inside = relevant_inside a t.shape was.0 st.rests least i h in was.2 i (beside_areas a at n i apart inside.0 inside.1)) st in
    record {
      stored = stored_at a t.shape c here.rests ∙ ap (λ k. Some k) (sym (kept_told content a second generation tail closed spare disk now doubt t));
      from = was.0;
      was_left = was.1;
      bytes = λ i outside. was.2 i outside.1;
    }

module _ {D : Type 0} (content : D → List ℕ) (moment : D → ℕ) (since : D → ℕ → List ℕ → Type 0)
    (falls : (d : D) (t u : ℕ) (c : List ℕ) → t ≤ u → since d u c → since d t c) where
  -- an image of now is one since the call began
  pub now_since : (old new : D) (c : List ℕ) → Elapses moment since old new → since new (moment new) c → since new (moment old) c
  now_since old new c time is = falls new (moment old) (moment new) c time.later is

  -- the gate in doubt is written
  module _ (a : Areas) (gate : ℕ) (s : Shape) (closed : Bool) (s' : Shape) (closed' : Bool) (old new : D)
      (u : IsInDoubt a gate s closed s' closed' (content old) (since old (moment old))) (torn : Torn content moment since gate 1 old new) where
    content_beside : Same (λ i. i ≢ gate) (content new) (content old)
    content_beside i other = torn.elsewhere i (beside_one gate i other)

    pub image_beside : (c : List ℕ) → since new (moment old) c → Same (λ i. i ≢ gate) c (content old)
    image_beside c is i other = let was = torn.moments c is in was.2 i (beside_one gate i other) ∙ u.behind was.0 was.1 i other

    pub still_in_doubt : IsInDoubt a gate s closed s' closed' (content new) (since new (moment new))
    still_in_doubt = record {
      poised = record {
        if_shut = λ d same. u.poised.if_shut d (λ i other. same i other ∙ content_beside i other);
        if_open = λ d same. u.poised.if_open d (λ i other. same i other ∙ content_beside i other);
      };
      behind = λ c is i other. image_beside c (now_since old new c torn.time is) i other ∙ sym (content_beside i other);
    }

    -- and closed for good
    pub settles : Wrote content moment since gate (0 ∷ []) new → IsAtRest a s closed (content new) (since new (moment new))
    settles w =
        let byte : slice_index (content new) gate ≡ 0 = λ i. slice_index (w.written i) 0 in
        let shut : is_open (content new) gate ≡ false = ap (λ x. x == 165) byte in
        let stands = u.poised.if_shut (content new) content_beside shut in
        record { here = stands; images = λ c is. subst (λ c. Stands a s closed c) (sym (w.durable c is)) stands }

    -- each image since then has one of the two
    pub settle_moments : a.first ≤ gate → gate < a.first + 2 * a.bytes → (c : List ℕ) → since new (moment old) c
        → OneOf (records_of a) (since old (moment old)) (Outside a) (stored_of s) (stored_of s') (content old) c
    settle_moments from to c is = elim (cases_Bool (is_open c gate)) [
      | inl is_opened ↦ inr (record {
        stored = stored_at a s' c (u.poised.if_open c (image_beside c is) is_opened).rests;
        bytes = λ i outside. image_beside c is i (outside_not a i gate outside from to);
      })
      | inr is_shut ↦
          let was = torn.moments c is in
          inl (record {
            stored = stored_at a s c (u.poised.if_shut c (image_beside c is) is_shut).rests;
            from = was.0;
            was_left = was.1;
            bytes = λ i outside. was.2 i (beside_one gate i (outside_not a i gate outside from to));
          })
    ]

    pub settle_outside : a.first ≤ gate → gate < a.first + 2 * a.bytes → Same (Outside a) (content new) (content old)
    settle_outside from to i outside = content_beside i (outside_not a i gate outside from to)

    pub settle_behind : a.first ≤ gate → gate < a.first + 2 * a.bytes → (c : List ℕ) → since new (moment new) c → Same (Outside a) c (content new)
    settle_behind from to c is i outside = still_in_doubt.behind c is i (outside_not a i gate outside from to)

  -- what the journal knows after its gate in doubt was written
  module _ (a : Areas) (second : Bool) (generation tail : ℕ) (closed : Bool) (doubt : Option ℕ) (gate : ℕ) (old new : D) (e : doubt ≡ Some gate)
      (t : Told a second generation tail closed doubt (content old) (since old (moment old))) (torn : Torn content moment since gate 1 old new) where
    pub still_told : (t' : Told a second generation tail closed doubt (content new) (since new (moment new))) × (t'.shape ≡ t.shape) × (t'.next ≡ t.next)
    still_told = (
      record {
        shape = t.shape;
        of_second = t.of_second;
        of_generation = t.of_generation;
        of_tail = t.of_tail;
        rest = λ none. absurd (cc (e, none));
        next = t.next;
        next_closed = t.next_closed;
        unsure = λ other is.
            let same : gate ≡ other = cc (e, is) in
            subst (λ x. IsInDoubt a x t.shape closed t.next t.next_closed (content new) (since new (moment new))) same (still_in_doubt a gate t.shape closed t.next t.next_closed old new (t.unsure gate e) torn);
      },
      refl,
      refl,
    )

    pub settled_told : Wrote content moment since gate (0 ∷ []) new → (t' : Told a second generation tail closed None (content new) (since new (moment new))) × (t'.shape ≡ t.shape)
    settled_told w = (
      record {
        shape = t.shape;
        of_second = t.of_second;
        of_generation = t.of_generation;
        of_tail = t.of_tail;
        rest = λ none. settles a gate t.shape closed t.next t.next_closed old new (t.unsure gate e) torn w;
        next = t.next;
        next_closed = t.next_closed;
        unsure = λ other is. absurd (cc is);
      },
      refl,
    )

    -- the clauses on images, in the words of what is seen
    pub settle_one_of : (spare : ℕ) → a.first ≤ gate → gate < a.first + 2 * a.bytes → gate < length (content old) → (c : List ℕ) → since new (moment old) c
        → OneOf (records_of a) (since old (moment old)) (Outside a) (kept (seen content a generation tail spare doubt old)) (seen content a generation tail spare doubt old).doubt (content old) c
    settle_one_of spare from to inside c is =
        let kept_is = kept_told content a second generation tail closed spare old (since old (moment old)) doubt t in
        let doubt_is = doubt_told content a second generation tail closed spare old (since old (moment old)) gate doubt e t inside in
        rw (kept_is, doubt_is) (settle_moments a gate t.shape closed t.next t.next_closed old new (t.unsure gate e) torn from to c is)

-- the gate in doubt was written, whatever the journal then knows of it
pub shut : {D : Type 0} (w : DiskWords D) (falls : (d : D) (t u : ℕ) (c : List ℕ) → t ≤ u → w.since d u c → w.since d t c)
    (a : Areas) (second : Bool) (generation tail : ℕ) (closed : Bool) (spare : ℕ) (doubt later : Option ℕ) (gate : ℕ) (old new : D) (e : doubt ≡ Some gate)
    (t : Told a second generation tail closed doubt (w.content old) (w.since old (w.moment old))) → Torn w.content w.moment w.since gate 1 old new
    → a.first ≤ gate → gate < a.first + 2 * a.bytes → gate < length (w.content old) → (t' : Told a second generation tail closed later (w.content new) (w.since new (w.moment new))) → t'.shape ≡ t.shape
    → IsShut w (seen w.content a generation tail spare doubt old) (seen w.content a generation tail spare later new)
shut w falls a second generation tail closed spare doubt later gate old new e t torn from to inside t' same = record {
  written = record {
    outside = settle_outside w.content w.moment w.since falls a gate t.shape closed t.next t.next_closed old new (t.unsure gate e) torn from to;
    time = torn.time;
    moments = settle_one_of w.content w.moment w.since falls a second generation tail closed doubt gate old new e t torn spare from to inside;
  };
  records = kept_told w.content a second generation tail closed spare new (w.since new (w.moment new)) later t' ∙ ap stored_of same
      ∙ sym (kept_told w.content a second generation tail closed spare old (w.since old (w.moment old)) doubt t);
}

-- every image at rest has the records
pub durable_at_rest : {D : Type 0} (content : D → List ℕ) (a : Areas) (second : Bool) (generation tail : ℕ) (closed : Bool) (spare : ℕ) (disk : D) (now : List ℕ → Type 0) (doubt : Option ℕ)
    (t : Told a second generation tail closed doubt (content disk) now) → doubt ≡ None → (c : List ℕ) → now c → records_of a c ≡ Some (kept (seen content a generation tail spare doubt disk))
durable_at_rest content a second generation tail closed spare disk now doubt t sure c is =
    stored_at a t.shape c ((t.rest sure).images c is).rests ∙ ap (λ k. Some k) (sym (kept_told content a second generation tail closed spare disk now doubt t))

-- what the journal knows of a disk at rest, and of one in doubt
pub told_at_rest : (a : Areas) (second : Bool) (generation tail : ℕ) (closed : Bool) (doubt : Option ℕ) (content : List ℕ) (now : List ℕ → Type 0) (s : Shape)
    → s.second ≡ second → s.generation ≡ generation → s.tail ≡ begin_of a second + tail → doubt ≡ None → IsAtRest a s closed content now
    → (t : Told a second generation tail closed doubt content now) × (t.shape ≡ s)
told_at_rest a second generation tail closed doubt content now s of_second of_generation of_tail sure rest = (
  record {
    shape = s;
    of_second = of_second;
    of_generation = of_generation;
    of_tail = of_tail;
    rest = λ none. rest;
    next = s;
    next_closed = closed;
    unsure = λ gate is. absurd (cc (sure, is));
  },
  refl,
)

pub told_in_doubt : (a : Areas) (second : Bool) (generation tail : ℕ) (closed : Bool) (gate : ℕ) (content : List ℕ) (now : List ℕ → Type 0) (s s' : Shape) (closed' : Bool)
    → s.second ≡ second → s.generation ≡ generation → s.tail ≡ begin_of a second + tail → IsInDoubt a gate s closed s' closed' content now
    → (t : Told a second generation tail closed (Some gate) content now) × (t.shape ≡ s) × (t.next ≡ s')
told_in_doubt a second generation tail closed gate content now s s' closed' of_second of_generation of_tail u = (
  record {
    shape = s;
    of_second = of_second;
    of_generation = of_generation;
    of_tail = of_tail;
    rest = λ none. absurd (cc none);
    next = s';
    next_closed = closed';
    unsure = λ other is. let same : gate ≡ other = cc is in subst (λ x. IsInDoubt a x s closed s' closed' content now) same u;
  },
  refl,
  refl,
)

-- nothing was done
pub at_start : {D : Type 0} (content : D → List ℕ) (moment : D → ℕ) (since : D → ℕ → List ℕ → Type 0) (falls : (d : D) (t u : ℕ) (c : List ℕ) → t ≤ u → since d u c → since d t c)
    (a : Areas) (second : Bool) (generation tail : ℕ) (closed : Bool) (spare : ℕ) (disk : D) (doubt : Option ℕ)
    (t : Told a second generation tail closed doubt (content disk) (since disk (moment disk))) → doubt ≡ None → (next : Stored) → (c : List ℕ) → since disk (moment disk) c
    → OneOf (records_of a) (since disk (moment disk)) (Outside a) (kept (seen content a generation tail spare doubt disk)) next (content disk) c
at_start content moment since falls a second generation tail closed spare disk doubt t sure next c is =
    inl (record { stored = durable_at_rest content a second generation tail closed spare disk (since disk (moment disk)) doubt t sure c is; from = c; was_left = is; bytes = λ i h. refl })
