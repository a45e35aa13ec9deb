-- Several writes in the areas, the last of which opens a gate.
use Rattle.std.proofs.Common.{◌≡◌, ℕ, ◌+◌, ◌*◌, ◌<◌, ◌≤◌, Bool, true, List, [], ◌∷◌, inl, inr, refl, sym, ◌∙◌, ap, subst, arith}
use Rattle.std.specs.Prelude.{slice_index, ◌==◌}
use Rattle.opfs_outside.specs.Bytes.{Same, Beside}
use Rattle.opfs_outside.specs.Moments.{elapses-trans, each_of_both}
use Rattle.opfs_journal.specs.Clauses.{Outside, After, OneOf}
use Rattle.opfs_journal.specs.Format.{is_open, Stored, records_of}
use Rattle.opfs_journal.specs.Reading.{Shape, stored_of, Rests}
use Rattle.opfs_journal.specs.Standing.{Stands, Torn, Wrote, IsAtRest, IsInDoubt, Began}
use Rattle.opfs_journal.specs.declared.areas.Areas.{Areas}
use Rattle.opfs_journal.proofs.Moves.{still_in_doubt, settle_moments, settle_behind}
use Rattle.opfs_journal.proofs.Views.{stored_at, beside_one}

outside_beside : (a : Areas) (at n i : ℕ) → a.first ≤ at → at + n ≤ a.first + 2 * a.bytes → Outside a i → Beside at n i
outside_beside a at n i from to (inl before) = inl (omega arith)
outside_beside a at n i from to (inr behind) = inr (omega arith)

module _ {D : Type 0} (content : D → List ℕ) (moment : D → ℕ) (since : D → ℕ → List ℕ → Type 0)
    (falls : (d : D) (t u : ℕ) (c : List ℕ) → t ≤ u → since d u c → since d t c) (a : Areas) where
  pub began_here : (start : D) → Began content moment since a start start
  began_here start = record {
    time = record { later = omega arith; split = λ t c le is. inl is; keeps = λ t c le is. is };
    outside = λ i h. refl;
    from = λ c is. (c, is, λ i h. refl);
  }

  -- one write more
  pub began_more : (start old new : D) (at n : ℕ) → a.first ≤ at → at + n ≤ a.first + 2 * a.bytes → Began content moment since a start old → Torn content moment since at n old new → Began content moment since a start new
  began_more start old new at n from to b torn = record {
    time = elapses-trans moment since falls start old new b.time torn.time;
    outside = λ i h. torn.elsewhere i (outside_beside a at n i from to h) ∙ b.outside i h;
    from = each_of_both moment since falls start old new (λ c. (d : List ℕ) × since start (moment start) d × Same (Outside a) c d) b.time torn.time b.from
        (λ c is.
        let was = torn.moments c is in
        let first = b.from was.0 (falls old (moment start) (moment old) was.0 b.time.later was.1) in
        (first.0, first.1, λ i h. was.2 i (outside_beside a at n i from to h) ∙ first.2 i h));
  }

  module _ (s : Shape) (closed : Bool) where
    -- a write of what does not matter yet
    pub staged_image : (old new : D) (at n : ℕ) → ((c d : List ℕ) → Same (Beside at n) c d → Stands a s closed d → Stands a s closed c) → IsAtRest a s closed (content old) (since old (moment old)) → Torn content moment since at n old new
        → (c : List ℕ) → since new (moment old) c → Stands a s closed c
    staged_image old new at n keeps rest torn c is =
        let was = torn.moments c is in
        keeps c was.0 was.2 (rest.images was.0 was.1)

    pub staged_rest : (old new : D) (at n : ℕ) → ((c d : List ℕ) → Same (Beside at n) c d → Stands a s closed d → Stands a s closed c) → IsAtRest a s closed (content old) (since old (moment old)) → Torn content moment since at n old new
        → IsAtRest a s closed (content new) (since new (moment new))
    staged_rest old new at n keeps rest torn = record {
      here = keeps (content new) (content old) torn.elsewhere rest.here;
      images = λ c is. staged_image old new at n keeps rest torn c (falls new (moment old) (moment new) c torn.time.later is);
    }

    -- one write more, and each image since the start still has the shape
    pub images_more : (start old new : D) (at n : ℕ) → ((c d : List ℕ) → Same (Beside at n) c d → Stands a s closed d → Stands a s closed c) → Began content moment since a start old → ((c : List ℕ) → since old (moment start) c → Rests a s c)
        → IsAtRest a s closed (content old) (since old (moment old)) → Torn content moment since at n old new → (c : List ℕ) → since new (moment start) c → Rests a s c
    images_more start old new at n keeps b images rest torn =
        each_of_both moment since falls start old new (λ c. Rests a s c) b.time torn.time images (λ c is. (staged_image old new at n keeps rest torn c is).rests)

    -- each image since the start still has the records
    pub only_before : (start disk : D) (s' : Stored) → Began content moment since a start disk → ((c : List ℕ) → since disk (moment start) c → Rests a s c)
        → (c : List ℕ) → since disk (moment start) c → OneOf (records_of a) (since start (moment start)) (Outside a) (stored_of s) s' (content start) c
    only_before start disk s' b images c is =
        let was = b.from c is in
        inl (record { stored = stored_at a s c (images c is); from = was.0; was_left = was.1; bytes = was.2 })

    -- the gate is opened
    module _ (s' : Shape) (closed' : Bool) (start old new : D) (gate : ℕ) (from : a.first ≤ gate) (to : gate < a.first + 2 * a.bytes) (b : Began content moment since a start old)
        (images : (c : List ℕ) → since old (moment start) c → Rests a s c) (u : IsInDoubt a gate s closed s' closed' (content old) (since old (moment old)))
        (torn : Torn content moment since gate 1 old new) where
      pub opened_began : Began content moment since a start new
      opened_began = began_more start old new gate 1 from (omega (arith, to)) b torn

      pub opened_moments : (c : List ℕ) → since new (moment start) c → OneOf (records_of a) (since start (moment start)) (Outside a) (stored_of s) (stored_of s') (content start) c
      opened_moments = each_of_both moment since falls start old new (λ c. OneOf (records_of a) (since start (moment start)) (Outside a) (stored_of s) (stored_of s') (content start) c) b.time torn.time
          (only_before start old (stored_of s') b images)
          (λ c is. elim (settle_moments content moment since falls a gate s closed s' closed' old new u torn from to c is) [
            | inl before ↦
                let first = b.from before.from (falls old (moment start) (moment old) before.from b.time.later before.was_left) in
                inl (record { stored = before.stored; from = first.0; was_left = first.1; bytes = λ i h. before.bytes i h ∙ first.2 i h })
            | inr after ↦ inr (record { stored = after.stored; bytes = λ i h. after.bytes i h ∙ b.outside i h })
          ])

      pub opens : Wrote content moment since gate (165 ∷ []) new → IsAtRest a s' closed' (content new) (since new (moment new))
      opens w =
          let byte : slice_index (content new) gate ≡ 165 = λ i. slice_index (w.written i) 0 in
          let is_opened : is_open (content new) gate ≡ true = ap (λ x. x == 165) byte in
          let stands = u.poised.if_open (content new) (λ i other. torn.elsewhere i (beside_one gate i other)) is_opened in
          record { here = stands; images = λ c is. subst (λ c. Stands a s' closed' c) (sym (w.durable c is)) stands }

      pub opened_after : Wrote content moment since gate (165 ∷ []) new → (c : List ℕ) → since new (moment new) c → After (records_of a) (stored_of s') (content start) (Outside a) c
      opened_after w c is = record {
        stored = stored_at a s' c ((opens w).images c is).rests;
        bytes = λ i h. ap (λ d. slice_index d i) (w.durable c is) ∙ opened_began.outside i h;
      }

      pub opened_unsure : IsInDoubt a gate s closed s' closed' (content new) (since new (moment new))
      opened_unsure = still_in_doubt content moment since falls a gate s closed s' closed' old new u torn

      pub opened_behind : (c : List ℕ) → since new (moment new) c → Same (Outside a) c (content new)
      opened_behind = settle_behind content moment since falls a gate s closed s' closed' old new u torn from to
