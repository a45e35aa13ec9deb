-- What a fetch and a return of a disk do to the map and the trails of a host.
use Rattle.std.proofs.Common.{◌≡◌, ◌≢◌, ◌↔◌, ℕ, ◌⊎◌, Option, Some, None, List, [], ◌∷◌, ◌++◌, true, false, Bool, refl, sym, ◌∙◌, ap, subst, inl, inr, Result, Ok, Err}
use Rattle.std.specs.Prelude.{IfSome, OnOk, OnErr, IsErrOf, is_some, option_map, unwrap_or, slice_set}
use Rattle.std.specs.List.{position, slice_get}
use Rattle.opfs_memory.specs.Drives.{Drive, content_of}
use Rattle.opfs_memory.specs.Shelves.{Spot, Shelf, is_at, spot_at, image_in, image_at, given_in, given_at, has_image, spot_lent, spot_made, spot_given, newest, moments_of, moments_at, LeftByAny, LeftOf, LeftLast, LeftAt, Trail}
use Rattle.opfs_memory.specs.declared.place.Given.{Given}
use Rattle.opfs_outside.specs.declared.host.HostStop.{HostStop}
use Rattle.opfs_outside.specs.declared.host.HostStop.TheVariants as stop
use Rattle.opfs_memory.proofs.Shelving.{spot_now, other, kept, trail_same, left_push, push_left, push_none, newest-push}

-- a disk that did nothing reads as its first content
pub reads_first : (d : Drive) → d.log ≡ [] → content_of d ≡ d.first
reads_first d none = ap (λ log. content_of (record d { log = log })) none

-- a change at a spot that is there, which leaves its image and its disks
module _ (path : List ℕ) (h m n : Shelf) (same : m.places ≡ h.places) (at : ℕ) (is : position (is_at path) m.places ≡ Some at) (f : Spot → Spot)
    (own : (s : Spot) → (f s).path ≡ s.path) (image : (s : Spot) → (f s).image ≡ s.image) (given : (s : Spot) → (f s).given ≡ s.given)
    (change : IfSome (slice_get m.places at) (λ spot. n.places ≡ slice_set m.places at (f spot))) where
  pub images_at : (p : List ℕ) → image_at n p ≡ image_at h p
  images_at p = ap (λ o. unwrap_or o None) (kept path h m n same at is f own change (λ (s : Spot). s.image) p image)

  pub trails_at : (p c : List ℕ) → Trail n p c ↔ Trail h p c
  trails_at p c = trail_same h n p (ap (λ o. unwrap_or o []) (kept path h m n same at is f own change (λ (s : Spot). s.given) p given)) c

-- an image that is there
some_is : (o : Option (List ℕ)) (first : List ℕ) → is_some o ≡ true → IfSome o (λ image. first ≡ image) → o ≡ Some first
some_is (Some c) first there e = ap (λ x. Some x) (sym e)
some_is None first there e = absurd (cc)

-- a fetch at a spot that is there
module _ (path : List ℕ) (h m n : Shelf) (same : m.places ≡ h.places) (at : ℕ) (is : position (is_at path) m.places ≡ Some at)
    (change : IfSome (slice_get m.places at) (λ spot. n.places ≡ slice_set m.places at (spot_lent spot))) where
  pub lent_content : (d : Drive) → d.log ≡ [] → has_image (slice_get m.places at) ≡ true → IfSome (slice_get m.places at) (λ spot. IfSome spot.image (λ image. d.first ≡ image)) → image_at n path ≡ Some (content_of d)
  lent_content d none there first =
      let here = spot_now path h m n same at is spot_lent (λ s. refl) change in
      let some : is_some here.0.image ≡ true = ap has_image (sym here.1) ∙ there in
      let reads : here.0.image ≡ Some d.first = some_is here.0.image d.first some (subst (λ o. IfSome o (λ spot. IfSome spot.image (λ image. d.first ≡ image))) here.1 first) in
      ap (λ o. image_in o) here.3 ∙ reads ∙ ap (λ (c : List ℕ). Some c) (sym (reads_first d none))

-- a path that was not there
module _ (path : List ℕ) (h m n : Shelf) (same : m.places ≡ h.places) (change : n.places ≡ m.places ++ spot_made path ∷ []) where
  pub made_images : (p : List ℕ) → image_at n p ≡ image_at h p
  made_images p = ap (λ xs. image_in (spot_at p xs)) change ∙ push_none (λ (s : Spot). s.image) None p m.places (spot_made path) refl ∙ ap (λ xs. image_in (spot_at p xs)) same

  pub made_trails : (p c : List ℕ) → Trail n p c ↔ Trail h p c
  made_trails p c = trail_same h n p (ap (λ xs. given_in (spot_at p xs)) change ∙ push_none (λ (s : Spot). s.given) [] p m.places (spot_made path) refl ∙ ap (λ xs. given_in (spot_at p xs)) same) c

-- a disk comes back
module _ (path : List ℕ) (h m n : Shelf) (same : m.places ≡ h.places) (at : ℕ) (is : position (is_at path) m.places ≡ Some at) (back : Given)
    (change : IfSome (slice_get m.places at) (λ spot. n.places ≡ slice_set m.places at (spot_given back spot))) where
  pub given_content : image_at n path ≡ Some (content_of back.disk)
  given_content = ap (λ o. image_in o) (spot_now path h m n same at is (spot_given back) (λ s. refl) change).3

  pub given_trail : (c : List ℕ) → Trail n path c ↔ (Trail h path c ⊎ LeftOf back 0 c)
  given_trail c =
      let here = spot_now path h m n same at is (spot_given back) (λ s. refl) change in
      let new : given_at n path ≡ here.0.given ++ back ∷ [] = ap (λ o. given_in o) here.3 in
      let old : given_at h path ≡ here.0.given = ap (λ o. given_in o) here.2 in (
        λ left. elim (left_push here.0.given back c (subst (λ ds. LeftByAny ds c) new left)) [ inl was ↦ inl (subst (λ ds. LeftByAny ds c) (sym old) was) | inr now ↦ inr now ],
        λ left. subst (λ ds. LeftByAny ds c) (sym new) (push_left here.0.given back c (elim left [ inl was ↦ inl (subst (λ ds. LeftByAny ds c) old was) | inr now ↦ inr now ])),
      )

  -- it is the last one there
  last : newest (given_at n path) ≡ Some back
  last =
      let here = spot_now path h m n same at is (spot_given back) (λ s. refl) change in
      ap (λ o. newest (given_in o)) here.3 ∙ newest-push here.0.given back

  pub given_moment : moments_at n path ≡ moments_of (Some back)
  given_moment = ap moments_of last

  pub given_since : (t : ℕ) (c : List ℕ) → LeftAt n path t c ↔ LeftOf back t c
  given_since t c = (subst (λ o. LeftLast o t c) last, subst (λ o. LeftLast o t c) (sym last))

  pub given_other_images : (p : List ℕ) → p ≢ path → image_at n p ≡ image_at h p
  given_other_images p ne = ap (λ o. unwrap_or o None) (other path h m n same at is (spot_given back) (λ s. refl) change (λ (s : Spot). s.image) p ne)

  pub given_other_trails : (p c : List ℕ) → p ≢ path → Trail n p c ↔ Trail h p c
  given_other_trails p c ne = trail_same h n p (ap (λ o. unwrap_or o []) (other path h m n same at is (spot_given back) (λ s. refl) change (λ (s : Spot). s.given) p ne)) c

-- a call that did not fail, where a test says when it does
pub never_fails : (failed : Type 0) (test : Bool) → (failed → ⊥) → false ≡ test → failed ↔ (test ≡ true)
never_fails failed test refuted is = (λ x. absurd (refuted x), λ yes. let never : false ≡ true = is ∙ yes in absurd (cc never))

pub ok_is_none : {T : Type 0} (x : T) (e : HostStop) → Ok x ≡ Err e → ⊥
ok_is_none x e is = cc is

pub memory_is_none : {T : Type 0} → IsErrOf {T = T} (Err stop.NoMemory) stop.Failed → ⊥
memory_is_none is = cc is

-- from what is said at Ok and at Err
pub either_from : {T E : Type 0} (r : Result T E) (C D P : Type 0) → OnOk r C → OnErr r D → (C → P) → (D → P) → P
either_from (Ok x) C D P c d f g = f c
either_from (Err e) C D P c d f g = g d

-- the same map keeps images and trails
pub same_images : (h m n : Shelf) → m.places ≡ h.places → n ≡ m → (p : List ℕ) → image_at n p ≡ image_at h p
same_images h m n same e p = ap (λ (x : Shelf). image_in (spot_at p x.places)) e ∙ ap (λ xs. image_in (spot_at p xs)) same

pub same_trails : (h m n : Shelf) → m.places ≡ h.places → n ≡ m → (p c : List ℕ) → Trail n p c ↔ Trail h p c
same_trails h m n same e p c = trail_same h n p (ap (λ (x : Shelf). given_in (spot_at p x.places)) e ∙ ap (λ xs. given_in (spot_at p xs)) same) c
