-- What a change at the first spot of a path does to the map of a host.
use Rattle.std.proofs.Common.{◌≡◌, ◌≢◌, ◌↔◌, ℕ, suc, zero, ◌+◌, ◌<◌, ◌≤◌, ◌⊎◌, Bool, true, false, cond, not, Option, Some, None, List, [], ◌∷◌, ◌++◌, length, refl, sym, ◌∙◌, ap, subst, inl, inr, arith, ◌||◌}
use Rattle.std.specs.Prelude.{IfSome, option_map, unwrap_or, slice_set, nat_lt, nat_eq}
use Rattle.std.specs.List.{position, position_or_len, slice_get}
use Rattle.std.specs.Cmp.Lexicographic.{pointwise, bytes_decides}
use Rattle.std.proofs.lemmas.List.{length-append}
use Rattle.std.proofs.lemmas.Bool.{ltb-true, lt-ltb, both_ways, cases_lt}
use Rattle.opfs_memory.specs.declared.place.Given.{Given}
use Rattle.opfs_memory.specs.Shelves.{Spot, Shelf, is_at, spot_at, given_at, newest, given_in, image_in, LeftByAny, LeftOf, Trail}

pub at_own : (path : List ℕ) (s : Spot) → s.path ≡ path → is_at path s ≡ true
at_own path s e = (bytes_decides s.path path).1 e

pub own_at : (path : List ℕ) (s : Spot) → is_at path s ≡ true → s.path ≡ path
own_at path s e = (bytes_decides s.path path).0 e

-- the first spot of a path, at this index
pub record Found (path : List ℕ) (xs : List Spot) (at : ℕ) : Type 0 where
  pub spot : Spot
  pub get : slice_get xs at ≡ Some spot
  pub first : spot_at path xs ≡ Some spot
  pub is : spot.path ≡ path
  pub set : (s : Spot) → s.path ≡ path → spot_at path (slice_set xs at s) ≡ Some s

found_by : (path : List ℕ) (x : Spot) (xs : List Spot) (k : ℕ) (b : Bool) → is_at path x ≡ b → (k < length xs → Found path xs k) → cond (not b) (1 + k) 0 < suc (length xs) → Found path (x ∷ xs) (cond (not b) (1 + k) 0)
found_by path x xs k true e more h = record {
  spot = x;
  get = refl;
  first = ap (λ b. cond b (Some x) (spot_at path xs)) e;
  is = own_at path x e;
  set = λ s own. ap (λ b. cond b (Some s) (spot_at path xs)) (at_own path s own);
}
found_by path x xs k false e more h =
    let f : Found path xs k = more (omega arith) in
    let n : 1 + k ≡ suc k = omega arith in
    rw n (record {
      spot = f.spot;
      get = f.get;
      first = ap (λ b. cond b (Some x) (spot_at path xs)) e ∙ f.first;
      is = f.is;
      set = λ s own. ap (λ b. cond b (Some x) (spot_at path (slice_set xs k s))) e ∙ f.set s own;
    })

found_first : (path : List ℕ) (xs : List Spot) → position_or_len (is_at path) xs < length xs → Found path xs (position_or_len (is_at path) xs)
found_first path [] h = absurd (omega arith)
found_first path (x ∷ xs) h = found_by path x xs (position_or_len (is_at path) xs) (is_at path x) refl (found_first path xs) h

some_of : (b : Bool) (k at : ℕ) → cond b (Some k) None ≡ Some at → (b ≡ true) × (k ≡ at)
some_of true k at e = (refl, ap (λ o. unwrap_or o 0) e)
some_of false k at e = absurd (cc)

pub found : (path : List ℕ) (xs : List Spot) (at : ℕ) → position (is_at path) xs ≡ Some at → Found path xs at
found path xs at e =
    let k = position_or_len (is_at path) xs in
    let both = some_of (nat_lt k (length xs)) k at e in
    subst (λ k. Found path xs k) both.1 (found_first path xs (ltb-true k (length xs) both.0))

none_of : (b : Bool) (k : ℕ) → cond b (Some k) None ≡ None → b ≡ false
none_of true k e = absurd (cc)
none_of false k e = refl

missing_by : (path : List ℕ) (x : Spot) (xs : List Spot) (k : ℕ) (b : Bool) → is_at path x ≡ b → (length xs ≤ k → spot_at path xs ≡ None) → suc (length xs) ≤ cond (not b) (1 + k) 0 → spot_at path (x ∷ xs) ≡ None
missing_by path x xs k true e more h = absurd (omega arith)
missing_by path x xs k false e more h = ap (λ b. cond b (Some x) (spot_at path xs)) e ∙ more (omega arith)

missing_first : (path : List ℕ) (xs : List Spot) → length xs ≤ position_or_len (is_at path) xs → spot_at path xs ≡ None
missing_first path [] h = refl
missing_first path (x ∷ xs) h = missing_by path x xs (position_or_len (is_at path) xs) (is_at path x) refl (missing_first path xs) h

pub missing : (path : List ℕ) (xs : List Spot) → position (is_at path) xs ≡ None → spot_at path xs ≡ None
missing path xs e =
    let k = position_or_len (is_at path) xs in
    let no = none_of (nat_lt k (length xs)) k e in
    elim (cases_lt k (length xs)) [
      | inl below ↦ absurd (both_ways (nat_lt k (length xs)) no (lt-ltb k (length xs) below))
      | inr past ↦ missing_first path xs past
    ]

module _ {X : Type 0} (f : Spot → X) (q : List ℕ) where
  under : (b : Bool) (x : Spot) (r s : Option Spot) → option_map f r ≡ option_map f s → option_map f (cond b (Some x) r) ≡ option_map f (cond b (Some x) s)
  under true x r s e = refl
  under false x r s e = e

  swapped : (b : Bool) (x y : Spot) (r : Option Spot) → (b ≡ true → f x ≡ f y) → option_map f (cond b (Some x) r) ≡ option_map f (cond b (Some y) r)
  swapped true x y r e = ap (λ v. Some v) (e refl)
  swapped false x y r e = refl

  pub set_look : (xs : List Spot) (i : ℕ) (s old : Spot) → slice_get xs i ≡ Some old → s.path ≡ old.path → (is_at q old ≡ true → f s ≡ f old)
      → option_map f (spot_at q (slice_set xs i s)) ≡ option_map f (spot_at q xs)
  set_look [] i s old get e same = refl
  set_look (x ∷ xs) zero s old get e same =
      let is : x ≡ old = ap (λ o. unwrap_or o old) get in
      ap (λ path. option_map f (cond (pointwise nat_eq path q) (Some s) (spot_at q xs))) (e ∙ ap (λ (y : Spot). y.path) (sym is))
      ∙ swapped (is_at q x) s x (spot_at q xs) (λ h. same (ap (λ y. is_at q y) (sym is) ∙ h) ∙ ap f (sym is))
  set_look (x ∷ xs) (suc i) s old get e same = under (is_at q x) x (spot_at q (slice_set xs i s)) (spot_at q xs) (set_look xs i s old get e same)

  pub push_look : (xs : List Spot) (s : Spot) → is_at q s ≡ false → option_map f (spot_at q (xs ++ s ∷ [])) ≡ option_map f (spot_at q xs)
  push_look [] s e = ap (λ b. option_map f (cond b (Some s) None)) e
  push_look (x ∷ xs) s e = under (is_at q x) x (spot_at q (xs ++ s ∷ [])) (spot_at q xs) (push_look xs s e)

pushed_by : (path : List ℕ) (x s : Spot) (xs : List Spot) (b : Bool) → (spot_at path xs ≡ None → spot_at path (xs ++ s ∷ []) ≡ Some s) → cond b (Some x) (spot_at path xs) ≡ None → cond b (Some x) (spot_at path (xs ++ s ∷ [])) ≡ Some s
pushed_by path x s xs true more none = absurd (cc)
pushed_by path x s xs false more none = more none

pub push_here : (path : List ℕ) (xs : List Spot) (s : Spot) → s.path ≡ path → spot_at path xs ≡ None → spot_at path (xs ++ s ∷ []) ≡ Some s
push_here path [] s e none = ap (λ b. cond b (Some s) None) (at_own path s e)
push_here path (x ∷ xs) s e none = pushed_by path x s xs (is_at path x) (push_here path xs s e) none

not_at : (b : Bool) → (b ≡ true → ⊥) → b ≡ false
not_at true h = absurd (h refl)
not_at false h = refl

-- the trail follows the disks that were given back
pub trail_same : (h n : Shelf) (q : List ℕ) → given_at n q ≡ given_at h q → (c : List ℕ) → Trail n q c ↔ Trail h q c
trail_same h n q e c = (subst (λ ds. LeftByAny ds c) e, subst (λ ds. LeftByAny ds c) (sym e))

pub left_push : (ds : List Given) (d : Given) (c : List ℕ) → LeftByAny (ds ++ d ∷ []) c → LeftByAny ds c ⊎ LeftOf d 0 c
left_push [] d c (inl h) = inr h
left_push [] d c (inr h) = elim h [ ]
left_push (x ∷ ds) d c (inl h) = inl (inl h)
left_push (x ∷ ds) d c (inr h) = elim (left_push ds d c h) [ inl was ↦ inl (inr was) | inr is ↦ inr is ]

pub push_left : (ds : List Given) (d : Given) (c : List ℕ) → LeftByAny ds c ⊎ LeftOf d 0 c → LeftByAny (ds ++ d ∷ []) c
push_left [] d c (inl h) = absurd h
push_left [] d c (inr h) = inl h
push_left (x ∷ ds) d c (inl (inl h)) = inl h
push_left (x ∷ ds) d c (inl (inr h)) = inr (push_left ds d c (inl h))
push_left (x ∷ ds) d c (inr h) = inr (push_left ds d c (inr h))

pub newest-push : (ds : List Given) (d : Given) → newest (ds ++ d ∷ []) ≡ Some d
newest-push ds d = ap (λ n. slice_get (ds ++ d ∷ []) n) (omega (arith, length-append ds (d ∷ []))) ∙ got ds d
  where
    got : (ds : List Given) (d : Given) → slice_get (ds ++ d ∷ []) (length ds) ≡ Some d
    got [] d = refl
    got (x ∷ ds) d = got ds d

-- a spot more that has what a missing one has
module _ {X : Type 0} (f : Spot → X) (none : X) (q : List ℕ) where
  alone : (b : Bool) (s : Spot) → f s ≡ none → unwrap_or (option_map f (cond b (Some s) None)) none ≡ none
  alone true s e = e
  alone false s e = refl

  behind : (b : Bool) (x : Spot) (r s : Option Spot) → unwrap_or (option_map f r) none ≡ unwrap_or (option_map f s) none
      → unwrap_or (option_map f (cond b (Some x) r)) none ≡ unwrap_or (option_map f (cond b (Some x) s)) none
  behind true x r s e = refl
  behind false x r s e = e

  pub push_none : (xs : List Spot) (s : Spot) → f s ≡ none → unwrap_or (option_map f (spot_at q (xs ++ s ∷ []))) none ≡ unwrap_or (option_map f (spot_at q xs)) none
  push_none [] s e = alone (is_at q s) s e
  push_none (x ∷ xs) s e = behind (is_at q x) x (spot_at q (xs ++ s ∷ [])) (spot_at q xs) (push_none xs s e)

-- one change at the first spot of the path
module _ (path : List ℕ) (h m n : Shelf) (same : m.places ≡ h.places) (at : ℕ) (is : position (is_at path) m.places ≡ Some at) (f : Spot → Spot) (keeps : (s : Spot) → (f s).path ≡ s.path)
    (change : IfSome (slice_get m.places at) (λ spot. n.places ≡ slice_set m.places at (f spot))) where
  here : Found path m.places at
  here = found path m.places at is

  pub was : (s : Spot) × (slice_get m.places at ≡ Some s) × (spot_at path h.places ≡ Some s)
  was = (here.spot, here.get, ap (λ xs. spot_at path xs) (sym same) ∙ here.first)

  now : n.places ≡ slice_set m.places at (f here.spot)
  now = subst (λ o. IfSome o (λ spot. n.places ≡ slice_set m.places at (f spot))) here.get change

  -- what stands there
  pub spot_now : (s : Spot) × (slice_get m.places at ≡ Some s) × (spot_at path h.places ≡ Some s) × (spot_at path n.places ≡ Some (f s))
  spot_now = (here.spot, here.get, ap (λ xs. spot_at path xs) (sym same) ∙ here.first, ap (λ xs. spot_at path xs) now ∙ here.set (f here.spot) (keeps here.spot ∙ here.is))

  pub other : {X : Type 0} (g : Spot → X) (q : List ℕ) → q ≢ path → option_map g (spot_at q n.places) ≡ option_map g (spot_at q h.places)
  other g q ne =
      ap (λ xs. option_map g (spot_at q xs)) now
      ∙ set_look g q m.places at (f here.spot) here.spot here.get (keeps here.spot) (λ e. absurd (ne (sym (own_at q here.spot e) ∙ here.is)))
      ∙ ap (λ xs. option_map g (spot_at q xs)) same

  pub kept : {X : Type 0} (g : Spot → X) (q : List ℕ) → ((s : Spot) → g (f s) ≡ g s) → option_map g (spot_at q n.places) ≡ option_map g (spot_at q h.places)
  kept g q e =
      ap (λ xs. option_map g (spot_at q xs)) now
      ∙ set_look g q m.places at (f here.spot) here.spot here.get (keeps here.spot) (λ _. e here.spot)
      ∙ ap (λ xs. option_map g (spot_at q xs)) same

-- one spot more
module _ (path : List ℕ) (h m n : Shelf) (same : m.places ≡ h.places) (is : position (is_at path) m.places ≡ None) (s : Spot) (own : s.path ≡ path) (change : n.places ≡ m.places ++ s ∷ []) where
  pub spot_more : spot_at path n.places ≡ Some s
  spot_more = ap (λ xs. spot_at path xs) change ∙ push_here path m.places s own (missing path m.places is)

  pub other_more : {X : Type 0} (g : Spot → X) (q : List ℕ) → q ≢ path → option_map g (spot_at q n.places) ≡ option_map g (spot_at q h.places)
  other_more g q ne =
      ap (λ xs. option_map g (spot_at q xs)) change
      ∙ push_look g q m.places s (not_at (is_at q s) (λ e. ne (sym (own_at q s e) ∙ own)))
      ∙ ap (λ xs. option_map g (spot_at q xs)) same

-- a test of a path, as the first spot says
pub as_first : (test : Option Spot → Bool) (path : List ℕ) (xs : List Spot) (at : ℕ) (b : Bool) → position (is_at path) xs ≡ Some at → test (slice_get xs at) ≡ b → test (spot_at path xs) ≡ b
as_first test path xs at b is e =
    let here = found path xs at is in
    ap test (here.first ∙ sym here.get) ∙ e

pub as_missing : (test : Option Spot → Bool) (path : List ℕ) (xs : List Spot) → position (is_at path) xs ≡ None → test (spot_at path xs) ≡ test None
as_missing test path xs e = ap test (missing path xs e)

pub fails_as : (a b named out : Bool) → a ≡ named → b ≡ out → (named || not out) ≡ (a || not b)
fails_as a b named out e f = λ i. sym e i || not (sym f i)
