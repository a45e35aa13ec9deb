-- Values that are changed at their keys.
use Rattle.std.proofs.Common.{◌≡◌, ◌&&◌, filter, find, Bool, true, false, cond, List, [], ◌∷◌, Some, None, is_some, option_map, refl, sym, ap, ◌∙◌}
use Rattle.std.specs.Map.{lookup, set_value}
use Rattle.std.specs.BTreeMap.{insert_entry}
use Rattle.std.specs.Ordering.{match_ordering}
use Rattle.std.specs.declared.cmp.Ordering.{Ordering}
use Rattle.std.specs.declared.cmp.Ordering.TheVariants.{Less, Equal, Greater}

-- nothing changes where there is no value
pub set_value-none : {K X : Type 0} (test : K → Bool) (es : List (K × X)) (w : X) → lookup test es ≡ None → set_value test es w ≡ es
set_value-none test [] w none = refl
set_value-none {K} {X} test (e ∷ es) w none =
    let P = λ (t : Bool). cond t (Some e.1) (lookup test es) ≡ None → cond t ((e.0, w) ∷ es) (e ∷ set_value test es w) ≡ e ∷ es in
    elim (test e.0) as P [ true ↦ λ h. cc | false ↦ λ h. ap (λ r. e ∷ r) (set_value-none test es w h) ] none

-- nothing changes where the value is there already
pub set_value-same : {K X : Type 0} (test : K → Bool) (es : List (K × X)) (w : X) → lookup test es ≡ Some w → set_value test es w ≡ es
set_value-same test [] w found = refl
set_value-same {K} {X} test (e ∷ es) w found =
    let P = λ (t : Bool). cond t (Some e.1) (lookup test es) ≡ Some w → cond t ((e.0, w) ∷ es) (e ∷ set_value test es w) ≡ e ∷ es in
    elim (test e.0) as P [ true ↦ λ h. let same : e.1 ≡ w = cc in ap (λ (x : X). (e.0, x) ∷ es) (sym same) | false ↦ λ h. ap (λ r. e ∷ r) (set_value-same test es w h) ] found

-- what is found there afterwards
pub lookup-set_same : {K X : Type 0} (test : K → Bool) (es : List (K × X)) (w : X) → lookup test (set_value test es w) ≡ option_map (λ _. w) (lookup test es)
lookup-set_same test [] w = refl
lookup-set_same {K} {X} test (e ∷ es) w =
    let P = λ (t : Bool). t ≡ test e.0
    → lookup test (cond t ((e.0, w) ∷ es) (e ∷ set_value test es w)) ≡ option_map (λ (_ : X). w) (cond t (Some e.1) (lookup test es)) in
    elim (test e.0) as P [
      | true ↦ λ told. ap (λ t. cond t (Some w) (lookup test es)) (sym told)
      | false ↦ λ told. ap (λ t. cond t (Some e.1) (lookup test (set_value test es w))) (sym told) ∙ lookup-set_same test es w
    ] refl

-- what is found elsewhere
pub lookup-set_other : {K X : Type 0} (test other : K → Bool) (es : List (K × X)) (w : X) → ((k : K) → test k ≡ true → other k ≡ false)
    → lookup other (set_value test es w) ≡ lookup other es
lookup-set_other test other [] w apart = refl
lookup-set_other {K} {X} test other (e ∷ es) w apart =
    let P = λ (t : Bool). t ≡ test e.0
    → lookup other (cond t ((e.0, w) ∷ es) (e ∷ set_value test es w)) ≡ cond (other e.0) (Some e.1) (lookup other es) in
    elim (test e.0) as P [
      | true ↦ λ told. ap (λ t. cond t (Some w) (lookup other es)) (apart e.0 (sym told)) ∙ ap (λ t. cond t (Some e.1) (lookup other es)) (sym (apart e.0 (sym told)))
      | false ↦ λ told. ap (λ r. cond (other e.0) (Some e.1) r) (lookup-set_other test other es w apart)
    ] refl

-- the keys stay
pub is_some-set_value : {K X : Type 0} (test other : K → Bool) (es : List (K × X)) (w : X)
    → is_some (lookup other (set_value test es w)) ≡ is_some (lookup other es)
is_some-set_value test other [] w = refl
is_some-set_value {K} {X} test other (e ∷ es) w =
    elim (test e.0) as (λ t. is_some (lookup other (cond t ((e.0, w) ∷ es) (e ∷ set_value test es w))) ≡ is_some (cond (other e.0) (Some e.1) (lookup other es))) [
      | true ↦ elim (other e.0) as (λ t. is_some (cond t (Some w) (lookup other es)) ≡ is_some (cond t (Some e.1) (lookup other es))) [ true ↦ refl | false ↦ refl ]
      | false ↦ elim (other e.0) as (λ t. is_some (cond t (Some e.1) (lookup other (set_value test es w))) ≡ is_some (cond t (Some e.1) (lookup other es))) [ true ↦ refl | false ↦ is_some-set_value test other es w ]
    ]

-- a value that is inserted takes no key away
pub is_some-insert_entry : {K X : Type 0} (R : K → K → Ordering) (other : K → Bool) (es : List (K × X)) (k : K) (v : X)
    → is_some (lookup other es) ≡ true → is_some (lookup other (insert_entry R es k v)) ≡ true
is_some-insert_entry R other [] k v has = absurd cc
is_some-insert_entry {K} {X} R other (e ∷ es) k v has =
    let P = λ (t : Bool). is_some (cond t (Some e.1) (lookup other es)) ≡ true in
    elim (R k e.0) as (λ o. is_some (lookup other (match_ordering o ((k, v) ∷ e ∷ es) ((e.0, v) ∷ es) (e ∷ insert_entry R es k v))) ≡ true) [
      | Less ↦ elim (other k) as (λ t. is_some (cond t (Some v) (cond (other e.0) (Some e.1) (lookup other es))) ≡ true) [ true ↦ refl | false ↦ has ]
      | Equal ↦ elim (other e.0) as (λ t. is_some (cond t (Some e.1) (lookup other es)) ≡ true → is_some (cond t (Some v) (lookup other es)) ≡ true) [ true ↦ λ h. refl | false ↦ λ h. h ] has
      | Greater ↦ elim (other e.0) as (λ t. is_some (cond t (Some e.1) (lookup other es)) ≡ true → is_some (cond t (Some e.1) (lookup other (insert_entry R es k v))) ≡ true) [ true ↦ λ h. refl | false ↦ λ h. is_some-insert_entry R other es k v h ] has
    ]

-- the first that passes, among those that pass another test
pub find-filter : {X : Type 0} (p q : X → Bool) (xs : List X) → find p (filter q xs) ≡ find (λ x. q x && p x) xs
find-filter p q [] = refl
find-filter p q (x ∷ xs) =
    elim (q x) as (λ t. find p (cond t (x ∷ filter q xs) (filter q xs)) ≡ cond (t && p x) (Some x) (find (λ y. q y && p y) xs)) [
      | true ↦ elim (p x) as (λ t. cond t (Some x) (find p (filter q xs)) ≡ cond t (Some x) (find (λ y. q y && p y) xs)) [ true ↦ refl | false ↦ find-filter p q xs ]
      | false ↦ find-filter p q xs
    ]
