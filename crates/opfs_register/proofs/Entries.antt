-- Entries by their keys, as one is changed or comes.
use Rattle.std.proofs.Common.{◌≡◌, Bool, true, false, cond, List, [], ◌∷◌, Option, Some, None, is_some, refl, sym, ap, ◌∙◌}
use Rattle.std.specs.BTreeMap.{is_at, insert_entry}
use Rattle.std.specs.List.{list_any}
use Rattle.std.specs.Map.{lookup, set_value, keys_of}
use Rattle.std.specs.Ordering.{match_ordering, is_eq}
use Rattle.std.specs.declared.cmp.Ordering.{Ordering}
use Rattle.std.specs.declared.cmp.Ordering.TheVariants.{Less, Equal, Greater}
use Rattle.std.proofs.lemmas.Map.Made.{is_some-lookup}
use Rattle.std.proofs.lemmas.Map.Lookups.{exact_bytes}
use Rattle.std.proofs.lemmas.Cmp.{nat_list_cmp_total, tied_itself}
use Rattle.opfs_base.specs.Texts.{Text}
use Rattle.opfs_register.specs.LastUses.{text_cmp}

-- The keys stay.
pub keys-set : {K X : Type 0} (test : K → Bool) (es : List (K × X)) (v : X) → keys_of (set_value test es v) ≡ keys_of es
keys-set test [] v = refl
keys-set {K} {X} test (e ∷ es) v =
    elim (test e.0) as (λ t. keys_of (cond t ((e.0, v) ∷ es) (e ∷ set_value test es v)) ≡ e.0 ∷ keys_of es) [
      | true ↦ refl
      | false ↦ ap (λ (ks : List K). e.0 ∷ ks) (keys-set test es v)
    ]

pub there-set : {K X : Type 0} (test other : K → Bool) (es : List (K × X)) (v : X) → is_some (lookup other (set_value test es v)) ≡ is_some (lookup other es)
there-set test other es v = is_some-lookup other (set_value test es v) ∙ ap (λ ks. list_any other ks) (keys-set test es v) ∙ sym (is_some-lookup other es)

-- What is found where one came that was not there.
pub lookup-insert : {K X : Type 0} (R : K → K → Ordering) (test : K → Bool) → ((x y : K) → R x y ≡ Equal → test x ≡ test y) → ((x y : K) → test x ≡ true → test y ≡ true → R x y ≡ Equal)
    → (es : List (K × X)) (k : K) (v : X) → lookup test (insert_entry R es k v) ≡ cond (test k) (Some v) (lookup test es)
lookup-insert R test alike one [] k v = refl
lookup-insert {K} {X} R test alike one (e ∷ es) k v =
    let P = λ (o : Ordering). o ≡ R k e.0 → lookup test (match_ordering o ((k, v) ∷ e ∷ es) ((e.0, v) ∷ es) (e ∷ insert_entry R es k v)) ≡ cond (test k) (Some v) (cond (test e.0) (Some e.1) (lookup test es)) in
    elim (R k e.0) as P [
      | Less ↦ λ told. refl
      | Equal ↦ λ told. rw (alike k e.0 (sym told)) (same (test e.0) (Some v) (Some e.1) (lookup test es))
      | Greater ↦ λ told.
          ap (λ o. cond (test e.0) (Some e.1) o) (lookup-insert R test alike one es k v)
          ∙ swapped (test e.0) (test k) (Some v) (Some e.1) (lookup test es) (λ there here. never-equal told (one k e.0 here there))
    ] refl
  where
    same : {A : Type 0} (t : Bool) (a b c : A) → cond t a c ≡ cond t a (cond t b c)
    same true a b c = refl
    same false a b c = refl

    swapped : {A : Type 0} (t u : Bool) (a b c : A) → (t ≡ true → u ≡ true → ⊥) → cond t b (cond u a c) ≡ cond u a (cond t b c)
    swapped true true a b c never = absurd (never refl refl)
    swapped true false a b c never = refl
    swapped false true a b c never = refl
    swapped false false a b c never = refl

    never-equal : {o : Ordering} → Greater ≡ o → o ≡ Equal → ⊥
    never-equal told same = cc

-- Where nothing is found.
pub none-from : {X : Type 0} (o : Option X) → is_some o ≡ false → o ≡ None
none-from None none = refl
none-from (Some x) none = absurd cc

-- Nothing changes where there is no value.
pub set-none : {K X : Type 0} (test : K → Bool) (es : List (K × X)) (v : X) → lookup test es ≡ None → set_value test es v ≡ es
set-none test [] v none = refl
set-none {K} {X} test (e ∷ es) v none =
    let P = λ (t : Bool). cond t (Some e.1) (lookup test es) ≡ None → cond t ((e.0, v) ∷ es) (e ∷ set_value test es v) ≡ e ∷ es in
    elim (test e.0) as P [ true ↦ λ h. cc | false ↦ λ h. ap (λ (r : List (K × X)). e ∷ r) (set-none test es v h) ] none

-- A key that comes takes none away.
pub there-insert : {K X : Type 0} (R : K → K → Ordering) (test : K → Bool) → ((x y : K) → R x y ≡ Equal → test x ≡ test y) → ((x y : K) → test x ≡ true → test y ≡ true → R x y ≡ Equal)
    → (es : List (K × X)) (k : K) (v : X) → is_some (lookup test es) ≡ true → is_some (lookup test (insert_entry R es k v)) ≡ true
there-insert R test alike one es k v there =
    ap is_some (lookup-insert R test alike one es k v) ∙ elim (test k) as (λ t. is_some (cond t (Some v) (lookup test es)) ≡ true) [ true ↦ refl | false ↦ there ]

pub is-equal : (o : Ordering) → is_eq o ≡ true → o ≡ Equal
is-equal Less h = cc
is-equal Equal h = refl
is-equal Greater h = cc

-- The tests of texts.
pub text-alike : (t x y : Text) → text_cmp x y ≡ Equal → is_at (text_cmp t) x ≡ is_at (text_cmp t) y
text-alike t x y tie = ap (is_at (text_cmp t)) (exact_bytes x y tie)

pub text-one : (t x y : Text) → is_at (text_cmp t) x ≡ true → is_at (text_cmp t) y ≡ true → text_cmp x y ≡ Equal
text-one t x y here there = rw (← exact_bytes t x (is-equal (text_cmp t x) here), ← exact_bytes t y (is-equal (text_cmp t y) there)) (tied_itself nat_list_cmp_total t)

-- What is found where one was changed that is there.
pub lookup-set : {K X : Type 0} (test other : K → Bool) (es : List (K × X)) (v : X) (same : Bool) → ((k : K) → test k ≡ true → other k ≡ same) → ((k : K) → same ≡ true → other k ≡ true → test k ≡ true)
    → is_some (lookup test es) ≡ true → lookup other (set_value test es v) ≡ cond same (Some v) (lookup other es)
lookup-set test other [] v same there back found = absurd cc
lookup-set {K} {X} test other (e ∷ es) v same there back found =
    let P = λ (t : Bool). t ≡ test e.0 → is_some (cond t (Some e.1) (lookup test es)) ≡ true → lookup other (cond t ((e.0, v) ∷ es) (e ∷ set_value test es v)) ≡ cond same (Some v) (cond (other e.0) (Some e.1) (lookup other es)) in
    elim (test e.0) as P [
      | true ↦ λ told found. ap (λ t. cond t (Some v) (lookup other es)) (there e.0 (sym told)) ∙ shadowed same (other e.0) (Some v) (Some e.1) (lookup other es) (there e.0 (sym told))
      | false ↦ λ told found.
          ap (λ o. cond (other e.0) (Some e.1) o) (lookup-set test other es v same there back found)
          ∙ exchanged (other e.0) same (Some v) (Some e.1) (lookup other es) (λ is both. true-false (sym (back e.0 both is) ∙ sym told))
    ] refl found
  where
    shadowed : {A : Type 0} (t u : Bool) (a b c : A) → u ≡ t → cond t a c ≡ cond t a (cond u b c)
    shadowed true u a b c is = refl
    shadowed false true a b c is = cc
    shadowed false false a b c is = refl

    exchanged : {A : Type 0} (t u : Bool) (a b c : A) → (t ≡ true → u ≡ true → ⊥) → cond t b (cond u a c) ≡ cond u a (cond t b c)
    exchanged true true a b c never = absurd (never refl refl)
    exchanged true false a b c never = refl
    exchanged false true a b c never = refl
    exchanged false false a b c never = refl

    true-false : true ≡ false → ⊥
    true-false h = cc
