-- Where the candidates have too few blocks.
use Rattle.std.proofs.Common.{◌≡◌, ◌==◌, ℕ, Bool, ◌+◌, ◌-◌, ◌<◌, length, drop, get_or, unwrap_or, true, false, cond, List, [], ◌∷◌, Option, Some, None, is_some, option_map, sum_by, refl, sym, ap, ◌∙◌, inl, inr, arith}
use Rattle.std.proofs.lemmas.Bool.{cases_lt, eqb-true, eq-eqb}
use Rattle.std.proofs.lemmas.List.Sums.{sum_by-cons}
use Rattle.opfs_base.specs.Texts.{Text}
use Rattle.opfs_base.specs.Texts.{same_text}
use Rattle.std.specs.Ordering.{is_eq}
use Rattle.std.specs.FinMap.Entries.{find}
use Rattle.std.specs.Cmp.Lexicographic.{texts_ties}
use Rattle.std.proofs.lemmas.List.{drop_more}
use Rattle.opfs_pool.specs.Shares.{text_cmp}
use Rattle.opfs_pool.specs.Victims.{Uses, last_in, Candidates, shortest_front}

abbrev nobody : Option (List Text)
nobody = Some []

abbrev blocks_in : Candidates → ℕ
blocks_in es = sum_by (λ e. e.1) es

some_none : {X : Type 0} (x : X) → Some x ≡ None → ⊥
some_none x e = cc

mapped_none : {X Y : Type 0} (f : X → Y) (o : Option X) → option_map f o ≡ None → o ≡ None
mapped_none f None e = refl
mapped_none f (Some x) e = absurd (some_none (f x) e)

true_false : true ≡ false → ⊥
true_false e = cc

some_lacking : (n : ℕ) → (n == 0) ≡ false → 0 < n
some_lacking n told = elim (cases_lt 0 n) [ inl more ↦ more | inr less ↦ absurd (true_false (sym (eq-eqb n 0 (omega arith)) ∙ told)) ]

-- none are given, so all together have too few
pub too_few : (lacking : ℕ) (es : Candidates) → shortest_front lacking es ≡ None → blocks_in es < lacking
too_few lacking [] none =
    elim (lacking == 0) as (λ t. t ≡ (lacking == 0) → cond t nobody None ≡ None → 0 < lacking) [
      | true ↦ λ told e. absurd (some_none {X = List Text} [] e)
      | false ↦ λ told e. some_lacking lacking (sym told)
    ] refl none
too_few lacking (e ∷ es) none =
    let more = option_map (λ (rest : List Text). e.0.1 ∷ rest) (shortest_front (lacking - e.1) es) in
    elim (lacking == 0) as (λ t. cond t nobody more ≡ None → blocks_in (e ∷ es) < lacking) [
      | true ↦ λ h. absurd (some_none {X = List Text} [] h)
      | false ↦ λ h. omega (arith, sum_by-cons (λ e. e.1) e es, too_few (lacking - e.1) es (mapped_none (λ (rest : List Text). e.0.1 ∷ rest) (shortest_front (lacking - e.1) es) h))
    ] none

-- all together have too few, so none are given
pub none_given : (lacking : ℕ) (es : Candidates) → blocks_in es < lacking → shortest_front lacking es ≡ None
none_given lacking [] few =
    elim (lacking == 0) as (λ t. t ≡ (lacking == 0) → cond t nobody None ≡ None) [
      | true ↦ λ told. absurd (omega (arith, eqb-true lacking 0 (sym told)))
      | false ↦ λ told. refl
    ] refl
none_given lacking (e ∷ es) few =
    let more = option_map (λ (rest : List Text). e.0.1 ∷ rest) (shortest_front (lacking - e.1) es) in
    elim (lacking == 0) as (λ t. t ≡ (lacking == 0) → cond t nobody more ≡ None) [
      | true ↦ λ told. absurd (omega (arith, eqb-true lacking 0 (sym told)))
      | false ↦ λ told. ap (option_map (λ (rest : List Text). e.0.1 ∷ rest)) (none_given (lacking - e.1) es (omega (arith, sum_by-cons (λ e. e.1) e es)))
    ] refl

none_from : {X : Type 0} (o : Option X) → is_some o ≡ false → o ≡ None
none_from None is_none = refl
none_from (Some x) is_none = absurd (true_false is_none)

pub lacks : (units : Option (List Text)) (lacking : ℕ) (es : Candidates) → units ≡ shortest_front lacking es → is_some units ≡ false → blocks_in es < lacking
lacks units lacking es is none = too_few lacking es (sym is ∙ none_from units none)

pub is_none-lacks : (units : Option (List Text)) (lacking : ℕ) (es : Candidates) → units ≡ shortest_front lacking es → blocks_in es < lacking → is_some units ≡ false
is_none-lacks units lacking es is few = ap is_some (is ∙ none_given lacking es few)

-- nothing lacks, so no unit is given
pub none_lacking : (lacking : ℕ) → lacking ≡ 0 → (es : Candidates) → shortest_front lacking es ≡ Some []
none_lacking lacking none [] = ap (λ n. shortest_front n []) none
none_lacking lacking none (e ∷ es) = ap (λ n. shortest_front n (e ∷ es)) none

-- the last use of an origin, entry by entry
pub last_here : (uses : Uses) (i : ℕ) (d : Text × ℕ) (origin : Text) → i < length uses → last_in (drop i uses) origin ≡ cond (same_text origin (get_or uses i d).0) (get_or uses i d).1 (last_in (drop (i + 1) uses) origin)
last_here uses i d origin lt =
    let e = get_or uses i d in
    ap (λ (us : Uses). last_in us origin) (drop_more uses i d lt)
    ∙ (elim (is_eq (text_cmp origin e.0)) as (λ t. unwrap_or (cond t (Some e.1) (find text_cmp origin (drop (i + 1) uses))) 0 ≡ cond t e.1 (last_in (drop (i + 1) uses) origin)) [ true ↦ refl | false ↦ refl ]
    ∙ ap (λ t. cond t e.1 (last_in (drop (i + 1) uses) origin)) (sym (texts_ties origin e.0)))

module _ (uses : Uses) (i : ℕ) (e : Text × ℕ) (origin same bytes : Text) (lt : i < length uses) (is : e ≡ get_or uses i e) (known : same ≡ origin) (read : bytes ≡ e.0) where
  test_here : (t : Bool) → same_text same bytes ≡ t → same_text origin (get_or uses i e).0 ≡ t
  test_here t told = ap (λ o. same_text o (get_or uses i e).0) (sym known) ∙ (ap (λ (x : Text × ℕ). same_text same x.0) (sym is) ∙ (ap (same_text same) (sym read) ∙ told))

  pub last_is : same_text same bytes ≡ true → last_in (drop i uses) origin ≡ last_in uses origin → e.1 ≡ last_in uses origin
  last_is told so_far =
      ap (λ (x : Text × ℕ). x.1) is ∙ (ap (λ t. cond t (get_or uses i e).1 (last_in (drop (i + 1) uses) origin)) (sym (test_here true told)) ∙ (sym (last_here uses i e origin lt) ∙ so_far))

  pub last_not : same_text same bytes ≡ false → last_in (drop i uses) origin ≡ last_in uses origin → last_in (drop (i + 1) uses) origin ≡ last_in uses origin
  last_not told so_far =
      ap (λ t. cond t (get_or uses i e).1 (last_in (drop (i + 1) uses) origin)) (sym (test_here false told)) ∙ (sym (last_here uses i e origin lt) ∙ so_far)
