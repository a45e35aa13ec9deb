-- What is left of the store once some units are cleared.
use Rattle.std.proofs.Common.{arith, ◌++◌, true≢false, ◌≡◌, ℕ, ◌+◌, ◌&&◌, ◌||◌, Bool, true, false, cond, not, List, [], ◌∷◌, refl, sym, ap, ◌∙◌, filter, fold, flat_map, sum_by}
use Rattle.std.proofs.lemmas.List.Elements.{filter_agree}
use Rattle.std.proofs.lemmas.List.Sums.{sum_by-cons}
use Rattle.std.specs.Cmp.Lexicographic.{same_text as equal_texts}
use Rattle.std.specs.List.{list_any}
use Rattle.opfs_base.specs.Texts.{Text, same_text}
use Rattle.opfs_base.specs.Places.{Place, is_within}
use Rattle.opfs_machine.specs.declared.own.Own.{Own}
use Rattle.opfs_machine.specs.declared.state.Agent.{Agent}
use Rattle.opfs_machine.specs.declared.state.Row.{Row}
use Rattle.opfs_machine.specs.declared.state.State.{State}
use Rattle.opfs_machine.specs.Contents.{in_bytes, outline_of}
use Rattle.opfs_machine.specs.Rows.{Rows}
use Rattle.opfs_machine.specs.Sums.{pool, durable_blocks, reserve_of}
use Rattle.opfs_machine.specs.Victims.{cleared}
use Rattle.opfs_rulings.specs.Known.{is_left, freed}

abbrev left_rows : List Text → Rows Text → Rows Text
left_rows gone rows = filter (λ e. is_left gone e.0.0) rows

none_gone : (rows : Rows Text) → left_rows [] rows ≡ rows
unfolding is_left
none_gone [] = refl
none_gone (e ∷ es) = ap (λ r. e ∷ r) (none_gone es)

filter_both : {X : Type 0} (p q : X → Bool) (xs : List X) → filter q (filter p xs) ≡ filter (λ x. p x && q x) xs
filter_both p q [] = refl
filter_both p q (x ∷ xs) =
    elim (p x) as (λ t. filter q (cond t (x ∷ filter p xs) (filter p xs)) ≡ cond (t && q x) (x ∷ filter (λ y. p y && q y) xs) (filter (λ y. p y && q y) xs)) [
      | true ↦ elim (q x) as (λ t. cond t (x ∷ filter q (filter p xs)) (filter q (filter p xs)) ≡ cond t (x ∷ filter (λ y. p y && q y) xs) (filter (λ y. p y && q y) xs)) [
        | true ↦ ap (λ ys. x ∷ ys) (filter_both p q xs)
        | false ↦ filter_both p q xs
      ]
      | false ↦ filter_both p q xs
    ]

one_left : (unit : Text) (units : List Text) (e : Place × Row Text)
    → (not (is_within (unit, []) e.0) && is_left units e.0.0) ≡ is_left (unit ∷ units) e.0.0
unfolding is_left
one_left unit units e =
    elim (same_text unit e.0.0) as (λ t. (not (t && true) && not (list_any (λ u. same_text u e.0.0) units)) ≡ not (t || list_any (λ u. same_text u e.0.0) units)) [
      | true ↦ refl
      | false ↦ refl
    ]

-- Clearing one unit, and then the others.
one_gone : (unit : Text) (units : List Text) (rows : Rows Text)
    → left_rows units (filter (λ e. not (is_within (unit, []) e.0)) rows) ≡ left_rows (unit ∷ units) rows
one_gone unit units rows =
    filter_both (λ e. not (is_within (unit, []) e.0)) (λ e. is_left units e.0.0) rows
    ∙ filter_agree _ _ (one_left unit units) rows

rows_fold : (gone : List Text) (s : State Text Own) → (fold cleared s gone).rows ≡ left_rows gone s.rows
rows_fold [] s = sym (none_gone s.rows)
rows_fold (unit ∷ units) s = rows_fold units (cleared s unit) ∙ one_gone unit units s.rows

agents_fold : (gone : List Text) (s : State Text Own) → (fold cleared s gone).agents ≡ s.agents
agents_fold [] s = refl
agents_fold (unit ∷ units) s = agents_fold units (cleared s unit)

pub limits_fold : (gone : List Text) (s : State Text Own) → (fold cleared s gone).limits ≡ s.limits
limits_fold [] s = refl
limits_fold (unit ∷ units) s = limits_fold units (cleared s unit)

abbrev pool_of : Rows Text → List (Agent Own) → ℕ
pool_of rows agents = sum_by (λ e. durable_blocks in_bytes e.1) rows + sum_by (λ r. reserve_of (outline_of r)) (flat_map (λ a. a.own) agents)

-- The pool once some units are cleared.
pub pool_fold : (s : State Text Own) (gone : List Text)
    → pool in_bytes (fold cleared s gone) ≡ pool_of (left_rows gone s.rows) s.agents
pool_fold s gone =
    ap (λ rows. pool_of rows (fold cleared s gone).agents) (rows_fold gone s)
    ∙ ap (pool_of (left_rows gone s.rows)) (agents_fold gone s)

left_one : (gone : List Text) (unit key : Text) → is_left (gone ++ unit ∷ []) key ≡ (is_left gone key && not (same_text unit key))
unfolding is_left
left_one [] unit key = elim (same_text unit key) as (λ t. not (t || false) ≡ not t) [ true ↦ refl | false ↦ refl ]
left_one (g ∷ gone) unit key =
    elim (same_text g key) as (λ t. not (t || list_any (λ u. same_text u key) (gone ++ unit ∷ [])) ≡ (not (t || list_any (λ u. same_text u key) gone) && not (same_text unit key))) [
      | true ↦ refl
      | false ↦ left_one gone unit key
    ]

-- The rows that are left once one unit more is cleared.
left_more : (gone : List Text) (unit : Text) (rows : Rows Text)
    → left_rows (gone ++ unit ∷ []) rows ≡ filter (λ e. is_left gone e.0.0 && not (same_text unit e.0.0)) rows
left_more gone unit rows = filter_agree _ _ (λ e. left_one gone unit e.0.0) rows

gone_one : (gone : List Text) (unit key : Text) → list_any (λ u. same_text u unit) gone ≡ true → same_text unit key ≡ true → is_left gone key ≡ false
unfolding is_left
gone_one gone unit key among same =
    ap (λ x. not (list_any (λ u. same_text u x) gone)) (sym (equal_texts unit key (sym same))) ∙ ap not among

stays_one : (gone : List Text) (unit key : Text) → list_any (λ u. same_text u unit) gone ≡ false → same_text unit key ≡ true → is_left gone key ≡ true
unfolding is_left
stays_one gone unit key among same =
    ap (λ x. not (list_any (λ u. same_text u x) gone)) (sym (equal_texts unit key (sym same))) ∙ ap not among

and_not : (p q : Bool) → (q ≡ true → p ≡ false) → (p && not q) ≡ p
and_not true true h = sym (h refl)
and_not true false h = refl
and_not false q h = refl

part_sum : (p q : Bool) (n a b c : ℕ) → (q ≡ true → p ≡ true) → a + b ≡ c
    → cond (p && not q) (n + a) a + cond q (n + b) b ≡ cond p (n + c) c
part_sum true true n a b c h e = omega (arith, e)
part_sum true false n a b c h e = omega (arith, e)
part_sum false true n a b c h e = absurd (true≢false (sym (h refl)))
part_sum false false n a b c h e = e

sum_one : {X : Type 0} (f : X → ℕ) (b : Bool) (x : X) (xs : List X) → sum_by f (cond b (x ∷ xs) xs) ≡ cond b (f x + sum_by f xs) (sum_by f xs)
sum_one f true x xs = sum_by-cons f x xs
sum_one f false x xs = refl

-- A sum over what passes one test is one over what passes another too, and one over what doesn't.
sum_parts : {X : Type 0} (f : X → ℕ) (p q : X → Bool) → ((x : X) → q x ≡ true → p x ≡ true) → (xs : List X)
    → sum_by f (filter (λ x. p x && not (q x)) xs) + sum_by f (filter q xs) ≡ sum_by f (filter p xs)
sum_parts f p q h [] = refl
sum_parts f p q h (x ∷ xs) =
    (λ i. sum_one f (p x && not (q x)) x (filter (λ y. p y && not (q y)) xs) i + sum_one f (q x) x (filter q xs) i)
    ∙ part_sum (p x) (q x) (f x) _ _ _ (h x) (sum_parts f p q h xs)
    ∙ sym (sum_one f (p x) x (filter p xs))

abbrev blocks_of : Rows Text → ℕ
blocks_of rows = sum_by (λ e. durable_blocks in_bytes e.1) rows

freed_sum : (gone : List Text) (unit : Text) (rows : Rows Text) (b : Bool) → list_any (λ u. same_text u unit) gone ≡ b
    → blocks_of (filter (λ e. is_left gone e.0.0 && not (same_text unit e.0.0)) rows) + elim b [ true ↦ 0 | false ↦ blocks_of (filter (λ e. same_text unit e.0.0) rows) ]
    ≡ blocks_of (left_rows gone rows)
freed_sum gone unit rows true h =
    let same : filter (λ e. is_left gone e.0.0 && not (same_text unit e.0.0)) rows ≡ left_rows gone rows
    = filter_agree _ _ (λ e. and_not (is_left gone e.0.0) (same_text unit e.0.0) (gone_one gone unit e.0.0 h)) rows in
    let alike = ap blocks_of same in
    omega (arith, alike)
freed_sum gone unit rows false h =
    sum_parts (λ e. durable_blocks in_bytes e.1) (λ e. is_left gone e.0.0) (λ e. same_text unit e.0.0) (λ e. stays_one gone unit e.0.0 h) rows

-- The pool once one unit more is cleared.
pub pool_freed : (s : State Text Own) (gone : List Text) (unit : Text)
    → pool in_bytes (fold cleared s (gone ++ unit ∷ [])) + freed gone unit s.rows ≡ pool in_bytes (fold cleared s gone)
pool_freed s gone unit =
    let after = pool_fold s (gone ++ unit ∷ []) in
    let more = ap blocks_of (left_more gone unit s.rows) in
    let parts = freed_sum gone unit s.rows _ refl in
    let before = pool_fold s gone in
    omega (arith, after, more, parts, before)
