-- The usage of an origin, as buckets change.
use Rattle.std.proofs.Common.{◌≡◌, ℕ, ◌+◌, ◌-◌, ◌^◌, ◌<◌, ◌≤◌, Bool, true, false, cond, [], ◌∷◌, Option, Some, None, is_some, unwrap_or, option_map, sum_by, filter, refl, sym, ap, ◌∙◌, ⊎_elim, arith}
use Rattle.std.proofs.lemmas.List.Sums.{sum_by-cons}
use Rattle.std.proofs.lemmas.Bool.{cases_lt}
use Rattle.std.specs.Map.{lookup, set_value}
use Rattle.std.specs.Prelude.{Vec, if◌then◌else◌}
use Rattle.std.specs.declared.alloc.Global.{Global}
use Rattle.std.specs.Ordering.{is_eq, match_ordering}
use Rattle.std.specs.BTreeMap.{insert_entry}
use Rattle.std.specs.declared.cmp.Ordering.{Ordering}
use Rattle.std.specs.declared.cmp.Ordering.TheVariants.{Less, Equal, Greater}
use Rattle.std.specs.Cmp.Lexicographic.{same_text as equal_texts, texts_ties, bytes_decides}
use Rattle.opfs_base.specs.Texts.{Text, same_text}
use Rattle.opfs_base.specs.Units.{origin_of}
use Rattle.opfs_shed.specs.declared.shed.Bucket.{Bucket}
use Rattle.opfs_shed.specs.Buckets.{Buckets, text_cmp, is_unit, first_bucket, bucket_at, has_unit, with_bucket, usage_of, part_of, whole_usage}
use Rattle.opfs_shed.specs.Tied.{Totals, is_origin, total_in, IsTied}
use Rattle.opfs_shed.proofs.Values.{lookup-set_same, lookup-set_other, is_some-set_value, set_value-none, set_value-same}

-- What a unit's bucket adds to the usage of an origin.
abbrev pub part : Text → Text → Bucket → ℕ
part origin unit b = cond (same_text origin (origin_of unit)) b.usage 0

pub usage_of-cons : (origin : Text) (e : Text × Bucket) (es : Buckets) → usage_of origin (e ∷ es) ≡ part origin e.0 e.1 + usage_of origin es
unfolding usage_of
usage_of-cons origin e es =
    let rest = filter (λ (e : Text × Bucket). same_text origin (origin_of e.0)) es in
    elim (same_text origin (origin_of e.0)) as (λ t. sum_by (λ (e : Text × Bucket). e.1.usage) (cond t (e ∷ rest) rest) ≡ cond t e.1.usage 0 + sum_by (λ (e : Text × Bucket). e.1.usage) rest) [
      | true ↦ sum_by-cons (λ (e : Text × Bucket). e.1.usage) e rest
      | false ↦ omega arith
    ]

pub usage_of-none : (origin : Text) → usage_of origin [] ≡ 0
unfolding usage_of
usage_of-none origin = refl

true_not_false : true ≡ false → ⊥
true_not_false e = cc

part-le : (origin unit : Text) (b : Bucket) → part origin unit b ≤ b.usage
part-le origin unit b = elim (same_text origin (origin_of unit)) as (λ t. cond t b.usage 0 ≤ b.usage) [ true ↦ omega arith | false ↦ omega arith ]

-- no origin uses more than all together
pub usage_of-le : (origin : Text) (es : Buckets) → usage_of origin es ≤ whole_usage es
usage_of-le origin [] = omega (arith, usage_of-none origin)
usage_of-le origin (e ∷ es) = omega (arith, sum_by-cons (λ (e : Text × Bucket). e.1.usage) e es, usage_of-cons origin e es, usage_of-le origin es, part-le origin e.0 e.1)

-- a key that ties is the same text
tied : (a b : Text) → is_eq (text_cmp a b) ≡ true → a ≡ b
tied a b told = equal_texts a b (sym (texts_ties a b ∙ told))

some_same : {X : Type 0} {x y : X} → Some x ≡ Some y → x ≡ y
some_same e = cc

at_most_here : (unit : Text) (e : Text × Bucket) (es : Buckets) (v : Bucket) → true ≡ is_unit unit e.0 → e.1 ≡ v → v.usage ≤ usage_of (origin_of unit) (e ∷ es)
at_most_here unit e es v told same =
    let key : unit ≡ e.0 = tied unit e.0 (sym told) in
    let all : part (origin_of unit) e.0 e.1 ≡ e.1.usage = ap (λ t. cond t e.1.usage 0) ((bytes_decides (origin_of unit) (origin_of e.0)).1 (ap origin_of key)) in
    let old : e.1.usage ≡ v.usage = ap (λ (b : Bucket). b.usage) same in
    omega (arith, usage_of-cons (origin_of unit) e es)

-- no unit uses more than its origin
at_most : (unit : Text) (es : Buckets) (v : Bucket) → lookup (is_unit unit) es ≡ Some v → v.usage ≤ usage_of (origin_of unit) es
at_most unit [] v found = absurd cc
at_most unit (e ∷ es) v found =
    let P = λ (t : Bool). t ≡ is_unit unit e.0 → cond t (Some e.1) (lookup (is_unit unit) es) ≡ Some v → v.usage ≤ usage_of (origin_of unit) (e ∷ es) in
    elim (is_unit unit e.0) as P [
      | true ↦ λ told here. at_most_here unit e es v told (some_same here)
      | false ↦ λ told here. omega (arith, usage_of-cons (origin_of unit) e es, at_most unit es v here)
    ] refl found

pub bucket_at-le : (unit : Text) (es : Buckets) → (bucket_at es unit).usage ≤ usage_of (origin_of unit) es
bucket_at-le unit es =
    let P = λ (o : Option Bucket). o ≡ lookup (is_unit unit) es → (unwrap_or o first_bucket).usage ≤ usage_of (origin_of unit) es in
    elim (lookup (is_unit unit) es) as P [ None ↦ λ told. omega arith | Some v ↦ λ told. at_most unit es v (sym told) ] refl

changed_here : (origin unit : Text) (e : Text × Bucket) (es : Buckets) (v b : Bucket) → true ≡ is_unit unit e.0 → e.1 ≡ v
    → usage_of origin ((e.0, b) ∷ es) + part origin unit v ≡ usage_of origin (e ∷ es) + part origin unit b
changed_here origin unit e es v b told same =
    let key : unit ≡ e.0 = tied unit e.0 (sym told) in
    let new : part origin unit b ≡ part origin e.0 b = ap (λ (u : Text). part origin u b) key in
    let old : part origin unit v ≡ part origin e.0 e.1 = ap (λ (u : Text). part origin u v) key ∙ ap (λ (w : Bucket). part origin e.0 w) (sym same) in
    omega (arith, usage_of-cons origin (e.0, b) es, usage_of-cons origin e es)

-- a bucket that is changed
pub usage_of-with_bucket : (origin unit : Text) (v b : Bucket) (es : Buckets) → lookup (is_unit unit) es ≡ Some v
    → usage_of origin (with_bucket es unit b) + part origin unit v ≡ usage_of origin es + part origin unit b
usage_of-with_bucket origin unit v b [] found = absurd cc
usage_of-with_bucket origin unit v b (e ∷ es) found =
    let P = λ (t : Bool). t ≡ is_unit unit e.0 → cond t (Some e.1) (lookup (is_unit unit) es) ≡ Some v
    → usage_of origin (cond t ((e.0, b) ∷ es) (e ∷ with_bucket es unit b)) + part origin unit v ≡ usage_of origin (e ∷ es) + part origin unit b in
    elim (is_unit unit e.0) as P [
      | true ↦ λ told here. changed_here origin unit e es v b told (some_same here)
      | false ↦ λ told here. omega (arith, usage_of-cons origin e (with_bucket es unit b), usage_of-cons origin e es, usage_of-with_bucket origin unit v b es here)
    ] refl found

-- an origin is one or the other
apart : (a b : Text) → same_text a b ≡ false → (k : Text) → is_eq (text_cmp b k) ≡ true → is_eq (text_cmp a k) ≡ false
apart a b differ k told = (sym (texts_ties a k) ∙ ap (same_text a) (sym (tied b k told))) ∙ differ

of_some : (total : ℕ) (o : Option ℕ) → is_some o ≡ true → unwrap_or (option_map (λ (_ : ℕ). total) o) 0 ≡ total
of_some total None is = absurd cc
of_some total (Some x) is = refl

-- the count of an origin and its usage, after both changed
here_after : (totals : Totals) (es : Buckets) (unit : Text) (v b : Bucket) (total : ℕ) (origin : Text) → IsTied totals es → lookup (is_unit unit) es ≡ Some v
    → total + v.usage ≡ unwrap_or (total_in totals (origin_of unit)) 0 + b.usage → true ≡ same_text origin (origin_of unit)
    → unwrap_or (total_in (set_value (is_origin (origin_of unit)) totals total) origin) 0 ≡ usage_of origin (with_bucket es unit b)
here_after totals es unit v b total origin is_tied found sum told =
    let same : origin ≡ origin_of unit = equal_texts origin (origin_of unit) told in
    let new : part origin unit b ≡ b.usage = ap (λ t. cond t b.usage 0) (sym told) in
    let old : part origin unit v ≡ v.usage = ap (λ t. cond t v.usage 0) (sym told) in
    let there : is_some (total_in totals (origin_of unit)) ≡ true = is_tied.counted unit (ap is_some found) in
    let now : unwrap_or (total_in (set_value (is_origin (origin_of unit)) totals total) (origin_of unit)) 0 ≡ total =
    ap (λ (o : Option ℕ). unwrap_or o 0) (lookup-set_same (is_origin (origin_of unit)) totals total) ∙ of_some total (total_in totals (origin_of unit)) there in
    let here : unwrap_or (total_in (set_value (is_origin (origin_of unit)) totals total) origin) 0 ≡ total =
    ap (λ (o : Text). unwrap_or (total_in (set_value (is_origin (origin_of unit)) totals total) o) 0) same ∙ now in
    let was : unwrap_or (total_in totals (origin_of unit)) 0 ≡ usage_of origin es = is_tied.sums (origin_of unit) ∙ ap (λ (o : Text). usage_of o es) (sym same) in
    omega (arith, usage_of-with_bucket origin unit v b es found)

-- another origin's, which did not
other_after : (totals : Totals) (es : Buckets) (unit : Text) (v b : Bucket) (total : ℕ) (origin : Text) → IsTied totals es → lookup (is_unit unit) es ≡ Some v
    → false ≡ same_text origin (origin_of unit)
    → unwrap_or (total_in (set_value (is_origin (origin_of unit)) totals total) origin) 0 ≡ usage_of origin (with_bucket es unit b)
other_after totals es unit v b total origin is_tied found told =
    let new : part origin unit b ≡ 0 = ap (λ t. cond t b.usage 0) (sym told) in
    let old : part origin unit v ≡ 0 = ap (λ t. cond t v.usage 0) (sym told) in
    let stays : total_in (set_value (is_origin (origin_of unit)) totals total) origin ≡ total_in totals origin =
    lookup-set_other (is_origin (origin_of unit)) (is_origin origin) totals total (λ k is. apart origin (origin_of unit) (sym told) k.items is) in
    let here : unwrap_or (total_in (set_value (is_origin (origin_of unit)) totals total) origin) 0 ≡ unwrap_or (total_in totals origin) 0 =
    ap (λ (o : Option ℕ). unwrap_or o 0) stays in
    omega (arith, usage_of-with_bucket origin unit v b es found, is_tied.sums origin)

-- the counts still are the usages after a bucket and its origin's count were changed
pub tied_after : (totals : Totals) (es : Buckets) (unit : Text) (v b : Bucket) (total : ℕ) → IsTied totals es → lookup (is_unit unit) es ≡ Some v
    → total + v.usage ≡ unwrap_or (total_in totals (origin_of unit)) 0 + b.usage
    → IsTied (set_value (is_origin (origin_of unit)) totals total) (with_bucket es unit b)
tied_after totals es unit v b total is_tied found sum = record {
  sums = λ origin.
      elim (same_text origin (origin_of unit))
      as (λ t. t ≡ same_text origin (origin_of unit) → unwrap_or (total_in (set_value (is_origin (origin_of unit)) totals total) origin) 0 ≡ usage_of origin (with_bucket es unit b)) [
        | true ↦ here_after totals es unit v b total origin is_tied found sum
        | false ↦ other_after totals es unit v b total origin is_tied found
      ] refl;
  counted = λ u has. is_some-set_value (is_origin (origin_of unit)) (is_origin (origin_of u)) totals total
      ∙ is_tied.counted u (sym (is_some-set_value (is_unit unit) (is_unit u) es b) ∙ has);
}

nothing : IsTied [] []
nothing = record { sums = λ origin. sym (usage_of-none origin); counted = λ unit has. absurd cc }

pub tied_none : (totals : Totals) (es : Buckets) → totals ≡ [] → es ≡ [] → IsTied totals es
tied_none totals es no_totals none = rw no_totals (rw none nothing)

-- ---- a unit that comes new

none_here : {X : Type 0} (t : Bool) (x : X) (o : Option X) → cond t (Some x) o ≡ None → t ≡ false
none_here true x o is_none = absurd cc
none_here false x o is_none = refl

none_behind : {X : Type 0} (t : Bool) (x : X) (o : Option X) → cond t (Some x) o ≡ None → o ≡ None
none_behind true x o is_none = absurd cc
none_behind false x o is_none = is_none

abbrev pub origin_cmp : Vec ℕ Global → Vec ℕ Global → Ordering
origin_cmp a b = text_cmp a.items b.items

-- a count of 0 that comes new changes no count
pub inserted_same : (es : Totals) (k : Vec ℕ Global) (o : Text) → total_in es k.items ≡ None
    → unwrap_or (total_in (insert_entry origin_cmp es k 0) o) 0 ≡ unwrap_or (total_in es o) 0
inserted_same [] k o none = elim (is_origin o k) as (λ t. unwrap_or {T = ℕ} (cond t (Some 0) None) 0 ≡ 0) [ true ↦ refl | false ↦ refl ]
inserted_same (e ∷ es) k o none =
    let others = cond (is_origin o e.0) (Some e.1) (total_in es o) in
    let first : is_origin k.items e.0 ≡ false = none_here _ _ _ none in
    let P = λ (r : Ordering). r ≡ origin_cmp k e.0
    → unwrap_or (total_in (match_ordering r ((k, 0) ∷ e ∷ es) ((e.0, 0) ∷ es) (e ∷ insert_entry origin_cmp es k 0)) o) 0 ≡ unwrap_or others 0 in
    elim (origin_cmp k e.0) as P [
      | Less ↦ λ told. elim (is_origin o k) as (λ t. t ≡ is_origin o k → unwrap_or (cond t (Some 0) others) 0 ≡ unwrap_or others 0) [
        | true ↦ λ is. sym (ap (λ (p : Option ℕ). unwrap_or p 0) (ap (λ (x : Text). cond (is_origin x e.0) (Some e.1) (total_in es x)) (tied o k.items (sym is)) ∙ none))
        | false ↦ λ is. refl
      ] refl
      | Equal ↦ λ told. absurd (true_not_false (ap is_eq told ∙ first))
      | Greater ↦ λ told. elim (is_origin o e.0) as (λ t. unwrap_or (cond t (Some e.1) (total_in (insert_entry origin_cmp es k 0) o)) 0 ≡ unwrap_or (cond t (Some e.1) (total_in es o)) 0) [
        | true ↦ refl
        | false ↦ inserted_same es k o (none_behind _ _ _ none)
      ]
    ] refl

-- a bucket that comes new uses nothing
pub usage_of-insert : (es : Buckets) (unit origin : Text) → lookup (is_unit unit) es ≡ None
    → usage_of origin (insert_entry text_cmp es unit first_bucket) ≡ usage_of origin es
usage_of-insert [] unit origin none = omega (arith, usage_of-cons origin (unit, first_bucket) [], part-le origin unit first_bucket)
usage_of-insert (e ∷ es) unit origin none =
    let first : is_unit unit e.0 ≡ false = none_here _ _ _ none in
    let P = λ (r : Ordering). r ≡ text_cmp unit e.0
    → usage_of origin (match_ordering r ((unit, first_bucket) ∷ e ∷ es) ((e.0, first_bucket) ∷ es) (e ∷ insert_entry text_cmp es unit first_bucket)) ≡ usage_of origin (e ∷ es) in
    elim (text_cmp unit e.0) as P [
      | Less ↦ λ told. omega (arith, usage_of-cons origin (unit, first_bucket) (e ∷ es), part-le origin unit first_bucket)
      | Equal ↦ λ told. absurd (true_not_false (ap is_eq told ∙ first))
      | Greater ↦ λ told. omega (arith, usage_of-cons origin e (insert_entry text_cmp es unit first_bucket), usage_of-cons origin e es, usage_of-insert es unit origin (none_behind _ _ _ none))
    ] refl

-- counts that stay are as good as before
pub tied_totals : (totals more : Totals) (es : Buckets) → IsTied totals es
    → ((o : Text) → unwrap_or (total_in more o) 0 ≡ unwrap_or (total_in totals o) 0)
    → ((o : Text) → is_some (total_in totals o) ≡ true → is_some (total_in more o) ≡ true) → IsTied more es
tied_totals totals more es is_tied same kept = record {
  sums = λ origin. same origin ∙ is_tied.sums origin;
  counted = λ unit has. kept (origin_of unit) (is_tied.counted unit has);
}

-- a unit that is found beside a new one
pub tied_touched : (totals : Totals) (es : Buckets) (unit : Text) → IsTied totals es → lookup (is_unit unit) es ≡ None → is_some (total_in totals (origin_of unit)) ≡ true
    → ((u : Text) → lookup (is_unit u) (insert_entry text_cmp es unit first_bucket) ≡ cond (is_unit unit u) (Some first_bucket) (lookup (is_unit u) es))
    → IsTied totals (insert_entry text_cmp es unit first_bucket)
tied_touched totals es unit is_tied none there found = record {
  sums = λ origin. is_tied.sums origin ∙ sym (usage_of-insert es unit origin none);
  counted = λ u has.
      elim (is_unit unit u) as (λ t. t ≡ is_unit unit u → is_some (cond t (Some first_bucket) (lookup (is_unit u) es)) ≡ true → is_some (total_in totals (origin_of u)) ≡ true) [
        | true ↦ λ told has. ap (λ (k : Text). is_some (total_in totals (origin_of k))) (sym (tied unit u (sym told))) ∙ there
        | false ↦ λ told has. is_tied.counted u has
      ] refl (sym (ap is_some (found u)) ∙ has);
}

-- ---- as the calls of a shed need them

-- a unit uses no more than its origin's count
pub within_total : (totals : Totals) (es : Buckets) (unit origin : Text) (v : Bucket) → IsTied totals es → origin ≡ origin_of unit → lookup (is_unit unit) es ≡ Some v
    → v.usage ≤ unwrap_or (total_in totals origin) 0
within_total totals es unit origin v is_tied is found =
    let here : unwrap_or (total_in totals origin) 0 ≡ usage_of (origin_of unit) es = is_tied.sums origin ∙ ap (λ (o : Text). usage_of o es) is in
    omega (arith, at_most unit es v found)

-- after a bucket and its origin's count were changed
pub tied_put : (totals totals' : Totals) (es es' : Buckets) (unit origin : Text) (v b : Bucket) (total : ℕ) → IsTied totals es → origin ≡ origin_of unit
    → lookup (is_unit unit) es ≡ Some v → total ≡ unwrap_or (total_in totals origin) 0 - v.usage + b.usage
    → totals' ≡ set_value (is_origin origin) totals total → es' ≡ with_bucket es unit b → IsTied totals' es'
tied_put totals totals' es es' unit origin v b total is_tied is found sum new_totals new_es =
    let least = within_total totals es unit origin v is_tied is found in
    let at : unwrap_or (total_in totals origin) 0 ≡ unwrap_or (total_in totals (origin_of unit)) 0 = ap (λ (o : Text). unwrap_or (total_in totals o) 0) is in
    rw new_totals (rw new_es (rw is (tied_after totals es unit v b total is_tied found (omega (arith, least)))))

pub room_in_bucket : (es : Buckets) (unit : Text) (need : ℕ) → usage_of (origin_of unit) es + need < 2 ^ 64 → (bucket_at es unit).usage + need < 2 ^ 64
room_in_bucket es unit need fits = omega (arith, bucket_at-le unit es)

-- a sum that fits where the bucket does not grow, or where the whole has room for it
pub room_put : (totals : Totals) (es : Buckets) (unit origin : Text) (v : Bucket) (b : ℕ) → IsTied totals es → origin ≡ origin_of unit → lookup (is_unit unit) es ≡ Some v
    → unwrap_or (total_in totals origin) 0 < 2 ^ 64
    → ((bucket_at es unit).usage < b → usage_of (origin_of unit) es + b < 2 ^ 64 + (bucket_at es unit).usage)
    → b < 2 ^ 64 → unwrap_or (total_in totals origin) 0 - v.usage + b < 2 ^ 64
room_put totals es unit origin v b is_tied is found small room fits =
    let here : unwrap_or (total_in totals origin) 0 ≡ usage_of (origin_of unit) es = is_tied.sums origin ∙ ap (λ (o : Text). usage_of o es) is in
    let at : (bucket_at es unit).usage ≡ v.usage = ap (λ (o : Option Bucket). (unwrap_or o first_bucket).usage) found in
    let least : v.usage ≤ unwrap_or (total_in totals origin) 0 = within_total totals es unit origin v is_tied is found in
    ⊎_elim (λ more. omega (arith, room (omega arith))) (λ less. omega arith) (cases_lt v.usage b)

pub none_from : {X : Type 0} (o : Option X) → is_some o ≡ false → o ≡ None
none_from None is_none = refl
none_from (Some x) is_none = absurd cc

-- ---- the usage of each origin after a unit's bucket changed

part_is : (origin unit : Text) (b : Bucket) → part origin unit b ≡ part_of origin unit b.usage
part_is origin unit b = refl

-- What is left and what came, beside what was there.
moved : (origin unit : Text) (es : Buckets) (b : Bucket) → has_unit es unit ≡ true
    → usage_of origin (with_bucket es unit b) + part_of origin unit (bucket_at es unit).usage ≡ usage_of origin es + part_of origin unit b.usage
moved origin unit es b has =
    elim (lookup (is_unit unit) es) as (λ o. lookup (is_unit unit) es ≡ o → is_some o ≡ true
    → usage_of origin (with_bucket es unit b) + part_of origin unit (unwrap_or o first_bucket).usage ≡ usage_of origin es + part_of origin unit b.usage) [
      | None ↦ λ told some. cc
      | Some v ↦ λ told some. usage_of-with_bucket origin unit v b es told
    ] refl has

-- A bucket that is changed in a map that does not have it.
unmoved : (unit : Text) (es : Buckets) (b : Bucket) → has_unit es unit ≡ false → (with_bucket es unit b ≡ es) × ((bucket_at es unit).usage ≡ 0)
unmoved unit es b has = let none = none_from (lookup (is_unit unit) es) has in (set_value-none (is_unit unit) es b none, ap (λ (o : Option Bucket). (unwrap_or o first_bucket).usage) none)

sum_part : (origin unit : Text) (a b : ℕ) → part_of origin unit (a + b) ≡ part_of origin unit a + part_of origin unit b
sum_part origin unit a b = elim (same_text origin (origin_of unit)) as (λ t. (if t then (a + b) else 0) ≡ (if t then a else 0) + (if t then b else 0)) [ true ↦ refl | false ↦ omega arith ]

none_part : (origin unit : Text) → part_of origin unit 0 ≡ 0
none_part origin unit = elim (same_text origin (origin_of unit)) as (λ t. ◌≡◌ {A = ℕ} (if t then 0 else 0) 0) [ true ↦ refl | false ↦ refl ]

module _ (unit : Text) (es new : Buckets) where
  pub usage_added : (need : ℕ) → has_unit es unit ≡ true → new ≡ with_bucket es unit (record (bucket_at es unit) { usage = (bucket_at es unit).usage + need })
      → (origin : Text) → usage_of origin new ≡ usage_of origin es + part_of origin unit need
  usage_added need has is origin =
      omega (arith, ap (usage_of origin) is, moved origin unit es (record (bucket_at es unit) { usage = (bucket_at es unit).usage + need }) has, sum_part origin unit (bucket_at es unit).usage need)

  pub usage_freed : (n : ℕ) → n ≤ (bucket_at es unit).usage → new ≡ with_bucket es unit (record (bucket_at es unit) { usage = (bucket_at es unit).usage - n })
      → (origin : Text) → usage_of origin new + part_of origin unit n ≡ usage_of origin es
  usage_freed n le is origin =
      let b : Bucket = record (bucket_at es unit) { usage = (bucket_at es unit).usage - n } in
      elim (has_unit es unit) as (λ t. has_unit es unit ≡ t → usage_of origin new + part_of origin unit n ≡ usage_of origin es) [
        | true ↦ λ has.
            let whole : (bucket_at es unit).usage ≡ ((bucket_at es unit).usage - n) + n = omega arith in
            omega (arith, ap (usage_of origin) is, moved origin unit es b has, ap (part_of origin unit) whole, sum_part origin unit ((bucket_at es unit).usage - n) n)
        | false ↦ λ has.
            let kept = unmoved unit es b has in
            let nought : n ≡ 0 = omega (arith, kept.1) in
            omega (arith, ap (usage_of origin) (is ∙ kept.0), ap (part_of origin unit) nought, none_part origin unit)
      ] refl

  pub usage_cleared : new ≡ with_bucket es unit first_bucket → (origin : Text) → usage_of origin new + part_of origin unit (bucket_at es unit).usage ≡ usage_of origin es
  usage_cleared is origin =
      elim (has_unit es unit) as (λ t. has_unit es unit ≡ t → usage_of origin new + part_of origin unit (bucket_at es unit).usage ≡ usage_of origin es) [
        | true ↦ λ has. omega (arith, ap (usage_of origin) is, moved origin unit es first_bucket has, none_part origin unit)
        | false ↦ λ has.
            let kept = unmoved unit es first_bucket has in
            omega (arith, ap (usage_of origin) (is ∙ kept.0), ap (part_of origin unit) kept.1, none_part origin unit)
      ] refl

  pub usage_same : has_unit es unit ≡ true → new ≡ with_bucket es unit (record (bucket_at es unit) { persistent = true }) → (origin : Text) → usage_of origin new ≡ usage_of origin es
  usage_same has is origin = omega (arith, ap (usage_of origin) is, moved origin unit es (record (bucket_at es unit) { persistent = true }) has)

-- ---- a bucket and its origin's count that both are raised, or lowered, by one number

same_bucket : (es : Buckets) (unit : Text) → with_bucket es unit (bucket_at es unit) ≡ es
same_bucket es unit =
    elim (lookup (is_unit unit) es) as (λ (o : Option Bucket). lookup (is_unit unit) es ≡ o → with_bucket es unit (unwrap_or o first_bucket) ≡ es) [
      | None ↦ λ none. set_value-none (is_unit unit) es first_bucket none
      | Some v ↦ λ found. set_value-same (is_unit unit) es v found
    ] refl

-- by nothing
pub unchanged_bucket : (es : Buckets) (unit : Text) (usage : ℕ) → usage ≡ (bucket_at es unit).usage → with_bucket es unit (record (bucket_at es unit) { usage = usage }) ≡ es
unchanged_bucket es unit usage same = ap (λ (n : ℕ). with_bucket es unit (record (bucket_at es unit) { usage = n })) same ∙ same_bucket es unit

pub nothing_more : (origin unit : Text) (n : ℕ) → n ≡ 0 → part_of origin unit n ≡ 0
nothing_more origin unit n zero = ap (part_of origin unit) zero ∙ none_part origin unit

module _ (totals totals' : Totals) (es es' : Buckets) (unit origin : Text) (n : ℕ) (is_tied : IsTied totals es) (is : origin ≡ origin_of unit) where
  pub total_is : unwrap_or (total_in totals origin) 0 ≡ usage_of (origin_of unit) es
  total_is = is_tied.sums origin ∙ ap (λ (o : Text). usage_of o es) is

  pub within_totals : n ≤ (bucket_at es unit).usage → n ≤ unwrap_or (total_in totals origin) 0
  within_totals enough = omega (arith, total_is, bucket_at-le unit es)

  pub tied_raised : has_unit es unit ≡ true → totals' ≡ set_value (is_origin origin) totals (unwrap_or (total_in totals origin) 0 + n)
      → es' ≡ with_bucket es unit (record (bucket_at es unit) { usage = (bucket_at es unit).usage + n }) → IsTied totals' es'
  tied_raised there new_totals new_es =
      elim (lookup (is_unit unit) es) as (λ (o : Option Bucket). lookup (is_unit unit) es ≡ o → is_some o ≡ true
      → es' ≡ with_bucket es unit (record (unwrap_or o first_bucket) { usage = (unwrap_or o first_bucket).usage + n }) → IsTied totals' es') [
        | None ↦ λ told some new. absurd cc
        | Some v ↦ λ told some new.
            tied_put totals totals' es es' unit origin v (record v { usage = v.usage + n }) (unwrap_or (total_in totals origin) 0 + n) is_tied is told (omega (arith, within_total totals es unit origin v is_tied is told)) new_totals new
      ] refl there new_es

  pub tied_lowered : 0 < n → n ≤ (bucket_at es unit).usage → totals' ≡ set_value (is_origin origin) totals (unwrap_or (total_in totals origin) 0 - n)
      → es' ≡ with_bucket es unit (record (bucket_at es unit) { usage = (bucket_at es unit).usage - n }) → IsTied totals' es'
  tied_lowered some enough new_totals new_es =
      elim (lookup (is_unit unit) es) as (λ (o : Option Bucket). lookup (is_unit unit) es ≡ o → n ≤ (unwrap_or o first_bucket).usage
      → es' ≡ with_bucket es unit (record (unwrap_or o first_bucket) { usage = (unwrap_or o first_bucket).usage - n }) → IsTied totals' es') [
        | None ↦ λ told few new. absurd (omega (arith, some, few))
        | Some v ↦ λ told few new.
            tied_put totals totals' es es' unit origin v (record v { usage = v.usage - n }) (unwrap_or (total_in totals origin) 0 - n) is_tied is told (omega (arith, few, within_total totals es unit origin v is_tied is told)) new_totals new
      ] refl enough new_es
