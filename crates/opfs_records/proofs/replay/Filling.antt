-- Usages and sums, as the rows are counted.
use Rattle.std.proofs.Common.{◌≡◌, ℕ, ◌+◌, Bool, true, false, cond, [], ◌∷◌, map, filter, Option, Some, None, is_some, option_map, unwrap_or, refl, sym, ap, ◌∙◌, arith}
use Rattle.std.specs.Map.{lookup}
use Rattle.std.specs.BTreeMap.{insert_entry}
use Rattle.std.specs.Ordering.{is_eq, match_ordering}
use Rattle.std.specs.declared.cmp.Ordering.TheVariants.{Less, Equal, Greater}
use Rattle.std.specs.Cmp.Lexicographic.{same_text as equal_texts, texts_ties}
use Rattle.std.proofs.lemmas.Bool.{false≢true, true≢false}
use Rattle.std.proofs.lemmas.List.Sums.{sum_by-cons}
use Rattle.opfs_base.specs.Texts.{Text, same_text}
use Rattle.opfs_shed.specs.declared.shed.Bucket.{Bucket}
use Rattle.opfs_shed.specs.Buckets.{Buckets, text_cmp, is_unit, has_unit, first_bucket, bucket_at, with_bucket, with_unit, whole_usage}
use Rattle.opfs_shed.proofs.Values.{lookup-set_same, lookup-set_other}
use Rattle.opfs_records.specs.Replay.Kept.{share}
use Rattle.opfs_records.specs.Replay.Sums.{persistent_in}
use Rattle.opfs_records.proofs.replay.Persistent.{AllPersistent}

-- ---- a unit is put into the map

abbrev usage : Text × Bucket → ℕ
usage e = e.1.usage

not_here : {X : Type 0} (t : Bool) (x : X) (o : Option X) → cond t (Some x) o ≡ None → (t ≡ false) × (o ≡ None)
not_here true x o h = absurd cc
not_here false x o h = (refl, h)

tied : (a b : Text) → is_unit a b ≡ true → a ≡ b
tied a b told = equal_texts a b (sym (texts_ties a b ∙ told))

inserted_bucket : (es : Buckets) (unit other : Text) → lookup (is_unit unit) es ≡ None → bucket_at (insert_entry text_cmp es unit first_bucket) other ≡ bucket_at es other
inserted_bucket [] unit other none = elim (is_unit other unit) as (λ t. unwrap_or {T = Bucket} (cond t (Some first_bucket) None) first_bucket ≡ first_bucket) [ true ↦ refl | false ↦ refl ]
inserted_bucket (e ∷ es) unit other none =
    let others = cond (is_unit other e.0) (Some e.1) (lookup (is_unit other) es) in
    let parts = not_here (is_unit unit e.0) e.1 (lookup (is_unit unit) es) none in
    elim (text_cmp unit e.0) as (λ r. is_eq r ≡ false → unwrap_or (lookup (is_unit other) (match_ordering r ((unit, first_bucket) ∷ e ∷ es) ((e.0, first_bucket) ∷ es) (e ∷ insert_entry text_cmp es unit first_bucket))) first_bucket ≡ unwrap_or others first_bucket) [
      | Less ↦ λ t. elim (is_unit other unit) as (λ t. is_unit other unit ≡ t → unwrap_or (cond t (Some first_bucket) others) first_bucket ≡ unwrap_or others first_bucket) [
        | true ↦ λ is. sym (ap (λ (p : Option Bucket). unwrap_or p first_bucket) (ap (λ (x : Text). cond (is_unit x e.0) (Some e.1) (lookup (is_unit x) es)) (tied other unit is) ∙ none))
        | false ↦ λ is. refl
      ] refl
      | Equal ↦ λ t. absurd (true≢false t)
      | Greater ↦ λ t. elim (is_unit other e.0) as (λ t. unwrap_or (cond t (Some e.1) (lookup (is_unit other) (insert_entry text_cmp es unit first_bucket))) first_bucket ≡ unwrap_or (cond t (Some e.1) (lookup (is_unit other) es)) first_bucket) [
        | true ↦ refl
        | false ↦ inserted_bucket es unit other parts.1
      ]
    ] parts.0

inserted_whole : (es : Buckets) (unit : Text) → lookup (is_unit unit) es ≡ None → whole_usage (insert_entry text_cmp es unit first_bucket) ≡ whole_usage es
inserted_whole [] unit none = refl
inserted_whole (e ∷ es) unit none =
    let parts = not_here (is_unit unit e.0) e.1 (lookup (is_unit unit) es) none in
    elim (text_cmp unit e.0) as (λ r. is_eq r ≡ false → whole_usage (match_ordering r ((unit, first_bucket) ∷ e ∷ es) ((e.0, first_bucket) ∷ es) (e ∷ insert_entry text_cmp es unit first_bucket)) ≡ whole_usage (e ∷ es)) [
      | Less ↦ λ t. omega (arith, sum_by-cons usage (unit, first_bucket) (e ∷ es))
      | Equal ↦ λ t. absurd (true≢false t)
      | Greater ↦ λ t. omega (arith, sum_by-cons usage e (insert_entry text_cmp es unit first_bucket), sum_by-cons usage e es, inserted_whole es unit parts.1)
    ] parts.0

abbrev modes : Buckets → Buckets
modes es = filter (λ e. e.1.persistent) es

inserted_modes : (es : Buckets) (unit : Text) → lookup (is_unit unit) es ≡ None → modes (insert_entry text_cmp es unit first_bucket) ≡ modes es
inserted_modes [] unit none = refl
inserted_modes (e ∷ es) unit none =
    let parts = not_here (is_unit unit e.0) e.1 (lookup (is_unit unit) es) none in
    elim (text_cmp unit e.0) as (λ r. is_eq r ≡ false → modes (match_ordering r ((unit, first_bucket) ∷ e ∷ es) ((e.0, first_bucket) ∷ es) (e ∷ insert_entry text_cmp es unit first_bucket)) ≡ modes (e ∷ es)) [
      | Less ↦ λ t. refl
      | Equal ↦ λ t. absurd (true≢false t)
      | Greater ↦ λ t. ap (λ xs. cond e.1.persistent (e ∷ xs) xs) (inserted_modes es unit parts.1)
    ] parts.0

none_from : {X : Type 0} (o : Option X) → is_some o ≡ false → o ≡ None
none_from None h = refl
none_from (Some x) h = absurd (true≢false h)

some_from : {X : Type 0} (o : Option X) → is_some o ≡ true → (x : X) × (o ≡ Some x)
some_from None h = absurd (false≢true h)
some_from (Some x) h = (x, refl)

abbrev unit_by : Bool → Buckets → Text → Buckets
unit_by t es unit = elim t [ true ↦ es | false ↦ insert_entry text_cmp es unit first_bucket ]

-- What a unit that is touched leaves as it is.
touched_by : {X : Type 0} (f : Buckets → X) (es : Buckets) (unit : Text) (t : Bool) → has_unit es unit ≡ t → (lookup (is_unit unit) es ≡ None → f (insert_entry text_cmp es unit first_bucket) ≡ f es) → f (unit_by t es unit) ≡ f es
touched_by f es unit true told same = refl
touched_by f es unit false told same = same (none_from (lookup (is_unit unit) es) told)

touched : {X : Type 0} (f : Buckets → X) (es : Buckets) (unit : Text) → (lookup (is_unit unit) es ≡ None → f (insert_entry text_cmp es unit first_bucket) ≡ f es) → f (with_unit es unit) ≡ f es
touched f es unit same = touched_by f es unit (has_unit es unit) refl same

pub touched_bucket : (es : Buckets) (unit other : Text) → bucket_at (with_unit es unit) other ≡ bucket_at es other
touched_bucket es unit other = touched (λ xs. bucket_at xs other) es unit (inserted_bucket es unit other)

pub touched_whole : (es : Buckets) (unit : Text) → whole_usage (with_unit es unit) ≡ whole_usage es
touched_whole es unit = touched whole_usage es unit (inserted_whole es unit)

pub touched_modes : (es : Buckets) (unit : Text) → persistent_in (with_unit es unit) ≡ persistent_in es
touched_modes es unit = ap (map (λ (e : Text × Bucket). e.0)) (touched modes es unit (inserted_modes es unit))

-- ---- a unit uses more

abbrev more : Bucket → ℕ → Bucket
more b need = record b { usage = b.usage + need }

set_whole : (es : Buckets) (unit : Text) (v b : Bucket) → lookup (is_unit unit) es ≡ Some v → whole_usage (with_bucket es unit b) + v.usage ≡ whole_usage es + b.usage
set_whole [] unit v b found = absurd cc
set_whole (e ∷ es) unit v b found =
    elim (is_unit unit e.0) as (λ t. cond t (Some e.1) (lookup (is_unit unit) es) ≡ Some v → whole_usage (cond t ((e.0, b) ∷ es) (e ∷ with_bucket es unit b)) + v.usage ≡ whole_usage (e ∷ es) + b.usage) [
      | true ↦ λ h. let same : e.1 ≡ v = cc in omega (arith, sum_by-cons usage (e.0, b) es, sum_by-cons usage e es, ap (λ (x : Bucket). x.usage) same)
      | false ↦ λ h. omega (arith, sum_by-cons usage e (with_bucket es unit b), sum_by-cons usage e es, set_whole es unit v b h)
    ] found

set_modes : (es : Buckets) (unit : Text) (v b : Bucket) → lookup (is_unit unit) es ≡ Some v → b.persistent ≡ v.persistent → persistent_in (with_bucket es unit b) ≡ persistent_in es
set_modes [] unit v b found same = absurd cc
set_modes (e ∷ es) unit v b found same =
    elim (is_unit unit e.0) as (λ t. cond t (Some e.1) (lookup (is_unit unit) es) ≡ Some v → persistent_in (cond t ((e.0, b) ∷ es) (e ∷ with_bucket es unit b)) ≡ persistent_in (e ∷ es)) [
      | true ↦ λ h.
          let is : e.1 ≡ v = cc in
          let mode : b.persistent ≡ e.1.persistent = same ∙ ap (λ (x : Bucket). x.persistent) (sym is) in
          ap (λ t. map (λ (x : Text × Bucket). x.0) (cond t ((e.0, b) ∷ modes es) (modes es))) mode
          ∙ (elim e.1.persistent as (λ t. map (λ (x : Text × Bucket). x.0) (cond t ((e.0, b) ∷ modes es) (modes es)) ≡ map (λ (x : Text × Bucket). x.0) (cond t (e ∷ modes es) (modes es))) [ true ↦ refl | false ↦ refl ])
      | false ↦ λ h. elim e.1.persistent as (λ t. map (λ (x : Text × Bucket). x.0) (cond t (e ∷ modes (with_bucket es unit b)) (modes (with_bucket es unit b))) ≡ map (λ (x : Text × Bucket). x.0) (cond t (e ∷ modes es) (modes es))) [
        | true ↦ ap (λ xs. e.0 ∷ xs) (set_modes es unit v b h same)
        | false ↦ set_modes es unit v b h same
      ]
    ] found

-- The bucket that is there.
bucket_is : (es : Buckets) (unit : Text) → has_unit es unit ≡ true → lookup (is_unit unit) es ≡ Some (bucket_at es unit)
bucket_is es unit there =
    let found = some_from (lookup (is_unit unit) es) there in
    found.1 ∙ ap (λ (b : Bucket). Some b) (sym (ap (λ (o : Option Bucket). unwrap_or o first_bucket) found.1))

pub added_whole : (es : Buckets) (unit : Text) (need : ℕ) → has_unit es unit ≡ true → whole_usage (with_bucket es unit (more (bucket_at es unit) need)) ≡ whole_usage es + need
added_whole es unit need there =
    omega (arith, set_whole es unit (bucket_at es unit) (more (bucket_at es unit) need) (bucket_is es unit there))

pub added_modes : (es : Buckets) (unit : Text) (need : ℕ) → has_unit es unit ≡ true → persistent_in (with_bucket es unit (more (bucket_at es unit) need)) ≡ persistent_in es
added_modes es unit need there = set_modes es unit (bucket_at es unit) (more (bucket_at es unit) need) (bucket_is es unit there) refl

pub added_usage : (es : Buckets) (unit : Text) (need : ℕ) → has_unit es unit ≡ true → (other : Text)
    → (bucket_at (with_bucket es unit (more (bucket_at es unit) need)) other).usage ≡ (bucket_at es other).usage + share other unit need
added_usage es unit need there other =
    let b = more (bucket_at es unit) need in
    elim (same_text other unit) as (λ t. same_text other unit ≡ t → (bucket_at (with_bucket es unit b) other).usage ≡ (bucket_at es other).usage + cond t need 0) [
      | true ↦ λ told.
          let same : other ≡ unit = equal_texts other unit (sym told) in
          let now : lookup (is_unit unit) (with_bucket es unit b) ≡ Some b = lookup-set_same (is_unit unit) es b ∙ ap (option_map (λ (_ : Bucket). b)) (bucket_is es unit there) in
          ap (λ (x : Text). (bucket_at (with_bucket es unit b) x).usage) same ∙ ap (λ (o : Option Bucket). (unwrap_or o first_bucket).usage) now ∙ ap (λ (x : Text). (bucket_at es x).usage + need) (sym same)
      | false ↦ λ told.
          let apart : (k : Text) → is_unit unit k ≡ true → is_unit other k ≡ false = λ k is. (sym (texts_ties other k) ∙ ap (same_text other) (sym (tied unit k is))) ∙ told in
          ap (λ (o : Option Bucket). (unwrap_or o first_bucket).usage) (lookup-set_other (is_unit unit) (is_unit other) es b apart) ∙ omega arith
    ] refl

-- ---- before the rows are counted

pub unused_whole : (es : Buckets) → AllPersistent es → whole_usage es ≡ 0
unused_whole [] all = refl
unused_whole (e ∷ es) all = omega (arith, sum_by-cons usage e es, ap (λ (b : Bucket). b.usage) all.0, unused_whole es all.1)

pub unused_at : (es : Buckets) → AllPersistent es → (unit : Text) → (bucket_at es unit).usage ≡ 0
unused_at [] all unit = refl
unused_at (e ∷ es) all unit =
    elim (is_unit unit e.0) as (λ t. (unwrap_or (cond t (Some e.1) (lookup (is_unit unit) es)) first_bucket).usage ≡ 0) [
      | true ↦ ap (λ (b : Bucket). b.usage) all.0
      | false ↦ unused_at es all.1 unit
    ]
