-- The persistent units of buckets, read in two ways.
use Rattle.std.proofs.Common.{◌≡◌, Bool, true, false, cond, List, [], ◌∷◌, filter, map, refl, sym, ap, ◌∙◌}
use Rattle.std.proofs.lemmas.Cmp.{nat_list_cmp_total}
use Rattle.std.specs.List.{AllByRecursion}
use Rattle.std.specs.List.Sorted.{IsStrictlySortedBy}
use Rattle.std.specs.Map.{keys_of, lookup}
use Rattle.std.specs.Prelude.{Some, unwrap_or}
use Rattle.std.specs.Ordering.{is_eq, ordering_reverse}
use Rattle.std.specs.declared.cmp.Ordering.{Ordering}
use Rattle.std.specs.declared.cmp.Ordering.TheVariants.{Less, Equal, Greater}
use Rattle.opfs_base.specs.Texts.{Text}
use Rattle.opfs_records.specs.Replay.Sums.{persistent_in as listed}
use Rattle.opfs_shed.specs.declared.shed.Bucket.{Bucket}
use Rattle.opfs_shed.specs.Buckets.{Buckets, text_cmp, is_unit, bucket_at, first_bucket}
use Rattle.opfs_state_rows.specs.Standing.Seen.{persistent_in}

abbrev is_kept : Buckets → Text → Bool
is_kept buckets unit = (bucket_at buckets unit).persistent

equal-itself : (o : Ordering) → o ≡ ordering_reverse o → o ≡ Equal
equal-itself Less is = cc
equal-itself Equal is = refl
equal-itself Greater is = cc

itself : (unit : Text) → text_cmp unit unit ≡ Equal
itself unit = equal-itself (text_cmp unit unit) (nat_list_cmp_total.antisymm unit unit)

-- A unit above the first is looked for behind it.
above : (first : Text) (b : Bucket) (es : Buckets) (unit : Text) → text_cmp first unit ≡ Less → is_kept ((first, b) ∷ es) unit ≡ is_kept es unit
above first b es unit below =
    ap (λ o. (unwrap_or (cond (is_eq o) (Some b) (lookup (is_unit unit) es)) first_bucket).persistent) (nat_list_cmp_total.antisymm unit first ∙ ap ordering_reverse below)

all-above : (first : Text) (b : Bucket) (es : Buckets) (units : List Text) → AllByRecursion (λ y. text_cmp first y ≡ Less) units → filter (is_kept ((first, b) ∷ es)) units ≡ filter (is_kept es) units
all-above first b es [] all = refl
all-above first b es (unit ∷ units) all =
    ap (λ t. cond t (unit ∷ filter (is_kept ((first, b) ∷ es)) units) (filter (is_kept ((first, b) ∷ es)) units)) (above first b es unit all.0)
    ∙ ap (λ (us : List Text). cond (is_kept es unit) (unit ∷ us) us) (all-above first b es units all.1)

pub modes-alike : (buckets : Buckets) → IsStrictlySortedBy text_cmp (keys_of buckets) → listed buckets ≡ persistent_in buckets
unfolding IsStrictlySortedBy
modes-alike [] sorted = refl
modes-alike (e ∷ es) sorted =
    elim e.1.persistent as (λ t. map (λ (x : Text × Bucket). x.0) (cond t (e ∷ filter (λ x. x.1.persistent) es) (filter (λ x. x.1.persistent) es)) ≡ cond t (e.0 ∷ listed es) (listed es)) [
      | true ↦ refl
      | false ↦ refl
    ]
    ∙ ap (λ (us : List Text). cond e.1.persistent (e.0 ∷ us) us) (modes-alike es sorted.1 ∙ sym (all-above e.0 e.1 es (keys_of es) sorted.0))
    ∙ ap (λ o. cond (unwrap_or (cond (is_eq o) (Some e.1) (lookup (is_unit e.0) es)) first_bucket).persistent (e.0 ∷ filter (is_kept (e ∷ es)) (keys_of es)) (filter (is_kept (e ∷ es)) (keys_of es))) (sym (itself e.0))
