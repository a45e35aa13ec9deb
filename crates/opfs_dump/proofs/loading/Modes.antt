-- A shed of units that rise, all of them persistent.
use Rattle.std.proofs.Common.{◌≡◌, ◌++◌, Bool, true, false, cond, List, [], ◌∷◌, map, Some, None, is_some, unwrap_or, refl, ap, ◌∙◌}
use Rattle.std.specs.BTreeMap.{insert_entry}
use Rattle.std.specs.Cmp.{IsTotalOrder, tied_itself}
use Rattle.std.specs.Cmp.Lexicographic.{nat_list_cmp_total}
use Rattle.std.specs.List.{AllByRecursion}
use Rattle.std.specs.Map.{lookup}
use Rattle.std.specs.Ordering.{is_lt, is_eq, match_ordering, ordering_reverse}
use Rattle.std.specs.declared.cmp.Ordering.TheVariants.{Less, Greater}
use Rattle.std.proofs.lemmas.Bool.{and_parts}
use Rattle.opfs_base.specs.Texts.{Text}
use Rattle.opfs_records.proofs.checkpoint.Ordered.{lt_less}
use Rattle.opfs_records.specs.Replay.Sums.{persistent_in}
use Rattle.opfs_shed.specs.Buckets.{Buckets, Storage, text_cmp, is_unit, has_unit, first_bucket, bucket_at, with_bucket, with_unit, changed}
use Rattle.opfs_shed.specs.declared.shed.Bucket.{Bucket}
use Rattle.opfs_dump.specs.Text.Limits.{is_rising}

text_total : IsTotalOrder text_cmp
text_total = nat_list_cmp_total

abbrev persisting : Bucket
persisting = record { persistent = true; usage = 0 }

abbrev pub modes_of : List Text → Buckets
modes_of units = map (λ unit. (unit, persisting)) units

pub persistent_modes : (units : List Text) → persistent_in (modes_of units) ≡ units
persistent_modes [] = refl
persistent_modes (u ∷ us) = ap (λ xs. u ∷ xs) (persistent_modes us)

-- all stand before a unit
abbrev pub AllBelow : Text → List Text → Type 0
AllBelow unit done = AllByRecursion (λ x. text_cmp x unit ≡ Less) done

-- so do those before it among units that rise
pub below_next : (done : List Text) (unit : Text) (more : List Text) → is_rising (done ++ unit ∷ more) ≡ true → AllBelow unit done
below_next [] unit more h = tt
below_next (d ∷ []) unit more h = (lt_less (text_cmp d unit) (and_parts (is_lt (text_cmp d unit)) (is_rising (unit ∷ more)) h).0, tt)
below_next (d ∷ e ∷ ds) unit more h =
    let parts = and_parts (is_lt (text_cmp d e)) (is_rising ((e ∷ ds) ++ unit ∷ more)) h in
    let rest = below_next (e ∷ ds) unit more parts.1 in
    (text_total.trans d e unit (lt_less (text_cmp d e) parts.0) rest.0, rest)

above : (x unit : Text) → text_cmp x unit ≡ Less → text_cmp unit x ≡ Greater
above x unit less = text_total.antisymm unit x ∙ ap ordering_reverse less

abbrev unit_by : Bool → Buckets → Text → Buckets
unit_by test buckets unit = elim test [ true ↦ buckets | false ↦ insert_entry text_cmp buckets unit first_bucket ]

-- a unit behind them
module _ (unit : Text) where
  none_there : (done : List Text) → AllBelow unit done → has_unit (modes_of done) unit ≡ false
  none_there [] all = refl
  none_there (d ∷ ds) all = ap (λ o. is_some (cond (is_eq o) (Some persisting) (lookup (is_unit unit) (modes_of ds)))) (above d unit all.0) ∙ none_there ds all.1

  put_behind : (done : List Text) → AllBelow unit done → insert_entry text_cmp (modes_of done) unit first_bucket ≡ modes_of done ++ (unit, first_bucket) ∷ []
  put_behind [] all = refl
  put_behind (d ∷ ds) all =
      ap (λ o. match_ordering o ((unit, first_bucket) ∷ modes_of (d ∷ ds)) ((d, first_bucket) ∷ modes_of ds) ((d, persisting) ∷ insert_entry text_cmp (modes_of ds) unit first_bucket)) (above d unit all.0)
      ∙ ap (λ xs. (d, persisting) ∷ xs) (put_behind ds all.1)

  found_behind : (done : List Text) → AllBelow unit done → lookup (is_unit unit) (modes_of done ++ (unit, first_bucket) ∷ []) ≡ Some first_bucket
  found_behind [] all = ap (λ o. cond (is_eq o) (Some first_bucket) None) (tied_itself text_total unit)
  found_behind (d ∷ ds) all = ap (λ o. cond (is_eq o) (Some persisting) (lookup (is_unit unit) (modes_of ds ++ (unit, first_bucket) ∷ []))) (above d unit all.0) ∙ found_behind ds all.1

  set_behind : (done : List Text) → AllBelow unit done → with_bucket (modes_of done ++ (unit, first_bucket) ∷ []) unit persisting ≡ modes_of (done ++ unit ∷ [])
  set_behind [] all = ap (λ o. cond (is_eq o) ((unit, persisting) ∷ []) ((unit, first_bucket) ∷ [])) (tied_itself text_total unit)
  set_behind (d ∷ ds) all =
      ap (λ o. cond (is_eq o) ((d, persisting) ∷ (modes_of ds ++ (unit, first_bucket) ∷ [])) ((d, persisting) ∷ with_bucket (modes_of ds ++ (unit, first_bucket) ∷ []) unit persisting)) (above d unit all.0)
      ∙ ap (λ xs. (d, persisting) ∷ xs) (set_behind ds all.1)

  -- it is touched, and made persistent
  pub persisted : (done : List Text) (old mid new : Storage) → AllBelow unit done → old.buckets ≡ modes_of done → mid ≡ record old { buckets = with_unit old.buckets unit }
      → new ≡ changed mid unit (record (bucket_at mid.buckets unit) { persistent = true }) → new.buckets ≡ modes_of (done ++ unit ∷ [])
  persisted done old mid new all is touched set =
      let there : mid.buckets ≡ modes_of done ++ (unit, first_bucket) ∷ [] =
      ap (λ (s : Storage). s.buckets) touched ∙ (ap (λ bs. with_unit bs unit) is ∙ (ap (λ t. unit_by t (modes_of done) unit) (none_there done all) ∙ put_behind done all)) in
      ap (λ (s : Storage). s.buckets) set
      ∙ (ap (λ bs. with_bucket bs unit (record (bucket_at bs unit) { persistent = true })) there
      ∙ (ap (λ o. with_bucket (modes_of done ++ (unit, first_bucket) ∷ []) unit (record (unwrap_or o first_bucket) { persistent = true })) (found_behind done all)
      ∙ set_behind done all))
