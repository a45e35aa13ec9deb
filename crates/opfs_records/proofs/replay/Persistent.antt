-- The persistent units, and one more of them.
use Rattle.std.proofs.Common.{◌≡◌, ℕ, ◌+◌, Bool, true, false, cond, ◌||◌, List, [], ◌∷◌, map, filter, Option, Some, None, is_some, unwrap_or, refl, sym, ap, subst, ◌∙◌, arith}
use Rattle.std.specs.Prelude.{T}
use Rattle.std.specs.List.{sum_by, list_any, AllByRecursion}
use Rattle.std.specs.Map.{lookup, set_value}
use Rattle.std.specs.BTreeMap.{insert_entry}
use Rattle.std.specs.Ordering.{is_eq, is_lt, match_ordering}
use Rattle.std.specs.declared.cmp.Ordering.{Ordering}
use Rattle.std.specs.declared.cmp.Ordering.TheVariants.{Less, Equal, Greater}
use Rattle.std.specs.FinMap.Entries.{put, by_order, is_sorted, below_all, is_sorted-put}
use Rattle.std.specs.Cmp.{tied_itself}
use Rattle.std.specs.Cmp.Lexicographic.{texts_ties}
use Rattle.std.proofs.lemmas.Bool.{false≢true, true≢false, and_parts}
use Rattle.std.proofs.lemmas.List.Sums.{sum_by-cons}
use Rattle.opfs_base.specs.Texts.{Text, same_text}
use Rattle.opfs_machine.specs.Ordered.{insert_by}
use Rattle.opfs_shed.specs.declared.shed.Bucket.{Bucket}
use Rattle.opfs_shed.specs.Buckets.{Buckets, text_cmp, is_unit, first_bucket, bucket_at, with_bucket, with_unit}
use Rattle.opfs_tree.proofs.Orders.{text_total}
use Rattle.opfs_records.specs.Replay.Kept.{persistent_bucket}
use Rattle.opfs_records.specs.Replay.Sums.{persistent_in}

abbrev pub AllPersistent : Buckets → Type 0
AllPersistent es = AllByRecursion (λ e. e.1 ≡ persistent_bucket) es

abbrev keys : Buckets → List Text
keys es = map (λ (e : Text × Bucket). e.0) es

-- All units in the map are persistent.
pub persistent_keys : (es : Buckets) → AllPersistent es → persistent_in es ≡ keys es
persistent_keys [] all = refl
persistent_keys (e ∷ es) all =
    let rest = filter (λ (x : Text × Bucket). x.1.persistent) es in
    ap (λ (b : Bucket). keys (cond b.persistent (e ∷ rest) rest)) all.0 ∙ ap (λ xs. e.0 ∷ xs) (persistent_keys es all.1)

mode_by : (unit : Text) (es : Buckets) → AllPersistent es → (bucket_at es unit).persistent ≡ list_any (same_text unit) (keys es)
mode_by unit [] all = refl
mode_by unit (e ∷ es) all =
    elim (is_unit unit e.0) as (λ t. same_text unit e.0 ≡ t → (unwrap_or (cond t (Some e.1) (lookup (is_unit unit) es)) first_bucket).persistent ≡ (same_text unit e.0 || list_any (same_text unit) (keys es))) [
      | true ↦ λ told. ap (λ (b : Bucket). b.persistent) all.0 ∙ sym (ap (λ t. t || list_any (same_text unit) (keys es)) told)
      | false ↦ λ told. mode_by unit es all.1 ∙ sym (ap (λ t. t || list_any (same_text unit) (keys es)) told)
    ] (texts_ties unit e.0)

pub mode_at : (unit : Text) (es : Buckets) → AllPersistent es → (bucket_at es unit).persistent ≡ list_any (same_text unit) (persistent_in es)
mode_at unit es all = mode_by unit es all ∙ ap (list_any (same_text unit)) (sym (persistent_keys es all))

-- ---- a unit that is there already

less : (o : Ordering) → is_lt o ≡ true → o ≡ Less
less Less h = refl
less Equal h = absurd (false≢true h)
less Greater h = absurd (false≢true h)

is_less : (o : Ordering) → o ≡ Less → is_eq o ≡ false
is_less o h = ap is_eq h

not_behind : (unit first : Text) (es : Buckets) → text_cmp unit first ≡ Less → below_all text_cmp first es ≡ true → list_any (same_text unit) (keys es) ≡ false
not_behind unit first [] lt below = refl
not_behind unit first (e ∷ es) lt below =
    let parts = and_parts (is_lt (text_cmp first e.0)) (below_all text_cmp first es) below in
    let here : same_text unit e.0 ≡ false = texts_ties unit e.0 ∙ is_less _ (text_total.trans unit first e.0 lt (less _ parts.0)) in
    ap (λ t. t || list_any (same_text unit) (keys es)) here ∙ not_behind unit first es lt parts.1

pub inserted_again : (unit : Text) (es : Buckets) → is_sorted text_cmp es ≡ true → list_any (same_text unit) (keys es) ≡ true → insert_by text_cmp unit (keys es) ≡ keys es
inserted_again unit [] sorted there = absurd (false≢true there)
inserted_again unit (e ∷ es) sorted there =
    let order = and_parts (below_all text_cmp e.0 es) (is_sorted text_cmp es) sorted in
    elim (text_cmp unit e.0) as (λ o. text_cmp unit e.0 ≡ o → (is_eq o || list_any (same_text unit) (keys es)) ≡ true → by_order o (unit ∷ keys (e ∷ es)) (keys (e ∷ es)) (e.0 ∷ insert_by text_cmp unit (keys es)) ≡ keys (e ∷ es)) [
      | Less ↦ λ told h. absurd (false≢true (sym (not_behind unit e.0 es told order.0) ∙ h))
      | Equal ↦ λ told h. refl
      | Greater ↦ λ told h. ap (λ xs. e.0 ∷ xs) (inserted_again unit es order.1 h)
    ] refl (ap (λ t. t || list_any (same_text unit) (keys es)) (sym (texts_ties unit e.0)) ∙ there)

-- ---- a unit that comes new

true_some : (o : Option Bucket) → is_some o ≡ false → o ≡ None
true_some None h = refl
true_some (Some b) h = absurd (true≢false h)

none_by : (unit : Text) (es : Buckets) → list_any (same_text unit) (keys es) ≡ false → lookup (is_unit unit) es ≡ None
none_by unit [] h = refl
none_by unit (e ∷ es) h =
    elim (same_text unit e.0) as (λ t. is_unit unit e.0 ≡ t → (t || list_any (same_text unit) (keys es)) ≡ false → cond (is_unit unit e.0) (Some e.1) (lookup (is_unit unit) es) ≡ None) [
      | true ↦ λ told g. absurd (true≢false g)
      | false ↦ λ told g. ap (λ t. cond t (Some e.1) (lookup (is_unit unit) es)) told ∙ none_by unit es g
    ] (sym (texts_ties unit e.0)) h

pub none_at : (unit : Text) (es : Buckets) → AllPersistent es → list_any (same_text unit) (persistent_in es) ≡ false → lookup (is_unit unit) es ≡ None
none_at unit es all h = none_by unit es (ap (list_any (same_text unit)) (sym (persistent_keys es all)) ∙ h)

not_here : {X : Type 0} (t : Bool) (x : X) (o : Option X) → cond t (Some x) o ≡ None → (t ≡ false) × (o ≡ None)
not_here true x o h = absurd cc
not_here false x o h = (refl, h)

same_unit : (unit : Text) → is_unit unit unit ≡ true
same_unit unit = ap is_eq (tied_itself text_total unit)

-- A unit that comes new, and then is changed, comes changed.
set_new : (unit : Text) (b : Bucket) (es : Buckets) → lookup (is_unit unit) es ≡ None → set_value (is_unit unit) (insert_entry text_cmp es unit first_bucket) b ≡ put text_cmp unit b es
set_new unit b [] none = ap (λ t. cond t ((unit, b) ∷ []) ((unit, first_bucket) ∷ [])) (same_unit unit)
set_new unit b (e ∷ es) none =
    let parts = not_here (is_unit unit e.0) e.1 (lookup (is_unit unit) es) none in
    elim (text_cmp unit e.0) as (λ o. is_eq o ≡ false → set_value (is_unit unit) (match_ordering o ((unit, first_bucket) ∷ e ∷ es) ((e.0, first_bucket) ∷ es) (e ∷ insert_entry text_cmp es unit first_bucket)) b
    ≡ by_order o ((unit, b) ∷ e ∷ es) ((e.0, b) ∷ es) (e ∷ put text_cmp unit b es)) [
      | Less ↦ λ t. ap (λ t. cond t ((unit, b) ∷ e ∷ es) ((unit, first_bucket) ∷ set_value (is_unit unit) (e ∷ es) b)) (same_unit unit)
      | Equal ↦ λ t. absurd (true≢false t)
      | Greater ↦ λ t. ap (λ t. cond t ((e.0, b) ∷ insert_entry text_cmp es unit first_bucket) (e ∷ set_value (is_unit unit) (insert_entry text_cmp es unit first_bucket) b)) parts.0
          ∙ ap (λ xs. e ∷ xs) (set_new unit b es parts.1)
    ] parts.0

lookup_new : (unit : Text) (es : Buckets) → lookup (is_unit unit) es ≡ None → lookup (is_unit unit) (insert_entry text_cmp es unit first_bucket) ≡ Some first_bucket
lookup_new unit [] none = ap (λ t. cond t (Some first_bucket) None) (same_unit unit)
lookup_new unit (e ∷ es) none =
    let parts = not_here (is_unit unit e.0) e.1 (lookup (is_unit unit) es) none in
    elim (text_cmp unit e.0) as (λ o. is_eq o ≡ false → lookup (is_unit unit) (match_ordering o ((unit, first_bucket) ∷ e ∷ es) ((e.0, first_bucket) ∷ es) (e ∷ insert_entry text_cmp es unit first_bucket)) ≡ Some first_bucket) [
      | Less ↦ λ t. ap (λ t. cond t (Some first_bucket) (lookup (is_unit unit) (e ∷ es))) (same_unit unit)
      | Equal ↦ λ t. absurd (true≢false t)
      | Greater ↦ λ t. ap (λ t. cond t (Some e.1) (lookup (is_unit unit) (insert_entry text_cmp es unit first_bucket))) parts.0 ∙ lookup_new unit es parts.1
    ] parts.0

abbrev unit_by : Bool → Buckets → Text → Buckets
unit_by t es unit = elim t [ true ↦ es | false ↦ insert_entry text_cmp es unit first_bucket ]

pub touched_new : (unit : Text) (es : Buckets) → lookup (is_unit unit) es ≡ None → with_unit es unit ≡ insert_entry text_cmp es unit first_bucket
touched_new unit es none = ap (λ (o : Option Bucket). unit_by (is_some o) es unit) none

-- The map with one more persistent unit.
pub persisted : (unit : Text) (es new : Buckets) (b : Bucket) → lookup (is_unit unit) es ≡ None → b ≡ record (bucket_at (with_unit es unit) unit) { persistent = true } → new ≡ with_bucket (with_unit es unit) unit b
    → new ≡ put text_cmp unit persistent_bucket es
persisted unit es new b none is now =
    let touched = touched_new unit es none in
    let first : bucket_at (with_unit es unit) unit ≡ first_bucket = ap (λ xs. bucket_at xs unit) touched ∙ ap (λ (o : Option Bucket). unwrap_or o first_bucket) (lookup_new unit es none) in
    let mode : b ≡ persistent_bucket = is ∙ ap (λ (x : Bucket). record x { persistent = true }) first in
    now ∙ ap (λ xs. with_bucket xs unit b) touched ∙ set_new unit b es none ∙ ap (λ (x : Bucket). put text_cmp unit x es) mode

pub all_persistent_put : (unit : Text) (es : Buckets) → AllPersistent es → AllPersistent (put text_cmp unit persistent_bucket es)
all_persistent_put unit [] all = (refl, tt)
all_persistent_put unit (e ∷ es) all =
    elim (text_cmp unit e.0) as (λ o. AllPersistent (by_order o ((unit, persistent_bucket) ∷ e ∷ es) ((e.0, persistent_bucket) ∷ es) (e ∷ put text_cmp unit persistent_bucket es))) [
      | Less ↦ (refl, all)
      | Equal ↦ (refl, all.1)
      | Greater ↦ (all.0, all_persistent_put unit es all.1)
    ]

keys_put : (unit : Text) (es : Buckets) → keys (put text_cmp unit persistent_bucket es) ≡ insert_by text_cmp unit (keys es)
keys_put unit [] = refl
keys_put unit (e ∷ es) =
    elim (text_cmp unit e.0) as (λ o. keys (by_order o ((unit, persistent_bucket) ∷ e ∷ es) ((e.0, persistent_bucket) ∷ es) (e ∷ put text_cmp unit persistent_bucket es)) ≡ by_order o (unit ∷ keys (e ∷ es)) (keys (e ∷ es)) (e.0 ∷ insert_by text_cmp unit (keys es))) [
      | Less ↦ refl
      | Equal ↦ refl
      | Greater ↦ ap (λ xs. e.0 ∷ xs) (keys_put unit es)
    ]

pub persistent_put : (unit : Text) (es : Buckets) → AllPersistent es → persistent_in (put text_cmp unit persistent_bucket es) ≡ insert_by text_cmp unit (persistent_in es)
persistent_put unit es all =
    persistent_keys (put text_cmp unit persistent_bucket es) (all_persistent_put unit es all) ∙ keys_put unit es ∙ ap (insert_by text_cmp unit) (sym (persistent_keys es all))

sum_keys : (f : Text → ℕ) (unit : Text) (es : Buckets) → lookup (is_unit unit) es ≡ None → sum_by f (insert_by text_cmp unit (keys es)) ≡ f unit + sum_by f (keys es)
sum_keys f unit [] none = sum_by-cons f unit []
sum_keys f unit (e ∷ es) none =
    let parts = not_here (is_unit unit e.0) e.1 (lookup (is_unit unit) es) none in
    elim (text_cmp unit e.0) as (λ o. is_eq o ≡ false → sum_by f (by_order o (unit ∷ keys (e ∷ es)) (keys (e ∷ es)) (e.0 ∷ insert_by text_cmp unit (keys es))) ≡ f unit + sum_by f (keys (e ∷ es))) [
      | Less ↦ λ t. sum_by-cons f unit (keys (e ∷ es))
      | Equal ↦ λ t. absurd (true≢false t)
      | Greater ↦ λ t. omega (arith, sum_by-cons f e.0 (insert_by text_cmp unit (keys es)), sum_by-cons f e.0 (keys es), sum_keys f unit es parts.1)
    ] parts.0

pub sum_put : (f : Text → ℕ) (unit : Text) (es : Buckets) → AllPersistent es → lookup (is_unit unit) es ≡ None → sum_by f (persistent_in (put text_cmp unit persistent_bucket es)) ≡ f unit + sum_by f (persistent_in es)
sum_put f unit es all none =
    ap (sum_by f) (persistent_put unit es all ∙ ap (insert_by text_cmp unit) (persistent_keys es all)) ∙ sum_keys f unit es none ∙ ap (λ xs. f unit + sum_by f xs) (sym (persistent_keys es all))

pub again_at : (unit : Text) (es : Buckets) → AllPersistent es → is_sorted text_cmp es ≡ true → list_any (same_text unit) (persistent_in es) ≡ true → insert_by text_cmp unit (persistent_in es) ≡ persistent_in es
again_at unit es all sorted there =
    ap (insert_by text_cmp unit) (persistent_keys es all) ∙ inserted_again unit es sorted (ap (list_any (same_text unit)) (sym (persistent_keys es all)) ∙ there) ∙ sym (persistent_keys es all)

from_T : (b : Bool) → T b → b ≡ true
from_T true h = refl
from_T false h = absurd h

pub sorted_put : (unit : Text) (es : Buckets) → is_sorted text_cmp es ≡ true → is_sorted text_cmp (put text_cmp unit persistent_bucket es) ≡ true
sorted_put unit es sorted = from_T _ (is_sorted-put text_cmp text_total unit persistent_bucket es (subst T (sym sorted) tt))
