-- How many bytes units take, and the sums over one unit.
use Rattle.std.proofs.Common.{◌≡◌, ◌==◌, ◌&&◌, ◌||◌, ◌+◌, ◌<◌, ◌≤◌, ◌^◌, ℕ, Bool, true, false, cond, not, List, [], ◌∷◌, length, drop, map, filter, sum_by, refl, sym, ap, ◌∙◌, arith}
use Rattle.std.specs.List.{list_any}
use Rattle.std.proofs.lemmas.List.{length-drop}
use Rattle.std.proofs.lemmas.List.Sums.{take_while-cons, sum_by-cons}
use Rattle.opfs_base.specs.Texts.{Text, same_text}
use Rattle.opfs_base.specs.Places.{begins_with}
use Rattle.opfs_base.specs.Units.{hash_sign, default_bucket, origin_of, bucket_of}
use Rattle.opfs_base.proofs.UnitLemmas.{origin_of-plain}
use Rattle.opfs_tree.specs.declared.row.Row.{Row}
use Rattle.opfs_tree.specs.Rows.{Rows, rows_within}
use Rattle.opfs_tree.specs.Units.{UnitRows, unit_rows, below, values}
use Rattle.opfs_base.specs.Measures.{unit_bytes}
use Rattle.opfs_tree.specs.declared.row.Row.TheVariants as row
use Rattle.opfs_tree.specs.Sums.{charge_in, row_charge, entries_within}
use Rattle.opfs_tree.proofs.Orders.{tied_texts}
use Rattle.opfs_tree.proofs.Places.{rows_in_unit}

abbrev is_sign : ℕ → Bool
is_sign byte = byte == hash_sign

abbrev has_sign : Text → Bool
has_sign text = list_any is_sign text

-- a text with a sign is longer than its origin
origin_shorter : (text : Text) → has_sign text ≡ true → length (origin_of text) < length text
origin_shorter [] h = absurd cc
origin_shorter (x ∷ xs) h =
    let P = λ (t : Bool). (t || has_sign xs) ≡ true → length (cond (not t) (x ∷ origin_of xs) []) < length (x ∷ xs) in
    let both : length (cond (not (is_sign x)) (x ∷ origin_of xs) []) < length (x ∷ xs) = elim (is_sign x) as P [ true ↦ λ h. omega arith | false ↦ λ h. omega (arith, origin_shorter xs h) ] h in
    rw take_while-cons both

abbrev bucket_by : Bool → Text → Text
bucket_by test unit = elim test [ true ↦ drop (length (origin_of unit) + 1) unit | false ↦ default_bucket ]

behind_by : (test : Bool) (unit : Text) → has_sign unit ≡ test → length (origin_of unit) < length unit → bucket_by test unit ≡ drop (length (origin_of unit) + 1) unit
behind_by true unit told lt = refl
behind_by false unit told lt = absurd (omega (arith, lt, ap length (origin_of-plain unit told)))

pub bucket_behind : (unit : Text) → length (origin_of unit) < length unit → bucket_of unit ≡ drop (length (origin_of unit) + 1) unit
bucket_behind unit lt = behind_by (has_sign unit) unit refl lt

none_by : (test : Bool) (unit : Text) → has_sign unit ≡ test → length unit ≤ length (origin_of unit) → bucket_by test unit ≡ default_bucket
none_by true unit told le = absurd (omega (arith, le, origin_shorter unit told))
none_by false unit told le = refl

pub bucket_none : (unit : Text) → length unit ≤ length (origin_of unit) → bucket_of unit ≡ default_bucket
bucket_none unit le = none_by (has_sign unit) unit refl le

pub bytes_behind : (unit : Text) → length (origin_of unit) < length unit → length unit ≡ unit_bytes unit
bytes_behind unit lt = omega (arith, ap length (bucket_behind unit lt), length-drop (length (origin_of unit) + 1) unit, lt)

pub bytes_none : (unit : Text) → length unit ≤ length (origin_of unit) → length (origin_of unit) + 8 ≡ unit_bytes unit
bytes_none unit le = omega (arith, ap length (bucket_none unit le))

-- ---- the rows of one unit with their places

charge_is : (u : Text) (p : List Text) (r : Row) → row_charge ((u, p), r) ≡ charge_in (unit_bytes u) p r
charge_is u [] row.Dir = refl
charge_is u (name ∷ names) row.Dir = refl
charge_is u [] (row.File f) = refl
charge_is u (name ∷ names) (row.File f) = refl

module _ (k : Text) (p : List Text) where
  charge_within : (rows : Rows) → sum_by row_charge (entries_within (k, p) rows) ≡ sum_by (λ (e : List Text × Row). charge_in (unit_bytes k) e.0 e.1) (below p (unit_rows k rows))
  charge_within [] = refl
  charge_within (e ∷ es) =
      let mine = filter (λ x. same_text k x.0.0) es in
      let inside = entries_within (k, p) es in
      let cost = λ (u : Text) (x : List Text × Row). charge_in (unit_bytes u) x.0 x.1 in
      let own = below p (unit_rows k es) in
      elim (same_text k e.0.0) as (λ b. same_text k e.0.0 ≡ b → sum_by row_charge (cond (b && begins_with p e.0.1) (e ∷ inside) inside) ≡ sum_by (cost k) (below p (map (λ x. (x.0.1, x.1)) (cond b (e ∷ mine) mine)))) [
        | true ↦ λ is. elim (begins_with p e.0.1) as (λ b. sum_by row_charge (cond b (e ∷ inside) inside) ≡ sum_by (cost k) (cond b ((e.0.1, e.1) ∷ own) own)) [
          | true ↦
              let same : e.0.0 ≡ k = sym (tied_texts k e.0.0 is) in
              sum_by-cons row_charge e inside ∙ (ap (λ n. row_charge e + n) (charge_within es) ∙ (ap (λ n. n + sum_by (cost k) own) (charge_is e.0.0 e.0.1 e.1) ∙ (ap (λ u. cost u (e.0.1, e.1) + sum_by (cost k) own) same ∙ sym (sum_by-cons (cost k) (e.0.1, e.1) own))))
          | false ↦ charge_within es
        ]
        | false ↦ λ is. charge_within es
      ] refl

  module _ (rows : Rows) (es : UnitRows) (is : es ≡ unit_rows k rows) where
    pub sum_in_unit : (f : Row → ℕ) → sum_by f (values (below p es)) ≡ sum_by f (rows_within (k, p) rows)
    sum_in_unit f = ap (λ xs. sum_by f (values (below p xs))) is ∙ ap (sum_by f) (sym (rows_in_unit k p rows))

    pub charge_in_unit : (unit : ℕ) → unit ≡ unit_bytes k → sum_by (λ (e : List Text × Row). charge_in unit e.0 e.1) (below p es) ≡ sum_by row_charge (entries_within (k, p) rows)
    charge_in_unit unit same =
        ap (λ n. sum_by (λ (e : List Text × Row). charge_in n e.0 e.1) (below p es)) same
        ∙ (ap (λ xs. sum_by (λ (e : List Text × Row). charge_in (unit_bytes k) e.0 e.1) (below p xs)) is ∙ sym (charge_within rows))

pub small_too : (a b : ℕ) → a ≡ b → b < 2 ^ 64 → a < 2 ^ 64
small_too a b e lt = omega arith
