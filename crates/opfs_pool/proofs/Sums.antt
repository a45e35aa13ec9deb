-- The blocks of all shares, as shares change.
use Rattle.std.proofs.Common.{◌≡◌, ℕ, ◌+◌, ◌-◌, ◌<◌, ◌≤◌, ◌^◌, Bool, true, false, Option, Some, None, is_some, unwrap_or, option_map, refl, sym, ap, ◌∙◌, arith}
use Rattle.std.specs.Map.{lookup, keys_of}
use Rattle.std.specs.BTreeMap.{insert_entry}
use Rattle.std.specs.List.Sorted.{IsStrictlySortedBy}
use Rattle.std.specs.Cmp.Lexicographic.{nat_list_cmp_total}
use Rattle.std.proofs.lemmas.Map.Entries.{sum_by-set_value, sum_by-insert_entry}
use Rattle.opfs_base.specs.Texts.{Text}
use Rattle.opfs_pool.specs.declared.pool.Share.{Share}
use Rattle.opfs_pool.specs.Shares.{Shares, text_cmp, is_unit, has_share, first_share, share_at, held, with_share}
use Rattle.opfs_pool.proofs.Values.{set_value-none, set_value-same}

abbrev blocks_of : Share → ℕ
blocks_of share = share.blocks

pub held_found : (es : Shares) (unit : Text) (v share : Share) → lookup (is_unit unit) es ≡ Some v → held (with_share es unit share) + v.blocks ≡ held es + share.blocks
held_found es unit v share found = sum_by-set_value blocks_of (is_unit unit) es v share found

none_from : {X : Type 0} (o : Option X) → is_some o ≡ false → o ≡ None
none_from None is_none = refl
none_from (Some x) is_none = absurd cc

-- a share that is changed, unless the unit has none and none comes
pub held_change : (es : Shares) (unit : Text) (share : Share) → (has_share es unit ≡ false → share.blocks ≡ 0)
    → held (with_share es unit share) + (share_at es unit).blocks ≡ held es + share.blocks
held_change es unit share empty =
    let P = λ (o : Option Share). o ≡ lookup (is_unit unit) es → held (with_share es unit share) + (unwrap_or o first_share).blocks ≡ held es + share.blocks in
    elim (lookup (is_unit unit) es) as P [
      | None ↦ λ told.
          let same : held (with_share es unit share) ≡ held es = ap held (set_value-none (is_unit unit) es share (sym told)) in
          let zero : share.blocks ≡ 0 = empty (sym (ap is_some told)) in
          omega arith
      | Some v ↦ λ told. held_found es unit v share (sym told)
    ] refl

absent_share : (es : Shares) (unit : Text) → has_share es unit ≡ false → share_at es unit ≡ first_share
absent_share es unit absent = ap (λ (o : Option Share). unwrap_or o first_share) (none_from (lookup (is_unit unit) es) absent)

pub held_raise : (es : Shares) (unit : Text) (n : ℕ) → has_share es unit ≡ true
    → held (with_share es unit (record (share_at es unit) { blocks = (share_at es unit).blocks + n })) ≡ held es + n
held_raise es unit n there =
    omega (arith, held_change es unit (record (share_at es unit) { blocks = (share_at es unit).blocks + n }) (λ absent. absurd cc))

pub held_lower : (es : Shares) (unit : Text) (n : ℕ) → n ≤ (share_at es unit).blocks
    → held (with_share es unit (record (share_at es unit) { blocks = (share_at es unit).blocks - n })) + n ≡ held es
held_lower es unit n enough =
    omega (arith, held_change es unit (record (share_at es unit) { blocks = (share_at es unit).blocks - n }) (λ absent. let none : (share_at es unit).blocks ≡ 0 = ap blocks_of (absent_share es unit absent) in omega arith))

pub held_clear : (es : Shares) (unit : Text) → held (with_share es unit first_share) + (share_at es unit).blocks ≡ held es
held_clear es unit = omega (arith, held_change es unit first_share (λ absent. refl))

pub held_mark : (es : Shares) (unit : Text) (candidate : Bool) → has_share es unit ≡ true
    → held (with_share es unit (record (share_at es unit) { candidate = candidate })) ≡ held es
held_mark es unit candidate there =
    omega (arith, held_change es unit (record (share_at es unit) { candidate = candidate }) (λ absent. absurd cc))

pub held_touch : (es : Shares) (unit : Text) → IsStrictlySortedBy text_cmp (keys_of es) → has_share es unit ≡ false → held (insert_entry text_cmp es unit first_share) ≡ held es
held_touch es unit ordered absent =
    let none : unwrap_or (option_map blocks_of (lookup (is_unit unit) es)) 0 ≡ 0 = ap (λ (o : Option Share). unwrap_or (option_map blocks_of o) 0) (none_from (lookup (is_unit unit) es) absent) in
    omega (arith, sum_by-insert_entry blocks_of nat_list_cmp_total es unit first_share ordered)

pub share_at-le : (es : Shares) (unit : Text) → (share_at es unit).blocks ≤ held es
share_at-le es unit = omega (arith, held_change es unit first_share (λ absent. refl))

-- ---- as the calls of a pool need them

same_share : (es : Shares) (unit : Text) → with_share es unit (share_at es unit) ≡ es
same_share es unit =
    elim (lookup (is_unit unit) es) as (λ (o : Option Share). lookup (is_unit unit) es ≡ o → with_share es unit (unwrap_or o first_share) ≡ es) [
      | None ↦ λ none. set_value-none (is_unit unit) es first_share none
      | Some v ↦ λ found. set_value-same (is_unit unit) es v found
    ] refl

-- a share that is raised, or lowered, by nothing
pub unchanged_share : (es : Shares) (unit : Text) (blocks : ℕ) → blocks ≡ (share_at es unit).blocks → with_share es unit (record (share_at es unit) { blocks = blocks }) ≡ es
unchanged_share es unit blocks same = ap (λ (b : ℕ). with_share es unit (record (share_at es unit) { blocks = b })) same ∙ same_share es unit

module _ (es es' : Shares) (unit : Text) (n count size : ℕ) where
  pub raise_fits : count ≡ held es → count ≤ size → size < 2 ^ 64 → held es + n ≤ size → (share_at es unit).blocks + n < 2 ^ 64
  raise_fits is within small room = omega (arith, share_at-le es unit)

  pub raised : has_share es unit ≡ true → es' ≡ with_share es unit (record (share_at es unit) { blocks = (share_at es unit).blocks + n }) → held es' ≡ held es + n
  raised there is = ap held is ∙ held_raise es unit n there

  pub lowered : n ≤ (share_at es unit).blocks → es' ≡ with_share es unit (record (share_at es unit) { blocks = (share_at es unit).blocks - n }) → held es' + n ≡ held es
  lowered enough is = ap (λ m. m + n) (ap held is) ∙ held_lower es unit n enough
