-- Evictions: what stays of a unit while others are cleared, and what a party sees of it.
use Rattle.std.proofs.Common.{◌≡◌, ◌&&◌, ◌||◌, Bool, true, false, cond, not, List, [], ◌∷◌, filter, filter_map, fold, is_none, Option, Some, None, refl, sym, ap, ◌∙◌}
use Rattle.std.specs.List.{list_any, list_all, cons_option}
use Rattle.std.specs.Cmp.Lexicographic.{same_text as equal_texts}
use Rattle.opfs_base.specs.Texts.{Text, same_text}
use Rattle.opfs_base.specs.Places.{Place, is_within}
use Rattle.opfs_machine.specs.declared.own.Own.{Own}
use Rattle.opfs_machine.specs.declared.state.Party.{Party}
use Rattle.opfs_machine.specs.declared.state.Row.{Row}
use Rattle.opfs_machine.specs.declared.state.State.{State}
use Rattle.opfs_machine.specs.Alone.{is_partys}
use Rattle.opfs_machine.specs.Rows.{taken_lock}
use Rattle.opfs_base.specs.Measures.{is_root}
use Rattle.opfs_machine.specs.Steps.{evicted}
use Rattle.opfs_machine.specs.Sums.{is_persistent}
use Rattle.opfs_machine.specs.Victims.{root_unit, root_units, none_taken, is_callers}
use Rattle.opfs_laws.proofs.separation.Alike.{Alike}
use Rattle.opfs_laws.proofs.separation.Fronts.{May}
use Rattle.opfs_laws.proofs.separation.Small.{InOrder, without-ordered, without-both, without-apart}

-- What is asked of a unit that is evicted.
pub record Evictable (s : State Text Own) (unit : Text) : Type 0 where
  pub root : list_any (same_text unit) (root_units s) ≡ true
  pub best_effort : not (is_persistent s unit) ≡ true
  pub unlocked : none_taken s unit ≡ true

pub may-evict : (s : State Text Own) (caller : Option Text) (unit : Text) → May s caller unit → Evictable s unit
may-evict s caller unit may =
    let a = not (is_persistent s unit) in
    let b = not (is_callers caller unit) in
    let front = both_first a b (none_taken s unit) may.candidate in
    record { root = may.root; best_effort = front; unlocked = both_last a b (none_taken s unit) may.candidate }
  where
    both_first : (a b c : Bool) → (a && b && c) ≡ true → a ≡ true
    both_first true b c h = refl
    both_first false b c h = cc

    both_last : (a b c : Bool) → (a && b && c) ≡ true → c ≡ true
    both_last true true c h = h
    both_last true false c h = cc
    both_last false b c h = cc

pub may-others : (s : State Text Own) (caller : Option Text) (unit : Text) → May s caller unit → is_callers caller unit ≡ false
may-others s caller unit may = middle (not (is_persistent s unit)) (is_callers caller unit) (none_taken s unit) may.candidate
  where
    middle : (a b c : Bool) → (a && not b && c) ≡ true → b ≡ false
    middle true true c h = cc
    middle true false c h = refl
    middle false b c h = cc

abbrev Entry : Type 0
Entry = Place × Row Text

abbrev entry_unlocked : Text → Entry → Bool
entry_unlocked unit e = not (same_text unit e.0.0) || is_none (taken_lock e.1)

abbrev root_by : Bool → Entry → Option Text
root_by b e = elim b [ true ↦ Some e.0.0 | false ↦ None ]

-- A filter that keeps all rows of a unit.
module _ (unit : Text) (keep : Entry → Bool) (keeps : (e : Entry) → keep e ≡ false → same_text unit e.0.0 ≡ false) where
  dropped_root : (e : Entry) (units : List Text) → same_text unit e.0.0 ≡ false → list_any (same_text unit) (cons_option (root_unit e) units) ≡ list_any (same_text unit) units
  dropped_root e units out =
      elim (is_root e.0) as (λ b. list_any (same_text unit) (cons_option (root_by b e) units) ≡ list_any (same_text unit) units) [
        | true ↦ ap (λ b. b || list_any (same_text unit) units) out
        | false ↦ refl
      ]

  kept_root : (e : Entry) (a b : List Text) → list_any (same_text unit) a ≡ list_any (same_text unit) b → list_any (same_text unit) (cons_option (root_unit e) a) ≡ list_any (same_text unit) (cons_option (root_unit e) b)
  kept_root e a b is =
      elim (is_root e.0) as (λ c. list_any (same_text unit) (cons_option (root_by c e) a) ≡ list_any (same_text unit) (cons_option (root_by c e) b)) [
        | true ↦ ap (λ c. same_text unit e.0.0 || c) is
        | false ↦ is
      ]

  pub roots-kept : (rows : List Entry) → list_any (same_text unit) (filter_map root_unit (filter keep rows)) ≡ list_any (same_text unit) (filter_map root_unit rows)
  roots-kept [] = refl
  roots-kept (e ∷ es) =
      let rest = roots-kept es in
      elim (keep e) as (λ b. keep e ≡ b → list_any (same_text unit) (filter_map root_unit (cond b (e ∷ filter keep es) (filter keep es))) ≡ list_any (same_text unit) (cons_option (root_unit e) (filter_map root_unit es))) [
        | true ↦ λ is. kept_root e (filter_map root_unit (filter keep es)) (filter_map root_unit es) rest
        | false ↦ λ is. rest ∙ sym (dropped_root e (filter_map root_unit es) (keeps e is))
      ] refl

  pub locks-kept : (rows : List Entry) → list_all (entry_unlocked unit) (filter keep rows) ≡ list_all (entry_unlocked unit) rows
  locks-kept [] = refl
  locks-kept (e ∷ es) =
      let rest = locks-kept es in
      elim (keep e) as (λ b. keep e ≡ b → list_all (entry_unlocked unit) (cond b (e ∷ filter keep es) (filter keep es)) ≡ (entry_unlocked unit e && list_all (entry_unlocked unit) es)) [
        | true ↦ λ is. ap (λ b. entry_unlocked unit e && b) rest
        | false ↦ λ is. rest ∙ sym (ap (λ b. (not b || is_none (taken_lock e.1)) && list_all (entry_unlocked unit) es) (keeps e is))
      ] refl

within_other : (g unit : Text) (e : Entry) → same_text g unit ≡ false → not (is_within (g, []) e.0) ≡ false → same_text unit e.0.0 ≡ false
within_other g unit e apart inside =
    elim (same_text unit e.0.0) as (λ b. same_text unit e.0.0 ≡ b → b ≡ false) [
      | true ↦ λ same.
          let there : same_text g e.0.0 ≡ false = ap (same_text g) (sym (equal_texts unit e.0.0 (sym same))) ∙ apart in
          sym (ap (λ b. not (b && true)) there) ∙ inside
      | false ↦ λ same. refl
    ] refl

-- A unit may still be evicted once another is.
evictable-still : (s : State Text Own) (g unit : Text) → same_text g unit ≡ false → Evictable s unit → Evictable (evicted s g) unit
evictable-still s g unit apart h = record {
  root = roots-kept unit (λ e. not (is_within (g, []) e.0)) (λ e inside. within_other g unit e apart inside) s.rows ∙ h.root;
  best_effort = h.best_effort;
  unlocked = locks-kept unit (λ e. not (is_within (g, []) e.0)) (λ e inside. within_other g unit e apart inside) s.rows ∙ h.unlocked;
}

pub first_out : (a b : Bool) → (a || b) ≡ false → a ≡ false
first_out true b h = h
first_out false b h = refl

pub second_out : (a b : Bool) → (a || b) ≡ false → b ≡ false
second_out true b h = cc
second_out false b h = h

pub evictable-after : (gone : List Text) (s : State Text Own) (unit : Text) → list_any (λ g. same_text g unit) gone ≡ false → Evictable s unit → Evictable (fold evicted s gone) unit
evictable-after [] s unit apart h = h
evictable-after (g ∷ gone) s unit apart h =
    evictable-after gone (evicted s g) unit (second_out (same_text g unit) (list_any (λ x. same_text x unit) gone) apart)
    (evictable-still s g unit (first_out (same_text g unit) (list_any (λ x. same_text x unit) gone) apart) h)

module _ (p : Party) (s t : State Text Own) (a : Alike p s t) where
  mine_out : (unit : Text) → is_partys p unit ≡ true → (e : Entry) → is_partys p e.0.0 ≡ false → same_text unit e.0.0 ≡ false
  mine_out unit own e out =
      elim (same_text unit e.0.0) as (λ b. same_text unit e.0.0 ≡ b → b ≡ false) [
        | true ↦ λ same. sym (sym out ∙ ap (is_partys p) (sym (equal_texts unit e.0.0 (sym same))) ∙ own)
        | false ↦ λ same. refl
      ] refl

  -- The party sees the same of its unit.
  pub evictable-alike : (unit : Text) → is_partys p unit ≡ true → Evictable s unit → Evictable t unit
  evictable-alike unit own h = record {
    root =
        sym (roots-kept unit (λ e. is_partys p e.0.0) (mine_out unit own) t.rows)
        ∙ ap (λ rows. list_any (same_text unit) (filter_map root_unit rows)) (sym a.rows)
        ∙ roots-kept unit (λ e. is_partys p e.0.0) (mine_out unit own) s.rows
        ∙ h.root;
    best_effort = ap not (sym (a.modes unit own)) ∙ h.best_effort;
    unlocked =
        sym (locks-kept unit (λ e. is_partys p e.0.0) (mine_out unit own) t.rows)
        ∙ ap (list_all (entry_unlocked unit)) (sym a.rows)
        ∙ locks-kept unit (λ e. is_partys p e.0.0) (mine_out unit own) s.rows
        ∙ h.unlocked;
  }

  pub evicted-both : (unit : Text) → Alike p (evicted s unit) (evicted t unit)
  evicted-both unit =
      let b = without-both p s t a (unit, []) in
      record { rows = b.rows; modes = b.modes; tags = b.tags; agents = b.agents; quota = b.quota }

pub evicted-apart : (p : Party) (s : State Text Own) (unit : Text) → is_partys p unit ≡ false → Alike p (evicted s unit) s
evicted-apart p s unit out =
    let b = without-apart p s (unit, []) out in
    record { rows = b.rows; modes = b.modes; tags = b.tags; agents = b.agents; quota = b.quota }

pub evicted-ordered : (s : State Text Own) (unit : Text) → InOrder s → InOrder (evicted s unit)
evicted-ordered s unit h = without-ordered s (unit, []) h
