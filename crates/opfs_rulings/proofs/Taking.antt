-- Units with a taken lock, and what is put into a set in order.
use Rattle.std.proofs.Common.{◌≡◌, ℕ, suc, ◌<◌, ◌&&◌, ◌||◌, Bool, true, false, cond, not, List, [], ◌∷◌, refl, sym, ap, ◌∙◌, length, get_or, drop, is_none}
use Rattle.std.specs.List.{list_all}
use Rattle.std.specs.BTreeMap.{is_at}
use Rattle.std.specs.BTreeSet.{BTreeSet, contains, insert_key}
use Rattle.std.specs.Ordering.{nat_cmp, match_ordering}
use Rattle.std.specs.FinMap.Entries.{by_order}
use Rattle.std.specs.Cmp.Lexicographic.{slice_cmp, nat_list_eq_equiv}
use Rattle.std.specs.declared.cmp.Ordering.{Ordering}
use Rattle.std.specs.declared.cmp.Ordering.TheVariants.{Less, Equal, Greater}
use Rattle.opfs_base.specs.Places.{Place}
use Rattle.opfs_base.specs.Texts.{Text, same_text}
use Rattle.opfs_machine.specs.declared.state.Row.{Row}
use Rattle.opfs_machine.specs.Ordered.{insert_by}
use Rattle.opfs_machine.specs.Rows.{Rows, taken_lock}
use Rattle.opfs_rulings.specs.Known.{is_untaken}
use Rattle.opfs_rulings.proofs.Adding.{key_is}
use Rattle.opfs_rulings.proofs.Here.{drop_here}

-- A set takes a key in as a list in order does.
pub inserted : {A : Type 0} (R : A → A → Ordering) (x : A) (ys : List A) → insert_key R ys x ≡ insert_by R x ys
inserted R x [] = refl
inserted R x (y ∷ ys) =
    elim (R x y) as (λ o. match_ordering o (x ∷ y ∷ ys) (y ∷ ys) (y ∷ insert_key R ys x) ≡ by_order o (x ∷ y ∷ ys) (y ∷ ys) (y ∷ insert_by R x ys)) [
      | Less ↦ refl
      | Equal ↦ refl
      | Greater ↦ ap (λ zs. y ∷ zs) (inserted R x ys)
    ]

more_bool : (t o : Bool) → not (cond t true o) ≡ (not o && (not t || false))
more_bool true true = refl
more_bool true false = refl
more_bool false true = refl
more_bool false false = refl

and_parted : (a b c : Bool) → ((a && b) && c) ≡ (a && (b && c))
and_parted true b c = refl
and_parted false b c = refl

-- A set with one more unit, that of a row with a taken lock.
pub taken_more : (e : Place × Row Text) (k : Text) (old new : BTreeSet Text) → is_none (taken_lock e.1) ≡ false → k ≡ e.0.0
    → ((q : Text) → contains (slice_cmp nat_cmp) new q ≡ cond (is_at (slice_cmp nat_cmp k) q) true (contains (slice_cmp nat_cmp) old q))
    → (unit : Text) → not (contains (slice_cmp nat_cmp) new unit) ≡ (not (contains (slice_cmp nat_cmp) old unit) && is_untaken unit e)
taken_more e k old new taken copy added unit =
    ap not (added unit ∙ ap (λ t. cond t true (contains (slice_cmp nat_cmp) old unit)) (key_is k unit ∙ nat_list_eq_equiv.symm k unit ∙ ap (same_text unit) copy))
    ∙ more_bool (same_text unit e.0.0) (contains (slice_cmp nat_cmp) old unit)
    ∙ ap (λ n. not (contains (slice_cmp nat_cmp) old unit) && (not (same_text unit e.0.0) || n)) (sym taken)

-- One row more is looked at.
pub taken_next : (rows : Rows Text) (i : ℕ) (e : Place × Row Text) (old new : BTreeSet Text) → i < length rows → e ≡ get_or rows i e
    → ((unit : Text) → not (contains (slice_cmp nat_cmp) new unit) ≡ (not (contains (slice_cmp nat_cmp) old unit) && is_untaken unit e))
    → (unit : Text) → (not (contains (slice_cmp nat_cmp) old unit) && list_all (is_untaken unit) (drop i rows)) ≡ list_all (is_untaken unit) rows
    → (not (contains (slice_cmp nat_cmp) new unit) && list_all (is_untaken unit) (drop (suc i) rows)) ≡ list_all (is_untaken unit) rows
taken_next rows i e old new h is step unit before =
    ap (λ t. t && list_all (is_untaken unit) (drop (suc i) rows)) (step unit)
    ∙ and_parted (not (contains (slice_cmp nat_cmp) old unit)) (is_untaken unit e) (list_all (is_untaken unit) (drop (suc i) rows))
    ∙ ap (λ es. not (contains (slice_cmp nat_cmp) old unit) && list_all (is_untaken unit) es) (sym (drop_here rows i e h is))
    ∙ before
