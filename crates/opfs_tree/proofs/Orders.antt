-- The orders of texts, paths and places.
use Rattle.std.proofs.Common.{◌≡◌, ◌&&◌, true, List, [], ◌∷◌, refl, sym, ap, ◌∙◌}
use Rattle.std.specs.Ordering.{is_eq, is_le, ordering_then, ordering_reverse}
use Rattle.std.specs.declared.cmp.Ordering.TheVariants.{Less, Equal, Greater}
use Rattle.std.specs.Cmp.{IsTotalOrder, on_total, then_total, first_so, second_so}
use Rattle.std.specs.Cmp.Lexicographic.{nat_list_cmp_total, lists_total, texts_ties}
use Rattle.std.specs.Cmp.Lexicographic as lists
use Rattle.std.specs.FinMap.{slice_cmp-IsAntisymmetric, nat_cmp-IsAntisymmetric}
use Rattle.opfs_base.specs.Texts.{Text, same_text}
use Rattle.opfs_base.specs.Places.{Place, place_cmp, begins_with}
use Rattle.opfs_tree.specs.Units.{text_cmp, path_cmp}

pub text_total : IsTotalOrder text_cmp
text_total = nat_list_cmp_total

pub path_total : IsTotalOrder path_cmp
path_total = lists_total nat_list_cmp_total

pub place_total : IsTotalOrder place_cmp
place_total = then_total (on_total (λ (p : Place). p.0) text_total) (on_total (λ (p : Place). p.1) path_total)

-- Texts that tie are the same.
pub tied_texts : (x y : Text) → same_text x y ≡ true → x ≡ y
tied_texts x y h = lists.same_text x y (sym h)

-- What is below a path stands behind it.
pub begins_le : (p a : List Text) → begins_with p a ≡ true → is_le (path_cmp p a) ≡ true
begins_le [] [] h = refl
begins_le [] (y ∷ a) h = refl
begins_le (x ∷ p) [] h = cc
begins_le (x ∷ p) (y ∷ a) h =
    elim (text_cmp x y) as (λ o. is_eq o ≡ true → is_le (ordering_then o (path_cmp p a)) ≡ true) [
      | Less ↦ λ e. cc
      | Equal ↦ λ e. begins_le p a (second_so _ _ h)
      | Greater ↦ λ e. cc
    ] (sym (texts_ties x y) ∙ first_so _ _ h)

-- What stands between a path and a path below it is below it too.
pub convex : (p a b : List Text) → is_le (path_cmp p a) ≡ true → path_cmp a b ≡ Less → begins_with p b ≡ true → begins_with p a ≡ true
convex [] a b ge lt h = refl
convex (x ∷ p) [] b ge lt h = cc
convex (x ∷ p) (z ∷ a) [] ge lt h = cc
convex (x ∷ p) (z ∷ a) (y ∷ b) ge lt h =
    let same : y ≡ x = sym (tied_texts x y (first_so _ _ h)) in
    let below : ordering_then (text_cmp z x) (path_cmp a b) ≡ Less = ap (λ t. ordering_then (text_cmp z t) (path_cmp a b)) (sym same) ∙ lt in
    elim (text_cmp x z) as (λ o. text_cmp x z ≡ o → is_le (ordering_then o (path_cmp p a)) ≡ true → ordering_then (ordering_reverse o) (path_cmp a b) ≡ Less → (same_text x z && begins_with p a) ≡ true) [
      | Less ↦ λ is g l. cc
      | Equal ↦ λ is g l. ap (λ t. t && begins_with p a) (texts_ties x z ∙ ap is_eq is) ∙ convex p a b g l (second_so _ _ h)
      | Greater ↦ λ is g l. cc
    ] refl ge (ap (λ o. ordering_then o (path_cmp a b)) (sym (text_total.antisymm z x)) ∙ below)

-- Paths that tie are the same.
pub exact_paths : (p q : List Text) → path_cmp p q ≡ Equal → p ≡ q
exact_paths = slice_cmp-IsAntisymmetric (slice_cmp-IsAntisymmetric nat_cmp-IsAntisymmetric)

pub exact_texts : (x y : Text) → text_cmp x y ≡ Equal → x ≡ y
exact_texts = slice_cmp-IsAntisymmetric nat_cmp-IsAntisymmetric
