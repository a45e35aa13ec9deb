-- Evictions of others' units leave a caller's files in the tree.
use Rattle.std.proofs.Common.{◌≡◌, true, false, not, cond, ◌&&◌, List, [], ◌∷◌, ◌++◌, fold, Option, None, refl, sym, ap, ◌∙◌, inl, inr}
use Rattle.std.proofs.lemmas.Bool.{cases_Bool, true≢false}
use Rattle.std.specs.Cmp.Lexicographic.{same_text as equal_texts}
use Rattle.std.specs.FinMap.Entries.{find-where_key}
use Rattle.opfs_base.specs.Places.{Place, place_cmp, is_within}
use Rattle.opfs_base.specs.Texts.{Text, same_text}
use Rattle.opfs_laws.proofs.Spots.{exact_places}
use Rattle.opfs_machine.specs.Victims.{is_callers}
use Rattle.opfs_tree.specs.declared.row.Row.{Row}
use Rattle.opfs_tree.specs.Rows.{Rows, row_at, without}
use Rattle.opfs_desk_steps.specs.BookSteps.Clearing.{cleared_from}

tree-without : (t : Rows) (p q : Place) → row_at q (without p t) ≡ cond (not (is_within p q)) (row_at q t) None
tree-without t p q = find-where_key place_cmp (λ x. not (is_within p x)) q (λ x e. ap (λ y. not (is_within p y)) (sym (exact_places q x e))) t

apart : (key : Option Text) (unit : Text) (q : Place) → is_callers key q.0 ≡ true → is_callers key unit ≡ false → is_within (unit, []) q ≡ false
apart key unit q own other = elim (cases_Bool (same_text unit q.0)) [
  | inl same ↦ absurd (true≢false (sym own ∙ ap (is_callers key) (sym (equal_texts unit q.0 (sym same))) ∙ other))
  | inr is ↦ ap (λ b. b && true) is
]

pub file-stays : (key : Option Text) (q : Place) → is_callers key q.0 ≡ true → (units : List Text) → ((front : List Text) (unit : Text) (rest : List Text) → units ≡ front ++ unit ∷ rest → is_callers key unit ≡ false)
    → (t : Rows) → row_at q (fold cleared_from t units) ≡ row_at q t
file-stays key q own [] others t = refl
file-stays key q own (unit ∷ units) others t =
    file-stays key q own units (λ front x rest is. others (unit ∷ front) x rest (ap (λ (xs : List Text). unit ∷ xs) is)) (without (unit, []) t)
    ∙ (tree-without t (unit, []) q ∙ ap {B = Option Row} (λ b. cond (not b) (row_at q t) None) (apart key unit q own (others [] unit units refl)))
