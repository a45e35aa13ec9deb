-- Places that tie are the same, and what stands at a place after a change of the rows.
use Rattle.std.proofs.Common.{◌≡◌, ◌≢◌, ◌⊎◌, Bool, true, false, cond, not, [], ◌∷◌, Option, Some, None, option_map, refl, sym, ap, ◌∙◌, inl, inr}
use Rattle.std.specs.FinMap.Entries.{find, find-put, find-where_key}
use Rattle.std.specs.Ordering.{is_eq, eq_by_cmp, ordering_then}
use Rattle.std.specs.declared.cmp.Ordering.{Ordering}
use Rattle.std.specs.declared.cmp.Ordering.TheVariants.{Less, Equal, Greater}
use Rattle.std.specs.Cmp.{IsTotalOrder, on_total, then_total, tied_itself}
use Rattle.std.specs.Cmp.Lexicographic.{nat_list_cmp_total, lists_total, slice_cmp}
use Rattle.std.specs.Ordering.{nat_cmp}
use Rattle.std.specs.FinMap.{slice_cmp-IsAntisymmetric, nat_cmp-IsAntisymmetric}
use Rattle.std.proofs.lemmas.Bool.{cases_Bool, false≢true}
use Rattle.opfs_base.specs.Places.{Place, place_cmp, is_within}
use Rattle.opfs_machine.specs.declared.state.FileRow.{FileRow}
use Rattle.opfs_machine.specs.declared.state.Row.{Row}
use Rattle.opfs_machine.specs.declared.state.Row.TheVariants as row
use Rattle.opfs_machine.specs.declared.state.State.{State}
use Rattle.opfs_machine.specs.Rows.{Rows, row_at, file_at, file_of, with_row, with_file, without, change_at, changed_row}

pub place_total : IsTotalOrder place_cmp
place_total = then_total (on_total (λ (p : Place). p.0) nat_list_cmp_total) (on_total (λ (p : Place). p.1) (lists_total nat_list_cmp_total))

pub exact_places : (a b : Place) → place_cmp a b ≡ Equal → a ≡ b
exact_places a b h =
    elim (slice_cmp nat_cmp a.0 b.0) as (λ o. slice_cmp nat_cmp a.0 b.0 ≡ o → ordering_then o (slice_cmp (slice_cmp nat_cmp) a.1 b.1) ≡ Equal → a ≡ b) [
      | Less ↦ λ is n. cc
      | Equal ↦ λ is n.
          let first = slice_cmp-IsAntisymmetric nat_cmp-IsAntisymmetric a.0 b.0 is in
          let second = slice_cmp-IsAntisymmetric (slice_cmp-IsAntisymmetric nat_cmp-IsAntisymmetric) a.1 b.1 n in
          λ i. (first i, second i)
      | Greater ↦ λ is n. cc
    ] refl h

tied : (o : Ordering) → is_eq o ≡ true → o ≡ Equal
tied Less h = cc
tied Equal h = refl
tied Greater h = cc

pub same_place : (a b : Place) → eq_by_cmp place_cmp a b ≡ true → a ≡ b
same_place a b h = exact_places a b (tied (place_cmp a b) h)

pub place_itself : (a : Place) → eq_by_cmp place_cmp a a ≡ true
place_itself a = ap is_eq (tied_itself place_total a)

pub place_apart : (a b : Place) → a ≢ b → eq_by_cmp place_cmp a b ≡ false
place_apart a b apart = elim (cases_Bool (eq_by_cmp place_cmp a b)) [ inl same ↦ absurd (apart (same_place a b same)) | inr other ↦ other ]

pub same_or_apart : (a b : Place) → (a ≡ b) ⊎ (a ≢ b)
same_or_apart a b = elim (cases_Bool (eq_by_cmp place_cmp a b)) [
  | inl same ↦ inl (same_place a b same)
  | inr other ↦ inr (λ e. false≢true (sym other ∙ ap (eq_by_cmp place_cmp a) (sym e) ∙ place_itself a))
]

module _ {F : Type 0} (change : FileRow F → FileRow F) where
  abbrev change_by : Place × Row F → Rows F → Rows F → Bool → Rows F
  change_by e es more b = elim b [ true ↦ (e.0, changed_row change e.1) ∷ es | false ↦ e ∷ more ]

  -- The row at the place that is changed.
  pub find-changed : (p : Place) (es : Rows F) → find place_cmp p (change_at p change es) ≡ option_map (changed_row change) (find place_cmp p es)
  find-changed p [] = refl
  find-changed p (e ∷ es) =
      elim (eq_by_cmp place_cmp p e.0) as (λ b. eq_by_cmp place_cmp p e.0 ≡ b
      → find place_cmp p (change_by e es (change_at p change es) b) ≡ option_map (changed_row change) (cond b (Some e.1) (find place_cmp p es))) [
        | true ↦ λ is. ap (λ b. cond b (Some (changed_row change e.1)) (find place_cmp p es)) is
        | false ↦ λ is. ap (λ b. cond b (Some e.1) (find place_cmp p (change_at p change es))) is ∙ find-changed p es
      ] refl

  -- The row at another place.
  pub find-other : (p q : Place) (es : Rows F) → p ≢ q → find place_cmp q (change_at p change es) ≡ find place_cmp q es
  find-other p q [] apart = refl
  find-other p q (e ∷ es) apart =
      elim (eq_by_cmp place_cmp p e.0) as (λ b. eq_by_cmp place_cmp p e.0 ≡ b
      → find place_cmp q (change_by e es (change_at p change es) b) ≡ find place_cmp q (e ∷ es)) [
        | true ↦ λ is.
            let here = place_apart q e.0 (λ t. apart (same_place p e.0 is ∙ sym t)) in
            ap (λ b. cond b (Some (changed_row change e.1)) (find place_cmp q es)) here ∙ sym (ap (λ b. cond b (Some e.1) (find place_cmp q es)) here)
        | false ↦ λ is. ap (cond (eq_by_cmp place_cmp q e.0) (Some e.1)) (find-other p q es apart)
      ] refl

file_of-changed : {F : Type 0} (change : FileRow F → FileRow F) (r : Option (Row F)) → file_of (option_map (changed_row change) r) ≡ option_map change (file_of r)
file_of-changed change None = refl
file_of-changed change (Some row.Directory) = refl
file_of-changed change (Some (row.File f)) = refl

pub file-changed : {F R : Type 0} (s : State F R) (p : Place) (change : FileRow F → FileRow F) → file_at (with_file s p change) p ≡ option_map change (file_at s p)
file-changed s p change = ap file_of (find-changed change p s.rows) ∙ file_of-changed change (row_at s p)

pub file-other : {F R : Type 0} (s : State F R) (p q : Place) (change : FileRow F → FileRow F) → p ≢ q → file_at (with_file s p change) q ≡ file_at s q
file-other s p q change apart = ap file_of (find-other change p q s.rows apart)

-- A row that is put.
pub row-put : {F R : Type 0} (s : State F R) (p q : Place) (r : Row F) → row_at (with_row s p r) q ≡ cond (eq_by_cmp place_cmp q p) (Some r) (row_at s q)
row-put s p q r = find-put place_cmp place_total q p r s.rows

pub row-without : {F R : Type 0} (s : State F R) (p q : Place) → row_at (without s p) q ≡ cond (not (is_within p q)) (row_at s q) None
row-without s p q = find-where_key place_cmp (λ x. not (is_within p x)) q (λ x e. ap (λ y. not (is_within p y)) (sym (exact_places q x e))) s.rows
