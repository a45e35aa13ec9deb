-- Places that tie are the same, and what stands at a place after a file was changed.
use Rattle.std.proofs.Common.{◌≡◌, ◌≢◌, Bool, true, false, cond, [], ◌∷◌, Some, option_map, is_some, refl, ap, ◌∙◌, inl, inr}
use Rattle.std.specs.FinMap.Entries.{find}
use Rattle.std.specs.Ordering.{is_eq, eq_by_cmp}
use Rattle.std.specs.declared.cmp.Ordering.{Ordering}
use Rattle.std.specs.declared.cmp.Ordering.TheVariants.{Less, Equal, Greater}
use Rattle.std.specs.Cmp.{tied_itself}
use Rattle.std.proofs.lemmas.Bool.{cases_Bool}
use Rattle.opfs_base.specs.Places.{Place, place_cmp}
use Rattle.opfs_machine.specs.declared.state.FileRow.{FileRow}
use Rattle.opfs_machine.specs.declared.state.Row.{Row as Line}
use Rattle.opfs_machine.specs.declared.state.Row.TheVariants as line
use Rattle.opfs_machine.specs.Rows.{Rows as Lines, change_at, changed_row, file_of}
use Rattle.opfs_tree.proofs.Closed.{exact_places}
use Rattle.opfs_tree.proofs.Orders.{place_total}

tied : (o : Ordering) → is_eq o ≡ true → o ≡ Equal
tied Less h = cc
tied Equal h = refl
tied Greater h = cc

pub same_place : (a b : Place) → eq_by_cmp place_cmp a b ≡ true → a ≡ b
same_place a b h = exact_places a b (tied (place_cmp a b) h)

pub place_itself : (a : Place) → eq_by_cmp place_cmp a a ≡ true
place_itself a = ap is_eq (tied_itself place_total a)

pub place_apart : (a b : Place) → a ≢ b → eq_by_cmp place_cmp a b ≡ false
place_apart a b apart = elim (cases_Bool (eq_by_cmp place_cmp a b)) [ inl same ↦ absurd (apart (same_place a b same)) | inr other ↦ other ]

module _ {F : Type 0} (change : FileRow F → FileRow F) (p : Place) where
  abbrev change_by : Place × Line F → Lines F → Lines F → Bool → Lines F
  change_by e es more b = elim b [ true ↦ (e.0, changed_row change e.1) ∷ es | false ↦ e ∷ more ]

  -- Whether a row is there does not change.
  pub there-changed : (q : Place) (es : Lines F) → is_some (find place_cmp q (change_at p change es)) ≡ is_some (find place_cmp q es)
  there-changed q [] = refl
  there-changed q (e ∷ es) =
      elim (eq_by_cmp place_cmp p e.0) as (λ b. is_some (find place_cmp q (change_by e es (change_at p change es) b)) ≡ is_some (cond (eq_by_cmp place_cmp q e.0) (Some e.1) (find place_cmp q es))) [
        | true ↦ elim (eq_by_cmp place_cmp q e.0) as (λ t. is_some (cond t (Some (changed_row change e.1)) (find place_cmp q es)) ≡ is_some (cond t (Some e.1) (find place_cmp q es))) [ true ↦ refl | false ↦ refl ]
        | false ↦ elim (eq_by_cmp place_cmp q e.0) as (λ t. is_some (cond t (Some e.1) (find place_cmp q (change_at p change es))) ≡ is_some (cond t (Some e.1) (find place_cmp q es))) [
          | true ↦ refl
          | false ↦ there-changed q es
        ]
      ]

  -- The file that is changed.
  pub file-changed : (es : Lines F) → file_of (find place_cmp p (change_at p change es)) ≡ option_map change (file_of (find place_cmp p es))
  file-changed [] = refl
  file-changed (e ∷ es) =
      elim (eq_by_cmp place_cmp p e.0) as (λ b. eq_by_cmp place_cmp p e.0 ≡ b
      → file_of (find place_cmp p (change_by e es (change_at p change es) b)) ≡ option_map change (file_of (cond b (Some e.1) (find place_cmp p es)))) [
        | true ↦ λ is. ap (λ b. file_of (cond b (Some (changed_row change e.1)) (find place_cmp p es))) is ∙ here e.1
        | false ↦ λ is. ap (λ b. file_of (cond b (Some e.1) (find place_cmp p (change_at p change es)))) is ∙ file-changed es
      ] refl
    where
      here : (r : Line F) → file_of (Some (changed_row change r)) ≡ option_map change (file_of (Some r))
      here line.Directory = refl
      here (line.File f) = refl
