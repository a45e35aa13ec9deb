-- A path's directory and last name.
use Rattle.std.proofs.Common.{◌≡◌, Bool, true, false, not, ◌&&◌, List, [], ◌∷◌, ◌++◌, length, Option, Some, None, is_some, option_map, refl, sym, ap, subst, ◌∙◌}
use Rattle.std.specs.Prelude.{nat_le}
use Rattle.opfs_base.specs.Names.{is_valid_name, fits_limits}
use Rattle.opfs_base.specs.Texts.{Text}
use Rattle.opfs_base.specs.Places.{Place}
use Rattle.opfs_tree.specs.declared.row.Row.{Row}
use Rattle.opfs_tree.specs.declared.row.Row.TheVariants as row
use Rattle.opfs_tree.specs.Rows.{Rows, row_at, HasParent}
use Rattle.opfs_records.specs.Replay.Applying.{parted, is_directory, can_make_named, can_make}

parted_more : (first : Text) (front : List Text) (name : Text) → parted (first ∷ (front ++ name ∷ [])) ≡ option_map (λ p. (first ∷ p.0, p.1)) (parted (front ++ name ∷ []))
parted_more first [] name = refl
parted_more first (second ∷ front) name = refl

pub parted_push : (front : List Text) (name : Text) → parted (front ++ name ∷ []) ≡ Some (front, name)
parted_push [] name = refl
parted_push (first ∷ front) name = parted_more first front name ∙ ap (option_map (λ (p : List Text × Text). (first ∷ p.0, p.1))) (parted_push front name)

regroup : (a b c d e : Bool) → (a && b && c && (d && e)) ≡ ((b && e) && (a && (c && d)))
regroup true true true true e = elim e as (λ x. x ≡ (x && true)) [ true ↦ refl | false ↦ refl ]
regroup true true true false e = elim e as (λ x. false ≡ (x && false)) [ true ↦ refl | false ↦ refl ]
regroup true true false d e = elim e as (λ x. false ≡ (x && false)) [ true ↦ refl | false ↦ refl ]
regroup true false c d e = refl
regroup false b c d e = elim (b && e) as (λ x. false ≡ (x && false)) [ true ↦ refl | false ↦ refl ]

-- What a row at a path asks for, by the path's directory and name.
pub can_make_at : (unit : Text) (path front : List Text) (name : Text) (rows : Rows) → path ≡ front ++ name ∷ []
    → can_make unit path rows ≡ ((not (is_some (row_at (unit, path) rows)) && nat_le (length path) 32) && (is_directory (row_at (unit, front) rows) && (is_valid_name name && nat_le (length name) 255)))
can_make_at unit path front name rows is =
    ap (can_make_named unit path rows) (ap parted is ∙ parted_push front name)
    ∙ regroup (is_directory (row_at (unit, front) rows)) (not (is_some (row_at (unit, path) rows))) (is_valid_name name) (nat_le (length name) 255) (nat_le (length path) 32)

dir_there : (o : Option Row) → is_directory o ≡ true → o ≡ Some row.Dir
dir_there None h = absurd cc
dir_there (Some row.Dir) h = refl
dir_there (Some (row.File f)) h = absurd cc

nothing_there : (o : Option Row) → not (is_some o) ≡ true → o ≡ None
nothing_there None h = refl
nothing_there (Some r) h = absurd cc

split : (a b c d : Bool) → (a && b && c && d) ≡ true → (a ≡ true) × (b ≡ true)
split true true c d h = (refl, refl)
split true false c d h = absurd cc
split false b c d h = absurd cc

some_parts : (a b : List Text × Text) → ◌≡◌ {A = Option (List Text × Text)} (Some a) (Some b) → a ≡ b
some_parts a b e = cc

has_parent_by : (unit : Text) (path : List Text) (rows : Rows) (o : Option (List Text × Text)) → parted path ≡ o → can_make_named unit path rows o ≡ true → (row_at (unit, path) rows ≡ None) × HasParent (unit, path) rows
has_parent_by unit path rows None is can = absurd cc
has_parent_by unit path rows (Some p) is can =
    let parts = split (is_directory (row_at (unit, p.0) rows)) (not (is_some (row_at (unit, path) rows))) (is_valid_name p.1) (fits_limits p.1 path) can in (
      nothing_there _ parts.1,
      λ dir name at.
          let same_unit : unit ≡ dir.0 = ap (λ (q : Place). q.0) at in
          let same : p ≡ (dir.1, name) = some_parts p (dir.1, name) (sym is ∙ ap (λ (q : Place). parted q.1) at ∙ parted_push dir.1 name) in
          let here : row_at (unit, p.0) rows ≡ Some row.Dir = dir_there _ parts.0 in
          ap (λ (q : Place). row_at q rows) (sym (λ i. (same_unit i, (same i).0))) ∙ here,
    )

-- Where a row can be made, nothing is and its directory is there.
pub has_parent : (unit : Text) (path : List Text) (rows : Rows) → can_make unit path rows ≡ true → (row_at (unit, path) rows ≡ None) × HasParent (unit, path) rows
has_parent unit path rows can = has_parent_by unit path rows (parted path) refl can

pub parent_there : (unit : Text) (path same : List Text) (rows : Rows) → (same ≡ path) × (can_make unit path rows ≡ true) → HasParent (unit, same) rows
parent_there unit path same rows found = subst (λ (p : List Text). HasParent (unit, p) rows) (sym found.0) (has_parent unit path rows found.1).1
