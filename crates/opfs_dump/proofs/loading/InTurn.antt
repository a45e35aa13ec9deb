-- Rows each of which may follow those before it.
use Rattle.std.proofs.Common.{◌≡◌, ℕ, ◌+◌, Bool, true, false, not, ◌&&◌, cond, List, [], ◌∷◌, ◌++◌, Option, Some, None, is_some, refl, sym, ap, subst, ◌∙◌, append_assoc}
use Rattle.std.specs.Prelude.{if◌then◌else◌}
use Rattle.std.specs.Ordering.{eq_by_cmp}
use Rattle.std.proofs.lemmas.Bool.{and_parts}
use Rattle.std.proofs.lemmas.List.{append-nil}
use Rattle.serde_json.specs.Data.{Data}
use Rattle.opfs_base.specs.Texts.{Text}
use Rattle.opfs_base.specs.Places.{Place, place_cmp}
use Rattle.opfs_machine.specs.Openings.{Stored, folder, document}
use Rattle.opfs_script.specs.Members.{◌>>=◌}
use Rattle.opfs_records.specs.Replay.Applying.{is_directory, parted, can_make_named}
use Rattle.opfs_base.specs.Names.{is_valid_name, fits_limits}
use Rattle.opfs_tree.specs.Rows.{row_at}
use Rattle.opfs_tree.specs.declared.row.Row.{Row}
use Rattle.opfs_dump.specs.Text.Limits.{can_stand, may_follow, may_all_follow, bare_row, bare_rows, stored_blocks}
use Rattle.opfs_dump.specs.Text.Reading.{next_row, row_in}
use Rattle.opfs_dump.specs.Loading.Answers.{Follows}
use Rattle.opfs_dump.specs.Loading.Laid.{laid, laid_row}

both : (a b : Bool) → a ≡ true → b ≡ true → (a && b) ≡ true
both true b e f = f
both false b e f = absurd cc

-- the first may, and so may the rest behind it
pub first_follows : (done : List (Place × Stored)) (e : Place × Stored) (more : List (Place × Stored)) → may_all_follow done (e ∷ more) ≡ true
    → (may_follow done e ≡ true) × (may_all_follow (done ++ e ∷ []) more ≡ true)
first_follows done e more all = and_parts (may_follow done e) (may_all_follow (done ++ e ∷ []) more) all

-- one more behind them
one_more : (done rows : List (Place × Stored)) (e : Place × Stored) → may_all_follow done rows ≡ true → may_follow (done ++ rows) e ≡ true → may_all_follow done (rows ++ e ∷ []) ≡ true
one_more done [] e all may = both (may_follow done e) true (ap (λ xs. may_follow xs e) (sym (append-nil done)) ∙ may) refl
one_more done (d ∷ ds) e all may =
    let parts = first_follows done d ds all in
    both (may_follow done d) (may_all_follow (done ++ d ∷ []) (ds ++ e ∷ [])) parts.0
    (one_more (done ++ d ∷ []) ds e parts.1 (ap (λ xs. may_follow xs e) (append_assoc done (d ∷ []) ds) ∙ may))

chosen : {X : Type 0} (f : X → Bool) (b : Bool) (y x : X) → f y ≡ b → (if b then Some y else None) ≡ Some x → f x ≡ true
chosen f true y x is e = let same : y ≡ x = cc e in ap f (sym same) ∙ is
chosen f false y x is e = absurd (cc e)

tested : {X : Type 0} (f : X → Bool) (o : Option X) (x : X) → (o >>= λ y. (if f y then Some y else None)) ≡ Some x → f x ≡ true
tested f None x e = absurd (cc e)
tested f (Some y) x e = chosen f (f y) y x refl e

next_follows : (done : List (Place × Stored)) (value : Data) (e : Place × Stored) → next_row done value ≡ Some e → may_follow done e ≡ true
unfolding next_row
next_follows done value e is = tested (may_follow done) (row_in value) e is

pub follows_more : (done now : List (Place × Stored)) (value : Data) → Follows done value now → may_all_follow [] done ≡ true → may_all_follow [] now ≡ true
follows_more done now value next all =
    subst (λ rows. may_all_follow [] rows ≡ true) (sym next.added) (one_more [] done next.row all (next_follows done value next.row next.next))

-- rows with their blocks and rows without are of the same kinds
module _ {X : Type 0} (f : Option Row → X) (each : (s : Stored) (at : ℕ) → f (Some (laid_row at s)) ≡ f (Some (bare_row s))) (p : Place) where
  step : (t : Bool) (r s : Row) (x y : Option Row) → f (Some r) ≡ f (Some s) → f x ≡ f y → f (cond t (Some r) x) ≡ f (cond t (Some s) y)
  step true r s x y here there = here
  step false r s x y here there = there

  same_at : (at : ℕ) (rows : List (Place × Stored)) → f (row_at p (laid at rows)) ≡ f (row_at p (bare_rows rows))
  unfolding laid
  same_at at [] = refl
  same_at at (e ∷ es) =
      step (eq_by_cmp place_cmp p e.0) (laid_row at e.1) (bare_row e.1) (row_at p (laid (at + stored_blocks e.1) es)) (row_at p (bare_rows es)) (each e.1 at) (same_at (at + stored_blocks e.1) es)

is_directory_alike : (s : Stored) (at : ℕ) → is_directory (Some (laid_row at s)) ≡ is_directory (Some (bare_row s))
is_directory_alike folder at = refl
is_directory_alike (document bytes stamp) at = refl

same_made : (at : ℕ) (rows : List (Place × Stored)) (unit : Text) (path : List Text) (o : Option (List Text × Text)) → can_make_named unit path (laid at rows) o ≡ can_make_named unit path (bare_rows rows) o
same_made at rows unit path None = refl
same_made at rows unit path (Some p) = λ i.
    same_at is_directory is_directory_alike (unit, p.0) at rows i && not (same_at is_some (λ s at. refl) (unit, path) at rows i) && is_valid_name p.1 && fits_limits p.1 path

pub same_stand : (at : ℕ) (rows : List (Place × Stored)) (place : Place) (stored : Stored) → can_stand (laid at rows) place stored ≡ can_stand (bare_rows rows) place stored
same_stand at rows (unit, []) folder = ap not (same_at is_some (λ s at. refl) (unit, []) at rows)
same_stand at rows (unit, []) (document bytes stamp) = refl
same_stand at rows (unit, name ∷ names) stored = same_made at rows unit (name ∷ names) (parted (name ∷ names))
