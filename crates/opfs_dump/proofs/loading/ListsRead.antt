-- Lists that are read value by value.
use Rattle.std.proofs.Common.{◌≡◌, ℕ, ◌+◌, List, [], ◌∷◌, ◌++◌, Option, Some, None, option_map, refl, sym, ap, ◌∙◌, append_assoc}
use Rattle.std.specs.Prelude.{Ok, Err}
use Rattle.std.proofs.lemmas.List.{append-nil}
use Rattle.serde_json.specs.Data as json
use Rattle.serde_json.specs.Find.{as_str}
use Rattle.opfs_base.specs.Texts.{Text}
use Rattle.opfs_base.specs.Places.{Place}
use Rattle.opfs_machine.specs.Openings.{Stored}
use Rattle.opfs_script.specs.Members.{◌>>=◌}
use Rattle.opfs_dump.specs.Text.Reading.{Read, name_of, names_of, texts_of, next_row, rows_from}
use Rattle.opfs_dump.specs.declared.text.refusal.DumpRefusal.TheVariants as refusal
use Rattle.opfs_dump.specs.Loading.Answers.{Follows}

-- what was read, and more behind it
abbrev pub behind : {A : Type 0} → List A → Option (List A) → Option (List A)
behind done more = option_map (λ rest. done ++ rest) more

behind_next : {A : Type 0} (done : List A) (x : A) (more : Option (List A)) → behind (done ++ x ∷ []) more ≡ behind done (more >>= λ rest. Some (x ∷ rest))
behind_next done x None = refl
behind_next done x (Some rest) = ap Some (append_assoc done (x ∷ []) rest)

-- one name more
pub names_next : (left rest : List json.Data) (value : json.Data) (done now : List Text) (x : Text) (whole : Option (List Text)) → left ≡ value ∷ rest → name_of value ≡ Some x → now ≡ done ++ x ∷ []
    → behind done (names_of left) ≡ whole → behind now (names_of rest) ≡ whole
names_next left rest value done now x whole is named pushed so_far =
    ap (λ (xs : List Text). behind xs (names_of rest)) pushed
    ∙ (behind_next done x (names_of rest)
    ∙ (ap (λ (o : Option Text). behind done (o >>= λ first. names_of rest >>= λ more. Some (first ∷ more))) (sym named)
    ∙ (ap (λ (vs : List json.Data). behind done (names_of vs)) (sym is) ∙ so_far)))

pub names_none : (left rest : List json.Data) (value : json.Data) (done : List Text) (whole : Option (List Text)) → left ≡ value ∷ rest → name_of value ≡ None
    → behind done (names_of left) ≡ whole → whole ≡ None
names_none left rest value done whole is named so_far =
    sym so_far
    ∙ (ap (λ (vs : List json.Data). behind done (names_of vs)) is
    ∙ ap (λ (o : Option Text). behind done (o >>= λ first. names_of rest >>= λ more. Some (first ∷ more))) named)

pub names_done : (left : List json.Data) (done : List Text) (whole : Option (List Text)) → left ≡ [] → behind done (names_of left) ≡ whole → whole ≡ Some done
names_done left done whole is so_far =
    sym so_far ∙ (ap (λ (vs : List json.Data). behind done (names_of vs)) is ∙ ap Some (append-nil done))

-- one text more
pub texts_next : (left rest : List json.Data) (value : json.Data) (done now : List Text) (x : Text) (whole : Option (List Text)) → left ≡ value ∷ rest → as_str value ≡ Some x → now ≡ done ++ x ∷ []
    → behind done (texts_of left) ≡ whole → behind now (texts_of rest) ≡ whole
texts_next left rest value done now x whole is named pushed so_far =
    ap (λ (xs : List Text). behind xs (texts_of rest)) pushed
    ∙ (behind_next done x (texts_of rest)
    ∙ (ap (λ (o : Option Text). behind done (o >>= λ first. texts_of rest >>= λ more. Some (first ∷ more))) (sym named)
    ∙ (ap (λ (vs : List json.Data). behind done (texts_of vs)) (sym is) ∙ so_far)))

pub texts_none : (left rest : List json.Data) (value : json.Data) (done : List Text) (whole : Option (List Text)) → left ≡ value ∷ rest → as_str value ≡ None
    → behind done (texts_of left) ≡ whole → whole ≡ None
texts_none left rest value done whole is named so_far =
    sym so_far
    ∙ (ap (λ (vs : List json.Data). behind done (texts_of vs)) is
    ∙ ap (λ (o : Option Text). behind done (o >>= λ first. texts_of rest >>= λ more. Some (first ∷ more))) named)

pub texts_done : (left : List json.Data) (done : List Text) (whole : Option (List Text)) → left ≡ [] → behind done (texts_of left) ≡ whole → whole ≡ Some done
texts_done left done whole is so_far =
    sym so_far ∙ (ap (λ (vs : List json.Data). behind done (texts_of vs)) is ∙ ap Some (append-nil done))

abbrev rows_by : ℕ → List (Place × Stored) → List json.Data → Option (Place × Stored) → Read (List (Place × Stored))
rows_by at done more found = elim found [ None ↦ Err (refusal.BadDump at) | Some e ↦ rows_from (at + 1) (done ++ e ∷ []) more ]

-- one row more
pub rows_next : (at : ℕ) (left rest : List json.Data) (value : json.Data) (done now : List (Place × Stored)) (whole : Read (List (Place × Stored))) → left ≡ value ∷ rest → Follows done value now
    → rows_from at done left ≡ whole → rows_from (at + 1) now rest ≡ whole
unfolding rows_from
rows_next at left rest value done now whole is follows so_far =
    ap (λ (xs : List (Place × Stored)). rows_from (at + 1) xs rest) follows.added
    ∙ (ap (rows_by at done rest) (sym follows.next) ∙ (ap (rows_from at done) (sym is) ∙ so_far))

pub rows_bad : (at : ℕ) (left rest : List json.Data) (value : json.Data) (done : List (Place × Stored)) (whole : Read (List (Place × Stored))) → left ≡ value ∷ rest → next_row done value ≡ None
    → rows_from at done left ≡ whole → whole ≡ Err (refusal.BadDump at)
unfolding rows_from
rows_bad at left rest value done whole is none so_far = sym so_far ∙ (ap (rows_from at done) is ∙ ap (rows_by at done rest) none)

pub rows_done : (at : ℕ) (left : List json.Data) (done : List (Place × Stored)) (whole : Read (List (Place × Stored))) → left ≡ [] → rows_from at done left ≡ whole → whole ≡ Ok done
unfolding rows_from
rows_done at left done whole is so_far = sym so_far ∙ ap (rows_from at done) is
