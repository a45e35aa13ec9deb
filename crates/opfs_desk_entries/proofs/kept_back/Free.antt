-- A place that is free stays free as pending calls are taken in and units are cleared.
use Rattle.std.proofs.Common.{◌≡◌, ℕ, Bool, true, false, not, cond, List, [], ◌∷◌, fold, Option, Some, None, refl, sym, ap, subst, ◌∙◌}
use Rattle.std.specs.FinMap.Entries.{find-where_key}
use Rattle.std.specs.Prelude.{is_some}
use Rattle.opfs_base.specs.Places.{Place, place_cmp, place_of, child, is_within}
use Rattle.opfs_base.specs.Texts.{Text}
use Rattle.opfs_base.specs.Units.{unit_of}
use Rattle.opfs_hist.specs.declared.op.Op.{Op}
use Rattle.opfs_hist.specs.declared.op.Op.TheVariants as op
use Rattle.opfs_laws.proofs.Spots.{exact_places}
use Rattle.opfs_machine.specs.Agents.{agent_of}
use Rattle.opfs_machine.specs.Rows.{row_at as machine_row}
use Rattle.opfs_space.specs.Room.{Machine}
use Rattle.opfs_state_rows.specs.Standing.Seen.{lines_of}
use Rattle.opfs_state_rows.proofs.standing.Lines.{there-at}
use Rattle.opfs_tree.specs.Rows.{Rows as Tree, row_at, without}
use Rattle.opfs_tree.specs.declared.row.Row.{Row}
use Rattle.opfs_desk_steps.specs.BookSteps.Clearing.{cleared_from}
use Rattle.opfs_desk_entries.specs.KeptBack.Keeping.{is_free, makes_root, keeps_back}

tree-without : (t : Tree) (p q : Place) → row_at q (without p t) ≡ cond (not (is_within p q)) (row_at q t) None
tree-without t p q = find-where_key place_cmp (λ x. not (is_within p x)) q (λ x e. ap (λ y. not (is_within p y)) (sym (exact_places q x e))) t

none-either : (b : Bool) (x : Option Row) → x ≡ None → cond b x None ≡ None
none-either true x is = is
none-either false x is = refl

free-tree : (units : List Text) (t : Tree) (q : Place) → row_at q t ≡ None → row_at q (fold cleared_from t units) ≡ None
free-tree [] t q none = none
free-tree (unit ∷ units) t q none = free-tree units (without (unit, []) t) q (tree-without t (unit, []) q ∙ none-either (not (is_within (unit, []) q)) (row_at q t) none)

pub none-of : {X : Type 0} (x : Option X) → not (is_some x) ≡ true → x ≡ None
none-of None is = refl
none-of (Some x) is = cc

there-in : (m : Machine) (t : Tree) (q : Place) → m.rows ≡ lines_of t → is_some (machine_row m q) ≡ is_some (row_at q t)
there-in m t q lines = ap (λ rows. is_some (machine_row (record m { rows = rows }) q)) lines ∙ there-at q t

free-still : (m n : Machine) (t : Tree) (units : List Text) (q : Place) → m.rows ≡ lines_of t → n.rows ≡ lines_of (fold cleared_from t units) → is_free m q ≡ true → is_free n q ≡ true
free-still m n t units q was now free =
    let none = none-of (row_at q t) (ap not (sym (there-in m t q was)) ∙ free) in
    ap not (there-in n (fold cleared_from t units) q now) ∙ ap (λ (x : Option Row). not (is_some x)) (free-tree units t q none)

root-still : (m n : Machine) (t : Tree) (units : List Text) (bucket : Text) (key : Option Text) → m.rows ≡ lines_of t → n.rows ≡ lines_of (fold cleared_from t units) → makes_root m bucket key ≡ true → makes_root n bucket key ≡ true
root-still m n t units bucket None was now h = h
root-still m n t units bucket (Some origin) was now h = free-still m n t units (unit_of origin bucket, []) was now h

-- The call still changes something.
pub keeps-still : (m n : Machine) (t : Tree) (units : List Text) (k : ℕ) (o : Op) → m.rows ≡ lines_of t → n.rows ≡ lines_of (fold cleared_from t units) → (agent_of m k).key ≡ (agent_of n k).key → keeps_back m k o ≡ true → keeps_back n k o ≡ true
keeps-still m n t units k (op.GetDirectory bucket) was now same h = subst (λ (x : Option Text). makes_root n bucket x ≡ true) same (root-still m n t units bucket (agent_of m k).key was now h)
keeps-still m n t units k (op.GetDirectoryHandle dir name create) was now same h = free-still m n t units (child (place_of dir) name) was now h
keeps-still m n t units k (op.GetFileHandle dir name create) was now same h = free-still m n t units (child (place_of dir) name) was now h
keeps-still m n t units k (op.RemoveEntry dir name recursive) was now same h = refl
keeps-still m n t units k o was now same h = cc
