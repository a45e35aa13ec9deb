-- In the beginning all bytes are stored.
use Rattle.std.proofs.Common.{◌≡◌, List, [], ◌∷◌, map, true, false, cond, Some, sym, ap, ◌∙◌, inl}
use Rattle.std.specs.FinMap.Entries.{find}
use Rattle.std.specs.Ordering.{eq_by_cmp}
use Rattle.opfs_base.specs.Places.{Place, place_cmp}
use Rattle.opfs_base.specs.Texts.{Text}
use Rattle.opfs_machine.specs.declared.state.FileRow.{FileRow}
use Rattle.opfs_machine.specs.Openings.{Opening, Stored, folder, document, row_of, begun}
use Rattle.opfs_machine.specs.Rows.{file_of}
use Rattle.opfs_laws.specs.Covered.{now_of, stored_of, AreCovered}

some-file : {a b : FileRow Text} → Some a ≡ Some b → a ≡ b
some-file h = cc

row-even : (x : Stored) (f : FileRow Text) → file_of (Some (row_of x)) ≡ Some f → now_of f ≡ stored_of f
row-even folder f is = cc
row-even (document bytes stamp) f is = let same = some-file is in ap now_of (sym same) ∙ ap stored_of same

begun-even : (p : Place) (es : List (Place × Stored)) (f : FileRow Text) → file_of (find place_cmp p (map (λ e. (e.0, row_of e.1)) es)) ≡ Some f → now_of f ≡ stored_of f
begun-even p [] f is = cc
begun-even p (e ∷ es) f is =
    elim (eq_by_cmp place_cmp p e.0) as (λ b. file_of (cond b (Some (row_of e.1)) (find place_cmp p (map (λ d. (d.0, row_of d.1)) es))) ≡ Some f → now_of f ≡ stored_of f) [
      | true ↦ λ h. row-even e.1 f h
      | false ↦ λ h. begun-even p es f h
    ] is

pub covered-begun : (o : Opening) → AreCovered (begun o)
covered-begun o p f is = inl (begun-even p o.stored.rows f is)
