-- A set of names that were given, and the children that it has not.
use Rattle.std.proofs.Common.{◌≡◌, ℕ, suc, ◌<◌, ◌||◌, Bool, true, false, cond, not, List, [], ◌∷◌, refl, sym, ap, ◌∙◌, length, get_or, drop, Some}
use Rattle.std.proofs.Math.Seq.{drop-cons}
use Rattle.std.specs.List.{list_any}
use Rattle.std.specs.BTreeMap.{is_at}
use Rattle.std.specs.BTreeSet.{BTreeSet, contains}
use Rattle.std.specs.Cmp.Lexicographic.{texts_ties, nat_list_eq_equiv}
use Rattle.opfs_base.specs.Texts.{Text, same_text}
use Rattle.opfs_base.specs.declared.locator.Kind.{Kind}
use Rattle.opfs_tree.specs.Rows.{least_not_in}
use Rattle.opfs_tree.specs.Units.{text_cmp, IsSetOf, find_outside}

-- The children that a set has not are those whose names were not given.
pub least_outside : (past : List Text) (set : BTreeSet Text) → IsSetOf past set → (children : List (Text × Kind))
    → find_outside set children ≡ least_not_in past children
least_outside past set is [] = refl
least_outside past set is (c ∷ cs) =
    ap (λ t. cond (not t) (Some c) (find_outside set cs)) (is c.0)
    ∙ ap (λ more. cond (not (list_any (same_text c.0) past)) (Some c) more) (least_outside past set is cs)

or_more : (t o r : Bool) → (cond t true o || r) ≡ (o || (t || r))
or_more true true r = refl
or_more true false r = refl
or_more false o r = refl

-- A set with one more name.
pub names_next : (past : List Text) (i : ℕ) (name k : Text) (old new : BTreeSet Text)
    → i < length past → name ≡ get_or past i name → k ≡ name
    → ((q : Text) → contains text_cmp new q ≡ cond (is_at (text_cmp k) q) true (contains text_cmp old q))
    → (x : Text) → (contains text_cmp old x || list_any (same_text x) (drop i past)) ≡ list_any (same_text x) past
    → (contains text_cmp new x || list_any (same_text x) (drop (suc i) past)) ≡ list_any (same_text x) past
names_next past i name k old new lt is copy added x before =
    let test : is_at (text_cmp k) x ≡ same_text x name = sym (texts_ties k x) ∙ nat_list_eq_equiv.symm k x ∙ ap (same_text x) copy in
    let here : drop i past ≡ name ∷ drop (suc i) past = drop-cons past i name lt ∙ ap (λ n. n ∷ drop (suc i) past) (sym is) in
    ap (λ t. t || list_any (same_text x) (drop (suc i) past)) (added x ∙ ap (λ t. cond t true (contains text_cmp old x)) test)
    ∙ or_more (same_text x name) (contains text_cmp old x) (list_any (same_text x) (drop (suc i) past))
    ∙ ap (λ xs. contains text_cmp old x || list_any (same_text x) xs) (sym here)
    ∙ before
