-- What is added to a set, one more item at a time.
use Rattle.std.proofs.Common.{◌≡◌, ℕ, suc, ◌<◌, ◌||◌, Bool, true, false, cond, not, List, [], ◌∷◌, refl, sym, ap, ◌∙◌, length, get_or, drop, find, Some}
use Rattle.std.specs.List.{list_any}
use Rattle.std.specs.BTreeMap.{is_at}
use Rattle.std.specs.BTreeSet.{BTreeSet, contains}
use Rattle.std.specs.Cmp.Lexicographic.{slice_cmp, texts_ties, nat_list_eq_equiv}
use Rattle.std.specs.Ordering.{nat_cmp}
use Rattle.opfs_base.specs.Texts.{Text, same_text}
use Rattle.opfs_machine.specs.Contents.{next_of}
use Rattle.opfs_rulings.specs.Sets.{IsSetOf}
use Rattle.opfs_rulings.proofs.Here.{drop_here}

-- A key of a set or map is a text where both are the same.
pub key_is : (k x : Text) → is_at (slice_cmp nat_cmp k) x ≡ same_text k x
key_is k x = sym (texts_ties k x)

-- The names that a set has not are those that its list has not.
pub next_outside : (given : List Text) (set : BTreeSet Text) → IsSetOf given set → (names : List Text)
    → find (λ name. not (contains (slice_cmp nat_cmp) set name)) names ≡ next_of given names
next_outside given set is [] = refl
next_outside given set is (name ∷ names) =
    ap (λ t. cond (not t) (Some name) (find (λ x. not (contains (slice_cmp nat_cmp) set x)) names)) (is name)
    ∙ ap (λ more. cond (not (list_any (same_text name) given)) (Some name) more) (next_outside given set is names)

or_more : (t o r : Bool) → (cond t true o || r) ≡ (o || (t || r))
or_more true true r = refl
or_more true false r = refl
or_more false o r = refl

-- A set with one more name.
pub names_next : (given : List Text) (i : ℕ) (name k : Text) (old new : BTreeSet Text)
    → i < length given → name ≡ get_or given i name → k ≡ name
    → ((q : Text) → contains (slice_cmp nat_cmp) new q ≡ cond (is_at (slice_cmp nat_cmp k) q) true (contains (slice_cmp nat_cmp) old q))
    → (x : Text) → (contains (slice_cmp nat_cmp) old x || list_any (same_text x) (drop i given)) ≡ list_any (same_text x) given
    → (contains (slice_cmp nat_cmp) new x || list_any (same_text x) (drop (suc i) given)) ≡ list_any (same_text x) given
names_next given i name k old new lt is copy added x before =
    let test : is_at (slice_cmp nat_cmp k) x ≡ same_text x name = key_is k x ∙ nat_list_eq_equiv.symm k x ∙ ap (same_text x) copy in
    ap (λ t. t || list_any (same_text x) (drop (suc i) given)) (added x ∙ ap (λ t. cond t true (contains (slice_cmp nat_cmp) old x)) test)
    ∙ or_more (same_text x name) (contains (slice_cmp nat_cmp) old x) (list_any (same_text x) (drop (suc i) given))
    ∙ ap (λ xs. contains (slice_cmp nat_cmp) old x || list_any (same_text x) xs) (sym (drop_here given i name lt is))
    ∙ before
