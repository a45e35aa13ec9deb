-- The rows of a directory and below it: where they begin and end among rows in order.
use Rattle.std.proofs.Common.{◌≡◌, ℕ, zero, suc, ◌<◌, ◌&&◌, Bool, true, false, List, [], ◌∷◌, ◌++◌, length, take, drop, get_or, Option, Some, None, refl, sym, ap, subst, ◌∙◌, arith}
use Rattle.std.specs.Prelude.{slice_get}
use Rattle.std.specs.List.{cons_option}
use Rattle.std.specs.Cmp.Lexicographic.{nat_list_cmp_total, texts_ties}
use Rattle.std.specs.Ordering.{is_eq, is_gt, ordering_reverse, ordering_then}
use Rattle.std.specs.declared.cmp.Ordering.{Ordering}
use Rattle.std.specs.declared.cmp.Ordering.TheVariants.{Less, Equal, Greater}
use Rattle.std.proofs.Math.Seq.{drop-cons}
use Rattle.std.proofs.lemmas.Bool.{false≢true}
use Rattle.opfs_base.specs.Places.{Place, begins_with, child_name, is_within, place_cmp}
use Rattle.opfs_base.specs.Texts.{Text, same_text}
use Rattle.opfs_laws.proofs.Spots.{place_itself}
use Rattle.opfs_machine.specs.Rows.{Rows}
use Rattle.opfs_machine.specs.declared.state.Row.{Row}
use Rattle.opfs_rulings.specs.Courses.{names_in}
use Rattle.opfs_rulings.specs.Spots.{AreRising, IsBefore, IsBehind, IsFirst, IsMissing, IsThere, IsUpto}
use Rattle.opfs_rulings.proofs.Courses.{and-first, child-is, path_cmp, same-is, same-itself, text-itself, text_cmp}

-- ---- paths between two others

and-rest : (a b : Bool) → (a && b) ≡ true → b ≡ true
and-rest true b h = h
and-rest false b h = absurd (false≢true h)

-- What is between a path and one that begins with it begins with it too.
path-within : (a e f : List Text) → is_gt (path_cmp a e) ≡ false → is_gt (path_cmp e f) ≡ false → begins_with a f ≡ true → begins_with a e ≡ true
path-within [] e f upto above within = refl
path-within (x ∷ a) [] f upto above within = absurd (false≢true (sym upto))
path-within (x ∷ a) (z ∷ e) [] upto above within = absurd (false≢true within)
path-within (x ∷ a) (z ∷ e) (y ∷ f) upto above within = by (path-within a e f) (text_cmp x z) refl
  where
    same : x ≡ y
    same = same-is x y (and-first (same_text x y) (begins_with a f) within)

    by : (is_gt (path_cmp a e) ≡ false → is_gt (path_cmp e f) ≡ false → begins_with a f ≡ true → begins_with a e ≡ true) → (o : Ordering) → text_cmp x z ≡ o → begins_with (x ∷ a) (z ∷ e) ≡ true
    by rest Less is =
        let greater : text_cmp z y ≡ Greater = ap (text_cmp z) (sym same) ∙ nat_list_cmp_total.antisymm z x ∙ ap ordering_reverse is in
        absurd (false≢true (sym above ∙ ap (λ o. is_gt (ordering_then o (path_cmp e f))) greater))
    by rest Greater is = absurd (false≢true (sym upto ∙ ap (λ o. is_gt (ordering_then o (path_cmp a e))) is))
    by rest Equal is =
        let tied : same_text x z ≡ true = texts_ties x z ∙ ap is_eq is in
        let here : text_cmp z y ≡ Equal = ap (λ (t : Text). text_cmp t y) (sym (same-is x z tied) ∙ same) ∙ text-itself y in
        ap (λ t. t && begins_with a e) tied
        ∙ rest (sym (ap (λ o. is_gt (ordering_then o (path_cmp a e))) is) ∙ upto) (sym (ap (λ o. is_gt (ordering_then o (path_cmp e f))) here) ∙ above) (and-rest (same_text x y) (begins_with a f) within)

place-within : (a e f : Place) → is_gt (place_cmp a e) ≡ false → is_gt (place_cmp e f) ≡ false → is_within a f ≡ true → is_within a e ≡ true
place-within a e f upto above within = path-within (a.0 ∷ a.1) (e.0 ∷ e.1) (f.0 ∷ f.1) upto above within

path-after : (path : List Text) (x : Text) → path_cmp path (path ++ x ∷ []) ≡ Less
path-after [] x = refl
path-after (y ∷ path) x = ap (λ o. ordering_then o (path_cmp path (path ++ x ∷ []))) (text-itself y) ∙ path-after path x

begins-front : (path : List Text) (x : Text) → begins_with path (path ++ x ∷ []) ≡ true
begins-front [] x = refl
begins-front (y ∷ path) x = ap (λ t. t && begins_with path (path ++ x ∷ [])) (same-itself y) ∙ begins-front path x

less-greater : Less ≡ Greater → ⊥
less-greater h = cc

-- ---- which rows are children

module _ (dir : Place) where
  child-after : (place : Place) (x : Text) → child_name dir place ≡ Some x → place_cmp dir place ≡ Less
  child-after place x at = ap (λ (q : Place). place_cmp dir q) (child-is dir place x at) ∙ path-after (dir.0 ∷ dir.1) x

  child-within : (place : Place) (x : Text) → child_name dir place ≡ Some x → is_within dir place ≡ true
  child-within place x at = ap (λ (q : Place). is_within dir q) (child-is dir place x at) ∙ begins-front (dir.0 ∷ dir.1) x

  skip : (e : Place × Row Text) (rows : Rows Text) → ((x : Text) → child_name dir e.0 ≡ Some x → ⊥) → names_in dir (e ∷ rows) ≡ names_in dir rows
  skip e rows never = by (child_name dir e.0) refl
    where
      by : (o : Option Text) → child_name dir e.0 ≡ o → names_in dir (e ∷ rows) ≡ names_in dir rows
      by None none = ap (λ (o : Option Text). cons_option o (names_in dir rows)) none
      by (Some x) at = absurd (never x at)

  pub names-from : (n : ℕ) (rows : Rows Text) → IsBehind dir (take n rows) → names_in dir (drop n rows) ≡ names_in dir rows
  names-from zero rows h = refl
  names-from (suc n) [] h = refl
  names-from (suc n) (e ∷ rows) h = names-from n rows h.1 ∙ sym (skip e rows (λ x at. less-greater (sym (child-after e.0 x at) ∙ h.0)))

  pub names-front : (n : ℕ) (rows : Rows Text) → names_in dir (drop n rows) ≡ [] → names_in dir (take n rows) ≡ names_in dir rows
  names-front zero rows h = sym h
  names-front (suc n) [] h = refl
  names-front (suc n) (e ∷ rows) h = ap (λ (xs : List Text). cons_option (child_name dir e.0) xs) (names-front n rows h)

  -- Behind a row that is past the directory none is a child.
  names-past : (e : Place × Row Text) (rows : Rows Text) → is_gt (place_cmp dir e.0) ≡ false → is_within dir e.0 ≡ false → IsBefore e.0 rows → names_in dir rows ≡ []
  names-past e [] upto past before = refl
  names-past e (f ∷ rows) upto past before =
      skip f rows (λ x at. false≢true (sym past ∙ place-within dir e.0 f.0 upto (ap is_gt before.0) (child-within f.0 x at))) ∙ names-past e rows upto past before.1

  from-past : (e : Place × Row Text) (rows : Rows Text) → AreRising (e ∷ rows) → IsUpto dir (e ∷ rows) → is_within dir e.0 ≡ false → names_in dir (e ∷ rows) ≡ []
  from-past e rows rising upto past = skip e rows (λ x at. false≢true (sym past ∙ child-within e.0 x at)) ∙ names-past e rows upto.0 past rising.0

-- ---- the rows from an index on

pub rising-drop : (n : ℕ) (rows : Rows Text) → AreRising rows → AreRising (drop n rows)
rising-drop zero rows h = h
rising-drop (suc n) [] h = h
rising-drop (suc n) (e ∷ rows) h = rising-drop n rows h.1

upto-drop : (p : Place) (n : ℕ) (rows : Rows Text) → IsUpto p rows → IsUpto p (drop n rows)
upto-drop p zero rows h = h
upto-drop p (suc n) [] h = h
upto-drop p (suc n) (e ∷ rows) h = upto-drop p n rows h.1

pub past-at : (dir : Place) (rows : Rows Text) (n : ℕ) (d : Place × Row Text) → AreRising rows → IsUpto dir rows → n < length rows → is_within dir (get_or rows n d).0 ≡ false → names_in dir (drop n rows) ≡ []
past-at dir rows n d rising upto less past =
    let here : drop n rows ≡ get_or rows n d ∷ drop (suc n) rows = drop-cons rows n d less in
    ap (λ (es : Rows Text). names_in dir es) here
    ∙ from-past dir (get_or rows n d) (drop (suc n) rows) (subst (λ (es : Rows Text). AreRising es) here (rising-drop n rows rising)) (subst (λ (es : Rows Text). IsUpto dir es) here (upto-drop dir n rows upto)) past

before-upto : (p : Place) (rows : Rows Text) → IsBefore p rows → IsUpto p rows
before-upto p [] h = tt
before-upto p (e ∷ rows) h = (ap is_gt h.0, before-upto p rows h.1)

-- The first row that is not before a place, where a row stands there and where none does.
there-upto : (p : Place) (r : Row Text) (n : ℕ) (rows : Rows Text) → AreRising rows → slice_get rows n ≡ Some (p, r) → IsUpto p (drop n rows)
there-upto p r n [] h is = cc
there-upto p r zero (e ∷ rows) h is =
    let same : e.0 ≡ p = cc in
    let tied : is_gt (place_cmp p e.0) ≡ false = ap (λ (q : Place). is_gt (place_cmp p q)) same ∙ not-greater (place_cmp p p) (place_itself p) in
    (tied, before-upto p rows (subst (λ (q : Place). IsBefore q rows) same h.0))
  where
    not-greater : (o : Ordering) → is_eq o ≡ true → is_gt o ≡ false
    not-greater Less is = refl
    not-greater Equal is = refl
    not-greater Greater is = absurd (false≢true is)
there-upto p r (suc n) (e ∷ rows) h is = there-upto p r n rows h.1 is

pub first-there : (p : Place) (rows : Rows Text) (n : ℕ) → AreRising rows → IsThere p rows n → IsFirst p rows n
first-there p rows n rising h = record { within = omega (arith, h.within); behind = h.behind; upto = there-upto p h.row n rows rising h.is }

pub first-missing : (p : Place) (rows : Rows Text) (n : ℕ) → IsMissing p rows n → IsFirst p rows n
first-missing p rows n h = record { within = h.within; behind = h.behind; upto = before-upto p (drop n rows) h.before }
