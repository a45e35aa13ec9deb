-- The two sets of an iterator, as rows and own rows change, and what it gives next.
use Rattle.std.proofs.Common.{◌≡◌, ◌≢◌, ◌⊎◌, inl, inr, ℕ, zero, suc, ◌-◌, ◌<◌, ◌&&◌, ◌||◌, Bool, true, false, cond, not, List, [], ◌∷◌, ◌++◌, filter, length, take, drop, slice_set, Option, Some, None, refl, sym, ap, subst, ◌∙◌, arith}
use Rattle.std.specs.Prelude.{IsTrue, slice_get}
use Rattle.std.specs.BTreeMap.{is_at}
use Rattle.std.specs.BTreeSet.{BTreeSet}
use Rattle.std.specs.Cmp.Lexicographic.{slice_cmp, nat_list_cmp_total, nat_list_eq_equiv, texts_ties, same_text as equal_texts}
use Rattle.std.specs.List.{AllByRecursion, cons_option, list_any}
use Rattle.std.specs.Ordering.{is_eq, is_gt, nat_cmp, ordering_reverse, ordering_then}
use Rattle.std.specs.declared.cmp.Ordering.{Ordering}
use Rattle.std.specs.declared.cmp.Ordering.TheVariants.{Less, Equal, Greater}
use Rattle.std.proofs.lemmas.Bool.{cases_Bool, cases_eq, false≢true}
use Rattle.std.proofs.lemmas.List.Folds.{list_any-append}
use Rattle.opfs_base.specs.Places.{Place, begins_with, child, child_name, is_within, only_name, place_cmp, rest_below}
use Rattle.opfs_base.specs.Texts.{Text, same_text}
use Rattle.opfs_laws.proofs.Numbers.{agent-other, agent-set, filter_map-set}
use Rattle.opfs_machine.specs.Agents.{adds_own, agent_in, agent_of, own_of, with_agent, with_own}
use Rattle.opfs_machine.specs.Contents.{next_of}
use Rattle.opfs_machine.specs.Replies.{given_in}
use Rattle.opfs_machine.specs.Rows.{Rows}
use Rattle.opfs_machine.specs.declared.own.Own.{Own}
use Rattle.opfs_machine.specs.declared.own.Own.TheVariants as own
use Rattle.opfs_machine.specs.declared.state.Agent.{Agent}
use Rattle.opfs_machine.specs.declared.state.Row.{Row}
use Rattle.opfs_machine.specs.declared.state.State.{State}
use Rattle.opfs_rulings.specs.Known.{IsAgent}
use Rattle.opfs_rulings.specs.Spots.{AreRising, IsBefore}
use Rattle.opfs_rulings.specs.Courses.{AreFrom, GivesOrStays, HasChild, HasGone, HasLess, HasLost, HasMore, HasNot, IsCourse, IsGivenBy, IsOther, StaysBeside, given_row, has, is_named, names_in}
use Rattle.opfs_rulings.specs.declared.course.Course.{Course}
use Rattle.opfs_rulings.proofs.Adding.{key_is}
use Rattle.opfs_rulings.proofs.Moving.{all-each, all-from}
use Rattle.opfs_rulings.proofs.Totals.{number_of}

abbrev pub text_cmp : Text → Text → Ordering
text_cmp = slice_cmp nat_cmp

some-same : {X : Type 0} {x y : X} → Some x ≡ Some y → x ≡ y
some-same e = cc

none-some : {X : Type 0} {x : X} → None ≡ Some x → ⊥
none-some e = cc

-- ---- truth values

or-none : (b : Bool) → (b || false) ≡ b
or-none true = refl
or-none false = refl

or-all : (b : Bool) → (b || true) ≡ true
or-all true = refl
or-all false = refl

-- ---- texts

pub same-is : (a b : Text) → same_text a b ≡ true → a ≡ b
same-is a b told = equal_texts a b (sym told)

pub same-itself : (a : Text) → same_text a a ≡ true
same-itself a = nat_list_eq_equiv.refl a

same-at : (k name x : Text) → k ≡ name → is_at (text_cmp k) x ≡ same_text x name
same-at k name x copy = key_is k x ∙ nat_list_eq_equiv.symm k x ∙ ap (same_text x) copy

-- ---- a set with a child more, a name more, a name less

-- A name that another set has is not new.
pub child-known : (name : Option Text) (text : Text) (other left : BTreeSet Text) → name ≡ Some text → has other text ≡ true → HasChild name other left left
child-known name text other left is known x =
    sym (or-none (has left x)) ∙ ap (λ b. has left x || b) (sym (none-new (cases_Bool (same_text x text)))) ∙ ap (λ (o : Option Text). has left x || (is_named o x && not (has other x))) (sym is)
  where
    none-new : ((same_text x text ≡ true) ⊎ (same_text x text ≡ false)) → (same_text x text && not (has other x)) ≡ false
    none-new (inl same) = ap (λ b. b && not (has other x)) same ∙ ap (λ (y : Text). not (has other y)) (same-is x text same) ∙ ap not known
    none-new (inr apart) = ap (λ b. b && not (has other x)) apart

pub child-none : (name : Option Text) (other left : BTreeSet Text) → name ≡ None → HasChild name other left left
child-none name other left is x = sym (or-none (has left x)) ∙ ap (λ (o : Option Text). has left x || (is_named o x && not (has other x))) (sym is)

pub child-new : (name : Option Text) (text k : Text) (other old new : BTreeSet Text) → name ≡ Some text → has other text ≡ false → k ≡ text
    → ((q : Text) → has new q ≡ cond (is_at (text_cmp k) q) true (has old q)) → HasChild name other old new
child-new name text k other old new is unknown copy added x =
    added x ∙ ap (λ b. cond b true (has old x)) (same-at k text x copy) ∙ more (cases_Bool (same_text x text)) ∙ ap (λ (o : Option Text). has old x || (is_named o x && not (has other x))) (sym is)
  where
    more : ((same_text x text ≡ true) ⊎ (same_text x text ≡ false)) → cond (same_text x text) true (has old x) ≡ (has old x || (same_text x text && not (has other x)))
    more (inl same) =
        ap (λ b. cond b true (has old x)) same
        ∙ sym (ap (λ b. has old x || (b && not (has other x))) same ∙ ap (λ (y : Text). has old x || not (has other y)) (same-is x text same) ∙ ap (λ b. has old x || not b) unknown ∙ or-all (has old x))
    more (inr apart) = ap (λ b. cond b true (has old x)) apart ∙ sym (ap (λ b. has old x || (b && not (has other x))) apart ∙ or-none (has old x))

less-by : (t b : Bool) → cond t false b ≡ (b && not t)
less-by true true = refl
less-by true false = refl
less-by false true = refl
less-by false false = refl

pub name-gone : (k name : Text) (old new : BTreeSet Text) → k ≡ name → ((q : Text) → has new q ≡ cond (is_at (text_cmp k) q) false (has old q)) → HasNot name old new
name-gone k name old new copy gone x = gone x ∙ ap (λ b. cond b false (has old x)) (same-at k name x copy) ∙ less-by (same_text x name) (has old x)

more-by : (t b : Bool) → cond t true b ≡ (b || t)
more-by true true = refl
more-by true false = refl
more-by false true = refl
more-by false false = refl

pub name-more : (k name : Text) (old new : BTreeSet Text) → k ≡ name → ((q : Text) → has new q ≡ cond (is_at (text_cmp k) q) true (has old q)) → (x : Text) → has new x ≡ (has old x || same_text x name)
name-more k name old new copy added x = added x ∙ ap (λ b. cond b true (has old x)) (same-at k name x copy) ∙ more-by (same_text x name) (has old x)

-- ---- the names of children

-- Whether a name is among some behind an option.
any-cons : (o : Option Text) (xs : List Text) (x : Text) → list_any (same_text x) (cons_option o xs) ≡ (is_named o x || list_any (same_text x) xs)
any-cons None xs x = refl
any-cons (Some name) xs x = refl

or-swap : (a b : Bool) → (a || b) ≡ (b || a)
or-swap true true = refl
or-swap true false = refl
or-swap false true = refl
or-swap false false = refl

or-more : (a b c : Bool) → (a || (b || c)) ≡ ((a || b) || c)
or-more true b c = refl
or-more false b c = refl

module _ (dir : Place) (x : Text) where
  abbrev among : Rows Text → Bool
  among rows = list_any (same_text x) (names_in dir rows)

  abbrev named : Place → Bool
  named p = is_named (child_name dir p) x

  pub among-cons : (e : Place × Row Text) (rows : Rows Text) → among (e ∷ rows) ≡ (named e.0 || among rows)
  among-cons e rows = any-cons (child_name dir e.0) (names_in dir rows) x

  -- A row more.
  pub among-insert : (p : Place) (r : Row Text) (n : ℕ) (rows : Rows Text) → among (take n rows ++ (p, r) ∷ drop n rows) ≡ (among rows || named p)
  among-insert p r zero rows = among-cons (p, r) rows ∙ or-swap (named p) (among rows)
  among-insert p r (suc n) [] = among-cons (p, r) [] ∙ or-swap (named p) false
  among-insert p r (suc n) (e ∷ rows) =
      among-cons e (take n rows ++ (p, r) ∷ drop n rows) ∙ ap (λ b. named e.0 || b) (among-insert p r n rows) ∙ or-more (named e.0) (among rows) (named p) ∙ ap (λ b. b || named p) (sym (among-cons e rows))

-- Another row at a place.
pub names-set : (dir p : Place) (old new : Row Text) (n : ℕ) (rows : Rows Text) → slice_get rows n ≡ Some (p, old) → names_in dir (slice_set rows n (p, new)) ≡ names_in dir rows
names-set dir p old new n rows is = filter_map-set (λ (e : Place × Row Text). child_name dir e.0) rows n (p, old) (p, new) is refl

-- ---- a child's place

only-path : (names : List Text) (name : Text) → only_name (Some names) ≡ Some name → names ≡ name ∷ []
only-path [] name is = cc
only-path (a ∷ []) name is = cc
only-path (a ∷ b ∷ names) name is = cc

rest-is : (path names : List Text) (name : Text) → only_name (rest_below path names) ≡ Some name → names ≡ path ++ name ∷ []
rest-is [] names name is = only-path names name is
rest-is (a ∷ path) [] name is = cc
rest-is (a ∷ path) (b ∷ names) name is = elim (cases_Bool (same_text a b)) [
  | inl same ↦
      let rest = rest-is path names name (sym (ap (λ t. only_name (elim t as (λ y. Option (List Text)) [ true ↦ rest_below path names | false ↦ None ])) same) ∙ is) in
      ap (λ (x : Text). x ∷ names) (sym (same-is a b same)) ∙ ap (λ (xs : List Text). a ∷ xs) rest
  | inr other ↦ absurd (none-some (sym (ap (λ t. only_name (elim t as (λ y. Option (List Text)) [ true ↦ rest_below path names | false ↦ None ])) other) ∙ is))
]

pair-is : (a b : Place) → a.0 ≡ b.0 → a.1 ≡ b.1 → a ≡ b
pair-is (x, xs) (y, ys) first second = ap (λ (z : Text). (z, xs)) first ∙ ap (λ (zs : List Text). (y, zs)) second

pub child-is : (dir place : Place) (name : Text) → child_name dir place ≡ Some name → place ≡ child dir name
child-is dir place name is = elim (cases_Bool (same_text dir.0 place.0)) [
  | inl same ↦
      pair-is place (child dir name) (sym (same-is dir.0 place.0 same))
      (rest-is dir.1 place.1 name (sym (ap (λ t. elim t as (λ y. Option Text) [ true ↦ only_name (rest_below dir.1 place.1) | false ↦ None ]) same) ∙ is))
  | inr other ↦ absurd (none-some (sym (ap (λ t. elim t as (λ y. Option Text) [ true ↦ only_name (rest_below dir.1 place.1) | false ↦ None ]) other) ∙ is))
]

and-false : (b : Bool) → (b && false) ≡ false
and-false true = refl
and-false false = refl

and-all : (b : Bool) → (b && true) ≡ b
and-all true = refl
and-all false = refl

begins-by : (path : List Text) (a b : Text) → begins_with (path ++ a ∷ []) (path ++ b ∷ []) ≡ same_text a b
begins-by [] a b = and-all (same_text a b)
begins-by (x ∷ path) a b = ap (λ t. t && begins_with (path ++ a ∷ []) (path ++ b ∷ [])) (same-itself x) ∙ begins-by path a b

-- A child is within another where it is that one.
within-child : (dir p q : Place) (a b : Text) → child_name dir p ≡ Some a → child_name dir q ≡ Some b → is_within p q ≡ same_text a b
within-child dir p q a b first second =
    (λ i. is_within (child-is dir p a first i) (child-is dir q b second i))
    ∙ ap (λ t. t && begins_with (dir.1 ++ a ∷ []) (dir.1 ++ b ∷ [])) (same-itself dir.0)
    ∙ begins-by dir.1 a b

-- A child less.
module _ (dir p : Place) (name : Text) (is : child_name dir p ≡ Some name) (x : Text) where
  abbrev stays : Place × Row Text → Bool
  stays e = not (is_within p e.0)

  less-all : (a s : Bool) → s ≡ true → (a && not s) ≡ ((s || a) && not s)
  less-all true true h = refl
  less-all false true h = refl
  less-all a false h = absurd (false≢true h)

  more-less : (y s a : Bool) → (y ≡ true → s ≡ false) → (y || (a && not s)) ≡ ((y || a) && not s)
  more-less true s a apart = sym (ap not (apart refl))
  more-less false s a apart = refl

  pub among-without : (rows : Rows Text) → among dir x (filter stays rows) ≡ (among dir x rows && not (same_text x name))
  among-without [] = refl
  among-without (e ∷ rows) = by (among-without rows) (child_name dir e.0) refl
    where
      dropped : child_name dir e.0 ≡ None → (b : Bool) → among dir x (cond b (e ∷ filter stays rows) (filter stays rows)) ≡ among dir x (filter stays rows)
      dropped none true = among-cons dir x e (filter stays rows) ∙ ap (λ (o : Option Text). is_named o x || among dir x (filter stays rows)) none
      dropped none false = refl

      gone : (among dir x (filter stays rows) ≡ (among dir x rows && not (same_text x name))) → (y : Text) → child_name dir e.0 ≡ Some y → same_text name y ≡ true → among dir x (filter stays (e ∷ rows)) ≡ (among dir x (e ∷ rows) && not (same_text x name))
      gone rest y at same =
          let first : same_text x name ≡ same_text x y = ap (same_text x) (same-is name y same) in
          ap (λ b. among dir x (cond (not b) (e ∷ filter stays rows) (filter stays rows))) (within-child dir p e.0 name y is at ∙ same)
          ∙ rest
          ∙ less-self (among dir x rows) (same_text x name) (same_text x y) first
          ∙ ap (λ (o : Option Text). (is_named o x || among dir x rows) && not (same_text x name)) (sym at)
          ∙ ap (λ b. b && not (same_text x name)) (sym (among-cons dir x e rows))
        where
          less-self : (a t u : Bool) → t ≡ u → (a && not t) ≡ ((u || a) && not t)
          less-self true true u h = sym (and-none (u || true))
            where
              and-none : (b : Bool) → (b && false) ≡ false
              and-none true = refl
              and-none false = refl
          less-self false true u h = sym (and-none (u || false))
            where
              and-none : (b : Bool) → (b && false) ≡ false
              and-none true = refl
              and-none false = refl
          less-self a false true h = absurd (false≢true h)
          less-self a false false h = refl

      kept : (among dir x (filter stays rows) ≡ (among dir x rows && not (same_text x name))) → (y : Text) → child_name dir e.0 ≡ Some y → same_text name y ≡ false → among dir x (filter stays (e ∷ rows)) ≡ (among dir x (e ∷ rows) && not (same_text x name))
      kept rest y at apart =
          ap (λ b. among dir x (cond (not b) (e ∷ filter stays rows) (filter stays rows))) (within-child dir p e.0 name y is at ∙ apart)
          ∙ among-cons dir x e (filter stays rows)
          ∙ ap (λ (o : Option Text). is_named o x || among dir x (filter stays rows)) at
          ∙ ap (λ b. same_text x y || b) rest
          ∙ more-less (same_text x y) (same_text x name) (among dir x rows) (λ same. nat_list_eq_equiv.symm x name ∙ ap (same_text name) (same-is x y same) ∙ apart)
          ∙ ap (λ (o : Option Text). (is_named o x || among dir x rows) && not (same_text x name)) (sym at)
          ∙ ap (λ b. b && not (same_text x name)) (sym (among-cons dir x e rows))

      by : (among dir x (filter stays rows) ≡ (among dir x rows && not (same_text x name))) → (o : Option Text) → child_name dir e.0 ≡ o → among dir x (filter stays (e ∷ rows)) ≡ (among dir x (e ∷ rows) && not (same_text x name))
      by rest None none =
          dropped none (stays e) ∙ rest
          ∙ ap (λ b. b && not (same_text x name)) (sym (among-cons dir x e rows ∙ ap (λ (o : Option Text). is_named o x || among dir x rows) none))
      by rest (Some y) at = elim (cases_Bool (same_text name y)) [ inl same ↦ gone rest y at same | inr apart ↦ kept rest y at apart ]

-- A row that is no child, and neither the directory nor above it: no child is within its place.
begins-apart : (path names : List Text) (x : Text) → only_name (rest_below path names) ≡ None → begins_with names path ≡ false → begins_with names (path ++ x ∷ []) ≡ false
begins-apart [] [] x none above = absurd (false≢true (sym above))
begins-apart [] (a ∷ []) x none above = absurd (none-some (sym none))
begins-apart [] (a ∷ b ∷ names) x none above = and-false (same_text a x)
begins-apart (b ∷ path) [] x none above = absurd (false≢true (sym above))
begins-apart (b ∷ path) (a ∷ names) x none above = elim (cases_Bool (same_text a b)) [
  | inl same ↦
      let turned : same_text b a ≡ true = nat_list_eq_equiv.symm b a ∙ same in
      ap (λ t. t && begins_with names (path ++ x ∷ [])) same
      ∙ begins-apart path names x
      (sym (ap (λ t. only_name (elim t as (λ y. Option (List Text)) [ true ↦ rest_below path names | false ↦ None ])) turned) ∙ none)
      (sym (ap (λ t. t && begins_with names path) same) ∙ above)
  | inr other ↦ ap (λ t. t && begins_with names (path ++ x ∷ [])) other
]

within-apart : (dir p : Place) (x : Text) → child_name dir p ≡ None → is_within p dir ≡ false → is_within p (child dir x) ≡ false
within-apart dir p x none above = elim (cases_Bool (same_text p.0 dir.0)) [
  | inl same ↦
      let turned : same_text dir.0 p.0 ≡ true = nat_list_eq_equiv.symm dir.0 p.0 ∙ same in
      ap (λ t. t && begins_with p.1 (dir.1 ++ x ∷ [])) same
      ∙ begins-apart dir.1 p.1 x
      (sym (ap (λ t. elim t as (λ y. Option Text) [ true ↦ only_name (rest_below dir.1 p.1) | false ↦ None ]) turned) ∙ none)
      (sym (ap (λ t. t && begins_with p.1 dir.1) same) ∙ above)
  | inr other ↦ ap (λ t. t && begins_with p.1 (dir.1 ++ x ∷ [])) other
]

module _ (dir p : Place) (none : child_name dir p ≡ None) (above : is_within p dir ≡ false) where
  abbrev left_in : Place × Row Text → Bool
  left_in e = not (is_within p e.0)

  pub names-apart : (rows : Rows Text) → names_in dir (filter left_in rows) ≡ names_in dir rows
  names-apart [] = refl
  names-apart (e ∷ rows) = by (names-apart rows) (child_name dir e.0) refl
    where
      dropped : child_name dir e.0 ≡ None → (b : Bool) → names_in dir (cond b (e ∷ filter left_in rows) (filter left_in rows)) ≡ names_in dir (filter left_in rows)
      dropped bare true = ap (λ (o : Option Text). cons_option o (names_in dir (filter left_in rows))) bare
      dropped bare false = refl

      by : (names_in dir (filter left_in rows) ≡ names_in dir rows) → (o : Option Text) → child_name dir e.0 ≡ o → names_in dir (filter left_in (e ∷ rows)) ≡ names_in dir (e ∷ rows)
      by rest None bare = dropped bare (left_in e) ∙ rest ∙ ap (λ (o : Option Text). cons_option o (names_in dir rows)) (sym bare)
      by rest (Some x) at =
          ap (λ b. names_in dir (cond (not b) (e ∷ filter left_in rows) (filter left_in rows))) (ap (λ (q : Place). is_within p q) (child-is dir e.0 x at) ∙ within-apart dir p x none above)
          ∙ ap (λ (xs : List Text). cons_option (child_name dir e.0) xs) rest

-- ---- the loop over rows

add-left : (b n g a : Bool) → ((b || (n && not g)) || (a && not g)) ≡ (b || ((n || a) && not g))
add-left true n g a = refl
add-left false true true true = refl
add-left false true true false = refl
add-left false true false a = refl
add-left false false g a = refl

pub left-next : (dir : Place) (other old new : BTreeSet Text) (rows : Rows Text) (e : Place × Row Text) (rest : Rows Text) → rows ≡ e ∷ rest → HasChild (child_name dir e.0) other old new → (x : Text)
    → (has new x || (among dir x rest && not (has other x))) ≡ (has old x || (among dir x rows && not (has other x)))
left-next dir other old new rows e rest is more x =
    ap (λ b. b || (among dir x rest && not (has other x))) (more x)
    ∙ add-left (has old x) (named dir x e.0) (has other x) (among dir x rest)
    ∙ ap (λ b. has old x || (b && not (has other x))) (sym (ap (among dir x) is ∙ among-cons dir x e rest))

-- ---- a course, as its state changes

-- What is said of its sets.
sets-more : (a g n b : Bool) → b ≡ (a || n) → ((a && not g) || (n && not g)) ≡ (b && not g)
sets-more true true true b h = ap (λ t. t && false) (sym h)
sets-more true true false b h = ap (λ t. t && false) (sym h)
sets-more true false n b h = ap (λ t. t && true) (sym h)
sets-more false true true b h = ap (λ t. t && false) (sym h)
sets-more false true false b h = ap (λ t. t && false) (sym h)
sets-more false false true b h = ap (λ t. t && true) (sym h)
sets-more false false false b h = ap (λ t. t && true) (sym h)

sets-less : (a g s b : Bool) → b ≡ (a && not s) → ((a && not g) && not s) ≡ (b && not g)
sets-less true true s b h = and-none b
  where
    and-none : (c : Bool) → false ≡ (c && false)
    and-none true = refl
    and-none false = refl
sets-less true false true b h = ap (λ t. t && true) (sym h)
sets-less true false false b h = ap (λ t. t && true) (sym h)
sets-less false g s b h = ap (λ t. t && not g) (sym h)

sets-given : (a g s : Bool) → ((a && not g) && not s) ≡ (a && not (g || s))
sets-given true true s = refl
sets-given true false s = refl
sets-given false g s = refl

module _ (s : State Text Own) (rows : Rows Text) (v : Course) (h : IsCourse s v) where
  -- Rows whose children have the same names.
  pub course-named : names_in v.dir rows ≡ names_in v.dir s.rows → IsCourse (record s { rows = rows }) v
  course-named same = record {
    iterator = h.iterator;
    is = h.is;
    past = h.past;
    next = λ x. h.next x ∙ ap (λ (names : List Text). list_any (same_text x) names && not (has v.given x)) (sym same);
  }

  pub course-more : (p : Place) (w : Course) → ((x : Text) → among v.dir x rows ≡ (among v.dir x s.rows || named v.dir x p)) → HasMore p v w → IsCourse (record s { rows = rows }) w
  course-more p w names more =
      subst (λ (y : Course). IsCourse (record s { rows = rows }) y) (sym more.rest) (record {
        iterator = h.iterator;
        is = h.is;
        past = h.past;
        next = λ x.
            more.left x ∙ ap (λ b. b || (named v.dir x p && not (has v.given x))) (h.next x)
            ∙ sets-more (among v.dir x s.rows) (has v.given x) (named v.dir x p) (among v.dir x rows) (names x);
      })

  pub course-less : (p : Place) (w : Course) (less : HasLess p v w) → ((x : Text) → among v.dir x rows ≡ (among v.dir x s.rows && not (same_text x less.name))) → IsCourse (record s { rows = rows }) w
  course-less p w less names =
      subst (λ (y : Course). IsCourse (record s { rows = rows }) y) (sym less.rest) (record {
        iterator = h.iterator;
        is = h.is;
        past = h.past;
        next = λ x.
            less.left x ∙ ap (λ b. b && not (same_text x less.name)) (h.next x)
            ∙ sets-less (among v.dir x s.rows) (has v.given x) (same_text x less.name) (among v.dir x rows) (names x);
      })

-- The row at a place went, and all below it.
pub course-lost : (s : State Text Own) (p : Place) (v w : Course) → HasLost p v w → IsCourse s v → IsCourse (record s { rows = filter (λ e. not (is_within p e.0)) s.rows }) w
course-lost s p v w (inl less) h = course-less s (filter (λ e. not (is_within p e.0)) s.rows) v h p w less (λ x. among-without v.dir p less.name less.child x s.rows)
course-lost s p v w (inr apart) h =
    let rows : Rows Text = filter (λ e. not (is_within p e.0)) s.rows in
    subst (λ (y : Course). IsCourse (record s { rows = rows }) y) (sym apart.rest) (course-named s rows v h (names-apart v.dir p apart.child apart.within s.rows))

-- Another state, in which its iterator stands and its directory has the same children.
pub course-kept : (s t : State Text Own) (w : Course) → IsCourse s w → t.rows ≡ s.rows → own_of (agent_of t w.agent) w.row ≡ own_of (agent_of s w.agent) w.row → IsCourse t w
course-kept s t w h rows own = record {
  iterator = h.iterator;
  is = own ∙ h.is;
  past = h.past;
  next = λ x. h.next x ∙ ap (λ (es : Rows Text). among w.dir x es && not (has w.given x)) (sym rows);
}

get-before : {X : Type 0} (xs ys : List X) (n : ℕ) (x : X) → slice_get xs n ≡ Some x → slice_get (xs ++ ys) n ≡ Some x
get-before [] ys n x is = absurd cc
get-before (y ∷ xs) ys zero x is = is
get-before (y ∷ xs) ys (suc n) x is = get-before xs ys n x is

get-other : {X : Type 0} (xs : List X) (i k : ℕ) (y : X) → k ≢ i → slice_get (slice_set xs i y) k ≡ slice_get xs k
get-other [] i k y other = refl
get-other (x ∷ xs) zero zero y other = absurd (other refl)
get-other (x ∷ xs) zero (suc k) y other = refl
get-other (x ∷ xs) (suc i) zero y other = refl
get-other (x ∷ xs) (suc i) (suc k) y other = get-other xs i k y (λ e. other (ap suc e))

get-set : {X : Type 0} (xs : List X) (n : ℕ) (x y : X) → slice_get xs n ≡ Some x → slice_get (slice_set xs n y) n ≡ Some y
get-set [] n x y is = absurd cc
get-set (z ∷ xs) zero x y is = refl
get-set (z ∷ xs) (suc n) x y is = get-set xs n x y is

-- The own row of an agent that has one more.
own-before : (a : Agent Own) (r x : Own) (n : ℕ) → own_of a n ≡ Some x → own_of (record a { own = a.own ++ r ∷ [] }) n ≡ Some x
own-before a r x zero is = is
own-before a r x (suc n) is = get-before a.own (r ∷ []) n x is

-- Another own row of an agent.
own-other : (a : Agent Own) (r : Own) (n m : ℕ) → 0 < n → m ≢ n → own_of (record a { own = slice_set a.own (n - 1) r }) m ≡ own_of a m
own-other a r n zero real other = refl
own-other a r n (suc m) real other = get-other a.own (n - 1) m r (λ e. other (omega (arith, e, real)))

own-set : (a : Agent Own) (r x : Own) (n : ℕ) → own_of a n ≡ Some x → own_of (record a { own = slice_set a.own (n - 1) r }) n ≡ Some r
own-set a r x zero is = absurd (none-some is)
own-set a r x (suc n) is = ap (λ m. slice_get (slice_set a.own m r) n) (omega arith) ∙ get-set a.own n x r is

own-same : (a b : Agent Own) (n : ℕ) → a.own ≡ b.own → own_of a n ≡ own_of b n
own-same a b zero same = refl
own-same a b (suc n) same = ap (λ (rows : List Own). slice_get rows n) same

module _ (s : State Text Own) (k : ℕ) (agent : IsAgent s k) where
  -- An agent that has the same own rows.
  pub course-agent : (a : Agent Own) (w : Course) → a.own ≡ (agent_of s k).own → IsCourse s w → IsCourse (with_agent s k a) w
  course-agent a w rows h = course-kept s (with_agent s k a) w h refl (by (cases_eq w.agent k))
    where
      by : (w.agent ≡ k) ⊎ (w.agent ≢ k) → own_of (agent_of (with_agent s k a) w.agent) w.row ≡ own_of (agent_of s w.agent) w.row
      by (inl same) =
          ap (λ j. own_of (agent_of (with_agent s k a) j) w.row) same
          ∙ ap (λ (b : Agent Own). own_of b w.row) (agent-set s k a (number_of s k agent))
          ∙ own-same a (agent_of s k) w.row rows
          ∙ ap (λ j. own_of (agent_of s j) w.row) (sym same)
      by (inr other) = ap (λ (b : Agent Own). own_of b w.row) (agent-other s k w.agent a (number_of s k agent) other)

  pub course-added : (r : Own) (w : Course) → IsCourse s w → IsCourse (adds_own s k r) w
  course-added r w h = course-kept s (adds_own s k r) w h refl (by (cases_eq w.agent k))
    where
      by : (w.agent ≡ k) ⊎ (w.agent ≢ k) → own_of (agent_of (adds_own s k r) w.agent) w.row ≡ own_of (agent_of s w.agent) w.row
      by (inl same) =
          ap (λ j. own_of (agent_of (adds_own s k r) j) w.row) same
          ∙ ap (λ (a : Agent Own). own_of a w.row) (agent-set s k (record (agent_of s k) { own = (agent_of s k).own ++ r ∷ [] }) (number_of s k agent))
          ∙ own-before (agent_of s k) r (own.Iterator h.iterator) w.row (ap (λ j. own_of (agent_of s j) w.row) (sym same) ∙ h.is)
          ∙ sym h.is
      by (inr other) = ap (λ (a : Agent Own). own_of a w.row) (agent-other s k w.agent (record (agent_of s k) { own = (agent_of s k).own ++ r ∷ [] }) (number_of s k agent) other)

  pub course-swapped : (n : ℕ) (r : Own) (w : Course) → 0 < n → IsOther k n w → IsCourse s w → IsCourse (with_own s k n r) w
  course-swapped n r w real other h = course-kept s (with_own s k n r) w h refl (by (cases_eq w.agent k) other)
    where
      by : (w.agent ≡ k) ⊎ (w.agent ≢ k) → IsOther k n w → own_of (agent_of (with_own s k n r) w.agent) w.row ≡ own_of (agent_of s w.agent) w.row
      by (inr apart) o = ap (λ (a : Agent Own). own_of a w.row) (agent-other s k w.agent (record (agent_of s k) { own = slice_set (agent_of s k).own (n - 1) r }) (number_of s k agent) apart)
      by (inl same) (inl apart) = absurd (apart same)
      by (inl same) (inr apart) =
          ap (λ j. own_of (agent_of (with_own s k n r) j) w.row) same
          ∙ ap (λ (a : Agent Own). own_of a w.row) (agent-set s k (record (agent_of s k) { own = slice_set (agent_of s k).own (n - 1) r }) (number_of s k agent))
          ∙ own-other (agent_of s k) r n w.row real apart
          ∙ ap (λ j. own_of (agent_of s j) w.row) (sym same)

  -- Its iterator has given a name, or the end.
  pub course-gone : (n : ℕ) (r : Own) (name : Option Text) (v w : Course) → own_of (agent_of s k) n ≡ Some r → IsGivenBy k n name v w → IsCourse s v → IsCourse (with_own s k n (given_row r name)) w
  course-gone n r name v w was by h = go name by.gone
    where
      held : r ≡ own.Iterator h.iterator
      held = some-same (sym was ∙ (λ i. own_of (agent_of s (sym by.agent i)) (sym by.row i)) ∙ h.is)

      own-now : (x : Own) → own_of (agent_of (with_own s k n x) v.agent) v.row ≡ Some x
      own-now x =
          (λ i. own_of (agent_of (with_own s k n x) (by.agent i)) (by.row i))
          ∙ ap (λ (a : Agent Own). own_of a n) (agent-set s k (record (agent_of s k) { own = slice_set (agent_of s k).own (n - 1) x }) (number_of s k agent))
          ∙ own-set (agent_of s k) x r n was

      any-more : (past : List Text) (text x : Text) → list_any (same_text x) (past ++ text ∷ []) ≡ (list_any (same_text x) past || same_text x text)
      any-more past text x = list_any-append (same_text x) past (text ∷ []) ∙ ap (λ b. list_any (same_text x) past || b) (or-none (same_text x text))

      go : (o : Option Text) → HasGone o v w → IsCourse (with_own s k n (given_row r o)) w
      go None same =
          subst (λ (y : Course). IsCourse (with_own s k n (given_row r None)) y) (sym same) (record {
            iterator = h.iterator;
            is = own-now (given_row r None) ∙ ap (λ (x : Own). Some (given_row x None)) held;
            past = h.past;
            next = h.next;
          })
      go (Some text) g =
          subst (λ (y : Course). IsCourse (with_own s k n (given_row r (Some text))) y) (sym g.rest) (record {
            iterator = record h.iterator { given = h.iterator.given ++ text ∷ [] };
            is = own-now (given_row r (Some text)) ∙ ap (λ (x : Own). Some (given_row x (Some text))) held;
            past = λ x. g.given x ∙ ap (λ b. b || same_text x text) (h.past x) ∙ sym (any-more h.iterator.given text x);
            next = λ x.
                g.left x ∙ ap (λ b. b && not (same_text x text)) (h.next x) ∙ sets-given (among v.dir x s.rows) (has v.given x) (same_text x text)
                ∙ ap (λ b. among v.dir x s.rows && not b) (sym (g.given x));
          })

  pub course-beside : (n : ℕ) (r : Own) (c d : Course) → 0 < n → StaysBeside k n c d → IsCourse s c → IsCourse (with_own s k n r) d
  course-beside n r c d real stays h = course-swapped n r d real stays.1 (subst (IsCourse s) (sym stays.0) h)

  pub course-passed : (n : ℕ) (r : Own) (name : Option Text) (c d : Course) → 0 < n → own_of (agent_of s k) n ≡ Some r → GivesOrStays k n name c d → IsCourse s c → IsCourse (with_own s k n (given_row r name)) d
  course-passed n r name c d real was (inl by) h = course-gone n r name c d was by h
  course-passed n r name c d real was (inr stays) h = course-beside n (given_row r name) c d real stays h

-- ---- what is given next

then-equal : (o : Ordering) → ordering_then o Equal ≡ o
then-equal Less = refl
then-equal Equal = refl
then-equal Greater = refl

equal-by : (o : Ordering) → is_eq o ≡ true → o ≡ Equal
equal-by Less h = absurd cc
equal-by Equal h = refl
equal-by Greater h = absurd cc

pub text-itself : (x : Text) → text_cmp x x ≡ Equal
text-itself x = equal-by (text_cmp x x) (sym (texts_ties x x) ∙ same-itself x)

abbrev pub path_cmp : List Text → List Text → Ordering
path_cmp = slice_cmp (slice_cmp nat_cmp)

paths-by : (path : List Text) (a b : Text) → path_cmp (path ++ a ∷ []) (path ++ b ∷ []) ≡ text_cmp a b
paths-by [] a b = then-equal (text_cmp a b)
paths-by (x ∷ path) a b = ap (λ o. ordering_then o (path_cmp (path ++ a ∷ []) (path ++ b ∷ []))) (text-itself x) ∙ paths-by path a b

children-by : (dir : Place) (a b : Text) → place_cmp (child dir a) (child dir b) ≡ text_cmp a b
children-by dir a b = ap (λ o. ordering_then o (path_cmp (dir.1 ++ a ∷ []) (dir.1 ++ b ∷ []))) (text-itself dir.0) ∙ paths-by dir.1 a b

-- Names in order.
abbrev AreAbove : Text → List Text → Type 0
AreAbove name names = AllByRecursion (λ other. text_cmp name other ≡ Less) names

abbrev AreInOrder : List Text → Type 0
AreInOrder [] = Unit {0}
AreInOrder (x ∷ xs) = AreAbove x xs × AreInOrder xs

module _ (dir : Place) where
  names-above : (place : Place) (name : Text) (rows : Rows Text) → place ≡ child dir name → IsBefore place rows → AreAbove name (names_in dir rows)
  names-above place name [] at before = tt
  names-above place name (e ∷ rows) at before =
      let rest = names-above place name rows at before.1 in
      elim (child_name dir e.0) as (λ o. child_name dir e.0 ≡ o → AreAbove name (cons_option o (names_in dir rows))) [
        | None ↦ λ is. rest
        | Some other ↦ λ is. (sym (children-by dir name other) ∙ (λ i. place_cmp (sym at i) (sym (child-is dir e.0 other is) i)) ∙ before.0, rest)
      ] refl

  names-rise : (rows : Rows Text) → AreRising rows → AreInOrder (names_in dir rows)
  names-rise [] h = tt
  names-rise (e ∷ rows) h =
      let rest = names-rise rows h.1 in
      elim (child_name dir e.0) as (λ o. child_name dir e.0 ≡ o → AreInOrder (cons_option o (names_in dir rows))) [
        | None ↦ λ is. rest
        | Some name ↦ λ is. (names-above e.0 name rows (child-is dir e.0 name is) h.0, rest)
      ] refl

abbrev is_in : List Text → Text → Bool
is_in names x = list_any (same_text x) names

-- Of names in order the least one that was not given is the next.
next-least : (past : List Text) (k : Text) (xs : List Text) → AreInOrder xs → is_in xs k ≡ true → is_in past k ≡ false
    → ((q : Text) → is_in xs q ≡ true → is_in past q ≡ false → is_gt (text_cmp k q) ≡ false) → next_of past xs ≡ Some k
next-least past k [] rise there new least = absurd (false≢true there)
next-least past k (x ∷ xs) rise there new least =
    by (λ among. next-least past k xs rise.1 among new (λ q is fresh. least q (ap (λ b. same_text q x || b) is ∙ or-all (same_text q x)) fresh)) (cases_Bool (is_in past x)) (cases_Bool (same_text k x))
  where
    rest : same_text k x ≡ false → is_in xs k ≡ true
    rest apart = sym (ap (λ b. b || is_in xs k) apart) ∙ there

    above : (ys : List Text) → AreAbove x ys → is_in ys k ≡ true → text_cmp x k ≡ Less
    above [] all is = absurd (false≢true is)
    above (y ∷ ys) all is = elim (cases_Bool (same_text k y)) [
      | inl same ↦ ap (text_cmp x) (same-is k y same) ∙ all.0
      | inr other ↦ above ys all.1 (sym (ap (λ b. b || is_in ys k) other) ∙ is)
    ]

    first : is_in past x ≡ false → Some x ≡ next_of past (x ∷ xs)
    first fresh = sym (ap (λ b. cond (not b) (Some x) (next_of past xs)) fresh)

    by : (is_in xs k ≡ true → next_of past xs ≡ Some k) → (is_in past x ≡ true) ⊎ (is_in past x ≡ false) → (same_text k x ≡ true) ⊎ (same_text k x ≡ false) → next_of past (x ∷ xs) ≡ Some k
    by more (inl given) (inl same) = absurd (false≢true (sym new ∙ ap (is_in past) (same-is k x same) ∙ given))
    by more (inl given) (inr apart) = ap (λ b. cond (not b) (Some x) (next_of past xs)) given ∙ more (rest apart)
    by more (inr fresh) (inl same) = sym (first fresh) ∙ ap Some (sym (same-is k x same))
    by more (inr fresh) (inr apart) =
        let less : text_cmp x k ≡ Less = above xs rise.0 (rest apart) in
        let greater : is_gt (text_cmp k x) ≡ true = ap is_gt (nat_list_cmp_total.antisymm k x ∙ ap ordering_reverse less) in
        absurd (false≢true (sym (least x (ap (λ b. b || is_in xs x) (same-itself x)) fresh) ∙ greater))

-- Where all were given there is none.
next-none : (past xs : List Text) → ((x : Text) → is_in xs x ≡ true → is_in past x ≡ true) → next_of past xs ≡ None
next-none past [] all = refl
next-none past (x ∷ xs) all =
    ap (λ b. cond (not b) (Some x) (next_of past xs)) (all x (ap (λ b. b || is_in xs x) (same-itself x)))
    ∙ next-none past xs (λ y is. all y (ap (λ b. same_text y x || b) is ∙ or-all (same_text y x)))

pub no-keys : (keys : List Text) → (0 < length keys → ⊥) → keys ≡ []
no-keys [] none = refl
no-keys (k ∷ keys) none = absurd (none (omega arith))

pub and-first : (a b : Bool) → (a && b) ≡ true → a ≡ true
and-first true b h = refl
and-first false b h = absurd (false≢true h)

and-second : (a b : Bool) → (a && not b) ≡ true → b ≡ false
and-second true true h = absurd (false≢true h)
and-second true false h = refl
and-second false b h = absurd (false≢true h)

module _ (s : State Text Own) (rising : AreRising s.rows) (w : Course) (h : IsCourse s w) where
  abbrev past : List Text
  past = h.iterator.given

  given-is : given_in (own_of (agent_of s w.agent) w.row) ≡ past
  given-is = ap given_in h.is

  left-is : (x : Text) → has w.left x ≡ (among w.dir x s.rows && not (is_in past x))
  left-is x = h.next x ∙ ap (λ b. among w.dir x s.rows && not b) (h.past x)

  pub least-left : (k : Text) → IsTrue (has w.left k) → ((q : Text) → IsTrue (has w.left q) → is_gt (text_cmp k q) ≡ false)
      → Some k ≡ next_of (given_in (own_of (agent_of s w.agent) w.row)) (names_in w.dir s.rows)
  least-left k there least =
      let both : (among w.dir k s.rows && not (is_in past k)) ≡ true = sym (left-is k) ∙ there in
      sym (ap (λ (ps : List Text). next_of ps (names_in w.dir s.rows)) given-is
      ∙ next-least past k (names_in w.dir s.rows) (names-rise w.dir s.rows rising) (and-first (among w.dir k s.rows) (not (is_in past k)) both) (and-second (among w.dir k s.rows) (is_in past k) both)
      (λ q is fresh. least q (left-is q ∙ ap (λ b. b && not (is_in past q)) is ∙ ap not fresh)))

  pub none-left : w.left.keys ≡ [] → None ≡ next_of (given_in (own_of (agent_of s w.agent) w.row)) (names_in w.dir s.rows)
  none-left empty =
      sym (ap (λ (ps : List Text). next_of ps (names_in w.dir s.rows)) given-is ∙ next-none past (names_in w.dir s.rows) given)
    where
      given : (x : Text) → is_in (names_in w.dir s.rows) x ≡ true → is_in past x ≡ true
      given x is = elim (cases_Bool (is_in past x)) [
        | inl was_given ↦ was_given
        | inr fresh ↦ absurd (false≢true (sym (ap (λ (ks : List Text). list_any (is_at (text_cmp x)) ks) empty) ∙ left-is x ∙ ap (λ b. b && not (is_in past x)) is ∙ ap not fresh))
      ]

-- ---- courses, as their state changes

module _ (s t : State Text Own) (held taken new : List Course) (followed : AllByRecursion (IsCourse s) held) (same : taken ≡ held) where
  from-taken : (u : State Text Own) (R : Course → Course → Type 0) → ((c d : Course) → R c d → IsCourse s c → IsCourse u d) → t ≡ u → AreFrom R taken new → AllByRecursion (IsCourse t) new
  from-taken u R on is told =
      subst (λ (x : State Text Own). AllByRecursion (IsCourse x) new) (sym is)
      (all-from (IsCourse s) (IsCourse u) R on taken new (subst (λ (cs : List Course). AllByRecursion (IsCourse s) cs) (sym same) followed) told)

  pub courses-made : (p : Place) (r : Row Text) (n : ℕ) → t ≡ record s { rows = take n s.rows ++ (p, r) ∷ drop n s.rows } → AreFrom (HasMore p) taken new → AllByRecursion (IsCourse t) new
  courses-made p r n is told =
      let rows : Rows Text = take n s.rows ++ (p, r) ∷ drop n s.rows in
      from-taken (record s { rows = rows }) (HasMore p) (λ c d more h. course-more s rows c h p d (λ x. among-insert c.dir x p r n s.rows) more) is told

  pub courses-removed : (p : Place) → t ≡ record s { rows = filter (λ e. not (is_within p e.0)) s.rows } → AreFrom (HasLost p) taken new → AllByRecursion (IsCourse t) new
  courses-removed p is told =
      from-taken (record s { rows = filter (λ e. not (is_within p e.0)) s.rows }) (HasLost p) (λ c d lost h. course-lost s p c d lost h) is told

  pub courses-swapped : (k : ℕ) → IsAgent s k → (n : ℕ) → 0 < n → (r : Own) → t ≡ with_own s k n r → AreFrom (StaysBeside k n) taken new → AllByRecursion (IsCourse t) new
  courses-swapped k agent n real r is told = from-taken (with_own s k n r) (StaysBeside k n) (λ c d stays h. course-beside s k agent n r c d real stays h) is told

  pub courses-gone : (k : ℕ) → IsAgent s k → (n : ℕ) → 0 < n → (r : Own) (name : Option Text) → own_of (agent_of s k) n ≡ Some r → t ≡ with_own s k n (given_row r name) → AreFrom (GivesOrStays k n name) taken new → AllByRecursion (IsCourse t) new
  courses-gone k agent n real r name was is told =
      from-taken (with_own s k n (given_row r name)) (GivesOrStays k n name) (λ c d gives h. course-passed s k agent n r name c d real was gives h) is told

module _ (s t : State Text Own) (held : List Course) (followed : AllByRecursion (IsCourse s) held) where
  in-state : (u : State Text Own) → t ≡ u → ((c : Course) → IsCourse s c → IsCourse u c) → AllByRecursion (IsCourse t) held
  in-state u is on = subst (λ (x : State Text Own). AllByRecursion (IsCourse x) held) (sym is) (all-each (IsCourse s) (IsCourse u) on held followed)

  pub courses-set : (p : Place) (old new : Row Text) (n : ℕ) → slice_get s.rows n ≡ Some (p, old) → t ≡ record s { rows = slice_set s.rows n (p, new) } → AllByRecursion (IsCourse t) held
  courses-set p old new n at is =
      let rows : Rows Text = slice_set s.rows n (p, new) in
      in-state (record s { rows = rows }) is (λ c h. course-named s rows c h (names-set c.dir p old new n s.rows at))

  pub courses-added : (k : ℕ) → IsAgent s k → (r : Own) → t ≡ adds_own s k r → AllByRecursion (IsCourse t) held
  courses-added k agent r is = in-state (adds_own s k r) is (λ c h. course-added s k agent r c h)

  pub courses-agent : (k : ℕ) → IsAgent s k → (a : Agent Own) → t ≡ with_agent s k a → a.own ≡ (agent_of s k).own → AllByRecursion (IsCourse t) held
  courses-agent k agent a is rows = in-state (with_agent s k a) is (λ c h. course-agent s k agent a c rows h)

  -- Where rows and agents are the same.
  pub courses-same : t.rows ≡ s.rows → t.agents ≡ s.agents → AllByRecursion (IsCourse t) held
  courses-same rows agents =
      all-each (IsCourse s) (IsCourse t) (λ c h. course-kept s t c h rows (ap (λ (list : List (Agent Own)). own_of (agent_in list c.agent) c.row) agents)) held followed
