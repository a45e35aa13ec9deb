-- Rows in the order of their places: what stands at an index, and what a change of them keeps.
use Rattle.std.proofs.Common.{◌≡◌, ℕ, zero, suc, ◌+◌, ◌<◌, Bool, true, false, cond, [], ◌∷◌, ◌++◌, filter, length, take, drop, slice_set, Option, Some, None, refl, sym, ap, subst, ◌∙◌, arith, get_or}
use Rattle.std.specs.Prelude.{slice_get}
use Rattle.std.specs.List.{AllByRecursion}
use Rattle.std.specs.FinMap.Entries.{put, find, by_order}
use Rattle.std.specs.Ordering.{is_eq, is_lt, ordering_reverse}
use Rattle.std.specs.declared.cmp.Ordering.{Ordering}
use Rattle.std.specs.declared.cmp.Ordering.TheVariants.{Less, Equal, Greater}
use Rattle.std.proofs.lemmas.Option.{slice_get-get_or}
use Rattle.opfs_base.specs.Places.{Place, place_cmp}
use Rattle.opfs_base.specs.Texts.{Text}
use Rattle.opfs_laws.proofs.Spots.{place_total, exact_places, place_itself}
use Rattle.opfs_machine.specs.declared.state.FileRow.{FileRow}
use Rattle.opfs_machine.specs.declared.state.Row.{Row}
use Rattle.opfs_machine.specs.declared.own.Own.{Own}
use Rattle.opfs_machine.specs.declared.state.State.{State}
use Rattle.opfs_machine.specs.Effects.{made}
use Rattle.opfs_machine.specs.Rows.{Rows, change_at, changed_row, with_row}
use Rattle.opfs_rulings.specs.Spots.{IsBehind, IsBefore, AreRising, IsThere, IsMissing}

abbrev Entry : Type 0
Entry = Place × Row Text

-- A greater place has a lesser one below it, and the other way round.
turned : (a b : Place) (o : Ordering) → place_cmp a b ≡ o → place_cmp b a ≡ ordering_reverse o
turned a b o is = place_total.antisymm b a ∙ ap ordering_reverse is

module _ (P : Entry → Type 0) where
  all_filter : (t : Entry → Bool) (es : Rows Text) → AllByRecursion P es → AllByRecursion P (filter t es)
  all_filter t [] h = tt
  all_filter t (e ∷ es) h = elim (t e) as (λ b. AllByRecursion P (cond b (e ∷ filter t es) (filter t es))) [ true ↦ (h.0, all_filter t es h.1) | false ↦ all_filter t es h.1 ]

  all_insert : (x : Entry) (n : ℕ) (es : Rows Text) → P x → AllByRecursion P es → AllByRecursion P (take n es ++ x ∷ drop n es)
  all_insert x zero es p h = (p, h)
  all_insert x (suc n) [] p h = (p, tt)
  all_insert x (suc n) (e ∷ es) p h = (h.0, all_insert x n es p h.1)

  all_drop : (n : ℕ) (es : Rows Text) → AllByRecursion P es → AllByRecursion P (drop n es)
  all_drop zero es h = h
  all_drop (suc n) [] h = tt
  all_drop (suc n) (e ∷ es) h = all_drop n es h.1

  all_get : (n : ℕ) (x : Entry) (es : Rows Text) → slice_get es n ≡ Some x → AllByRecursion P es → P x
  all_get n x [] is h = cc
  all_get zero x (e ∷ es) is h = let same : e ≡ x = cc in subst P same h.0
  all_get (suc n) x (e ∷ es) is h = all_get n x es is h.1

-- What is said of places alone stays where a row at a place is another.
all_set : (Q : Place → Type 0) (n : ℕ) (p : Place) (r new : Row Text) (es : Rows Text) → slice_get es n ≡ Some (p, r) → AllByRecursion (λ e. Q e.0) es
    → AllByRecursion (λ e. Q e.0) (slice_set es n (p, new))
all_set Q n p r new [] is h = cc
all_set Q zero p r new (e ∷ es) is h = let same : e.0 ≡ p = cc in (subst Q same h.0, h.1)
all_set Q (suc n) p r new (e ∷ es) is h = (h.0, all_set Q n p r new es is h.1)

all_less : (a b : Place) (es : Rows Text) → place_cmp a b ≡ Less → IsBefore b es → IsBefore a es
all_less a b [] lt h = tt
all_less a b (e ∷ es) lt h = (place_total.trans a b e.0 lt h.0, all_less a b es lt h.1)

-- A filter, another row at a place, and a row at a new place keep the order.
pub rising_filter : (t : Entry → Bool) (es : Rows Text) → AreRising es → AreRising (filter t es)
rising_filter t [] h = tt
rising_filter t (e ∷ es) h =
    elim (t e) as (λ b. AreRising (cond b (e ∷ filter t es) (filter t es))) [
      | true ↦ (all_filter (λ x. place_cmp e.0 x.0 ≡ Less) t es h.0, rising_filter t es h.1)
      | false ↦ rising_filter t es h.1
    ]

pub rising_set : (n : ℕ) (p : Place) (r new : Row Text) (es : Rows Text) → slice_get es n ≡ Some (p, r) → AreRising es → AreRising (slice_set es n (p, new))
rising_set n p r new [] is h = cc
rising_set zero p r new (e ∷ es) is h = let same : e.0 ≡ p = cc in (subst (λ (q : Place). IsBefore q es) same h.0, h.1)
rising_set (suc n) p r new (e ∷ es) is h = (all_set (λ q. place_cmp e.0 q ≡ Less) n p r new es is h.0, rising_set n p r new es is h.1)

pub rising_insert : (p : Place) (r : Row Text) (n : ℕ) (es : Rows Text) → AreRising es → IsBehind p (take n es) → IsBefore p (drop n es) → AreRising (take n es ++ (p, r) ∷ drop n es)
rising_insert p r zero es h behind before = (before, h)
rising_insert p r (suc n) [] h behind before = (tt, tt)
rising_insert p r (suc n) (e ∷ es) h behind before =
    (all_insert (λ x. place_cmp e.0 x.0 ≡ Less) (p, r) n es (turned p e.0 Greater behind.0) h.0, rising_insert p r n es h.1 behind.1 before)

pub behind_upto : (q : Place) (r : Row Text) (n : ℕ) (es : Rows Text) → AreRising es → slice_get es n ≡ Some (q, r) → IsBehind q (take n es)
behind_upto q r n [] h is = cc
behind_upto q r zero (e ∷ es) h is = tt
behind_upto q r (suc n) (e ∷ es) h is = (turned e.0 q Less (all_get (λ x. place_cmp e.0 x.0 ≡ Less) n (q, r) es is h.0), behind_upto q r n es h.1 is)

-- Of a row before a place all rows up to it are before it; of one behind it all from it on.
pub behind_to : (p q : Place) (r : Row Text) (n : ℕ) (es : Rows Text) → AreRising es → slice_get es n ≡ Some (q, r) → place_cmp p q ≡ Greater → IsBehind p (take (suc n) es)
behind_to p q r n [] h is gt = cc
behind_to p q r zero (e ∷ es) h is gt = let same : q ≡ e.0 = cc in (ap (place_cmp p) (sym same) ∙ gt, tt)
behind_to p q r (suc n) (e ∷ es) h is gt =
    let less : place_cmp e.0 q ≡ Less = all_get (λ x. place_cmp e.0 x.0 ≡ Less) n (q, r) es is h.0 in
    (turned e.0 p Less (place_total.trans e.0 q p less (turned p q Greater gt)), behind_to p q r n es h.1 is gt)

pub before_from : (p q : Place) (r : Row Text) (n : ℕ) (es : Rows Text) → AreRising es → slice_get es n ≡ Some (q, r) → place_cmp p q ≡ Less → IsBefore p (drop n es)
before_from p q r n [] h is lt = cc
before_from p q r zero (e ∷ es) h is lt = let same : q ≡ e.0 = cc in let first : place_cmp p e.0 ≡ Less = ap (place_cmp p) (sym same) ∙ lt in (first, all_less p e.0 es first h.0)
before_from p q r (suc n) (e ∷ es) h is lt = before_from p q r n es h.1 is lt

-- What is found at a place.
module _ (p : Place) where
  abbrev find_by : Ordering → Entry → Rows Text → Option (Row Text)
  find_by o e es = cond (is_eq o) (Some e.1) (find place_cmp p es)

  find_behind : (n : ℕ) (es : Rows Text) → IsBehind p (take n es) → find place_cmp p es ≡ find place_cmp p (drop n es)
  find_behind zero es h = refl
  find_behind (suc n) [] h = refl
  find_behind (suc n) (e ∷ es) h = ap (λ o. find_by o e es) h.0 ∙ find_behind n es h.1

  find_before : (es : Rows Text) → IsBefore p es → find place_cmp p es ≡ None
  find_before [] h = refl
  find_before (e ∷ es) h = ap (λ o. find_by o e es) h.0 ∙ find_before es h.1

  pub find_missing : (n : ℕ) (es : Rows Text) → IsMissing p es n → find place_cmp p es ≡ None
  find_missing n es h = find_behind n es h.behind ∙ find_before (drop n es) h.before

  drop_get : (n : ℕ) (x : Entry) (es : Rows Text) → slice_get es n ≡ Some x → drop n es ≡ x ∷ drop (suc n) es
  drop_get n x [] is = cc
  drop_get zero x (e ∷ es) is = let same : e ≡ x = cc in ap (λ y. y ∷ es) same
  drop_get (suc n) x (e ∷ es) is = drop_get n x es is

  tied : place_cmp p p ≡ Equal
  tied = equal (place_cmp p p) (place_itself p)
    where
      equal : (o : Ordering) → is_eq o ≡ true → o ≡ Equal
      equal Less h = cc
      equal Equal h = refl
      equal Greater h = cc

  pub find_there : (n : ℕ) (r : Row Text) (es : Rows Text) → slice_get es n ≡ Some (p, r) → IsBehind p (take n es) → find place_cmp p es ≡ Some r
  find_there n r es is h = find_behind n es h ∙ ap (find place_cmp p) (drop_get n (p, r) es is) ∙ ap (λ o. find_by o (p, r) (drop (suc n) es)) tied

  -- A row that is put where none stands.
  abbrev put_by : Row Text → Ordering → Entry → Rows Text → Rows Text
  put_by r o e es = by_order o ((p, r) ∷ e ∷ es) ((e.0, r) ∷ es) (e ∷ put place_cmp p r es)

  pub put_missing : (r : Row Text) (n : ℕ) (es : Rows Text) → IsBehind p (take n es) → IsBefore p (drop n es) → put place_cmp p r es ≡ take n es ++ (p, r) ∷ drop n es
  put_missing r zero [] behind before = refl
  put_missing r zero (e ∷ es) behind before = ap (λ o. put_by r o e es) before.0
  put_missing r (suc n) [] behind before = refl
  put_missing r (suc n) (e ∷ es) behind before = ap (λ o. put_by r o e es) behind.0 ∙ ap (λ xs. e ∷ xs) (put_missing r n es behind.1 before)

  -- A file that is changed at a place.
  module _ (change : FileRow Text → FileRow Text) where
    abbrev change_by : Ordering → Entry → Rows Text → Rows Text
    change_by o e es = elim (is_eq o) [ true ↦ (e.0, changed_row change e.1) ∷ es | false ↦ e ∷ change_at p change es ]

    pub change_there : (n : ℕ) (r : Row Text) (es : Rows Text) → slice_get es n ≡ Some (p, r) → IsBehind p (take n es) → change_at p change es ≡ slice_set es n (p, changed_row change r)
    change_there n r [] is h = cc
    change_there zero r (e ∷ es) is h =
        let same : e ≡ (p, r) = cc in ap (λ x. change_at p change (x ∷ es)) same ∙ ap (λ o. change_by o (p, r) es) tied
    change_there (suc n) r (e ∷ es) is h = ap (λ o. change_by o e es) h.0 ∙ ap (λ xs. e ∷ xs) (change_there n r es is h.1)

    change_before : (es : Rows Text) → IsBefore p es → change_at p change es ≡ es
    change_before [] h = refl
    change_before (e ∷ es) h = ap (λ o. change_by o e es) h.0 ∙ ap (λ xs. e ∷ xs) (change_before es h.1)

    pub change_missing : (n : ℕ) (es : Rows Text) → IsBehind p (take n es) → IsBefore p (drop n es) → change_at p change es ≡ es
    change_missing zero es behind before = change_before es before
    change_missing (suc n) [] behind before = refl
    change_missing (suc n) (e ∷ es) behind before = ap (λ o. change_by o e es) behind.0 ∙ ap (λ xs. e ∷ xs) (change_missing n es behind.1 before)

equal_from : (o : Ordering) → is_eq o ≡ true → o ≡ Equal
equal_from Less h = cc
equal_from Equal h = refl
equal_from Greater h = cc

less_from : (o : Ordering) → is_lt o ≡ true → o ≡ Less
less_from Less h = refl
less_from Equal h = cc
less_from Greater h = cc

greater_from : (o : Ordering) → is_eq o ≡ false → is_lt o ≡ false → o ≡ Greater
greater_from Less g h = cc
greater_from Equal g h = cc
greater_from Greater g h = refl

-- What a row in the middle says of a place.
module _ (p : Place) (es : Rows Text) (rising : AreRising es) (n : ℕ) (d : Place × Row Text) (within : n < length es) (o : Ordering) (order : o ≡ place_cmp p (get_or es n d).0) where
  abbrev e : Place × Row Text
  e = get_or es n d

  got : slice_get es n ≡ Some (e.0, e.1)
  got = slice_get-get_or es n d within

  pub there_from : is_eq o ≡ true → IsThere p es n
  there_from h =
      let same : p ≡ e.0 = exact_places p e.0 (sym order ∙ equal_from o h) in record {
        row = e.1;
        within = within;
        is = got ∙ ap (λ (q : Place). Some (q, e.1)) (sym same);
        behind = subst (λ (q : Place). IsBehind q (take n es)) (sym same) (behind_upto e.0 e.1 n es rising got);
      }

  pub lower_from : is_lt o ≡ true → IsBefore p (drop n es)
  lower_from h = before_from p e.0 e.1 n es rising got (sym order ∙ less_from o h)

  pub higher_from : is_eq o ≡ false → is_lt o ≡ false → IsBehind p (take (n + 1) es)
  higher_from g h = let more : suc n ≡ n + 1 = omega arith in subst (λ m. IsBehind p (take m es)) more (behind_to p e.0 e.1 n es rising got (sym order ∙ greater_from o g h))

-- The row that is read at an index that was found.
pub found_row : (p : Place) (es : Rows Text) (n : ℕ) (d : Place × Row Text) → IsThere p es n → Some (get_or es n d).1 ≡ find place_cmp p es
found_row p es n d h =
    let read : Some (get_or es n d) ≡ Some (p, h.row) = sym (slice_get-get_or es n d h.within) ∙ h.is in
    second (get_or es n d) (p, h.row) read ∙ sym (find_there p n h.row es h.is h.behind)
  where
    second : (a b : Place × Row Text) → Some a ≡ Some b → Some a.1 ≡ Some b.1
    second a b e = let same : a ≡ b = cc in ap (λ (x : Place × Row Text). Some x.1) same

pub missing_in : (p : Place) (xs es : Rows Text) (n : ℕ) → xs ≡ es → IsMissing p xs n → IsMissing p es n
missing_in p xs es n same h = subst (λ (ys : Rows Text). IsMissing p ys n) same h

pub there_in : (p : Place) (xs es : Rows Text) (n : ℕ) → xs ≡ es → IsThere p xs n → IsThere p es n
there_in p xs es n same h = subst (λ (ys : Rows Text). IsThere p ys n) same h

-- A row that is made where none stands, and one that stands already.
pub made_missing : (s : State Text Own) (p : Place) (r : Row Text) (n : ℕ) → IsMissing p s.rows n → record s { rows = take n s.rows ++ (p, r) ∷ drop n s.rows } ≡ made s p r
made_missing s p r n h =
    ap (λ (es : Rows Text). record s { rows = es }) (sym (put_missing p r n s.rows h.behind h.before))
    ∙ sym (ap (λ (o : Option (Row Text)). elim o [ Some old ↦ s | None ↦ with_row s p r ]) (find_missing p n s.rows h))

pub made_there : (s : State Text Own) (p : Place) (r : Row Text) (n : ℕ) → IsThere p s.rows n → s ≡ made s p r
made_there s p r n h = sym (ap (λ (o : Option (Row Text)). elim o [ Some old ↦ s | None ↦ with_row s p r ]) (find_there p n h.row s.rows h.is h.behind))
