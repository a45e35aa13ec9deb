-- The rows that slots and their numbers stand for.
use Rattle.std.proofs.Common.{◌≡◌, ℕ, zero, suc, ◌+◌, ◌<◌, ◌≤◌, ◌==◌, ◌||◌, Bool, true, false, cond, List, [], ◌∷◌, ◌++◌, length, length-append, replicate, Option, Some, None, IsSome, is_some, option_map, refl, sym, ap, ◌∙◌, slice_set, get_or, arith}
use Rattle.std.proofs.lemmas.Option.{slice_get-get_or, slice_get_within, get_or_from_slice_get}
use Rattle.std.specs.Prelude.{slice_get}
use Rattle.std.specs.List.{list_any}
use Rattle.opfs_machine.specs.Agents.{of_row, is_open_row}
use Rattle.opfs_machine.specs.declared.own.Outline.{Outline}
use Rattle.opfs_machine.specs.declared.own.Outline.TheVariants as outline
use Rattle.opfs_register.specs.declared.open.HeldRow.{HeldRow}
use Rattle.opfs_register.specs.declared.open.HeldRow.TheVariants as slot
use Rattle.opfs_register.specs.Slots.{outline_in, slot_row, place_in, Rises, row_of_slot, row_of_place, row_in, first_values, rows_in, keeping, IsNumbered, most_rows}
use Rattle.opfs_register.proofs.Numbers.{differs, ties, at_most, at_least, place-missing}
use Rattle.opfs_register.proofs.FirstValues.{get-first, same-first, set-first, and-first, many-first, none-first, any-set}

some_is : {A : Type 0} {x y : A} → Some x ≡ Some y → x ≡ y
some_is h = cc

pub slot_row_of : (s : HeldRow) → slot_row (outline_in s) ≡ Some (outline_in s)
slot_row_of (slot.Stream w) = refl
slot_row_of slot.ClosedStream = refl
slot_row_of (slot.Handle h) = refl
slot_row_of slot.ClosedHandle = refl
slot_row_of slot.Snapshot = refl

-- A number that was found stands there.
place-by : (m : ℕ) (ms : List ℕ) (n i : ℕ) (t : Bool) (p : Option ℕ) → t ≡ (m == n) → ((j : ℕ) → p ≡ Some j → slice_get ms j ≡ Some n) → cond t (Some 0) (option_map suc p) ≡ Some i → slice_get (m ∷ ms) i ≡ Some n
place-by m ms n i true p same tail is = rw (← some_is is) (ap Some (grind (arith, same)))
place-by m ms n i false None other tail is = cc
place-by m ms n i false (Some j) other tail is = rw (← some_is is) (tail j refl)

pub place-at : (ns : List ℕ) (n i : ℕ) → place_in ns n ≡ Some i → slice_get ns i ≡ Some n
place-at [] n i is = cc
place-at (m ∷ ms) n i is = place-by m ms n i (m == n) (place_in ms n) refl (λ j found. place-at ms n j found) is

pub slot-at : {A : Type 0} (xs : List A) (i : ℕ) → i < length xs → (x : A) × (slice_get xs i ≡ Some x)
slot-at [] i lt = absurd (omega (arith, lt))
slot-at (x ∷ xs) zero lt = (x, refl)
slot-at (x ∷ xs) (suc i) lt = slot-at xs i (omega (arith, lt))

pub row-is : (f : ℕ → Outline) (c n : ℕ) (r : Outline) → slice_get (first_values f c) n ≡ Some r → f n ≡ r
row-is f zero n r is = cc
row-is f (suc c) zero r is = some_is is
row-is f (suc c) (suc n) r is = row-is (λ n. f (suc n)) c n r is

none-where : (o : Option Outline) → ((r : Outline) → o ≡ Some r → slot_row r ≡ None) → of_row slot_row o ≡ None
none-where None h = refl
none-where (Some r) h = h r refl

pub get-set : {A : Type 0} (xs : List A) (i : ℕ) (v : A) → i < length xs → slice_get (slice_set xs i v) i ≡ Some v
get-set [] i v lt = absurd (omega (arith, lt))
get-set (x ∷ xs) zero v lt = refl
get-set (x ∷ xs) (suc i) v lt = get-set xs i v (omega (arith, lt))

pub get-set_other : {A : Type 0} (xs : List A) (i j : ℕ) (v : A) → (i == j) ≡ false → slice_get (slice_set xs i v) j ≡ slice_get xs j
get-set_other [] i j v apart = refl
get-set_other (x ∷ xs) zero zero v apart = absurd (grind (arith, apart))
get-set_other (x ∷ xs) zero (suc j) v apart = refl
get-set_other (x ∷ xs) (suc i) zero v apart = refl
get-set_other (x ∷ xs) (suc i) (suc j) v apart = get-set_other xs i j v (differs i j (λ same. grind (arith, apart, same)))

pub set-same : {A : Type 0} (xs : List A) (i : ℕ) (v : A) → slice_get xs i ≡ Some v → slice_set xs i v ≡ xs
set-same [] i v is = refl
set-same {A} (x ∷ xs) zero v is = ap (λ (y : A). y ∷ xs) (sym (some_is is))
set-same {A} (x ∷ xs) (suc i) v is = ap (λ (ys : List A). x ∷ ys) (set-same xs i v is)

pub get-and : {A : Type 0} (xs ys : List A) (i : ℕ) → i < length xs → slice_get (xs ++ ys) i ≡ slice_get xs i
get-and [] ys i lt = absurd (omega (arith, lt))
get-and (x ∷ xs) ys zero lt = refl
get-and (x ∷ xs) ys (suc i) lt = get-and xs ys i (omega (arith, lt))

pub get-last : {A : Type 0} (xs : List A) (x : A) → slice_get (xs ++ x ∷ []) (length xs) ≡ Some x
get-last [] x = refl
get-last (y ∷ xs) x = get-last xs x

-- One number more.
pub place-and : (ns : List ℕ) (c n : ℕ) → (c == n) ≡ false → place_in (ns ++ c ∷ []) n ≡ place_in ns n
place-and [] c n apart = rw apart refl
place-and (m ∷ ms) c n apart = ap (λ p. cond (m == n) (Some 0) (option_map suc p)) (place-and ms c n apart)

pub place-last : (ns : List ℕ) (c : ℕ) → place_in ns c ≡ None → place_in (ns ++ c ∷ []) c ≡ Some (length ns)
place-last [] c none = rw (ties c c refl) refl
place-last (m ∷ ms) c none = last-by (m == c) (place_in ms c) none (place-last ms c)
  where
    last-by : (t : Bool) (p : Option ℕ) → cond t (Some 0) (option_map suc p) ≡ None → (p ≡ None → place_in (ms ++ c ∷ []) c ≡ Some (length ms)) → cond t (Some 0) (option_map suc (place_in (ms ++ c ∷ []) c)) ≡ Some (suc (length ms))
    last-by true p none tail = cc
    last-by false None none tail = ap (option_map suc) (tail refl)
    last-by false (Some i) none tail = cc

-- Numbers that rise further.
pub rises-and : (ns : List ℕ) (from c : ℕ) → Rises from ns c → Rises from (ns ++ c ∷ []) (c + 1)
rises-and [] from c h = (h, omega arith)
rises-and (m ∷ ms) from c h = (h.0, rises-and ms (m + 1) c h.1)

pub rises-more : (ns : List ℕ) (from c d : ℕ) → c ≤ d → Rises from ns c → Rises from ns d
rises-more [] from c d le h = omega (arith, le, h)
rises-more (m ∷ ms) from c d le h = (h.0, rises-more ms (m + 1) c d le h.1)

module _ (ns : List ℕ) (ss : List HeldRow) (c : ℕ) (rising : Rises 0 ns c) (paired : length ss ≡ length ns) where
  pub place-inside : (n i : ℕ) → place_in ns n ≡ Some i → i < length ss
  place-inside n i is = omega (arith, paired, slice_get_within ns i n (place-at ns n i is))

  pub number-inside : (n i : ℕ) → place_in ns n ≡ Some i → n < c
  number-inside n i is =
      let there = place-at ns n i is in
      omega (arith, get_or_from_slice_get ns i n 0 there, at_most ns 0 c i rising (slice_get_within ns i n there))

  -- The slot of a number that was found, and what is where none was.
  pub slot-found : (n i : ℕ) (found : Option HeldRow) → place_in ns n ≡ Some i → found ≡ slice_get ss i → option_map outline_in found ≡ of_row slot_row (slice_get (rows_in ns ss c) n)
  slot-found n i found is result =
      let there = slot-at ss i (place-inside n i is) in
      ap (option_map outline_in) (result ∙ there.1) ∙ sym (slot_row_of there.0)
      ∙ sym (ap (of_row slot_row) (get-first (row_in ns ss) c n (number-inside n i is) ∙ ap Some (ap (row_of_place ss) is ∙ ap row_of_slot there.1)))

  pub slot-missing : (n : ℕ) → place_in ns n ≡ None → None ≡ of_row slot_row (slice_get (rows_in ns ss c) n)
  slot-missing n none =
      sym (none-where (slice_get (rows_in ns ss c) n) (λ r there. ap slot_row (sym (sym (ap (row_of_place ss) none) ∙ row-is (row_in ns ss) c n r there))))

  -- A row that is no iterator has a slot.
  pub row-kept : (n : ℕ) → IsSome (of_row slot_row (slice_get (rows_in ns ss c) n)) → place_in ns n ≡ None → ⊥
  row-kept n there none =
      let none_there : is_some {T = Outline} None ≡ true = rw (← slot-missing n none) at there in
      cc

  -- Another slot in the place of one.
  pub row-replaced : (n i : ℕ) (v : HeldRow) → place_in ns n ≡ Some i → rows_in ns (slice_set ss i v) c ≡ slice_set (rows_in ns ss c) n (outline_in v)
  row-replaced n i v is =
      set-first (row_in ns ss) (row_in ns (slice_set ss i v)) c n (outline_in v)
      (ap (row_of_place (slice_set ss i v)) is ∙ ap row_of_slot (get-set ss i v (place-inside n i is)))
      (λ m apart. other m apart (place_in ns m) refl)
      (number-inside n i is)
    where
      other : (m : ℕ) → (n == m) ≡ false → (p : Option ℕ) → p ≡ place_in ns m → row_of_place (slice_set ss i v) p ≡ row_of_place ss p
      other m apart None found = refl
      other m apart (Some j) found =
          ap row_of_slot (get-set_other ss i j v (differs i j (λ same.
          let here : Some n ≡ Some m = sym (place-at ns n i is) ∙ ap (slice_get ns) same ∙ place-at ns m j (sym found) in
          grind (arith, apart, some_is here))))

  -- A row that is an iterator, or is not there, keeps no block.
  pub nothing-kept : (n reserve : ℕ) → place_in ns n ≡ None → (r : Outline) → slice_get (rows_in ns ss c) n ≡ Some r → rows_in ns ss c ≡ slice_set (rows_in ns ss c) n (keeping reserve r)
  nothing-kept n reserve none r there =
      let is : outline.Iterator ≡ r = sym (ap (row_of_place ss) none) ∙ row-is (row_in ns ss) c n r there in
      sym (set-same (rows_in ns ss c) n (keeping reserve r) (there ∙ ap Some (sym is ∙ ap (keeping reserve) is)))

  pub row-kept_so : (n i reserve : ℕ) (was v : HeldRow) → place_in ns n ≡ Some i → was ≡ get_or ss i was → outline_in v ≡ keeping reserve (outline_in was)
      → (r : Outline) → slice_get (rows_in ns ss c) n ≡ Some r → rows_in ns (slice_set ss i v) c ≡ slice_set (rows_in ns ss c) n (keeping reserve r)
  row-kept_so n i reserve was v is held same r there =
      row-replaced n i v is ∙ ap (slice_set (rows_in ns ss c) n) (same ∙ ap (keeping reserve) (was_is ∙ row-is (row_in ns ss) c n r there))
    where
      was_is : outline_in was ≡ row_in ns ss n
      was_is = sym (ap (row_of_place ss) is ∙ ap row_of_slot (slice_get-get_or ss i was (place-inside n i is) ∙ ap Some (sym held)))

  pub row-was : (n i : ℕ) (was : HeldRow) → place_in ns n ≡ Some i → was ≡ get_or ss i was → slice_get (rows_in ns ss c) n ≡ Some (outline_in was)
  row-was n i was is held =
      get-first (row_in ns ss) c n (number-inside n i is)
      ∙ ap Some (ap (row_of_place ss) is ∙ ap row_of_slot (slice_get-get_or ss i was (place-inside n i is) ∙ ap Some (sym held)))

  number-missing : (n : ℕ) → c ≤ n → place_in ns n ≡ None
  number-missing n le = place-missing ns n (λ k lt same. omega (arith, same, le, at_most ns 0 c k rising lt))

  -- So many iterators more.
  pub rows-more : (more : ℕ) → rows_in ns ss (c + more) ≡ rows_in ns ss c ++ replicate more outline.Iterator
  rows-more more = many-first (row_in ns ss) c more (c + more) outline.Iterator refl (λ n le. ap (row_of_place ss) (number-missing n le))

  -- One slot more.
  pub rows-added : (s : HeldRow) → rows_in (ns ++ c ∷ []) (ss ++ s ∷ []) (c + 1) ≡ rows_in ns ss c ++ outline_in s ∷ []
  rows-added s =
      let next : c + 1 ≡ suc c = omega arith in
      ap (rows_in (ns ++ c ∷ []) (ss ++ s ∷ [])) next
      ∙ and-first (row_in (ns ++ c ∷ []) (ss ++ s ∷ [])) c
      ∙ ap (λ rows. rows ++ row_in (ns ++ c ∷ []) (ss ++ s ∷ []) c ∷ []) (same-first (row_in (ns ++ c ∷ []) (ss ++ s ∷ [])) (row_in ns ss) c (λ n lt. before n lt (place_in ns n) refl))
      ∙ ap (λ (r : Outline). rows_in ns ss c ++ r ∷ []) here
    where
      before : (n : ℕ) → n < c → (p : Option ℕ) → p ≡ place_in ns n → row_in (ns ++ c ∷ []) (ss ++ s ∷ []) n ≡ row_in ns ss n
      before n lt None found = ap (row_of_place (ss ++ s ∷ [])) (place-and ns c n (differs c n (λ same. omega (arith, lt, same))) ∙ sym found) ∙ ap (row_of_place ss) found
      before n lt (Some i) found =
          ap (row_of_place (ss ++ s ∷ [])) (place-and ns c n (differs c n (λ same. omega (arith, lt, same))) ∙ sym found)
          ∙ ap row_of_slot (get-and ss (s ∷ []) i (place-inside n i (sym found)))
          ∙ ap (row_of_place ss) found

      here : row_in (ns ++ c ∷ []) (ss ++ s ∷ []) c ≡ outline_in s
      here = ap (row_of_place (ss ++ s ∷ [])) (place-last ns c (number-missing c (omega arith))) ∙ ap row_of_slot (ap (slice_get (ss ++ s ∷ [])) (sym paired) ∙ get-last ss s)

-- Whether an open row is among them.
some-more : (s : HeldRow) (ss : List HeldRow) (p : Option ℕ) → row_of_place (s ∷ ss) (option_map suc p) ≡ row_of_place ss p
some-more s ss None = refl
some-more s ss (Some i) = refl

pub any-open : (ns : List ℕ) (ss : List HeldRow) (from c : ℕ) → Rises from ns c → length ss ≡ length ns → list_any is_open_row (rows_in ns ss c) ≡ list_any (λ s. is_open_row (outline_in s)) ss
any-open [] [] from c rising paired = none-first is_open_row c outline.Iterator refl
any-open [] (s ∷ ss) from c rising paired = absurd (omega (arith, paired))
any-open (m ∷ ms) [] from c rising paired = absurd (omega (arith, paired))
any-open (m ∷ ms) (s ∷ ss) from c rising paired =
    ap (list_any is_open_row)
    (set-first (row_in ms ss) (row_in (m ∷ ms) (s ∷ ss)) c m (outline_in s)
    (ap (λ t. row_of_place (s ∷ ss) (cond t (Some 0) (option_map suc (place_in ms m)))) (ties m m refl))
    (λ k apart. ap (λ t. row_of_place (s ∷ ss) (cond t (Some 0) (option_map suc (place_in ms k)))) apart ∙ some-more s ss (place_in ms k))
    below)
    ∙ any-set is_open_row (rows_in ms ss c) m (outline_in s) outline.Iterator
    (get-first (row_in ms ss) c m below ∙ ap Some (ap (row_of_place ss) (place-missing ms m (λ k lt same. omega (arith, same, at_least ms (m + 1) c k rising.1 lt))))) refl
    ∙ ap (λ t. is_open_row (outline_in s) || t) (any-open ms ss (m + 1) c rising.1 (omega (arith, paired)))
  where
    below : m < c
    below = at_most (m ∷ ms) from c 0 rising (omega arith)

pub numbered-and : (ns : List ℕ) (ss : List HeldRow) (c : ℕ) (s : HeldRow) → IsNumbered c ns (length ss) → c < most_rows → IsNumbered (c + 1) (ns ++ c ∷ []) (length (ss ++ s ∷ []))
numbered-and ns ss c s held few = record {
  few = omega (arith, few);
  paired = omega (arith, held.paired, length-append ns (c ∷ []), length-append ss (s ∷ []));
  rising = rises-and ns 0 c held.rising;
}
