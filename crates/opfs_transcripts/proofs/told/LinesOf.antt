-- Lines of texts one behind the other.
use Rattle.std.proofs.Common.{◌≡◌, ℕ, ◌==◌, ◌||◌, Bool, true, false, List, [], ◌∷◌, ◌++◌, codes, refl, sym, ap, ◌∙◌}
use Rattle.std.specs.List.{list_any}
use Rattle.opfs_base.specs.Texts.{Text, same_text}
use Rattle.opfs_transcripts.specs.Told.Reading.{in_front, lines_by, lines_of, is_evict_line, is_stuck_line, tells_room, tells_stuck}

-- A list that has a first one.
pub record HasFirst (lines : List Text) : Type 0 where
  pub first : Text
  pub rest : List Text
  pub is : lines ≡ first ∷ rest

first-by : (b : Bool) (c : ℕ) (lines : List Text) → HasFirst lines → HasFirst (lines_by b c lines)
first-by true c lines has = record { first = []; rest = lines; is = refl }
first-by false c lines has = record { first = c ∷ has.first; rest = has.rest; is = ap (in_front c) has.is }

-- A text that ends with a line feed has a line.
pub has-line : (a more : Text) → HasFirst (lines_of (a ++ 10 ∷ more))
has-line [] more = record { first = []; rest = lines_of more; is = refl }
has-line (c ∷ a) more = first-by (c == 10) c (lines_of (a ++ 10 ∷ more)) (has-line a more)

front-append : (c : ℕ) (lines more : List Text) → HasFirst lines → in_front c (lines ++ more) ≡ in_front c lines ++ more
front-append c lines more has = ap (λ l. in_front c (l ++ more)) has.is ∙ sym (ap (λ l. in_front c l ++ more) has.is)

by-append : (b : Bool) (c : ℕ) (lines more : List Text) → HasFirst lines → lines_by b c (lines ++ more) ≡ lines_by b c lines ++ more
by-append true c lines more has = refl
by-append false c lines more has = front-append c lines more has

-- Behind a line feed other lines begin.
pub lines-append : (a more : Text) → lines_of (a ++ 10 ∷ more) ≡ lines_of (a ++ 10 ∷ []) ++ lines_of more
lines-append [] more = refl
lines-append (c ∷ a) more =
    ap (lines_by (c == 10) c) (lines-append a more)
    ∙ by-append (c == 10) c (lines_of (a ++ 10 ∷ [])) (lines_of more) (has-line a [])

pub any-append : (p : Text → Bool) (xs ys : List Text) → list_any p (xs ++ ys) ≡ (list_any p xs || list_any p ys)
any-append p [] ys = refl
any-append p (x ∷ xs) ys = ap (λ b. p x || b) (any-append p xs ys) ∙ or-assoc (p x) (list_any p xs) (list_any p ys)
  where
    or-assoc : (a b c : Bool) → (a || (b || c)) ≡ ((a || b) || c)
    or-assoc true b c = refl
    or-assoc false b c = refl

-- What any line of a text passes, one of the line in front or one of the rest passes.
pub any-lines : (p : Text → Bool) (a more : Text) → list_any p (lines_of (a ++ 10 ∷ more)) ≡ (list_any p (lines_of (a ++ 10 ∷ [])) || list_any p (lines_of more))
any-lines p a more = ap (list_any p) (lines-append a more) ∙ any-append p (lines_of (a ++ 10 ∷ [])) (lines_of more)

or-true : (a : Bool) → (a || true) ≡ true
or-true true = refl
or-true false = refl

-- A text's end ends a line of it, whatever stands before.
stuck-front : (c : ℕ) (lines : List Text) → list_any is_stuck_line lines ≡ true → list_any is_stuck_line (in_front c lines) ≡ true
stuck-front c [] h = absurd-none h
  where
    absurd-none : false ≡ true → list_any is_stuck_line (in_front c []) ≡ true
    absurd-none e = absurd (cc)
stuck-front c (line ∷ lines) h = grow (same_text (codes " await Stuck") (c ∷ line)) (is_stuck_line line) (list_any is_stuck_line lines) h
  where
    grow : (a b d : Bool) → (b || d) ≡ true → ((a || b) || d) ≡ true
    grow true b d h = refl
    grow false b d h = h

stuck-by : (b : Bool) (c : ℕ) (lines : List Text) → list_any is_stuck_line lines ≡ true → list_any is_stuck_line (lines_by b c lines) ≡ true
stuck-by true c lines h = ap (λ b. is_stuck_line [] || b) h ∙ or-true (is_stuck_line [])
stuck-by false c lines h = stuck-front c lines h

pub stuck-within : (a tail : Text) → tells_stuck tail ≡ true → tells_stuck (a ++ tail) ≡ true
stuck-within [] tail h = h
stuck-within (c ∷ a) tail h = stuck-by (c == 10) c (lines_of (a ++ tail)) (stuck-within a tail h)

-- A line that begins as an eviction's tells of room.
pub room-front : (rest : Text) → tells_room (codes "evict " ++ rest) ≡ true
room-front rest = told (lines_of rest)
  where
    told : (lines : List Text) → list_any is_evict_line (in_front 101 (in_front 118 (in_front 105 (in_front 99 (in_front 116 (in_front 32 lines)))))) ≡ true
    told [] = refl
    told (line ∷ lines) = refl
