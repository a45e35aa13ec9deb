-- A line that is read piece by piece, where the bytes are known.
use Rattle.std.proofs.Common.{◌≡◌, ◌≢◌, ℕ, ◌+◌, ◌<◌, ◌≤◌, List, [], ◌∷◌, ◌++◌, Option, None, Some, IfSome, Result, Ok, Err, IfOk, OnOk, cond, length, take, drop, get_or, refl, sym, ap, subst, ◌∙◌, arith, append_assoc, append-nil, take-take, take-append-drop, length-append, length-take-le, ne_eqb, eq-eqb, eqb, true, get_or-take}
use Rattle.std.proofs.lemmas.List.{get_or_default, take_more}
use Rattle.std.proofs.lemmas.List.Elements.{All-append, All-head, All-tail}
use Rattle.std.specs.Io.{StartsWith}
use Rattle.std.specs.Io.KnownBytes.{Keeps, Consumes, IsAtEnd}
use Rattle.std.specs.Io.BufRead.{drop_through, DropsThrough}
use Rattle.std.proofs.BufReadLemmas.{drop_through-append}
use Rattle.opfs_port.specs.Lines.{before_feed, HasNoFeed, IsHeard}
use Rattle.opfs_port.specs.declared.port.Heard.{Heard}
use Rattle.opfs_port.specs.declared.port.Heard.TheVariants as heard

before_append : (xs ys : List ℕ) → HasNoFeed xs → before_feed (xs ++ ys) ≡ xs ++ before_feed ys
before_append [] ys h = refl
before_append (x ∷ xs) ys h =
    ap (λ b. cond b [] (x ∷ before_feed (xs ++ ys))) (ne_eqb x 10 (All-head (λ y. y ≢ 10) x xs h))
    ∙ ap (λ l. x ∷ l) (before_append xs ys (All-tail (λ y. y ≢ 10) x xs h))

pub no_feed_both : (xs ys : List ℕ) → HasNoFeed xs → HasNoFeed ys → HasNoFeed (xs ++ ys)
no_feed_both xs ys h k = All-append (λ x. x ≢ 10) xs ys h k

-- the line ends
module _ (done front : List ℕ) (clean : HasNoFeed done) (more : HasNoFeed front) where
  abbrev split_at : (xs ys zs : List ℕ) → xs ≡ done ++ ys → ys ≡ (front ++ 10 ∷ []) ++ zs → xs ≡ (done ++ front) ++ 10 ∷ zs
  split_at xs ys zs first second =
      first ∙ ap (λ l. done ++ l) (second ∙ append_assoc front (10 ∷ []) zs) ∙ sym (append_assoc done front (10 ∷ zs))

  pub whole_line : (a b c : Option (List ℕ)) → Consumes a b done → Consumes b c (front ++ 10 ∷ [])
      → IfSome a (λ xs. (xs ≢ []) × (done ++ front ≡ before_feed xs)) × DropsThrough a c 10
  whole_line None b c p q = (tt, tt)
  whole_line (Some xs) None c p q = absurd p
  whole_line (Some xs) (Some ys) None p q = absurd q
  whole_line (Some xs) (Some ys) (Some zs) p q =
      let split = split_at xs ys zs p q in
      let clear = no_feed_both done front clean more in (
        (
          λ none. let e : length xs ≡ 0 = ap length none in omega (arith, e, ap length split, length-append (done ++ front) (10 ∷ zs)),
          sym (append-nil (done ++ front)) ∙ sym (before_append (done ++ front) (10 ∷ zs) clear) ∙ ap before_feed (sym split),
        ),
        ap Some (sym (drop_through-append 10 (done ++ front) (10 ∷ zs) clear) ∙ ap (drop_through 10) (sym split)),
      )

  -- it is too long, and what is left of it is dropped
  pub long_line : (a b c d : Option (List ℕ)) (most : ℕ) → most < length done + length front → Consumes a b done → Keeps b c
      → IfSome b (λ xs. StartsWith xs front) → DropsThrough c d 10
      → IfSome a (λ xs. most < length (before_feed xs)) × DropsThrough a d 10
  long_line None b c d most over p kept starts drops = (tt, tt)
  long_line (Some xs) None c d most over p kept starts drops = absurd p
  long_line (Some xs) (Some ys) None d most over p kept starts drops = absurd kept
  long_line (Some xs) (Some ys) (Some zs) d most over p kept starts drops =
      let rest = drop (length front) ys in
      let parts : ys ≡ front ++ rest = sym (take-append-drop (length front) ys) ∙ ap (λ l. l ++ rest) starts in
      let line : before_feed xs ≡ done ++ front ++ before_feed rest =
      ap before_feed p ∙ before_append done ys clean ∙ ap (λ l. done ++ before_feed l) parts ∙ ap (λ l. done ++ l) (before_append front rest more)
      ∙ sym (append_assoc done front (before_feed rest)) in (
        omega (arith, over, ap length line, length-append (done ++ front) (before_feed rest), length-append done front),
        drops ∙ ap Some (ap (drop_through 10) kept ∙ sym (drop_through-append 10 done ys clean) ∙ ap (drop_through 10) (sym p)),
      )

-- no byte comes any more
pub last_line : (done : List ℕ) → HasNoFeed done → (a b c : Option (List ℕ)) → Consumes a b done → Keeps b c → IsAtEnd b
    → IfSome a (λ xs. (xs ≡ done) × (done ≡ before_feed xs)) × DropsThrough a c 10
last_line done clean None b c p kept end = (tt, tt)
last_line done clean (Some xs) None c p kept end = absurd p
last_line done clean (Some xs) (Some ys) None p kept end = absurd kept
last_line done clean (Some xs) (Some ys) (Some zs) p kept end =
    let same : xs ≡ done ++ [] = p ∙ ap (λ l. done ++ l) end in (
      (same ∙ append-nil done, sym (append-nil done) ∙ sym (before_append done [] clean) ∙ ap before_feed (sym same)),
      ap Some (kept ∙ end ∙ sym (drop_through-append 10 done [] clean) ∙ ap (drop_through 10) (sym same)),
    )

-- what a reader shows begins with a front of it
pub starts_with_front : (xs shown : List ℕ) (n : ℕ) → n ≤ length shown → StartsWith xs shown → StartsWith xs (take n shown)
starts_with_front xs shown n within starts =
    ap (λ k. take k xs) (length-take-le n shown within) ∙ sym (take-take n (length shown) xs within) ∙ ap (take n) starts

pub starts_if_some : (a : Option (List ℕ)) (shown : List ℕ) (n : ℕ) → n ≤ length shown → IfSome a (λ xs. StartsWith xs shown) → IfSome a (λ xs. StartsWith xs (take n shown))
starts_if_some None shown n within starts = tt
starts_if_some (Some xs) shown n within starts = starts_with_front xs shown n within starts

-- the front with the line feed behind it
pub with_feed : (shown : List ℕ) (n : ℕ) → n < length shown → get_or shown n 0 ≡ 10 → take (n + 1) shown ≡ take n shown ++ 10 ∷ []
with_feed shown n within is = take_more shown n 0 within ∙ ap (λ x. take n shown ++ x ∷ []) is

-- no byte before the first line feed is one
pub clean_front : (bytes : List ℕ) (n : ℕ) → n ≤ length bytes → ((k : ℕ) → 0 ≤ k → k < n → eqb (get_or bytes k 0) 10 ≡ true → ⊥) → HasNoFeed (take n bytes)
clean_front bytes n within none = λ k d lt is.
    let long : length (take n bytes) ≡ n = length-take-le n bytes within in
    let at : k < n = omega (arith, lt, long) in
    let here : k < length bytes = omega (arith, at, within) in
    none k (omega arith) at (eq-eqb (get_or bytes k 0) 10 (get_or_default bytes k 0 d here ∙ sym (get_or-take n bytes k d at) ∙ is))

-- a reader that shows nothing is at its end
pub end_if_some : (a : Option (List ℕ)) (shown : List ℕ) → IfSome a (λ xs. length shown ≡ 0 → xs ≡ []) → length shown ≡ 0 → IsAtEnd a
end_if_some None shown end none = tt
end_if_some (Some xs) shown end none = end none

-- what is heard where no byte comes any more
pub heard_at_end : (known : Option (List ℕ)) (line : List ℕ) (h : Heard) (most : ℕ) → IfSome known (λ xs. (xs ≡ line) × (line ≡ before_feed xs))
    → (line ≡ [] → h ≡ heard.End) → (line ≢ [] → h ≡ heard.Line) → IfSome known (λ xs. IsHeard h most xs line)
heard_at_end None line h most at none some = tt
heard_at_end (Some bytes) [] h most at none some = subst (λ k. IsHeard k most bytes []) (sym (none refl)) at.0
heard_at_end (Some bytes) (x ∷ xs) h most at none some =
    let full : x ∷ xs ≢ [] = λ e. let no_bytes : length (x ∷ xs) ≡ 0 = ap length e in omega (arith, no_bytes) in
    subst (λ k. IsHeard k most bytes (x ∷ xs)) (sym (some full)) (λ e. full (sym at.0 ∙ e), at.1)

-- what is heard where a line was dropped
pub long_heard : {E : Type 0} (r : Result Heard E) (done front line : List ℕ) → HasNoFeed done → HasNoFeed front → (a b c d : Option (List ℕ)) (most : ℕ)
    → most < length done + length front → Consumes a b done → Keeps b c → IfSome b (λ xs. StartsWith xs front)
    → IfOk r (λ h. h ≡ heard.TooLong) → OnOk r (DropsThrough c d 10)
    → IfOk r (λ h. IfSome a (λ xs. IsHeard h most xs line)) × OnOk r (DropsThrough a d 10)
long_heard (Ok h) done front line clean more a b c d most over p kept starts is drops =
    let long = long_line done front clean more a b c d most over p kept starts drops in
    (subst (λ k. IfSome a (λ xs. IsHeard k most xs line)) (sym is) long.0, long.1)
long_heard (Err e) done front line clean more a b c d most over p kept starts is drops = (tt, tt)
