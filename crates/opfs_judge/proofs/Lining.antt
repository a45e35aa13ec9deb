-- The lines of a text.
use Rattle.std.proofs.Common.{◌≡◌, ◌+◌, ◌==◌, ◌||◌, ◌⊎◌, inl, inr, ◌≤◌, ◌-◌, ℕ, zero, suc, Bool, true, false, [], ◌∷◌, ◌++◌, drop, take, length, refl, sym, ap, ◌∙◌, subst, arith}
use Rattle.std.proofs.lemmas.Bool.{false≢true}
use Rattle.std.specs.List.{ends_with, list_any}
use Rattle.std.proofs.Math.Dec.{eqb}
use Rattle.std.proofs.lemmas.Bool.Decides.{Decides-eqb}
use Rattle.std.proofs.lemmas.List.{length-drop, take_all}
use Rattle.std.proofs.lemmas.Slice.Eq.{ends_is}
use Rattle.std.specs.Cmp.Lexicographic.{nat_list_eq_equiv, same_text as equal_texts}
use Rattle.opfs_base.specs.Texts.{Text, same_text}
use Rattle.opfs_transcripts.specs.Told.Reading.{ends, lines_of, lines_by, in_front}
use Rattle.opfs_judge.specs.Fronts.{first_line}

-- The first line of a text that is not empty, and those behind it.
abbrev pub Split : Text → Type 0
Split text = lines_of text ≡ first_line text ∷ lines_of (drop (length (first_line text) + 1) text)

in-front : (c : ℕ) (cs : Text) → (cs ≡ [] → ⊥) ⊎ (cs ≡ []) → ((cs ≡ [] → ⊥) → Split cs) → in_front c (lines_of cs) ≡ (c ∷ first_line cs) ∷ lines_of (drop (length (first_line cs) + 1) cs)
in-front c cs (inl some) split = ap (in_front c) (split some)
in-front c cs (inr none) split = subst (λ x. in_front c (lines_of x) ≡ (c ∷ first_line x) ∷ lines_of (drop (length (first_line x) + 1) x)) (sym none) refl

some-or-none : (cs : Text) → (cs ≡ [] → ⊥) ⊎ (cs ≡ [])
some-or-none [] = inr refl
some-or-none (c ∷ cs) = inl (λ h. cc)

one-more : (n : ℕ) → suc (n + 1) ≡ suc n + 1
one-more n = omega arith

pub lines-split : (text : Text) → (text ≡ [] → ⊥) → Split text
lines-split [] some = absurd (some refl)
lines-split (c ∷ cs) some =
    elim (c == 10) as (λ b. lines_by b c (lines_of cs) ≡ (elim b as (λ x. Text) [ true ↦ [] | false ↦ c ∷ first_line cs ]) ∷ lines_of (drop (length (elim b as (λ x. Text) [ true ↦ [] | false ↦ c ∷ first_line cs ]) + 1) (c ∷ cs))) [
      | true ↦ refl
      | false ↦ subst (λ n. in_front c (lines_of cs) ≡ (c ∷ first_line cs) ∷ lines_of (drop n (c ∷ cs))) (one-more (length (first_line cs))) (in-front c cs (some-or-none cs) (lines-split cs))
    ]

pub line-taken : (text : Text) → take (length (first_line text)) text ≡ first_line text
line-taken [] = refl
line-taken (c ∷ cs) = elim (c == 10) as (λ b. take (length (elim b as (λ x. Text) [ true ↦ [] | false ↦ c ∷ first_line cs ])) (c ∷ cs) ≡ elim b [ true ↦ [] | false ↦ c ∷ first_line cs ]) [
  | true ↦ refl
  | false ↦ ap (λ t. c ∷ t) (line-taken cs)
]

line-within : (text : Text) → length (first_line text) ≤ length text
line-within [] = omega arith
line-within (c ∷ cs) = elim (c == 10) as (λ b. length (elim b as (λ x. Text) [ true ↦ [] | false ↦ c ∷ first_line cs ]) ≤ length (c ∷ cs)) [
  | true ↦ omega arith
  | false ↦ let more = line-within cs in omega (arith, more)
]

-- The first line of a text whose first byte is no line feed, and of one whose first byte is.
pub line-on : (c : ℕ) (cs : Text) → (c == 10) ≡ false → length (first_line (c ∷ cs)) ≡ suc (length (first_line cs))
line-on c cs is = ap (λ b. length (elim b as (λ x. Text) [ true ↦ [] | false ↦ c ∷ first_line cs ])) is

pub line-end : (c : ℕ) (cs : Text) → (c == 10) ≡ true → length (first_line (c ∷ cs)) ≡ 0
line-end c cs is = ap (λ b. length (elim b as (λ x. Text) [ true ↦ [] | false ↦ c ∷ first_line cs ])) is

-- ---- ends

some-true : (a b : Bool) → b ≡ true → (a || b) ≡ true
some-true true b h = refl
some-true false b h = h

first-true : (a b : Bool) → a ≡ true → (a || b) ≡ true
first-true a b h = ap (λ x. x || b) h

itself : (text : Text) → same_text text text ≡ true
itself text = nat_list_eq_equiv.refl text

ends-front : (front end : Text) → ends end (front ++ end) ≡ true
ends-front [] [] = refl
ends-front [] (x ∷ xs) = first-true (same_text (x ∷ xs) (x ∷ xs)) (ends (x ∷ xs) xs) (itself (x ∷ xs))
ends-front (c ∷ front) end = some-true (same_text end (c ∷ (front ++ end))) (ends end (front ++ end)) (ends-front front end)

abbrev Ended : Text → Text → Type 0
Ended end text = (front : Text) × (text ≡ front ++ end)

ends-true : (end text : Text) → ends end text ≡ true → Ended end text
ends-true end [] h = ([], sym (equal_texts end [] (sym h)))
ends-true end (x ∷ xs) h =
    elim (same_text end (x ∷ xs)) as (λ b. same_text end (x ∷ xs) ≡ b → (b || ends end xs) ≡ true → Ended end (x ∷ xs)) [
      | true ↦ λ is t. ([], sym (equal_texts end (x ∷ xs) (sym is)))
      | false ↦ λ is t. let more = ends-true end xs t in (x ∷ more.0, ap (λ y. x ∷ y) more.1)
    ] refl h

pub ends-told : (r : Bool) (end text : Text) → (r ≡ true → Ended end text) → ((front : Text) → text ≡ front ++ end → r ≡ true) → r ≡ ends end text
ends-told r end text told untold = elim r as (λ b. r ≡ b → b ≡ ends end text) [
  | true ↦ λ is. let found = told is in sym (ap (ends end) found.1 ∙ ends-front found.0 end)
  | false ↦ λ is. elim (ends end text) as (λ b. ends end text ≡ b → false ≡ b) [
    | true ↦ λ ended. let found = ends-true end text ended in sym is ∙ untold found.0 found.1
    | false ↦ λ not_ended. refl
  ] refl
] refl

-- What an answer of `ends_with` over bytes tells.
pub bytes-end : (r : Bool) (end text : Text) → r ≡ ends_with eqb text end → r ≡ ends end text
bytes-end r end text is =
    let told = ends_is Decides-eqb text end r is in
    ends-told r end text (λ is. (take (length text - length end) text, told.0 is)) told.1

-- ---- lines, one after another

pub lines-on : (p : Text → Bool) (text more : Text) → (text ≡ [] → ⊥) → drop (length (first_line text) + 1) text ≡ more → list_any p (lines_of text) ≡ (p (first_line text) || list_any p (lines_of more))
lines-on p text more some is = ap (list_any p) (lines-split text some) ∙ ap (λ x. p (first_line text) || list_any p (lines_of x)) is

not-empty : (text : Text) → false ≡ (length text == 0) → text ≡ [] → ⊥
not-empty [] h none = absurd (false≢true h)
not-empty (c ∷ cs) h none = cc

told-on : (p : Text → Bool) (text line more : Text) → false ≡ (length text == 0) → line ≡ first_line text → more ≡ drop (length (first_line text) + 1) text
    → list_any p (lines_of text) ≡ (p line || list_any p (lines_of more))
told-on p text line more some here behind = lines-on p text more (not-empty text some) (sym behind) ∙ ap (λ l. p l || list_any p (lines_of more)) (sym here)

-- A line that passes no test leaves what the rest tells; one that does tells it.
pub untold : (p : Text → Bool) (text line more : Text) → false ≡ (length text == 0) → line ≡ first_line text → more ≡ drop (length (first_line text) + 1) text → false ≡ p line
    → list_any p (lines_of text) ≡ list_any p (lines_of more)
untold p text line more some here behind is = told-on p text line more some here behind ∙ sym (ap (λ b. b || list_any p (lines_of more)) is)

pub told : (p : Text → Bool) (text line more : Text) → false ≡ (length text == 0) → line ≡ first_line text → more ≡ drop (length (first_line text) + 1) text → true ≡ p line
    → list_any p (lines_of text) ≡ true
told p text line more some here behind is = told-on p text line more some here behind ∙ sym (ap (λ b. b || list_any p (lines_of more)) is)

pub first_tells : (a b : Bool) → a ≡ true → true ≡ (a || b)
first_tells a b h = sym (first-true a b h)

pub second_tells : (a b : Bool) → b ≡ true → true ≡ (a || b)
second_tells a b h = sym (some-true a b h)

-- ---- what stands behind a line

drop-on : (n : ℕ) (xs : Text) → drop 1 (drop n xs) ≡ drop (n + 1) xs
drop-on zero xs = refl
drop-on (suc n) [] = ap (λ m. drop m []) (one-more n)
drop-on (suc n) (x ∷ xs) = drop-on n xs ∙ ap (λ m. drop m (x ∷ xs)) (one-more n)

pub behind-line : (n : ℕ) (text rest : Text) → rest ≡ drop n text → take (length rest - 1) (drop 1 rest) ≡ drop (n + 1) text
behind-line n text rest is =
    let short = length-drop 1 rest in
    take_all (length rest - 1) (drop 1 rest) (omega (arith, short)) ∙ ap (drop 1) is ∙ drop-on n text
