-- Steady pages go on.
use Rattle.std.proofs.Common.{◌≡◌, ℕ, ◌*◌, ◌≤◌, ◌<◌, nat_lt, min, Bool, true, false, ◌&&◌, List, [], ◌∷◌, ◌++◌, fold, length, take, Option, Some, None, refl, sym, ap, ◌∙◌, subst, arith}
use Rattle.std.proofs.lemmas.Bool.Decides.{nat_tests}
use Rattle.std.proofs.lemmas.Bool.{false≢true}
use Rattle.std.proofs.Math.Seq.{take-length}
use Rattle.std.proofs.lemmas.List.{length-take, take-take}
use Rattle.std.proofs.lemmas.List.Sums.{fold-append}
use Rattle.std.specs.Cmp.{first_so, second_so}
use Rattle.std.specs.Cmp.Lexicographic.{nat_list_eq_equiv, same_text as equal_texts}
use Rattle.opfs_base.specs.Texts.{Text, same_text}
use Rattle.opfs_hist.specs.declared.entry.Entry.{Entry}
use Rattle.opfs_machine.specs.declared.own.Own.{Own}
use Rattle.opfs_machine.specs.declared.state.State.{State}
use Rattle.opfs_machine.specs.Histories.{after_entry, state_after}
use Rattle.opfs_machine.specs.Openings.{Opening, begun}
use Rattle.opfs_machine.specs.Replies.{block_bytes}
use Rattle.opfs_laws.specs.Steady.Settling.{NoneSettles, BytesStay, SteadyPagesGoOn}
use Rattle.opfs_laws.specs.Steady.Steady.{row_bytes, page_in, has_page, is_front, goes_on, settles, steady_by, steady_from, is_steady, BeginsAs}

-- A list of entries after another.
pub steady-append : (s : State Text Own) (was : Bool) (k n i : ℕ) (xs ys : List Entry)
    → steady_from s was k n i (xs ++ ys) ≡ steady_from (fold after_entry s xs) (steady_from s was k n i xs) k n i ys
steady-append s was k n i [] ys = refl
steady-append s was k n i (e ∷ xs) ys =
    steady-append (after_entry s e) (steady_by (settles s k n e) was (row_bytes s k n) (row_bytes (after_entry s e) k n) i) k n i xs ys

after-more : (o : Opening) (h more : List Entry) → state_after o (h ++ more) ≡ fold after_entry (state_after o h) more
after-more o h more = fold-append after_entry (begun o) h more

steady-more : (o : Opening) (h more : List Entry) (k n i : ℕ) → is_steady o (h ++ more) k n i ≡ steady_from (state_after o h) (is_steady o h k n i) k n i more
steady-more o h more k n i = steady-append (begun o) false k n i h more

pub steady-settled : (o : Opening) (h : List Entry) (e : Entry) (k n i : ℕ) → settles (state_after o h) k n e ≡ true
    → is_steady o (h ++ e ∷ []) k n i ≡ has_page (row_bytes (state_after o (h ++ e ∷ [])) k n) i
steady-settled o h e k n i is =
    let s = state_after o h in
    steady-more o h (e ∷ []) k n i
    ∙ ap (λ b. steady_by b (is_steady o h k n i) (row_bytes s k n) (row_bytes (after_entry s e) k n) i) is
    ∙ ap (λ t. has_page (row_bytes t k n) i) (sym (after-more o h (e ∷ [])))

-- What goes on is a page of the row.
goes-has : (old new : Option Text) (i : ℕ) → goes_on old new i ≡ true → has_page new i ≡ true
goes-has None new i h = absurd (false≢true h)
goes-has (Some old) None i h = h
goes-has (Some old) (Some new) i h = first_so (nat_lt (block_bytes * i) (length new)) (is_front (page_in new i) (page_in old i)) h

by-has : (b was : Bool) (old new : Option Text) (i : ℕ) → steady_by b was old new i ≡ true → has_page new i ≡ true
by-has true was old new i h = h
by-has false was old new i h = goes-has old new i (second_so was (goes_on old new i) h)

from-has : (s : State Text Own) (was : Bool) (k n i : ℕ) (es : List Entry) → (was ≡ true → has_page (row_bytes s k n) i ≡ true) → steady_from s was k n i es ≡ true
    → has_page (row_bytes (fold after_entry s es) k n) i ≡ true
from-has s was k n i [] here h = here h
from-has s was k n i (e ∷ es) here h =
    from-has (after_entry s e) (steady_by (settles s k n e) was (row_bytes s k n) (row_bytes (after_entry s e) k n) i) k n i es
    (by-has (settles s k n e) was (row_bytes s k n) (row_bytes (after_entry s e) k n) i) h

pub steady-has : (o : Opening) (h : List Entry) (k n i : ℕ) → is_steady o h k n i ≡ true → has_page (row_bytes (state_after o h) k n) i ≡ true
steady-has o h k n i is = from-has (begun o) false k n i h (λ never. absurd (false≢true never)) is

-- What is steady later was steady before.
by-was : (b was : Bool) (old new : Option Text) (i : ℕ) → b ≡ false → steady_by b was old new i ≡ true → was ≡ true
by-was true was old new i other h = absurd (false≢true (sym other))
by-was false was old new i other h = first_so was (goes_on old new i) h

by-goes : (b was : Bool) (old new : Option Text) (i : ℕ) → b ≡ false → steady_by b was old new i ≡ true → goes_on old new i ≡ true
by-goes true was old new i other h = absurd (false≢true (sym other))
by-goes false was old new i other h = second_so was (goes_on old new i) h

pub from-was : (s : State Text Own) (was : Bool) (k n i : ℕ) (es : List Entry) → NoneSettles s k n es → steady_from s was k n i es ≡ true → was ≡ true
from-was s was k n i [] none h = h
from-was s was k n i (e ∷ es) none h =
    by-was (settles s k n e) was (row_bytes s k n) (row_bytes (after_entry s e) k n) i none.0
    (from-was (after_entry s e) (steady_by (settles s k n e) was (row_bytes s k n) (row_bytes (after_entry s e) k n) i) k n i es none.1 h)

pub steady-was : (o : Opening) (h more : List Entry) (k n i : ℕ) → NoneSettles (state_after o h) k n more → is_steady o (h ++ more) k n i ≡ true → is_steady o h k n i ≡ true
steady-was o h more k n i none is = from-was (state_after o h) (is_steady o h k n i) k n i more none (sym (steady-more o h more k n i) ∙ is)

-- What begins as more begins as a front of it.
front-begins : (a b page : Text) → is_front a b ≡ true → take (length b) page ≡ b → take (length a) page ≡ a
front-begins a b page front known =
    let same : a ≡ take (length a) b = equal_texts a (take (length a) b) (sym front) in
    let long : length a ≡ min (length a) (length b) = ap length same ∙ length-take (length a) b in
    let fits : length a ≤ length b = omega (arith, long) in
    sym (take-take (length a) (length b) page fits) ∙ ap (take (length a)) known ∙ sym same

goes-begins : (old new : Option Text) (i : ℕ) (page : Text) → goes_on old new i ≡ true → BeginsAs old i page → BeginsAs new i page
goes-begins None new i page h known = absurd known
goes-begins (Some old) None i page h known = absurd (false≢true h)
goes-begins (Some old) (Some new) i page h known =
    let there = first_so (nat_lt (block_bytes * i) (length new)) (is_front (page_in new i) (page_in old i)) h in
    let front = second_so (nat_lt (block_bytes * i) (length new)) (is_front (page_in new i) (page_in old i)) h in
    (less (block_bytes * i) (length new) there, front-begins (page_in new i) (page_in old i) page front known.1)
  where
    less : (a b : ℕ) → nat_lt a b ≡ true → a < b
    less a b is = grind (arith, nat_tests)

pub from-begins : (s : State Text Own) (was : Bool) (k n i : ℕ) (es : List Entry) (page : Text) → NoneSettles s k n es → steady_from s was k n i es ≡ true
    → BeginsAs (row_bytes s k n) i page → BeginsAs (row_bytes (fold after_entry s es) k n) i page
from-begins s was k n i [] page none h known = known
from-begins s was k n i (e ∷ es) page none h known =
    let next = steady_by (settles s k n e) was (row_bytes s k n) (row_bytes (after_entry s e) k n) i in
    let here : next ≡ true = from-was (after_entry s e) next k n i es none.1 h in
    from-begins (after_entry s e) next k n i es page none.1 h
    (goes-begins (row_bytes s k n) (row_bytes (after_entry s e) k n) i page
    (by-goes (settles s k n e) was (row_bytes s k n) (row_bytes (after_entry s e) k n) i none.0 here) known)

pub begins-more : (o : Opening) (h more : List Entry) (k n i : ℕ) (page : Text) → NoneSettles (state_after o h) k n more → is_steady o (h ++ more) k n i ≡ true
    → BeginsAs (row_bytes (state_after o h) k n) i page → BeginsAs (row_bytes (state_after o (h ++ more)) k n) i page
begins-more o h more k n i page none is known =
    subst (λ t. BeginsAs (row_bytes t k n) i page) (sym (after-more o h more))
    (from-begins (state_after o h) (is_steady o h k n i) k n i more page none (sym (steady-more o h more k n i) ∙ is) known)

-- Where the bytes stay.
front-itself : (a : Text) → is_front a a ≡ true
front-itself a = ap (same_text a) (take-length a) ∙ nat_list_eq_equiv.refl a

goes-same : (old new : Option Text) (i : ℕ) → new ≡ old → has_page old i ≡ true → goes_on old new i ≡ true
goes-same old new i same has = subst (λ x. goes_on old x i ≡ true) (sym same) (itself old has)
  where
    itself : (x : Option Text) → has_page x i ≡ true → goes_on x x i ≡ true
    itself None h = absurd (false≢true h)
    itself (Some bytes) h = λ j. h j && front-itself (page_in bytes i) j

by-kept : (b was : Bool) (old new : Option Text) (i : ℕ) → new ≡ old → has_page old i ≡ true → was ≡ true → steady_by b was old new i ≡ true
by-kept true was old new i same has is = ap (λ x. has_page x i) same ∙ has
by-kept false was old new i same has is = λ j. is j && goes-same old new i same has j

pub from-kept : (s : State Text Own) (was : Bool) (k n i : ℕ) (es : List Entry) → BytesStay s k n es → has_page (row_bytes s k n) i ≡ true → was ≡ true → steady_from s was k n i es ≡ true
from-kept s was k n i [] stay has is = is
from-kept s was k n i (e ∷ es) stay has is =
    from-kept (after_entry s e) (steady_by (settles s k n e) was (row_bytes s k n) (row_bytes (after_entry s e) k n) i) k n i es stay.1
    (ap (λ x. has_page x i) stay.0 ∙ has)
    (by-kept (settles s k n e) was (row_bytes s k n) (row_bytes (after_entry s e) k n) i stay.0 has is)

pub steady-kept : (o : Opening) (h more : List Entry) (k n i : ℕ) → BytesStay (state_after o h) k n more → is_steady o h k n i ≡ true → is_steady o (h ++ more) k n i ≡ true
steady-kept o h more k n i stay is = steady-more o h more k n i ∙ from-kept (state_after o h) (is_steady o h k n i) k n i more stay (steady-has o h k n i is) is

pub steady-goes : SteadyPagesGoOn
steady-goes = record { settled = steady-settled; has = steady-has; was = steady-was; begins = begins-more; kept = steady-kept }
