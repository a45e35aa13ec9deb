-- Lists of pages that are to be written, by runs.
use Rattle.std.proofs.Common.{◌≡◌, ℕ, zero, suc, ◌+◌, ◌*◌, ◌<◌, ◌≤◌, List, [], ◌∷◌, ◌++◌, inl, inr, refl, sym, subst, ◌∙◌, ap, arith, length, take, drop, get_or, set, Some, None, append_assoc}
use Rattle.std.specs.List.{AllByRecursion}
use Rattle.std.proofs.lemmas.Bool.{cases_lt}
use Rattle.std.proofs.lemmas.List.{length-append, length-take, length-drop, take_all}
use Rattle.opfs_outside.specs.Bytes.{Same, window, Beside}
use Rattle.opfs_outside.specs.Windows.{length-window, window-append}
use Rattle.opfs_data.specs.Places.{Aside, AllLie}
use Rattle.opfs_data.specs.declared.page.Page.{Page}
use Rattle.opfs_data.specs.declared.page.SavedPage.{SavedPage}
use Rattle.opfs_data.specs.declared.page_run.Source.{Source}
use Rattle.opfs_data.specs.declared.page_run.Source.TheVariants.{Given, Own}
use Rattle.opfs_data.specs.Writes.{PageWrite, Run, run_pages, run_writes, writes_of, source_bytes, IsOwnWithin, IsWithin}
use Rattle.opfs_data.specs.Pages.{block_bytes, runs_of, with_writes, NamesBlock, AreOnce, AreSaved}
use Rattle.opfs_data.proofs.PageLemmas.{block_is, same_block}

-- ---- lists

pub all_append : {X : Type 0} (P : X → Type 0) (xs ys : List X) → AllByRecursion P xs → AllByRecursion P ys → AllByRecursion P (xs ++ ys)
all_append P [] ys a b = b
all_append P (x ∷ xs) ys a b = (a.0, all_append P xs ys a.1 b)

pub all_left : {X : Type 0} (P : X → Type 0) (xs ys : List X) → AllByRecursion P (xs ++ ys) → AllByRecursion P xs
all_left P [] ys all = tt
all_left P (x ∷ xs) ys all = (all.0, all_left P xs ys all.1)

pub all_right : {X : Type 0} (P : X → Type 0) (xs ys : List X) → AllByRecursion P (xs ++ ys) → AllByRecursion P ys
all_right P [] ys all = all
all_right P (x ∷ xs) ys all = all_right P xs ys all.1

pub all_map : {X : Type 0} (P Q : X → Type 0) → ((x : X) → P x → Q x) → (xs : List X) → AllByRecursion P xs → AllByRecursion Q xs
all_map P Q f [] all = tt
all_map P Q f (x ∷ xs) all = (f x all.0, all_map P Q f xs all.1)

pub all_both : {X : Type 0} (P Q R : X → Type 0) → ((x : X) → P x → Q x → R x) → (xs : List X) → AllByRecursion P xs → AllByRecursion Q xs → AllByRecursion R xs
all_both P Q R f [] a b = tt
all_both P Q R f (x ∷ xs) a b = (f x a.0 b.0, all_both P Q R f xs a.1 b.1)

pub split_at : {X : Type 0} (xs : List X) (i : ℕ) (x : X) → x ≡ get_or xs i x → i < length xs → take (i + 1) xs ≡ take i xs ++ x ∷ []
split_at {X = X} [] i x is lt = absurd (omega arith)
split_at {X = X} (y ∷ xs) zero x is lt = ap (λ (z : X). z ∷ []) (sym is)
split_at {X = X} (y ∷ xs) (suc i) x is lt =
    let e : suc i + 1 ≡ suc (i + 1) = omega arith in
    ap (λ (n : ℕ). take n (y ∷ xs)) e ∙ ap (λ (l : List X). y ∷ l) (split_at xs i x is (omega arith))

pub split_whole : {X : Type 0} (xs : List X) (i : ℕ) (x : X) → x ≡ get_or xs i x → i < length xs → xs ≡ take i xs ++ (x ∷ drop (i + 1) xs)
split_whole {X = X} [] i x is lt = absurd (omega arith)
split_whole {X = X} (y ∷ xs) zero x is lt = ap (λ (z : X). z ∷ xs) (sym is)
split_whole {X = X} (y ∷ xs) (suc i) x is lt =
    let e : suc (i + 1) ≡ suc i + 1 = omega arith in
    ap (λ (l : List X). y ∷ l) (split_whole xs i x is (omega arith)) ∙ ap (λ (n : ℕ). y ∷ (take i xs ++ (x ∷ drop n (y ∷ xs)))) e

part_front : (f k : ℕ) (xs ys : List ℕ) → f + k ≤ length xs → take k (drop f (xs ++ ys)) ≡ take k (drop f xs)
part_front f zero xs ys fits = refl
part_front zero (suc k) [] ys fits = absurd (omega arith)
part_front zero (suc k) (x ∷ xs) ys fits = ap (λ (l : List ℕ). x ∷ l) (part_front zero k xs ys (omega arith))
part_front (suc f) (suc k) [] ys fits = absurd (omega arith)
part_front (suc f) (suc k) (x ∷ xs) ys fits = part_front f (suc k) xs ys (omega arith)

drop_front : (n : ℕ) (xs ys : List ℕ) → n ≡ length xs → drop n (xs ++ ys) ≡ ys
drop_front zero [] ys is = refl
drop_front zero (x ∷ xs) ys is = absurd (omega arith)
drop_front (suc n) [] ys is = absurd (omega arith)
drop_front (suc n) (x ∷ xs) ys is = drop_front n xs ys (omega arith)

take-none : (n : ℕ) → take {A = ℕ} n [] ≡ []
take-none zero = refl
take-none (suc n) = refl

take_two : (k m : ℕ) (xs : List ℕ) → take (k + m) xs ≡ take k xs ++ take m (drop k xs)
take_two zero m xs = ap (λ (n : ℕ). take n xs) (omega arith)
take_two (suc k) m [] = take-none (suc k + m) ∙ sym (take-none m)
take_two (suc k) m (x ∷ xs) =
    let e : suc k + m ≡ suc (k + m) = omega arith in
    ap (λ (n : ℕ). take n (x ∷ xs)) e ∙ ap (λ (l : List ℕ). x ∷ l) (take_two k m xs)

drop-none : (n : ℕ) → drop {A = ℕ} n [] ≡ []
drop-none zero = refl
drop-none (suc n) = refl

drop_drop : (a b : ℕ) (xs : List ℕ) → drop a (drop b xs) ≡ drop (b + a) xs
drop_drop a zero xs = ap (λ (n : ℕ). drop n xs) (omega arith)
drop_drop a (suc b) [] = drop-none a ∙ sym (drop-none (suc b + a))
drop_drop a (suc b) (x ∷ xs) =
    let e : suc (b + a) ≡ suc b + a = omega arith in
    drop_drop a b xs ∙ ap (λ (n : ℕ). drop n (x ∷ xs)) e

cons-same : (x y : ℕ) (xs ys : List ℕ) → (x ∷ xs) ≡ (y ∷ ys) → (x ≡ y) × (xs ≡ ys)
cons-same x y xs ys same = (ap (λ (l : List ℕ). get_or l 0 0) same, ap (λ (l : List ℕ). drop 1 l) same)

-- two equal lists in parts of one length
pub halves : (xs ys us vs : List ℕ) → length xs ≡ length us → xs ++ ys ≡ us ++ vs → (xs ≡ us) × (ys ≡ vs)
halves [] ys [] vs size same = (refl, same)
halves [] ys (u ∷ us) vs size same = absurd (omega arith)
halves (x ∷ xs) ys [] vs size same = absurd (omega arith)
halves (x ∷ xs) ys (u ∷ us) vs size same =
    let heads = cons-same x u (xs ++ ys) (us ++ vs) same in
    let rest = halves xs ys us vs (omega arith) heads.1 in
    (ap (λ (n : ℕ). n ∷ xs) heads.0 ∙ ap (λ (l : List ℕ). u ∷ l) rest.0, rest.1)

-- ---- runs

pub run_more : (bytes : List ℕ) (page block from n : ℕ)
    → run_pages bytes page block from (n + 1) ≡ run_pages bytes page block from n ++ (record { page = page + n; block = block + n; bytes = take 4096 (drop (from + 4096 * n) bytes) }) ∷ []
run_more bytes page block from zero =
    let a : page + 0 ≡ page = omega arith in
    let b : block + 0 ≡ block = omega arith in
    let c : from + 4096 * 0 ≡ from = omega arith in
    rw (a, b, c) refl
run_more bytes page block from (suc n) =
    let a : page + 1 + n ≡ page + suc n = omega arith in
    let b : block + 1 + n ≡ block + suc n = omega arith in
    let c : from + 4096 + 4096 * n ≡ from + 4096 * suc n = omega arith in
    let e : suc n + 1 ≡ suc (n + 1) = omega arith in
    let last : ℕ → ℕ → ℕ → List PageWrite = λ p q f. (record { page = p; block = q; bytes = take 4096 (drop f bytes) }) ∷ [] in
    let front : List PageWrite = run_pages bytes (page + 1) (block + 1) (from + 4096) n in
    let head : PageWrite = record { page = page; block = block; bytes = take 4096 (drop from bytes) } in
    ap (λ (k : ℕ). run_pages bytes page block from k) e
    ∙ ap (λ (l : List PageWrite). head ∷ l) (run_more bytes (page + 1) (block + 1) (from + 4096) n)
    ∙ ap (λ (k : ℕ). head ∷ (front ++ last k (block + 1 + n) (from + 4096 + 4096 * n))) a
    ∙ ap (λ (k : ℕ). head ∷ (front ++ last (page + suc n) k (from + 4096 + 4096 * n))) b
    ∙ ap (λ (k : ℕ). head ∷ (front ++ last (page + suc n) (block + suc n) k)) c

pub writes_append : (own given : List ℕ) (xs ys : List Run) → writes_of own given (xs ++ ys) ≡ writes_of own given xs ++ writes_of own given ys
writes_append own given [] ys = refl
writes_append own given (x ∷ xs) ys =
    ap (λ (l : List PageWrite). run_writes own given x ++ l) (writes_append own given xs ys) ∙ sym (append_assoc (run_writes own given x) (writes_of own given xs) (writes_of own given ys))

append_none : {X : Type 0} (xs : List X) → xs ++ [] ≡ xs
append_none {X = X} [] = refl
append_none {X = X} (x ∷ xs) = ap (λ (l : List X). x ∷ l) (append_none xs)

pub writes_push : (own given : List ℕ) (runs : List Run) (r : Run) → writes_of own given (runs ++ r ∷ []) ≡ writes_of own given runs ++ run_writes own given r
writes_push own given runs r = writes_append own given runs (r ∷ []) ∙ ap (λ (l : List PageWrite). writes_of own given runs ++ l) (append_none (run_writes own given r))

pub writes_next : (own given : List ℕ) (runs : List Run) (i : ℕ) (r : Run) → r ≡ get_or runs i r → i < length runs → writes_of own given (take (i + 1) runs) ≡ writes_of own given (take i runs) ++ run_writes own given r
writes_next own given runs i r is lt = ap (writes_of own given) (split_at runs i r is lt) ∙ writes_push own given (take i runs) r

pub writes_split : (own given : List ℕ) (runs : List Run) (i : ℕ) (r : Run) → r ≡ get_or runs i r → i < length runs
    → writes_of own given runs ≡ writes_of own given (take i runs) ++ (run_writes own given r ++ writes_of own given (drop (i + 1) runs))
writes_split own given runs i r is lt = ap (writes_of own given) (split_whole runs i r is lt) ∙ writes_append own given (take i runs) (r ∷ drop (i + 1) runs)

pub writes_all : (own given : List ℕ) (runs : List Run) (i : ℕ) → length runs ≤ i → writes_of own given (take i runs) ≡ writes_of own given runs
writes_all own given runs i all = ap (writes_of own given) (take_all i runs all)

-- what holds of all pages holds of those of one run
pub run_holds : (P : PageWrite → Type 0) (own given : List ℕ) (runs : List Run) (i : ℕ) (r : Run) → r ≡ get_or runs i r → i < length runs → AllByRecursion P (writes_of own given runs) → AllByRecursion P (run_writes own given r)
run_holds P own given runs i r is lt all =
    let whole = subst (AllByRecursion P) (writes_split own given runs i r is lt) all in
    all_left P (run_writes own given r) (writes_of own given (drop (i + 1) runs)) (all_right P (writes_of own given (take i runs)) (run_writes own given r ++ writes_of own given (drop (i + 1) runs)) whole)

pub page_holds : (P : PageWrite → Type 0) (bytes : List ℕ) (page block from n k : ℕ) → k < n → AllByRecursion P (run_pages bytes page block from n) → P (record { page = page + k; block = block + k; bytes = take 4096 (drop (from + 4096 * k) bytes) })
page_holds P bytes page block from zero k lt all = absurd (omega arith)
page_holds P bytes page block from (suc n) zero lt all =
    let a : page + 0 ≡ page = omega arith in
    let b : block + 0 ≡ block = omega arith in
    let c : from + 4096 * 0 ≡ from = omega arith in
    rw (a, b, c) all.0
page_holds P bytes page block from (suc n) (suc k) lt all =
    let a : page + 1 + k ≡ page + suc k = omega arith in
    let b : block + 1 + k ≡ block + suc k = omega arith in
    let c : from + 4096 + 4096 * k ≡ from + 4096 * suc k = omega arith in
    rw (a, b, c) at (page_holds P bytes (page + 1) (block + 1) (from + 4096) n k (omega arith) all.1)

-- ---- the list's own bytes

pages_grow : (bytes more : List ℕ) (page block from n : ℕ) → from + 4096 * n ≤ length bytes → run_pages (bytes ++ more) page block from n ≡ run_pages bytes page block from n
pages_grow bytes more page block from zero fits = refl
pages_grow bytes more page block from (suc n) fits =
    ap (λ (l : List ℕ). (record { page = page; block = block; bytes = l }) ∷ run_pages (bytes ++ more) (page + 1) (block + 1) (from + 4096) n) (part_front from 4096 bytes more (omega arith))
    ∙ ap (λ (l : List PageWrite). (record { page = page; block = block; bytes = take 4096 (drop from bytes) }) ∷ l) (pages_grow bytes more (page + 1) (block + 1) (from + 4096) n (omega arith))

source_grow : (own more given : List ℕ) (s : Source) (page block from n : ℕ) → (s ≡ Own → from + 4096 * n ≤ length own)
    → run_pages (source_bytes (own ++ more) given s) page block from n ≡ run_pages (source_bytes own given s) page block from n
source_grow own more given Given page block from n fits = refl
source_grow own more given Own page block from n fits = pages_grow own more page block from n (fits refl)

pub writes_grow : (own more given : List ℕ) (runs : List Run) → AllByRecursion (IsOwnWithin own) runs → writes_of (own ++ more) given runs ≡ writes_of own given runs
writes_grow own more given [] all = refl
writes_grow own more given (r ∷ runs) all =
    ap (λ (l : List PageWrite). l ++ writes_of (own ++ more) given runs) (source_grow own more given r.source r.page r.block r.from r.count all.0)
    ∙ ap (λ (l : List PageWrite). run_writes own given r ++ l) (writes_grow own more given runs all.1)

pub within_grow : (own more : List ℕ) (runs : List Run) → AllByRecursion (IsOwnWithin own) runs → AllByRecursion (IsOwnWithin (own ++ more)) runs
within_grow own more runs all = all_map (IsOwnWithin own) (IsOwnWithin (own ++ more)) (λ r fits is. omega (arith, fits is, length-append own more)) runs all

-- a page of the list's own bytes
pub own_page : (own bytes given : List ℕ) (page block from k : ℕ) → k ≡ 4096 → from ≡ length own → length bytes ≡ k
    → run_pages (own ++ bytes) page block from 1 ≡ (record { page = page; block = block; bytes = bytes }) ∷ []
own_page own bytes given page block from k is at size =
    ap (λ (l : List ℕ). (record { page = page; block = block; bytes = l }) ∷ [])
    (ap (λ (l : List ℕ). take 4096 l) (drop_front from own bytes at) ∙ ap (λ (n : ℕ). take n bytes) (sym is) ∙ take_all k bytes (omega arith))

-- ---- the places of a run

lies_cons : (base end : ℕ) (w : PageWrite) (ws : List PageWrite) → AllLie base end (runs_of (w ∷ ws)) → (base + 4096 * w.block + 4096 ≤ end) × AllLie base end (runs_of ws)
lies_cons base end w ws all = (omega (arith, all.0), all.1)

lies_left : (base end : ℕ) (xs ys : List PageWrite) → AllLie base end (runs_of (xs ++ ys)) → AllLie base end (runs_of xs)
lies_left base end [] ys all = tt
lies_left base end (x ∷ xs) ys all = (all.0, lies_left base end xs ys all.1)

lies_right : (base end : ℕ) (xs ys : List PageWrite) → AllLie base end (runs_of (xs ++ ys)) → AllLie base end (runs_of ys)
lies_right base end [] ys all = all
lies_right base end (x ∷ xs) ys all = lies_right base end xs ys all.1

pages_lie : (base end : ℕ) (bytes : List ℕ) (page block from n : ℕ) → 0 < n → AllLie base end (runs_of (run_pages bytes page block from n)) → base + 4096 * block + 4096 * n ≤ end
pages_lie base end bytes page block from zero some all = absurd (omega arith)
pages_lie base end bytes page block from (suc zero) some all = omega (arith, all.0)
pages_lie base end bytes page block from (suc (suc n)) some all = omega (arith, pages_lie base end bytes (page + 1) (block + 1) (from + 4096) (suc n) (omega arith) all.1)

pub run_lies : (base end : ℕ) (own given : List ℕ) (runs : List Run) (i : ℕ) (r : Run) → r ≡ get_or runs i r → i < length runs → 0 < r.count → AllLie base end (runs_of (writes_of own given runs))
    → base + 4096 * r.block + 4096 * r.count ≤ end
run_lies base end own given runs i r is lt some all =
    let whole = subst (λ (l : List PageWrite). AllLie base end (runs_of l)) (writes_split own given runs i r is lt) all in
    pages_lie base end (source_bytes own given r.source) r.page r.block r.from r.count some
    (lies_left base end (run_writes own given r) (writes_of own given (drop (i + 1) runs)) (lies_right base end (writes_of own given (take i runs)) (run_writes own given r ++ writes_of own given (drop (i + 1) runs)) whole))

aside_left : (base k : ℕ) (xs ys : List PageWrite) → Aside base (runs_of (xs ++ ys)) k → Aside base (runs_of xs) k
aside_left base k [] ys all = tt
aside_left base k (x ∷ xs) ys all = (all.0, aside_left base k xs ys all.1)

aside_right : (base k : ℕ) (xs ys : List PageWrite) → Aside base (runs_of (xs ++ ys)) k → Aside base (runs_of ys) k
aside_right base k [] ys all = all
aside_right base k (x ∷ xs) ys all = aside_right base k xs ys all.1

pages_aside : (base : ℕ) (bytes : List ℕ) (page block from n k : ℕ) → Aside base (runs_of (run_pages bytes page block from n)) k → Beside (base + 4096 * block) (4096 * n) k
pages_aside base bytes page block from zero k all = elim (cases_lt k (base + 4096 * block)) [ inl before ↦ inl before | inr past ↦ inr (omega arith) ]
pages_aside base bytes page block from (suc n) k all = elim all.0 [
  | inl before ↦ inl (omega arith)
  | inr past ↦ elim (pages_aside base bytes (page + 1) (block + 1) (from + 4096) n k all.1) [ inl before ↦ absurd (omega arith) | inr behind ↦ inr (omega arith) ]
]

pub run_aside : (base k : ℕ) (own given : List ℕ) (runs : List Run) (i : ℕ) (r : Run) → r ≡ get_or runs i r → i < length runs → Aside base (runs_of (writes_of own given runs)) k
    → Beside (base + 4096 * r.block) (4096 * r.count) k
run_aside base k own given runs i r is lt all =
    let whole = subst (λ (l : List PageWrite). Aside base (runs_of l) k) (writes_split own given runs i r is lt) all in
    pages_aside base (source_bytes own given r.source) r.page r.block r.from r.count k
    (aside_left base k (run_writes own given r) (writes_of own given (drop (i + 1) runs)) (aside_right base k (writes_of own given (take i runs)) (run_writes own given r ++ writes_of own given (drop (i + 1) runs)) whole))

-- ---- the bytes of a run

names_left : (xs ys : List PageWrite) (b : ℕ) → NamesBlock xs b → NamesBlock (xs ++ ys) b
names_left [] ys b named = absurd named
names_left (x ∷ xs) ys b named = elim named [ inl is ↦ inl is | inr more ↦ inr (names_left xs ys b more) ]

names_right : (xs ys : List PageWrite) (b : ℕ) → NamesBlock ys b → NamesBlock (xs ++ ys) b
names_right [] ys b named = named
names_right (x ∷ xs) ys b named = inr (names_right xs ys b named)

names_run : (bytes : List ℕ) (page block from n b : ℕ) → block ≤ b → b < block + n → NamesBlock (run_pages bytes page block from n) b
names_run bytes page block from zero b above below = absurd (omega arith)
names_run bytes page block from (suc n) b above below = elim (cases_lt block b) [
  | inl over ↦ inr (names_run bytes (page + 1) (block + 1) (from + 4096) n b (omega arith) (omega arith))
  | inr not_over ↦ inl (omega arith)
]

apart_front : (xs ys : List PageWrite) → AreOnce (xs ++ ys) → AllByRecursion (λ w. NamesBlock ys w.block → ⊥) xs
apart_front [] ys once = tt
apart_front (x ∷ xs) ys once = ((λ named. once.1 (names_right xs ys x.block named)), apart_front xs ys once.2)

run_other : (c d : List ℕ) (base b block n : ℕ) → (block ≤ b → b < block + n → ⊥) → Same (Beside (base + 4096 * block) (4096 * n)) c d → block_bytes c base b ≡ block_bytes d base b
run_other c d base b block n apart same = same_block c d base b 4096 refl (λ k lt i at. same i (
    elim (cases_lt b block) [
      | inl below ↦ inl (omega arith)
      | inr above ↦ elim (cases_lt b (block + n)) [ inl inside ↦ absurd (apart (omega arith) inside) | inr past ↦ inr (omega arith) ]
    ]
    ))

one_there : (c : List ℕ) (at k m : ℕ) (xs : List ℕ) → k + m ≤ length xs → window c at (k + m) ≡ take (k + m) xs → (window c at k ≡ take k xs) × (window c (at + k) m ≡ take m (drop k xs))
one_there c at k m xs fits same =
    halves (window c at k) (window c (at + k) m) (take k xs) (take m (drop k xs)) (omega (arith, length-window c at k, length-take k xs)) (sym (window-append c at k m) ∙ same ∙ take_two k m xs)

run_there : (c : List ℕ) (base : ℕ) (bytes : List ℕ) (page block from n : ℕ) → from + 4096 * n ≤ length bytes → window c (base + 4096 * block) (4096 * n) ≡ take (4096 * n) (drop from bytes)
    → AllByRecursion (λ w. block_bytes c base w.block ≡ w.bytes) (run_pages bytes page block from n)
run_there c base bytes page block from zero fits same = tt
run_there c base bytes page block from (suc n) fits same =
    let size : 4096 * suc n ≡ 4096 + 4096 * n = omega arith in
    let parts = one_there c (base + 4096 * block) 4096 (4096 * n) (drop from bytes) (omega (arith, length-drop from bytes)) (rw size at same) in
    let place : base + 4096 * block + 4096 ≡ base + 4096 * (block + 1) = omega arith in
    let rest : window c (base + 4096 * (block + 1)) (4096 * n) ≡ take (4096 * n) (drop (from + 4096) bytes) =
    ap (λ (p : ℕ). window c p (4096 * n)) (sym place) ∙ parts.1 ∙ ap (λ (l : List ℕ). take (4096 * n) l) (drop_drop 4096 from bytes) in
    (block_is c base block 4096 refl ∙ parts.0, run_there c base bytes (page + 1) (block + 1) (from + 4096) n (omega arith) rest)

-- the pages of the runs so far have their bytes after one more run was put
pub written_next : (c c' : List ℕ) (base : ℕ) (own given : List ℕ) (runs : List Run) (i : ℕ) (r : Run) → r ≡ get_or runs i r → i < length runs → AreOnce (writes_of own given runs) → IsWithin own given r
    → Same (Beside (base + 4096 * r.block) (4096 * r.count)) c' c
    → window c' (base + 4096 * r.block) (4096 * r.count) ≡ take (4096 * r.count) (drop r.from (source_bytes own given r.source))
    → AllByRecursion (λ w. block_bytes c base w.block ≡ w.bytes) (writes_of own given (take i runs))
    → AllByRecursion (λ w. block_bytes c' base w.block ≡ w.bytes) (writes_of own given (take (i + 1) runs))
written_next c c' base own given runs i r is lt once within same put before =
    let front = writes_of own given (take i runs) in
    let rest = writes_of own given (drop (i + 1) runs) in
    let apart = apart_front front (run_writes own given r ++ rest) (subst AreOnce (writes_split own given runs i r is lt) once) in
    let still : AllByRecursion (λ w. block_bytes c' base w.block ≡ w.bytes) front =
    all_both (λ w. block_bytes c base w.block ≡ w.bytes) (λ w. NamesBlock (run_writes own given r ++ rest) w.block → ⊥) (λ w. block_bytes c' base w.block ≡ w.bytes)
    (λ w was out.
    run_other c' c base w.block r.block r.count (λ above below. out (names_left (run_writes own given r) rest w.block (names_run (source_bytes own given r.source) r.page r.block r.from r.count w.block above below))) same ∙ was)
    front before apart in
    subst (AllByRecursion (λ w. block_bytes c' base w.block ≡ w.bytes)) (sym (writes_next own given runs i r is lt))
    (all_append (λ w. block_bytes c' base w.block ≡ w.bytes) front (run_writes own given r) still (run_there c' base (source_bytes own given r.source) r.page r.block r.from r.count within put))

-- ---- pages that get the blocks of a run

pub with_append : (xs ys : List PageWrite) (pages : List Page) → with_writes (xs ++ ys) pages ≡ with_writes ys (with_writes xs pages)
with_append [] ys pages = refl
with_append (x ∷ xs) ys pages = with_append xs ys (set pages x.page (record { block = Some x.block; kept = None }))

pub placed_next : (bytes : List ℕ) (page block from k : ℕ) (pages start : List Page) → pages ≡ with_writes (run_pages bytes page block from k) start
    → set pages (page + k) (record { block = Some (block + k); kept = None }) ≡ with_writes (run_pages bytes page block from (k + 1)) start
placed_next bytes page block from k pages start is =
    let w : PageWrite = record { page = page + k; block = block + k; bytes = take 4096 (drop (from + 4096 * k) bytes) } in
    ap (λ (ps : List Page). set ps (page + k) (record { block = Some (block + k); kept = None })) is
    ∙ sym (ap (λ (ws : List PageWrite). with_writes ws start) (run_more bytes page block from k) ∙ with_append (run_pages bytes page block from k) (w ∷ []) start)

pub saved_next : (saved : List SavedPage) (pages : List Page) (ws : List PageWrite) (bytes : List ℕ) (page block from k p q : ℕ) → p ≡ page + k → q ≡ block + k
    → AreSaved saved pages ((ws ++ run_pages bytes page block from k) ++ (record { page = p; block = q; bytes = take 4096 (drop (from + 4096 * k) bytes) }) ∷ [])
    → AreSaved saved pages (ws ++ run_pages bytes page block from (k + 1))
saved_next saved pages ws bytes page block from k p q at_page at_block is =
    let last : ℕ → ℕ → List PageWrite = λ a b. (record { page = a; block = b; bytes = take 4096 (drop (from + 4096 * k) bytes) }) ∷ [] in
    subst (AreSaved saved pages)
    (append_assoc ws (run_pages bytes page block from k) (last p q)
    ∙ ap (λ (n : ℕ). ws ++ (run_pages bytes page block from k ++ last n q)) at_page
    ∙ ap (λ (n : ℕ). ws ++ (run_pages bytes page block from k ++ last (page + k) n)) at_block
    ∙ ap (λ (l : List PageWrite). ws ++ l) (sym (run_more bytes page block from k)))
    is

pub own_push : (own now bytes given : List ℕ) (runs runs' : List Run) (r : Run) (page block from k : ℕ) (before : List PageWrite) → own ≡ now ++ bytes → runs' ≡ runs ++ r ∷ []
    → r ≡ record { page = page; count = 1; block = block; from = from; source = Own } → k ≡ 4096 → from ≡ length now → length bytes ≡ k → writes_of own given runs ≡ before
    → writes_of own given runs' ≡ before ++ (record { page = page; block = block; bytes = bytes }) ∷ []
own_push own now bytes given runs runs' r page block from k before own_is runs_are r_is k_is at size so_far =
    ap (writes_of own given) runs_are ∙ writes_push own given runs r
    ∙ ap (λ (l : List PageWrite). l ++ run_writes own given r) so_far
    ∙ ap (λ (x : Run). before ++ run_writes own given x) r_is
    ∙ ap (λ (xs : List ℕ). before ++ run_pages xs page block from 1) own_is
    ∙ ap (λ (l : List PageWrite). before ++ l) (own_page now bytes given page block from k k_is at size)
