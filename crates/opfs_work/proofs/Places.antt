-- The byte at a position, as one page changes.
use Rattle.std.proofs.Common.{◌≡◌, ℕ, ◌+◌, ◌-◌, ◌/◌, ◌%◌, ◌≤◌, ◌<◌, true, false, Option, Some, unwrap_or, List, [], length, set, refl, sym, ap, ◌∙◌, inl, inr, arith, slice_index}
use Rattle.std.proofs.lemmas.Bool.{cases_eq}
use Rattle.std.proofs.lemmas.List.{get_or-set_same, get_or-set_other, set-set}
use Rattle.opfs_work.specs.declared.pages.Page.{Page}
use Rattle.opfs_work.specs.declared.pages.Page.TheVariants.{Zero, Near, Clean, Far}
use Rattle.opfs_work.specs.Pages.{Table, page_at, page_byte, byte_at, bytes_near, is_far}

-- the byte at a position, by its page
pub byte_in : (far : ℕ → ℕ) (pages : List Page) (i : ℕ) → byte_at far pages i ≡ page_byte (far i) (page_at pages (i / 4096)) (i % 4096)
unfolding byte_at
byte_in far pages i = refl

pub byte_of : (far : ℕ → ℕ) (pages : List Page) (i : ℕ) (page : Page) → page_at pages (i / 4096) ≡ page → byte_at far pages i ≡ page_byte (far i) page (i % 4096)
byte_of far pages i page is = byte_in far pages i ∙ ap (λ (p : Page). page_byte (far i) p (i % 4096)) is

-- positions of a page that is as before
pub byte_apart : (far : ℕ → ℕ) (old new : List Page) (i : ℕ) → page_at new (i / 4096) ≡ page_at old (i / 4096) → byte_at far new i ≡ byte_at far old i
byte_apart far old new i same = byte_of far new i (page_at old (i / 4096)) same ∙ sym (byte_in far old i)

-- the bytes of a page that is in memory
page_bytes : (far place : ℕ) (page : Page) (bytes : List ℕ) → bytes_near page ≡ Some bytes → page_byte far page place ≡ slice_index bytes place
page_bytes far place Zero bytes is = absurd cc
page_bytes far place (Near own) bytes is = ap (λ (o : Option (List ℕ)). slice_index (unwrap_or o []) place) is
page_bytes far place (Clean own) bytes is = ap (λ (o : Option (List ℕ)). slice_index (unwrap_or o []) place) is
page_bytes far place Far bytes is = absurd cc

pub near_bytes : (far : ℕ → ℕ) (pages : List Page) (i : ℕ) (bytes : List ℕ) → bytes_near (page_at pages (i / 4096)) ≡ Some bytes → byte_at far pages i ≡ slice_index bytes (i % 4096)
near_bytes far pages i bytes is = byte_in far pages i ∙ page_bytes (far i) (i % 4096) (page_at pages (i / 4096)) bytes is

pub both_set : (old between new : List Page) (k : ℕ) (gone page : Page) → between ≡ set old k gone → new ≡ set between k page → new ≡ set old k page
both_set old between new k gone page first second = second ∙ ap (λ (ps : List Page). set ps k page) first ∙ set-set old k gone page

abbrev pub with_pages : ℕ → List Page → Table
with_pages room pages = record { pages = pages; room = room }

pub page_here : (old new : List Page) (k : ℕ) (page : Page) → k < length old → new ≡ set old k page → page_at new k ≡ page
page_here old new k page there is = ap (λ (ps : List Page). page_at ps k) is ∙ get_or-set_same old k page Zero there

pub page_there : (old new : List Page) (k j : ℕ) (page : Page) → (j ≡ k → ⊥) → new ≡ set old k page → page_at new j ≡ page_at old j
page_there old new k j page apart is = ap (λ (ps : List Page). page_at ps j) is ∙ get_or-set_other old k j page Zero apart

-- a page was changed, and a position in it still has its byte
pub stays : (far : ℕ → ℕ) (old new : List Page) (k i : ℕ) (page : Page) → k < length old → new ≡ set old k page
    → (i / 4096 ≡ k → page_byte (far i) page (i % 4096) ≡ page_byte (far i) (page_at old k) (i % 4096)) → byte_at far new i ≡ byte_at far old i
stays far old new k i page there is same =
    elim (cases_eq (i / 4096) k) [
      | inl here ↦
          byte_of far new i page (ap (page_at new) here ∙ page_here old new k page there is) ∙ same here
          ∙ sym (byte_of far old i (page_at old k) (ap (page_at old) here))
      | inr apart ↦ byte_apart far old new i (page_there old new k (i / 4096) page apart is)
    ]

-- ---- a page that is written, out of a page's own bytes

pub written-inside : (far : ℕ → ℕ) (old between new : List Page) (gone : Page) (place i : ℕ) (chunk bytes : List ℕ) → place / 4096 < length old
    → between ≡ set old (place / 4096) gone → new ≡ set between (place / 4096) (Near bytes) → place % 4096 + length chunk ≤ 4096
    → ((j : ℕ) → place % 4096 ≤ j → j < place % 4096 + length chunk → slice_index bytes j ≡ slice_index chunk (j - place % 4096))
    → place ≤ i → i < place + length chunk → byte_at far new i ≡ slice_index chunk (i - place)
written-inside far old between new gone place i chunk bytes there first second within inside from below =
    let here : i / 4096 ≡ place / 4096 = omega arith in
    let at : i % 4096 - place % 4096 ≡ i - place = omega arith in
    byte_of far new i (Near bytes) (ap (page_at new) here ∙ page_here old new (place / 4096) (Near bytes) there (both_set old between new _ gone _ first second))
    ∙ inside (i % 4096) (omega arith) (omega arith) ∙ ap (slice_index chunk) at

-- a page that is Far is written whole
own_byte : (old : Page) (own : List ℕ) (f j : ℕ) → (is_far old ≡ true → ⊥) → (is_far old ≡ false → (f j : ℕ) → slice_index own j ≡ page_byte f old j) → slice_index own j ≡ page_byte f old j
own_byte old own f j near owns =
    elim (is_far old) as (λ t. (t ≡ true → ⊥) → (t ≡ false → (f j : ℕ) → slice_index own j ≡ page_byte f old j) → slice_index own j ≡ page_byte f old j) [
      | true ↦ λ no_far owns. absurd (no_far refl)
      | false ↦ λ no_far owns. owns refl f j
    ] near owns

pub written-before : (far : ℕ → ℕ) (old between new : List Page) (gone : Page) (place i : ℕ) (chunk own bytes : List ℕ) → place / 4096 < length old
    → between ≡ set old (place / 4096) gone → new ≡ set between (place / 4096) (Near bytes) → place % 4096 + length chunk ≤ 4096
    → (is_far (page_at old (place / 4096)) ≡ true → length chunk ≡ 4096)
    → ((length chunk ≡ 4096 → ⊥) → is_far (page_at old (place / 4096)) ≡ false → (f j : ℕ) → slice_index own j ≡ page_byte f (page_at old (place / 4096)) j)
    → ((j : ℕ) → j < place % 4096 → slice_index bytes j ≡ slice_index own j)
    → i < place → byte_at far new i ≡ byte_at far old i
written-before far old between new gone place i chunk own bytes there first second within whole owns before below =
    stays far old new (place / 4096) i (Near bytes) there (both_set old between new _ gone _ first second)
    (λ here. before (i % 4096) (omega arith) ∙ own_byte (page_at old (place / 4096)) own (far i) (i % 4096) (λ is. omega (arith, whole is)) (owns (λ all. omega arith)))

pub written-behind : (far : ℕ → ℕ) (old between new : List Page) (gone : Page) (place i : ℕ) (chunk own bytes : List ℕ) → place / 4096 < length old
    → between ≡ set old (place / 4096) gone → new ≡ set between (place / 4096) (Near bytes) → place % 4096 + length chunk ≤ 4096
    → (is_far (page_at old (place / 4096)) ≡ true → length chunk ≡ 4096)
    → ((length chunk ≡ 4096 → ⊥) → is_far (page_at old (place / 4096)) ≡ false → (f j : ℕ) → slice_index own j ≡ page_byte f (page_at old (place / 4096)) j)
    → ((j : ℕ) → place % 4096 + length chunk ≤ j → slice_index bytes j ≡ slice_index own j)
    → place + length chunk ≤ i → byte_at far new i ≡ byte_at far old i
written-behind far old between new gone place i chunk own bytes there first second within whole owns behind past =
    stays far old new (place / 4096) i (Near bytes) there (both_set old between new _ gone _ first second)
    (λ here. behind (i % 4096) (omega arith) ∙ own_byte (page_at old (place / 4096)) own (far i) (i % 4096) (λ is. omega (arith, whole is)) (owns (λ all. omega arith)))

-- ---- a page that is 0 from a position on

pub wiped-before : (far : ℕ → ℕ) (old between new : List Page) (gone page : Page) (place i : ℕ) → place / 4096 < length old
    → between ≡ set old (place / 4096) gone → new ≡ set between (place / 4096) page
    → ((f j : ℕ) → j < place % 4096 → page_byte f page j ≡ page_byte f (page_at old (place / 4096)) j)
    → i < place → byte_at far new i ≡ byte_at far old i
wiped-before far old between new gone page place i there first second before below =
    stays far old new (place / 4096) i page there (both_set old between new _ gone _ first second) (λ here. before (far i) (i % 4096) (omega arith))

pub wiped-behind : (old between new : List Page) (gone page : Page) (place i : ℕ) → place / 4096 < length old
    → between ≡ set old (place / 4096) gone → new ≡ set between (place / 4096) page
    → ((j : ℕ) → place % 4096 ≤ j → page_byte 0 page j ≡ 0)
    → place ≤ i → i / 4096 ≡ place / 4096 → byte_at (λ _. 0) new i ≡ 0
wiped-behind old between new gone page place i there first second behind from here =
    byte_of (λ _. 0) new i page (ap (page_at new) here ∙ page_here old new (place / 4096) page there (both_set old between new _ gone _ first second)) ∙ behind (i % 4096) (omega arith)
