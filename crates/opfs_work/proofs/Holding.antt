-- What a working copy keeps, and what its calls say of its bytes.
use Rattle.std.proofs.Common.{◌≡◌, ◌==◌, ℕ, zero, suc, cond, ◌+◌, ◌-◌, ◌/◌, ◌%◌, ◌^◌, ◌≤◌, ◌<◌, true, false, min, max, List, [], ◌∷◌, map, take, length, set, slice_index, Option, Some, None, IfSome, sum_by, refl, sym, ap, ◌∙◌, inl, inr, arith}
use Rattle.std.specs.List.{range_with_len}
use Rattle.std.proofs.lemmas.Bool.{cases_lt, cases_eq}
use Rattle.std.proofs.lemmas.List.{get_or_past, get_or-set_same, get_or-set_other, length-set, length-take, get_or-take}
use Rattle.std.proofs.lemmas.List.FromFn.{length-map-range_with_len}
use Rattle.opfs_base.specs.Blocks.{blocks}
use Rattle.opfs_splice.specs.Splicing.{splice, resize, window}
use Rattle.opfs_work.specs.declared.pages.Page.{Page}
use Rattle.opfs_work.specs.declared.pages.Page.TheVariants.{Zero, Near, Clean, Far}
use Rattle.opfs_work.specs.Pages.{Table, page_at, byte_at, bytes_of, bytes_near, is_near, is_far, near_count, one_near, absent, added, pages_in, CoversFar, IsNearBetween}
use Rattle.opfs_work.specs.Works.{WorkingCopy, IsWork, IsNearWrite}
use Rattle.opfs_work.proofs.Places.{byte_of, byte_apart, near_bytes}
use Rattle.opfs_work.proofs.Counts.{far_there, near_count-none}
use Rattle.opfs_work.proofs.Copying.{absent-none, absent-cons, not_true}
use Rattle.opfs_work.proofs.Reading.{zero_byte, near_byte, near_byte_between}
use Rattle.opfs_work.proofs.Laws.{told_splice, told_resize, told_window, splice_nothing}
use Rattle.std.proofs.lemmas.List.Sums.{sum_by-cons}

-- ---- making

pub past_all : (pages : List Page) (i : ℕ) → length pages ≤ i / 4096 → byte_at (λ _. 0) pages i ≡ 0
past_all pages i past = zero_byte pages i (ap is_near (get_or_past pages (i / 4096) Zero past))

pub work_fresh : (table : Table) → table ≡ record { pages = []; room = 0 } → IsWork table.pages table.room 0 0
work_fresh table is = rw is (record { pages_are = refl; tail = λ i from. past_all [] i (omega arith); reserved = omega arith })

far_away : (page : Page) → is_far page ≡ true → is_near page ≡ false
far_away Zero far = refl
far_away (Near bytes) far = absurd cc
far_away (Clean bytes) far = absurd cc
far_away Far far = refl

pub work_far : (pages : List Page) (room length' reserve : ℕ) → length pages ≡ blocks length' → reserve ≤ room → ((k : ℕ) → k < blocks length' → is_far (page_at pages k) ≡ true) → IsWork pages room length' reserve
work_far pages room length' reserve pages_are reserved far = record {
  pages_are = pages_are;
  tail = λ i from.
      elim (cases_lt (i / 4096) (blocks length')) [
        | inl there ↦ zero_byte pages i (far_away (page_at pages (i / 4096)) (far (i / 4096) there))
        | inr past ↦ past_all pages i (omega arith)
      ];
  reserved = reserved;
}

-- ---- a page that comes

pub work_brought : (old new : List Page) (room length' reserve page : ℕ) (bytes : List ℕ) → IsWork old room length' reserve → is_far (page_at old page) ≡ true → new ≡ set old page (Clean bytes)
    → ((i : ℕ) → length' ≤ i → i / 4096 ≡ page → slice_index bytes (i % 4096) ≡ 0) → IsWork new room length' reserve
work_brought old new room length' reserve page bytes is far new_is tail =
    let there = far_there old page far in
    record {
      pages_are = ap length new_is ∙ length-set old page (Clean bytes) ∙ is.pages_are;
      tail = λ i from.
          elim (cases_eq (i / 4096) page) [
            | inl here ↦
                byte_of (λ _. 0) new i (Clean bytes) (ap (page_at new) here ∙ ap (λ (ps : List Page). page_at ps page) new_is ∙ get_or-set_same old page (Clean bytes) Zero there) ∙ tail i from here
            | inr apart ↦
                byte_apart (λ _. 0) old new i (ap (λ (ps : List Page). page_at ps (i / 4096)) new_is ∙ get_or-set_other old page (i / 4096) (Clean bytes) Zero apart) ∙ is.tail i from
          ];
      reserved = is.reserved;
    }

-- a Near page is 0 behind the last byte
pub near_tail : (pages : List Page) (room length' reserve page i : ℕ) (bytes : List ℕ) → IsWork pages room length' reserve → bytes_near (page_at pages page) ≡ Some bytes → length' ≤ i → i / 4096 ≡ page
    → slice_index bytes (i % 4096) ≡ 0
near_tail pages room length' reserve page i bytes is near from here = sym (near_bytes (λ _. 0) pages i bytes (ap (λ (k : ℕ). bytes_near (page_at pages k)) here ∙ near)) ∙ is.tail i from

-- ---- reading

pub read_law : (far : ℕ → ℕ) (pages : List Page) (length' at len from count : ℕ) (bytes : List ℕ) → IsNearBetween pages at (min length' (at + len)) → from ≡ min at length' → count ≡ min len (length' - from)
    → bytes ≡ map (byte_at (λ _. 0) pages) (range_with_len from count) → bytes ≡ window (bytes_of far pages length') at len
unfolding bytes_of
read_law far pages length' at len from count bytes near from_is count_is is =
    is
    ∙ told_window (byte_at far pages) (byte_at (λ _. 0) pages) length' at len from count from_is count_is
    (λ i first last. sym (near_byte_between far pages at (min length' (at + len)) i near (omega arith) (omega arith)))

pub read_length : (pages : List Page) (from count : ℕ) (bytes : List ℕ) → bytes ≡ map (byte_at (λ _. 0) pages) (range_with_len from count) → length bytes ≡ count
read_length pages from count bytes is = ap length is ∙ length-map-range_with_len (byte_at (λ _. 0) pages) from count

-- so many pages as are in a table take fewer than 2 ^ 64 bytes
pub length_small : (length' pages room : ℕ) → pages ≡ blocks length' → pages ≤ room → room < 2 ^ 52 → length' + 4096 ≤ 2 ^ 64
length_small length' pages room are within small = omega arith

-- ---- growing

pub work_stretched : (old new : List Page) (room room' length' size reserve : ℕ) → IsWork old room length' reserve → length' ≤ size → room' ≡ room → length new ≡ max (length old) (blocks size)
    → ((k : ℕ) → page_at new k ≡ page_at old k) → IsWork new room' size reserve
work_stretched old new room room' length' size reserve is more room_is pages same = record {
  pages_are = omega (arith, is.pages_are);
  tail = λ i from. byte_apart (λ _. 0) old new i (same (i / 4096)) ∙ is.tail i (omega arith);
  reserved = omega (arith, is.reserved);
}

pub near_tail_some : {X : Type 0} (now : X → List ℕ) (found : Option X) (pages : List Page) (room length' reserve page : ℕ) → IsWork pages room length' reserve → IfSome found (λ x. bytes_near (page_at pages page) ≡ Some (now x))
    → IfSome found (λ x. (i : ℕ) → length' ≤ i → i / 4096 ≡ page → slice_index (now x) (i % 4096) ≡ 0)
near_tail_some now None pages room length' reserve page is near = tt
near_tail_some now (Some x) pages room length' reserve page is near = λ i from here. near_tail pages room length' reserve page i (now x) is near from here

-- ---- writing

false_true : false ≡ true → ⊥
false_true e = cc

-- a page that is filled behind the last byte is not Far
pub gap_near : (pages : List Page) (length' end i : ℕ) → length pages ≡ blocks length' → CoversFar pages length' end → length' ≤ i → i < end → is_far (page_at pages (i / 4096)) ≡ false
unfolding CoversFar
gap_near pages length' end i pages_are covers from below =
    not_true (is_far (page_at pages (i / 4096)))
    (λ far.
    let there = far_there pages (i / 4096) far in
    let whole = covers (i / 4096) (omega arith) (omega arith) (omega arith) far in
    omega (arith, whole.0))

gap_zero : (far : ℕ → ℕ) (pages : List Page) (room length' reserve end i : ℕ) → IsWork pages room length' reserve → CoversFar pages length' end → length' ≤ i → i < end → byte_at far pages i ≡ 0
gap_zero far pages room length' reserve end i is covers from below = near_byte far pages i (gap_near pages length' end i is.pages_are covers from below) ∙ is.tail i from

min_left : (a b : ℕ) → a ≤ b → min a b ≡ a
min_left a b le = omega arith

pub write_law : (far : ℕ → ℕ) (old between new : List Page) (room length' reserve size at : ℕ) (bytes : List ℕ) → IsWork old room length' reserve → size ≡ max length' (at + length bytes)
    → CoversFar old (min length' at) (at + length bytes) → ((k : ℕ) → page_at between k ≡ page_at old k)
    → ((i : ℕ) → at ≤ i → i < at + length bytes → byte_at far new i ≡ slice_index bytes (i - at))
    → ((i : ℕ) → i < at → byte_at far new i ≡ byte_at far between i)
    → ((i : ℕ) → at + length bytes ≤ i → byte_at far new i ≡ byte_at far between i)
    → bytes_of far new size ≡ splice (bytes_of far old length') at bytes
unfolding bytes_of
write_law far old between new room length' reserve size at bytes is size_is covers same inside before behind =
    told_splice (byte_at far old) (byte_at far new) length' size at bytes size_is inside
    (λ i below there. before i below ∙ byte_apart far old between i (same (i / 4096)))
    (λ i below past.
    let first : min length' at ≡ length' = min_left length' at (omega arith) in
    before i below ∙ byte_apart far old between i (same (i / 4096))
    ∙ gap_zero far old room length' reserve (at + length bytes) i is (rw first at covers) past (omega arith))
    (λ i past there. behind i past ∙ byte_apart far old between i (same (i / 4096)))

-- the pages that a write changes in part are not Far, where zeros were added before it
pub covers_copy : (old between : List Page) (room length' reserve at end : ℕ) → IsWork old room length' reserve → CoversFar old (min length' at) end → ((k : ℕ) → page_at between k ≡ page_at old k) → CoversFar between at end
unfolding CoversFar
covers_copy old between room length' reserve at end is covers same = λ k some touched reached far.
    let was : is_far (page_at old k) ≡ true = ap is_far (sym (same k)) ∙ far in
    let there = far_there old k was in
    let whole = covers k (omega arith) (omega arith) reached was in
    (omega (arith, whole.0, is.pages_are), whole.1)

sum_same : (f g : ℕ → ℕ) → ((k : ℕ) → f k ≡ g k) → (ks : List ℕ) → sum_by f ks ≡ sum_by g ks
sum_same f g same [] = refl
sum_same f g same (k ∷ ks) = omega (arith, sum_by-cons f k ks, sum_by-cons g k ks, same k, sum_same f g same ks)

absent_same : (old new : List Page) (first count : ℕ) → ((k : ℕ) → one_near (page_at new k) ≡ one_near (page_at old k)) → absent new first count ≡ absent old first count
unfolding absent
absent_same old new first count same = sum_same (λ k. 1 - one_near (page_at new k)) (λ k. 1 - one_near (page_at old k)) (λ k. ap (λ (n : ℕ). 1 - n) (same k)) (range_with_len first count)

pub added_same : (old new : List Page) (at len : ℕ) → ((k : ℕ) → one_near (page_at new k) ≡ one_near (page_at old k)) → added new at len ≡ added old at len
added_same old new at len same = absent_same old new (at / 4096) (pages_in at len) same

pub work_copied : (old new : List Page) (room room' length' reserve end : ℕ) → IsWork old room length' reserve → room' ≡ room → length new ≡ length old → end ≤ length'
    → ((far : ℕ → ℕ) (i : ℕ) → end ≤ i → byte_at far new i ≡ byte_at far old i) → IsWork new room' length' reserve
work_copied old new room room' length' reserve end is room_is lengths within behind = record {
  pages_are = lengths ∙ is.pages_are;
  tail = λ i from. behind (λ _. 0) i (omega arith) ∙ is.tail i from;
  reserved = omega (arith, is.reserved);
}

-- ---- a new size

pub size_law : (far : ℕ → ℕ) (old new : List Page) (room length' reserve size : ℕ) → IsWork old room length' reserve → CoversFar old length' size → ((i : ℕ) → byte_at far new i ≡ byte_at far old i)
    → bytes_of far new size ≡ resize (bytes_of far old length') size
unfolding bytes_of
size_law far old new room length' reserve size is covers same =
    told_resize (byte_at far old) (byte_at far new) length' size (λ i below there. same i)
    (λ i below past. same i ∙ gap_zero far old room length' reserve size i is covers past below)

pub cut_law : (far : ℕ → ℕ) (old new : List Page) (length' size : ℕ) → size ≤ length' → ((i : ℕ) → i < size → byte_at far new i ≡ byte_at far old i)
    → bytes_of far new size ≡ resize (bytes_of far old length') size
unfolding bytes_of
cut_law far old new length' size less same =
    told_resize (byte_at far old) (byte_at far new) length' size (λ i below there. same i below) (λ i below past. absurd (omega arith))

-- pages below a number stay where the others go
pub taken_page : (pages : List Page) (count k : ℕ) → k < count → page_at (take count pages) k ≡ page_at pages k
taken_page pages count k below = get_or-take count pages k Zero below

pub work_cut : (old cut new : List Page) (room room' length' size reserve : ℕ) → IsWork old room length' reserve → size ≤ length' → room' ≡ room → cut ≡ take (blocks size) old → length new ≡ length cut
    → ((i : ℕ) → size ≤ i → i / 4096 ≡ size / 4096 → 0 < size % 4096 → byte_at (λ _. 0) new i ≡ 0) → IsWork new room' size reserve
work_cut old cut new room room' length' size reserve is less room_is cut_is lengths wiped =
    let count : length new ≡ blocks size = omega (arith, ap length cut_is, length-take (blocks size) old, is.pages_are, lengths) in
    record {
      pages_are = count;
      tail = λ i from.
          elim (cases_lt (i / 4096) (blocks size)) [
            | inl there ↦ wiped i from (omega arith) (omega arith)
            | inr past ↦ past_all new i (omega arith)
          ];
      reserved = omega (arith, is.reserved);
    }

-- ---- bytes that are all there is

pub whole_splice : (bytes : List ℕ) → splice [] 0 bytes ≡ bytes
whole_splice bytes = splice_nothing bytes

pub cut_page : (old cut : List Page) (count k : ℕ) → cut ≡ take count old → k < count → page_at cut k ≡ page_at old k
cut_page old cut count k is below = ap (λ (ps : List Page). page_at ps k) is ∙ taken_page old count k below

-- ---- a working copy that is made of bytes

absent-le : (pages : List Page) (first count : ℕ) → absent pages first count ≤ count
absent-le pages first zero = omega (arith, absent-none pages first)
absent-le pages first (suc n) = omega (arith, absent-cons pages first n, absent-le pages (first + 1) n)

pages_in-le : (at len : ℕ) → pages_in at len ≤ blocks (at + len)
pages_in-le at len = elim (len == 0) as (λ t. cond t 0 (blocks (at + len) - at / 4096) ≤ blocks (at + len)) [ true ↦ omega arith | false ↦ omega arith ]

covers_nothing : (pages : List Page) (from to : ℕ) → pages ≡ [] → CoversFar pages from to
unfolding CoversFar
covers_nothing pages from to none = λ k some touched reached far. absurd (omega (arith, far_there pages k far, ap length none))

pub make_near : (work : WorkingCopy) (at len : ℕ) → work.pages ≡ [] → work.length ≡ 0 → at ≡ 0 → blocks len ≤ work.reserve → blocks len ≤ 256 → IsNearWrite work at len
make_near work at len none empty first reserved few = record {
  fits = omega arith;
  whole = covers_nothing work.pages (min work.length at) (at + len) none;
  few = omega (arith, ap near_count none, near_count-none, absent-le work.pages (at / 4096) (pages_in at len), pages_in-le at len);
}

pub nothing_there : (far : ℕ → ℕ) (pages : List Page) (length' : ℕ) → length' ≡ 0 → bytes_of far pages length' ≡ []
unfolding bytes_of
nothing_there far pages length' empty = ap (λ (n : ℕ). map (byte_at far pages) (range_with_len 0 n)) empty
