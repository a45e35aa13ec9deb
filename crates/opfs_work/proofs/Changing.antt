-- Pages that are changed, and pages that a store has.
use Rattle.std.proofs.Common.{◌≡◌, ℕ, ◌+◌, ◌*◌, ◌/◌, ◌%◌, ◌≤◌, ◌<◌, true, false, min, max, List, [], ◌∷◌, map, take, length, set, refl, sym, ap, ◌∙◌, inl, inr, arith}
use Rattle.std.specs.List.{range_with_len}
use Rattle.std.proofs.lemmas.Bool.{cases_lt, cases_eq}
use Rattle.std.proofs.lemmas.List.{get_or_past, length-set, length-take}
use Rattle.opfs_base.specs.Blocks.{blocks}
use Rattle.opfs_work.specs.declared.pages.Page.{Page}
use Rattle.opfs_work.specs.declared.pages.Page.TheVariants.{Zero, Near, Clean, Far}
use Rattle.opfs_work.specs.Pages.{page_at, page_byte, byte_at, bytes_of, is_far, is_changed, is_held, as_changed, one_near, near_count, pages_in, CoversFar, IsSettled}
use Rattle.opfs_work.specs.Works.{WorkingCopy, IsWork, IsTouched, IsNearWrite, AreBetween}
use Rattle.opfs_work.proofs.Counts.{near_count-set, false_true}
use Rattle.opfs_work.proofs.Places.{byte_of, byte_in, byte_apart, page_here, page_there, stays}
use Rattle.opfs_work.proofs.Copying.{pages_in-some, not_true, true_false}
use Rattle.opfs_work.proofs.Holding.{added_same, cut_page, past_all}
use Rattle.opfs_work.proofs.OnePage.{changed-byte, changed-far, changed-one, changed-not_held, far-unchanged, settled-byte, settled-same}

-- ---- what a working copy keeps

-- a page in place of another: 0 where that was
pub work_put : (old new : List Page) (room length' reserve page : ℕ) (one : Page) → IsWork old room length' reserve → page < length old → new ≡ set old page one
    → ((j : ℕ) → page_byte 0 (page_at old page) j ≡ 0 → page_byte 0 one j ≡ 0) → IsWork new room length' reserve
work_put old new room length' reserve page one is there new_is zero = record {
  pages_are = ap length new_is ∙ length-set old page one ∙ is.pages_are;
  tail = λ i from.
      elim (cases_eq (i / 4096) page) [
        | inl here ↦
            byte_of (λ _. 0) new i one (ap (page_at new) here ∙ page_here old new page one there new_is)
            ∙ zero (i % 4096) (sym (byte_of (λ _. 0) old i (page_at old page) (ap (page_at old) here)) ∙ is.tail i from)
        | inr apart ↦ byte_apart (λ _. 0) old new i (page_there old new page (i / 4096) one apart new_is) ∙ is.tail i from
      ];
  reserved = is.reserved;
}

pub between_put : (old new : List Page) (from to page : ℕ) (one : Page) → AreBetween old from to → page < length old → new ≡ set old page one → (is_changed one ≡ true → (from ≤ page) × (page < to))
    → AreBetween new from to
between_put old new from to page one is there new_is marked =
    let at : (k : ℕ) → is_changed (page_at new k) ≡ true → (from ≤ k) × (k < to) = λ k changed.
    elim (cases_eq k page) [
      | inl here ↦
          let both = marked (sym (ap is_changed (ap (page_at new) here ∙ page_here old new page one there new_is)) ∙ changed) in
          (omega (arith, both.0), omega (arith, both.1))
      | inr apart ↦
          let was : is_changed (page_at old k) ≡ true = sym (ap is_changed (page_there old new page k one apart new_is)) ∙ changed in
          (is.from_is k was, is.to_is k was)
    ]
    in
    record { from_is = λ k changed. (at k changed).0; to_is = λ k changed. (at k changed).1 }

pub between_less : (old new : List Page) (from to : ℕ) → AreBetween old from to → ((k : ℕ) → is_changed (page_at new k) ≡ true → is_changed (page_at old k) ≡ true) → AreBetween new from to
between_less old new from to is less = record { from_is = λ k changed. is.from_is k (less k changed); to_is = λ k changed. is.to_is k (less k changed) }

pub between_none : (pages : List Page) (from to : ℕ) → ((k : ℕ) → is_changed (page_at pages k) ≡ false) → AreBetween pages from to
between_none pages from to none = record { from_is = λ k changed. absurd (true_false (sym changed ∙ none k)); to_is = λ k changed. absurd (true_false (sym changed ∙ none k)) }

past_unchanged : (pages : List Page) (k : ℕ) → length pages ≤ k → is_changed (page_at pages k) ≡ false
past_unchanged pages k past = ap is_changed (get_or_past pages k Zero past)

-- pages that were cut away are not changed
pub cut_less : (old cut : List Page) (count : ℕ) → cut ≡ take count old → (k : ℕ) → is_changed (page_at cut k) ≡ true → is_changed (page_at old k) ≡ true
cut_less old cut count is k changed =
    elim (cases_lt k count) [
      | inl below ↦ sym (ap is_changed (cut_page old cut count k is below)) ∙ changed
      | inr past ↦ absurd (true_false (sym changed ∙ past_unchanged cut k (omega (arith, ap length is, length-take count old))))
    ]

pub far_none : (pages : List Page) (from to : ℕ) → ((k : ℕ) → k < length pages → is_far (page_at pages k) ≡ true) → AreBetween pages from to
far_none pages from to far =
    between_none pages from to
    (λ k.
    elim (cases_lt k (length pages)) [
      | inl there ↦ far-unchanged (page_at pages k) (far k there)
      | inr past ↦ past_unchanged pages k past
    ])

-- ---- the page of the end is written

pub record IsAwake (old new : List Page) : Type 0 where
  pub bytes : (far : ℕ → ℕ) (i : ℕ) → byte_at far new i ≡ byte_at far old i
  pub alike : (k : ℕ) → (is_far (page_at new k) ≡ is_far (page_at old k)) × (one_near (page_at new k) ≡ one_near (page_at old k))
  pub near : near_count new ≡ near_count old

pub woken : (old new : List Page) (page : ℕ) → page < length old → new ≡ set old page (as_changed (page_at old page)) → IsAwake old new
woken old new page there new_is = record {
  bytes = λ far i. stays far old new page i (as_changed (page_at old page)) there new_is (λ here. changed-byte (far i) (page_at old page) (i % 4096));
  alike = λ k.
      elim (cases_eq k page) [
        | inl here ↦
            let now : page_at new k ≡ as_changed (page_at old page) = ap (page_at new) here ∙ page_here old new page (as_changed (page_at old page)) there new_is in
            let was : page_at old k ≡ page_at old page = ap (page_at old) here in
            (ap is_far now ∙ changed-far (page_at old page) ∙ sym (ap is_far was), ap one_near now ∙ changed-one (page_at old page) ∙ sym (ap one_near was))
        | inr apart ↦
            let same = page_there old new page k (as_changed (page_at old page)) apart new_is in
            (ap is_far same, ap one_near same)
      ];
  near = omega (arith, ap near_count new_is, near_count-set old page (as_changed (page_at old page)) there, changed-one (page_at old page));
}

map_same : (f g : ℕ → ℕ) → ((i : ℕ) → f i ≡ g i) → (xs : List ℕ) → map f xs ≡ map g xs
map_same f g same [] = refl
map_same f g same (x ∷ xs) = ap (λ (y : ℕ). y ∷ map f xs) (same x) ∙ ap (λ (ys : List ℕ). g x ∷ ys) (map_same f g same xs)

pub bytes_alike : (far : ℕ → ℕ) (old new : List Page) (length' : ℕ) → ((i : ℕ) → byte_at far new i ≡ byte_at far old i) → bytes_of far new length' ≡ bytes_of far old length'
unfolding bytes_of
bytes_alike far old new length' same = map_same (byte_at far new) (byte_at far old) same (range_with_len 0 length')

covers_alike : (old new : List Page) (from to : ℕ) → ((k : ℕ) → is_far (page_at new k) ≡ is_far (page_at old k)) → CoversFar old from to → CoversFar new from to
unfolding CoversFar
covers_alike old new from to same covers = λ k some touched reached far. covers k some touched reached (sym (same k) ∙ far)

pub near_alike : (old new : WorkingCopy) (at len : ℕ) → new.length ≡ old.length → new.reserve ≡ old.reserve → ((k : ℕ) → (is_far (page_at new.pages k) ≡ is_far (page_at old.pages k)) × (one_near (page_at new.pages k) ≡ one_near (page_at old.pages k)))
    → near_count new.pages ≡ near_count old.pages → IsNearWrite old at len → IsNearWrite new at len
near_alike old new at len lengths reserves alike near is = record {
  fits = rw (lengths, reserves) is.fits;
  whole = rw lengths (covers_alike old.pages new.pages (min old.length at) (at + len) (λ k. (alike k).0) is.whole);
  few = omega (arith, is.few, added_same old.pages new.pages at len (λ k. (alike k).1));
}

-- ---- what a write leaves of each page

pub record IsOver (old mid new : List Page) (size at len : ℕ) : Type 0 where
  pub early : (k : ℕ) → k < at / 4096 → page_at new k ≡ page_at mid k
  pub late : (k : ℕ) → at / 4096 + pages_in at len ≤ k → page_at new k ≡ page_at mid k
  pub changed : (k : ℕ) → at / 4096 ≤ k → k < at / 4096 + pages_in at len → is_changed (page_at new k) ≡ true
  pub others : (k : ℕ) → (size < at → 0 < size % 4096 → k ≡ size / 4096 → ⊥) → page_at mid k ≡ page_at old k
  pub awake : size < at → 0 < size % 4096 → is_held (page_at mid (size / 4096)) ≡ is_far (page_at old (size / 4096))

pub pages_in-none : (at len : ℕ) → len ≡ 0 → pages_in at len ≡ 0
pages_in-none at len is = ap (pages_in at) is

-- a page of the written run is one that the write touches
pub in_write : (size at len k : ℕ) → at / 4096 ≤ k → k < at / 4096 + pages_in at len → IsTouched size at len k
in_write size at len k from below =
    elim (cases_eq len 0) [
      | inl none ↦ absurd (omega (arith, pages_in-none at len none))
      | inr some ↦
          let count = pages_in-some at len some in
          record { some = omega arith; begins = omega arith; ends = omega (arith, count) }
    ]

pub untouched : (old mid new : List Page) (size at len k : ℕ) → IsOver old mid new size at len → (IsTouched size at len k → ⊥) → page_at new k ≡ page_at old k
untouched old mid new size at len k is apart =
    let same : page_at mid k ≡ page_at old k = is.others k (λ gap part here. apart (record { some = omega arith; begins = omega arith; ends = omega arith })) in
    elim (cases_lt k (at / 4096)) [
      | inl before ↦ is.early k before ∙ same
      | inr from ↦
          elim (cases_lt k (at / 4096 + pages_in at len)) [
            | inl inside ↦ absurd (apart (in_write size at len k from inside))
            | inr past ↦ is.late k past ∙ same
          ]
    ]

-- a page of the gap is not one that the store has
pub gap_open : (old mid : List Page) (size at len k : ℕ) → length old ≡ blocks size → CoversFar old (min size at) (at + len) → size < at → size < 4096 * k + 4096 → 4096 * k < at
    → ((k : ℕ) → (size < at → 0 < size % 4096 → k ≡ size / 4096 → ⊥) → page_at mid k ≡ page_at old k)
    → (size < at → 0 < size % 4096 → is_held (page_at mid (size / 4096)) ≡ is_far (page_at old (size / 4096))) → is_held (page_at mid k) ≡ false
unfolding CoversFar
gap_open old mid size at len k lengths covers gap begins ends others awake =
    elim (cases_lt k (length old)) [
      | inl there ↦
          let part : 0 < size % 4096 = omega arith in
          let here : k ≡ size / 4096 = omega arith in
          ap (λ (n : ℕ). is_held (page_at mid n)) here ∙ awake gap part
          ∙ not_true (is_far (page_at old (size / 4096)))
          (λ far.
          let whole = covers (size / 4096) (omega arith) (omega arith) (omega arith) far in
          omega (arith, whole.0))
      | inr past ↦ ap is_held (others k (λ gap part here. omega arith) ∙ get_or_past old k Zero past)
    ]

pub touched : (old mid new : List Page) (size at len k : ℕ) → IsOver old mid new size at len → length old ≡ blocks size → CoversFar old (min size at) (at + len) → IsTouched size at len k → is_held (page_at new k) ≡ false
touched old mid new size at len k is lengths covers in_it =
    let gap : size < at → size < 4096 * k + 4096 → 4096 * k < at → is_held (page_at mid k) ≡ false = λ past begins ends.
    gap_open old mid size at len k lengths covers past begins ends is.others is.awake
    in
    elim (cases_lt k (at / 4096)) [
      | inl before ↦ ap is_held (is.early k before) ∙ gap (omega (arith, in_it.begins)) (omega (arith, in_it.begins)) (omega arith)
      | inr from ↦
          elim (cases_lt k (at / 4096 + pages_in at len)) [
            | inl inside ↦ changed-not_held (page_at new k) (is.changed k from inside)
            | inr past ↦
                elim (cases_eq len 0) [
                  | inl none ↦
                      ap is_held (is.late k past) ∙ gap (omega (arith, in_it.some)) (omega (arith, in_it.begins, in_it.some)) (omega (arith, in_it.ends))
                  | inr some ↦ absurd (omega (arith, pages_in-some at len some, in_it.ends))
                ]
          ]
    ]

-- what a store has after a write it had before
pub still_stored : (old mid new : List Page) (size at len k from to from' to' : ℕ) → IsOver old mid new size at len → length old ≡ blocks size → CoversFar old (min size at) (at + len)
    → (from ≤ k → k < to → (from' ≤ k) × (k < to')) → (IsTouched size at len k → (from' ≤ k) × (k < to')) → (from' ≤ k → k < to' → is_held (page_at new k) ≡ true)
    → (from ≤ k → k < to → is_held (page_at old k) ≡ true) × (IsTouched size at len k → ⊥)
still_stored old mid new size at len k from to from' to' is lengths covers kept marked stored =
    let apart : IsTouched size at len k → ⊥ = λ in_it.
    let both = marked in_it in
    false_true (sym (touched old mid new size at len k is lengths covers in_it) ∙ stored both.0 both.1)
    in (
      λ above below.
          let both = kept above below in
          sym (ap is_held (untouched old mid new size at len k is apart)) ∙ stored both.0 both.1,
      apart,
    )

-- ---- when a store has all

-- every page is settled where those between the bounds are
pub settled_all : (old new : List Page) (from to k : ℕ) → AreBetween old from to
    → ((k : ℕ) → from ≤ k → k < min to (length old) → IsSettled (page_at old k) (page_at new k))
    → ((k : ℕ) → (from ≤ k → k < min to (length old) → ⊥) → page_at new k ≡ page_at old k) → IsSettled (page_at old k) (page_at new k)
settled_all old new from to k is inside others =
    elim (cases_lt k from) [
      | inl before ↦ settled-same (page_at old k) (page_at new k) (not_true (is_changed (page_at old k)) (λ changed. omega (arith, is.from_is k changed))) (others k (λ above below. omega arith))
      | inr above ↦
          elim (cases_lt k (min to (length old))) [
            | inl below ↦ inside k above below
            | inr past ↦
                settled-same (page_at old k) (page_at new k)
                (elim (cases_lt k (length old)) [
                  | inl there ↦ not_true (is_changed (page_at old k)) (λ changed. omega (arith, is.to_is k changed))
                  | inr gone ↦ past_unchanged old k gone
                ]) (others k (λ above below. omega arith))
          ]
    ]

pub work_settled : (old new : List Page) (room room' length' reserve : ℕ) → IsWork old room length' reserve → room' ≡ room → length new ≡ length old
    → ((k : ℕ) → (j : ℕ) → page_byte 0 (page_at old k) j ≡ 0 → page_byte 0 (page_at new k) j ≡ 0) → IsWork new room' length' reserve
work_settled old new room room' length' reserve is room_is lengths zero = record {
  pages_are = lengths ∙ is.pages_are;
  tail = λ i from. byte_in (λ _. 0) new i ∙ zero (i / 4096) (i % 4096) (sym (byte_in (λ _. 0) old i) ∙ is.tail i from);
  reserved = omega (arith, is.reserved);
}

pub settled_zero : (old new : List Page) → ((k : ℕ) → IsSettled (page_at old k) (page_at new k)) → (k j : ℕ) → page_byte 0 (page_at old k) j ≡ 0 → page_byte 0 (page_at new k) j ≡ 0
settled_zero old new all k j zero = settled-byte (page_at old k) (page_at new k) j (all k) zero

far-byte : (page : Page) (j : ℕ) → is_far page ≡ true → page_byte 0 page j ≡ 0
far-byte Zero j is = absurd cc
far-byte (Near bytes) j is = absurd cc
far-byte (Clean bytes) j is = absurd cc
far-byte Far j is = refl

-- pages of a run went far
pub forgot_zero : (old new : List Page) (from to : ℕ) → ((k : ℕ) → from ≤ k → k < to → is_far (page_at new k) ≡ true) → ((k : ℕ) → (from ≤ k → k < to → ⊥) → page_at new k ≡ page_at old k)
    → (k j : ℕ) → page_byte 0 (page_at old k) j ≡ 0 → page_byte 0 (page_at new k) j ≡ 0
forgot_zero old new from to far others k j zero =
    elim (cases_lt k from) [
      | inl before ↦ ap (λ (p : Page). page_byte 0 p j) (others k (λ above below. omega arith)) ∙ zero
      | inr above ↦
          elim (cases_lt k to) [
            | inl below ↦ far-byte (page_at new k) j (far k above below)
            | inr past ↦ ap (λ (p : Page). page_byte 0 p j) (others k (λ above below. omega arith)) ∙ zero
          ]
    ]

pub forgot_less : (old new : List Page) (from to : ℕ) → ((k : ℕ) → from ≤ k → k < to → is_far (page_at new k) ≡ true) → ((k : ℕ) → (from ≤ k → k < to → ⊥) → page_at new k ≡ page_at old k)
    → (k : ℕ) → is_changed (page_at new k) ≡ true → is_changed (page_at old k) ≡ true
forgot_less old new from to far others k changed =
    elim (cases_lt k from) [
      | inl before ↦ sym (ap is_changed (others k (λ above below. omega arith))) ∙ changed
      | inr above ↦
          elim (cases_lt k to) [
            | inl below ↦ absurd (true_false (sym changed ∙ far-unchanged (page_at new k) (far k above below)))
            | inr past ↦ sym (ap is_changed (others k (λ above below. omega arith))) ∙ changed
          ]
    ]

-- ---- pages that come as elsewhere

pub work_filled : (old new : List Page) (room room' length' size reserve : ℕ) → IsWork old room length' reserve → length' ≤ size → room' ≡ room → length new ≡ blocks size
    → ((k : ℕ) → length old ≤ k → k < blocks size → is_far (page_at new k) ≡ true) → ((k : ℕ) → k < length old → page_at new k ≡ page_at old k) → IsWork new room' size reserve
work_filled old new room room' length' size reserve is more room_is pages far same = record {
  pages_are = pages;
  tail = λ i from.
      elim (cases_lt (i / 4096) (length old)) [
        | inl there ↦ byte_apart (λ _. 0) old new i (same (i / 4096) there) ∙ is.tail i (omega arith)
        | inr past ↦
            elim (cases_lt (i / 4096) (blocks size)) [
              | inl inside ↦ byte_in (λ _. 0) new i ∙ far-byte (page_at new (i / 4096)) (i % 4096) (far (i / 4096) past inside)
              | inr out ↦ past_all new i (omega arith)
            ]
      ];
  reserved = omega (arith, is.reserved);
}

pub filled_less : (old new : List Page) (count : ℕ) → length new ≡ max (length old) count → ((k : ℕ) → length old ≤ k → k < count → is_far (page_at new k) ≡ true)
    → ((k : ℕ) → k < length old → page_at new k ≡ page_at old k) → (k : ℕ) → is_changed (page_at new k) ≡ true → is_changed (page_at old k) ≡ true
filled_less old new count lengths far same k changed =
    elim (cases_lt k (length old)) [
      | inl there ↦ sym (ap is_changed (same k there)) ∙ changed
      | inr past ↦
          elim (cases_lt k count) [
            | inl inside ↦ absurd (true_false (sym changed ∙ far-unchanged (page_at new k) (far k past inside)))
            | inr out ↦ absurd (true_false (sym changed ∙ past_unchanged new k (omega arith)))
          ]
    ]
