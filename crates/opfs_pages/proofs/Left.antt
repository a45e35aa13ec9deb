-- The working copy that is left when the store has a row's pages.
use Rattle.std.proofs.Common.{◌≡◌, ◌⊎◌, ℕ, ◌+◌, ◌*◌, ◌/◌, ◌%◌, ◌<◌, ◌≤◌, min, max, true, false, List, map, length, slice_index, refl, sym, ap, ◌∙◌, inl, inr, arith}
use Rattle.std.specs.List.{range_with_len}
use Rattle.std.proofs.lemmas.Bool.{cases_lt}
use Rattle.std.proofs.lemmas.Grind.{same_number_lists}
use Rattle.std.proofs.lemmas.List.FromFn.{length-map-range_with_len, get_or-map-range_with_len}
use Rattle.opfs_base.specs.Blocks.{blocks}
use Rattle.opfs_splice.specs.Splicing.{splice, resize}
use Rattle.opfs_work.specs.declared.pages.Page.{Page}
use Rattle.opfs_work.specs.declared.pages.Page.TheVariants.{Zero, Near, Clean, Far}
use Rattle.opfs_work.specs.Pages.{page_at, page_byte, byte_at, bytes_of, is_far, is_changed, IsSettled}
use Rattle.opfs_work.specs.Works.{WorkingCopy}
use Rattle.opfs_work.proofs.Places.{byte_in}
use Rattle.opfs_work.proofs.OnePage.{kept-byte}
use Rattle.opfs_work.proofs.Laws.{splice_before, splice_behind, length-splice, length-resize, resize_at}
use Rattle.opfs_pages.specs.Copies.{IsCopy}
use Rattle.opfs_pages.proofs.PageBytes.{copied_at, copied_length}

-- what is known of a byte of the new copy: a store has it, or it is the byte of the old copy
pub IsLeft : List ℕ → List ℕ → WorkingCopy → WorkingCopy → ℕ → Type 0
IsLeft old new was now i = ((far : ℕ → ℕ) → byte_at far now.pages i ≡ far i) ⊎ ((i < was.length) × (slice_index new i ≡ slice_index old i) × ((far : ℕ → ℕ) → byte_at far now.pages i ≡ byte_at far was.pages i))

pub left_byte : (old new : List ℕ) (was now : WorkingCopy) (i : ℕ) → IsCopy old was → IsLeft old new was now i → byte_at (slice_index new) now.pages i ≡ slice_index new i
unfolding IsLeft
left_byte old new was now i is left = elim left [
  | inl far ↦ far (slice_index new)
  | inr both ↦
      both.2 (slice_index new) ∙ byte_in (slice_index new) was.pages i
      ∙ ap (λ (n : ℕ). page_byte n (page_at was.pages (i / 4096)) (i % 4096)) both.1
      ∙ sym (byte_in (slice_index old) was.pages i) ∙ sym (copied_at old was i is both.0) ∙ sym both.1
]

pub left_copy : (old new : List ℕ) (was now : WorkingCopy) → IsCopy old was → length new ≡ now.length → ((i : ℕ) → i < now.length → IsLeft old new was now i) → IsCopy new now
unfolding bytes_of
left_copy old new was now is size left = record {
  same = same_number_lists (map (byte_at (slice_index new) now.pages) (range_with_len 0 now.length)) new (length-map-range_with_len (byte_at (slice_index new) now.pages) 0 now.length ∙ sym size)
      (λ i within.
      let below : i < now.length = omega (arith, length-map-range_with_len (byte_at (slice_index new) now.pages) 0 now.length) in
      get_or-map-range_with_len (byte_at (slice_index new) now.pages) 0 now.length i i 0 below (omega arith) ∙ left_byte old new was now i is (left i below));
}

far_byte : (far place : ℕ) (page : Page) → is_far page ≡ true → page_byte far page place ≡ far
far_byte far place Zero is = absurd cc
far_byte far place (Near bytes) is = absurd cc
far_byte far place (Clean bytes) is = absurd cc
far_byte far place Far is = refl

settled_byte : (old new : Page) → IsSettled old new → (is_far new ≡ true) ⊎ ((far place : ℕ) → page_byte far new place ≡ page_byte far old place)
settled_byte old new is =
    elim (is_changed old) as (λ t. is_changed old ≡ t → (is_far new ≡ true) ⊎ ((far place : ℕ) → page_byte far new place ≡ page_byte far old place)) [
      | true ↦ λ changed. elim (is.kept changed) [
        | inl kept ↦ inr (λ far place. ap (λ (p : Page). page_byte far p place) kept ∙ kept-byte far old place)
        | inr away ↦ inl (ap is_far away)
      ]
      | false ↦ λ same. inr (λ far place. ap (λ (p : Page). page_byte far p place) (is.same same))
    ] refl

-- what the calls leave of a copy: pages that were touched went far, then all were settled, then it has another length
pub record IsDone (old mid kept new : WorkingCopy) (from to size : ℕ) : Type 0 where
  pub pages : length old.pages ≡ blocks old.length
  pub forgot : (k : ℕ) → from < to → from < 4096 * k + 4096 → 4096 * k < to → k < length old.pages → is_far (page_at mid.pages k) ≡ true
  pub others : (k : ℕ) → (is_far (page_at mid.pages k) ≡ true) ⊎ (page_at mid.pages k ≡ page_at old.pages k)
  pub settled : (k : ℕ) → IsSettled (page_at mid.pages k) (page_at kept.pages k)
  pub lengths : length kept.pages ≡ length old.pages
  pub bytes : (far : ℕ → ℕ) (i : ℕ) → i < 4096 * length kept.pages → i < size → byte_at far new.pages i ≡ byte_at far kept.pages i
  pub far : (k : ℕ) → length kept.pages ≤ k → k < blocks size → is_far (page_at new.pages k) ≡ true
  pub size_is : new.length ≡ size

far_settled : (old new : Page) → IsSettled old new → is_far old ≡ true → is_far new ≡ true
far_settled Zero new is far = absurd cc
far_settled (Near bytes) new is far = absurd cc
far_settled (Clean bytes) new is far = absurd cc
far_settled Far new is far = ap is_far (is.same refl)

done_left : (old' new' : List ℕ) (old mid kept new : WorkingCopy) (from to size i : ℕ) → IsDone old mid kept new from to size → i < size
    → ((from < to → from < 4096 * (i / 4096) + 4096 → 4096 * (i / 4096) < to → ⊥) → i < 4096 * length old.pages → (i < old.length) × (slice_index new' i ≡ slice_index old' i))
    → IsLeft old' new' old new i
unfolding IsLeft
done_left old' new' old mid kept new from to size i d below same =
    let k : ℕ = i / 4096 in
    elim (cases_lt k (length kept.pages)) [
      | inr past ↦ inl (λ far. byte_in far new.pages i ∙ far_byte (far i) (i % 4096) (page_at new.pages k) (d.far k past (omega arith)))
      | inl there ↦
          let inside : i < 4096 * length kept.pages = omega arith in
          let away : is_far (page_at kept.pages k) ≡ true → (far : ℕ → ℕ) → byte_at far new.pages i ≡ far i = λ is far.
          d.bytes far i inside below ∙ byte_in far kept.pages i ∙ far_byte (far i) (i % 4096) (page_at kept.pages k) is
          in
          elim (d.others k) [
            | inl far ↦ inl (away (far_settled (page_at mid.pages k) (page_at kept.pages k) (d.settled k) far))
            | inr stays ↦
                elim (settled_byte (page_at mid.pages k) (page_at kept.pages k) (d.settled k)) [
                  | inl far ↦ inl (away far)
                  | inr alike ↦
                      elim (touch_or_not from to k) [
                        | inl touched ↦ inl (away (far_settled (page_at mid.pages k) (page_at kept.pages k) (d.settled k) (d.forgot k touched.0 touched.1 touched.2 (omega (arith, d.lengths)))))
                        | inr apart ↦
                            let both = same apart (omega (arith, d.lengths)) in
                            inr (
                              both.0,
                              both.1,
                              λ far.
                                  d.bytes far i inside below ∙ byte_in far kept.pages i ∙ alike (far i) (i % 4096)
                                  ∙ ap (λ (p : Page). page_byte (far i) p (i % 4096)) stays ∙ sym (byte_in far old.pages i),
                            )
                      ]
                ]
          ]
    ]
  where
    touch_or_not : (a b n : ℕ) → ((a < b) × (a < 4096 * n + 4096) × (4096 * n < b)) ⊎ (a < b → a < 4096 * n + 4096 → 4096 * n < b → ⊥)
    touch_or_not a b n = elim (cases_lt a b) [
      | inr ge ↦ inr (λ x y z. omega arith)
      | inl some ↦ elim (cases_lt a (4096 * n + 4096)) [
        | inr ge ↦ inr (λ x y z. omega arith)
        | inl begins ↦ elim (cases_lt (4096 * n) b) [ inl ends ↦ inl (some, begins, ends) | inr ge ↦ inr (λ x y z. omega arith) ]
      ]
    ]

pub left_written : (bytes given : List ℕ) (old mid kept new : WorkingCopy) (at len from to size : ℕ) → length given ≡ len → from ≡ min old.length at → to ≡ at + len → size ≡ max old.length to
    → IsDone old mid kept new from to size → IsCopy bytes old → IsCopy (splice bytes at given) new
left_written bytes given old mid kept new at len from to size len_is from_is to_is size_is d is =
    let whole = copied_length bytes old is in
    left_copy bytes (splice bytes at given) old new is (omega (arith, length-splice bytes at given, whole, d.size_is))
    (λ i below.
    done_left bytes (splice bytes at given) old mid kept new from to size i d (omega (arith, d.size_is))
    (λ apart there.
    let inside : i < old.length = elim (cases_lt i old.length) [ inl lt ↦ lt | inr ge ↦ absurd (apart (omega (arith, d.size_is)) (omega (arith, d.size_is)) (omega (arith, d.size_is))) ] in (
      inside,
      elim (cases_lt i at) [
        | inl before ↦ splice_before bytes at given i before
        | inr past ↦ elim (cases_lt i to) [ inl in_it ↦ absurd (apart (omega arith) (omega arith) (omega arith)) | inr behind ↦ splice_behind bytes at given i (omega arith) ]
      ],
    )))

pub left_resized : (bytes : List ℕ) (old mid kept new : WorkingCopy) (from size : ℕ) → from ≡ old.length → IsDone old mid kept new from size size → IsCopy bytes old → IsCopy (resize bytes size) new
left_resized bytes old mid kept new from size from_is d is =
    left_copy bytes (resize bytes size) old new is (length-resize bytes size ∙ sym d.size_is)
    (λ i below.
    let small : i < size = omega (arith, d.size_is) in
    done_left bytes (resize bytes size) old mid kept new from size size i d small
    (λ apart there.
    let inside : i < old.length = elim (cases_lt i old.length) [ inl lt ↦ lt | inr ge ↦ absurd (apart (omega arith) (omega arith) (omega arith)) ] in
    (inside, resize_at bytes size i small)))
