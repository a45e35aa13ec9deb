-- What the store has of the pages that a call does not write.
use Rattle.std.proofs.Common.{◌≡◌, ◌⊎◌, ℕ, ◌+◌, ◌-◌, ◌*◌, ◌<◌, ◌≤◌, ◌++◌, max, List, [], ◌∷◌, length, take, replicate, slice_index, get_or, refl, sym, ap, subst, ◌∙◌, inl, inr, arith}
use Rattle.std.proofs.lemmas.Bool.{cases_lt}
use Rattle.std.proofs.lemmas.List.{length-replicate, append-nil}
use Rattle.opfs_base.specs.Blocks.{blocks}
use Rattle.opfs_splice.specs.Splicing.{splice, resize}
use Rattle.opfs_data.specs.declared.page.Page.{Page as Stored}
use Rattle.opfs_data.specs.Pages.{page_of, blank, zeros}
use Rattle.opfs_data.specs.Rows.{pages_at}
use Rattle.opfs_work.specs.Works.{WorkingCopy}
use Rattle.opfs_work.proofs.Laws.{splice_before, splice_behind, length-splice, length-resize, resize_at}
use Rattle.opfs_pages.specs.Copies.{IsPageOf, IsBegun, IsCopy, AreHeld}
use Rattle.opfs_pages.specs.Stages.{Stage, IsAtRest, IsEmpty, changed}
use Rattle.opfs_pages.proofs.PageBytes.{copied_length, zero_whole, past_whole, zeros_at}

-- a byte that the call does not write
pub spared_byte : (bytes given : List ℕ) (at size place : ℕ) → (at ≤ place → place < at + length given → ⊥) → place < size → slice_index (changed bytes at given size) place ≡ slice_index bytes place
spared_byte bytes given at size place apart below =
    resize_at (splice bytes at given) size place below
    ∙ elim (cases_lt place at) [
      | inl before ↦ splice_before bytes at given place before
      | inr past ↦ elim (cases_lt place (at + length given)) [
        | inl inside ↦ absurd (apart past inside)
        | inr behind ↦ splice_behind bytes at given place behind
      ]
    ]

zeros_size : length zeros ≡ 4096
unfolding zeros
zeros_size = length-replicate {A = ℕ} 4096 0

zeros_byte : (k : ℕ) → slice_index zeros k ≡ 0
unfolding zeros
zeros_byte k = zeros_at 4096 k

-- an empty page
empty_whole : (bytes : List ℕ) (work : WorkingCopy) (i : ℕ) → length work.pages ≡ blocks work.length → IsCopy bytes work → IsEmpty work i → IsPageOf bytes i zeros
empty_whole bytes work i pages copy (inl past) = past_whole bytes zeros work i copy (omega (arith, pages, past)) zeros_size zeros_byte
empty_whole bytes work i pages copy (inr is) = zero_whole bytes zeros work i copy is zeros_size zeros_byte

pub rest_begins : (s : Stage) (bytes : List ℕ) (i : ℕ) → length s.work.pages ≡ blocks s.work.length → IsCopy bytes s.work → AreHeld bytes s.work s.content s.base (pages_at s.agent s.row s.swap) → IsAtRest s i
    → IsBegun (changed bytes s.at s.given s.size) i (page_of s.content s.base (get_or (pages_at s.agent s.row s.swap) i blank))
rest_begins s bytes i pages copy held rest = elim rest.stored [
  | inl store ↦
      let was = held.held i store.0 store.1 in
      record {
        size = was.size;
        at = λ k below there.
            let inside : 4096 * i + k < s.size = omega (arith, there, length-resize (splice bytes s.at s.given) s.size) in
            let len : length bytes ≡ s.work.length = copied_length bytes s.work copy in
            was.at k below (old_byte (4096 * i + k) len store.0 k below inside refl (cases_lt (4096 * i + k) (length bytes)))
            ∙ sym (spared_byte bytes s.given s.at s.size (4096 * i + k) (rest.spared.unwritten (4096 * i + k) (omega arith) (omega (arith, below))) inside);
      }
  | inr none ↦
      let whole = empty_whole bytes s.work i pages copy none.0 in
      subst (λ (p : Stored). IsBegun (changed bytes s.at s.given s.size) i (page_of s.content s.base p)) (sym none.1) (record {
        size = whole.size;
        at = λ k below there.
            let inside : 4096 * i + k < s.size = omega (arith, there, length-resize (splice bytes s.at s.given) s.size) in
            whole.at k below ∙ sym (spared_byte bytes s.given s.at s.size (4096 * i + k) (rest.spared.unwritten (4096 * i + k) (omega arith) (omega (arith, below))) inside);
      })
] where
  old_byte : (place : ℕ) → length bytes ≡ s.work.length → i < length s.work.pages → (k : ℕ) → k < 4096 → place < s.size → place ≡ 4096 * i + k → (place < length bytes) ⊎ (length bytes ≤ place) → place < length bytes
  old_byte place len within k below inside is (inl lt) = lt
  old_byte place len within k below inside is (inr past) = omega (arith, len, past, inside, is, below, pages, within, rest.spared.whole (omega (arith, len, past, inside)) (omega (arith, pages, within)))

-- ---- what a call leaves

take_all : (bytes : List ℕ) → take (length bytes) bytes ≡ bytes
take_all [] = refl
take_all (x ∷ bytes) = ap (λ xs. x ∷ xs) (take_all bytes)

resize_same : (bytes : List ℕ) → resize bytes (length bytes) ≡ bytes
resize_same bytes =
    let none : length bytes - length bytes ≡ 0 = omega arith in
    ap (λ (n : ℕ). take (length bytes) bytes ++ replicate n 0) none ∙ (append-nil (take (length bytes) bytes) ∙ take_all bytes)

pub written_is : (bytes given : List ℕ) (at : ℕ) → changed bytes at given (max (length bytes) (at + length given)) ≡ splice bytes at given
written_is bytes given at = ap (resize (splice bytes at given)) (sym (length-splice bytes at given)) ∙ resize_same (splice bytes at given)

splice_none : (bytes : List ℕ) → splice bytes 0 [] ≡ bytes
splice_none [] = refl
splice_none (x ∷ bytes) = refl

pub resized_is : (bytes : List ℕ) (size : ℕ) → changed bytes 0 [] size ≡ resize bytes size
resized_is bytes size = ap (λ xs. resize xs size) (splice_none bytes)

pub stored_is : (bytes : List ℕ) → changed bytes 0 [] (length bytes) ≡ bytes
stored_is bytes = resized_is bytes (length bytes) ∙ resize_same bytes
