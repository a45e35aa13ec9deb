-- Pages that are named in a list of those that are to be written, and have the row's bytes.
use Rattle.std.proofs.Common.{◌≡◌, ◌⊎◌, ℕ, zero, suc, ◌+◌, ◌-◌, ◌*◌, ◌<◌, ◌≤◌, List, [], ◌∷◌, ◌++◌, length, drop, slice_index, sym, ap, subst, ◌∙◌, inl, inr, arith}
use Rattle.std.proofs.lemmas.Bool.{cases_lt}
use Rattle.std.proofs.lemmas.List.{length-take, length-drop, get_or-take, get_or-drop}
use Rattle.opfs_splice.specs.Splicing.{splice}
use Rattle.opfs_data.specs.Pages.{NamesPage}
use Rattle.opfs_data.specs.Writes.{PageWrite, WriteList, Run, run_pages, run_writes, writes_of, page_writes, page_moves}
use Rattle.opfs_data.proofs.WriteLemmas.{all_append, writes_push}
use Rattle.opfs_work.proofs.Laws.{splice_inside, resize_at}
use Rattle.opfs_pages.specs.Copies.{IsPageOf, IsNamed, IsRight, AreRight}
use Rattle.opfs_pages.specs.Stages.{changed}

pub names_left : (xs ys : List PageWrite) (p : ℕ) → NamesPage xs p → NamesPage (xs ++ ys) p
names_left [] ys p named = absurd named
names_left (x ∷ xs) ys p named = elim named [ inl is ↦ inl is | inr more ↦ inr (names_left xs ys p more) ]

pub names_right : (xs ys : List PageWrite) (p : ℕ) → NamesPage ys p → NamesPage (xs ++ ys) p
names_right [] ys p named = named
names_right (x ∷ xs) ys p named = inr (names_right xs ys p named)

pub names_run : (bytes : List ℕ) (page block from n p : ℕ) → page ≤ p → p < page + n → NamesPage (run_pages bytes page block from n) p
names_run bytes page block from zero p above below = absurd (omega arith)
names_run bytes page block from (suc n) p above below = elim (cases_lt page p) [
  | inl over ↦ inr (names_run bytes (page + 1) (block + 1) (from + 4096) n p (omega arith) (omega arith))
  | inr not_over ↦ inl (omega arith)
]

-- pages were added to those that have their blocks
pub named_write : (w w' : WriteList) (given : List ℕ) (more : List PageWrite) (p : ℕ) → page_writes w' given ≡ page_writes w given ++ more → page_moves w' given ≡ page_moves w given → NamesPage more p ⊎ IsNamed w given p → IsNamed w' given p
named_write w w' given more p writes moves named = elim named [
  | inl new ↦ inl (subst (λ (l : List PageWrite). NamesPage l p) (sym writes) (names_right (page_writes w given) more p new))
  | inr old ↦ elim old [
    | inl here ↦ inl (subst (λ (l : List PageWrite). NamesPage l p) (sym writes) (names_left (page_writes w given) more p here))
    | inr later ↦ inr (subst (λ (l : List PageWrite). NamesPage l p) (sym moves) later)
  ]
]

pub named_move : (w w' : WriteList) (given : List ℕ) (more : List PageWrite) (p : ℕ) → page_moves w' given ≡ page_moves w given ++ more → page_writes w' given ≡ page_writes w given → NamesPage more p ⊎ IsNamed w given p → IsNamed w' given p
named_move w w' given more p moves writes named = elim named [
  | inl new ↦ inr (subst (λ (l : List PageWrite). NamesPage l p) (sym moves) (names_right (page_moves w given) more p new))
  | inr old ↦ elim old [
    | inl here ↦ inl (subst (λ (l : List PageWrite). NamesPage l p) (sym writes) here)
    | inr later ↦ inr (subst (λ (l : List PageWrite). NamesPage l p) (sym moves) (names_left (page_moves w given) more p later))
  ]
]

pub one_named : (w : PageWrite) (page p : ℕ) (P : Type 0) → w.page ≡ page → (p ≡ page) ⊎ P → NamesPage (w ∷ []) p ⊎ P
one_named w page p P is named = elim named [ inl here ↦ inl (inl (is ∙ sym here)) | inr old ↦ inr old ]

pub run_named : (bytes : List ℕ) (page block from n p : ℕ) (P : Type 0) → ((page ≤ p) × (p < page + n)) ⊎ P → NamesPage (run_pages bytes page block from n) p ⊎ P
run_named bytes page block from n p P named = elim named [ inl here ↦ inl (names_run bytes page block from n p here.0 here.1) | inr old ↦ inr old ]

-- ---- the bytes

pub right_write : (row given : List ℕ) (w w' : WriteList) (more : List PageWrite) → page_writes w' given ≡ page_writes w given ++ more → page_moves w' given ≡ page_moves w given → AreRight row more → IsRight row w given → IsRight row w' given
right_write row given w w' more writes moves new old = record {
  writes = subst (AreRight row) (sym writes) (all_append (λ w. IsPageOf row w.page w.bytes) (page_writes w given) more old.writes new);
  moves = subst (AreRight row) (sym moves) old.moves;
}

pub right_move : (row given : List ℕ) (w w' : WriteList) (more : List PageWrite) → page_moves w' given ≡ page_moves w given ++ more → page_writes w' given ≡ page_writes w given → AreRight row more → IsRight row w given → IsRight row w' given
right_move row given w w' more moves writes new old = record {
  writes = subst (AreRight row) (sym writes) old.writes;
  moves = subst (AreRight row) (sym moves) (all_append (λ w. IsPageOf row w.page w.bytes) (page_moves w given) more old.moves new);
}

-- pages that a write covers whole have the bytes of the call
pub run_right : (old given : List ℕ) (at page block from n size : ℕ) → at ≤ 4096 * page → from ≡ 4096 * page - at → 4096 * (page + n) ≤ at + length given → 4096 * (page + n) ≤ size → AreRight (changed old at given size) (run_pages given page block from n)
run_right old given at page block from zero size begins from_is ends stays = tt
run_right old given at page block from (suc n) size begins from_is ends stays = (
  record {
    size = omega (arith, length-take 4096 (drop from given), length-drop from given);
    at = λ k below.
        get_or-take 4096 (drop from given) k 0 below ∙ get_or-drop from given k 0 ∙ ap (slice_index given) (omega arith)
        ∙ sym (resize_at (splice old at given) size (4096 * page + k) (omega arith) ∙ splice_inside old at given (4096 * page + k) (omega arith) (omega arith));
  },
  run_right old given at (page + 1) (block + 1) (from + 4096) n size (omega arith) (omega arith) (omega arith) (omega arith),
)

pub given_write : (w w' : WriteList) (given : List ℕ) (r : Run) → w'.runs ≡ w.runs ++ r ∷ [] → w'.own ≡ w.own → page_writes w' given ≡ page_writes w given ++ run_writes w.own given r
given_write w w' given r runs own = ap (λ (o : List ℕ). writes_of o given w'.runs) own ∙ ap (writes_of w.own given) runs ∙ writes_push w.own given w.runs r

pub given_move : (w w' : WriteList) (given : List ℕ) (r : Run) → w'.moves ≡ w.moves ++ r ∷ [] → w'.own ≡ w.own → page_moves w' given ≡ page_moves w given ++ run_writes w.own given r
given_move w w' given r moves own = ap (λ (o : List ℕ). writes_of o given w'.moves) own ∙ ap (writes_of w.own given) moves ∙ writes_push w.own given w.moves r

pub other_moves : (w w' : WriteList) (given : List ℕ) → w'.moves ≡ w.moves → w'.own ≡ w.own → page_moves w' given ≡ page_moves w given
other_moves w w' given moves own = ap (λ (o : List ℕ). writes_of o given w'.moves) own ∙ ap (writes_of w.own given) moves

pub other_writes : (w w' : WriteList) (given : List ℕ) → w'.runs ≡ w.runs → w'.own ≡ w.own → page_writes w' given ≡ page_writes w given
other_writes w w' given runs own = ap (λ (o : List ℕ). writes_of o given w'.runs) own ∙ ap (writes_of w.own given) runs
