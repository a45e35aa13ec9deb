-- Ranges in pieces.
use Rattle.std.proofs.Common.{◌≡◌, ℕ, ◌+◌, ◌-◌, ◌<◌, ◌≤◌, min, List, [], ◌∷◌, ◌++◌, append-nil, length, map, take, drop, refl, sym, ap, ◌∙◌, arith}
use Rattle.std.specs.List.{AllByRecursion, concat}
use Rattle.std.proofs.lemmas.List.{length-append, length-drop, drop-drop, map-append, take_min}
use Rattle.std.proofs.lemmas.List.Folds.{concat-append}
use Rattle.std.proofs.Math.Seq.{take-add}
use Rattle.opfs_base.specs.Texts.{Text}
use Rattle.opfs_turns.proofs.asking.Plains.{window-length}
use Rattle.opfs_hist.specs.declared.op.Op.TheVariants as op
use Rattle.opfs_hist.specs.declared.reply.Reply.TheVariants as reply
use Rattle.opfs_splice.specs.Splicing.{window}
use Rattle.opfs_pipe.specs.Pieces.{ArePages, IsCut, IsPage, slices_of, write_of}

-- Two windows, one behind the other.
pub windows-join : (bytes : Text) (at n m : ℕ) → window bytes at (n + m) ≡ window bytes at n ++ window bytes (at + n) m
windows-join bytes at n m = take-add n m (drop at bytes) ∙ ap (λ (xs : Text). window bytes at n ++ take m xs) (drop-drop n at bytes)

-- A window is as long as it says, where the bytes reach.
pub window-whole : (bytes : Text) (at n : ℕ) → at + n ≤ length bytes → length (window bytes at n) ≡ n
window-whole bytes at n within = window-length bytes at n ∙ omega (arith, within)

pub concat-one : (piece : Text) → concat (piece ∷ []) ≡ piece
concat-one piece = append-nil piece

pub concat-more : (pieces : List Text) (piece : Text) → concat (pieces ++ piece ∷ []) ≡ concat pieces ++ piece
concat-more pieces piece = concat-append pieces (piece ∷ []) ∙ ap (λ (xs : Text). concat pieces ++ xs) (concat-one piece)

-- ---- pages

pub all-pages : (pieces : List Text) (piece : Text) → AllByRecursion IsPage pieces → length piece ≡ 4096 → AllByRecursion IsPage (pieces ++ piece ∷ [])
all-pages [] piece all is = (is, tt)
all-pages (p ∷ pieces) piece all is = (all.0, all-pages pieces piece all.1 is)

pub pages-more : (pieces : List Text) (piece : Text) → AllByRecursion IsPage pieces → 0 < length piece → length piece ≤ 4096 → ArePages (pieces ++ piece ∷ [])
pages-more [] piece all some short = (some, short)
pages-more (p ∷ []) piece all some short = (all.0, (some, short))
pages-more (p ∷ (q ∷ pieces)) piece all some short = (all.0, pages-more (q ∷ pieces) piece all.1 some short)

-- ---- cuts

module _ (bytes : Text) (at next end : ℕ) (pieces : List Text) (cut : IsCut bytes at next end pieces) (size : ℕ) (size_is : size ≡ min 4096 (end - next)) (more : next < end) (reach : end ≤ length bytes) where
  abbrev n : ℕ
  n = length (concat pieces)

  piece-length : length (window bytes next size) ≡ size
  piece-length = window-whole bytes next size (omega (arith, size_is, more, reach))

  whole-more : concat (pieces ++ window bytes next size ∷ []) ≡ window bytes at (n + size)
  whole-more =
      concat-more pieces (window bytes next size)
      ∙ (λ i. cut.whole i ++ window bytes (cut.place i) size)
      ∙ sym (windows-join bytes at n size)

  pub length-more : length (concat (pieces ++ window bytes next size ∷ [])) ≡ n + size
  length-more = ap length (concat-more pieces (window bytes next size)) ∙ length-append (concat pieces) (window bytes next size) ∙ ap (λ k. n + k) piece-length

  count-more : length (pieces ++ window bytes next size ∷ []) ≡ length pieces + 1
  count-more = length-append pieces (window bytes next size ∷ [])

  -- One piece more.
  pub cut-more : IsCut bytes at (next + size) end (pieces ++ window bytes next size ∷ [])
  cut-more = record {
    whole = whole-more ∙ ap (window bytes at) (sym length-more);
    place = omega (arith, cut.place, length-more);
    within = omega (arith, size_is, more);
    few = omega (arith, length-more, count-more, cut.full more, size_is, more);
    full = λ still. omega (arith, length-more, count-more, cut.full more, size_is, still);
    whole_pages = λ still. all-pages pieces (window bytes next size) (cut.whole_pages more) (omega (arith, piece-length, size_is, still));
    pages = pages-more pieces (window bytes next size) (cut.whole_pages more) (omega (arith, piece-length, size_is, more)) (omega (arith, piece-length, size_is));
  }

pub cut-none : (bytes : Text) (at end : ℕ) → at ≤ end → IsCut bytes at at end []
cut-none bytes at end within = record {
  whole = refl;
  place = omega arith;
  within = within;
  few = omega arith;
  full = λ more. refl;
  whole_pages = λ more. tt;
  pages = tt;
}

-- At the end the pieces are the whole range.
pub cut-whole : (bytes : Text) (at end count : ℕ) (pieces : List Text) → IsCut bytes at end end pieces → end ≡ at + count → concat pieces ≡ window bytes at count
cut-whole bytes at end count pieces cut is =
    let same : length (concat pieces) ≡ count = omega (arith, cut.place, is) in
    cut.whole ∙ ap (window bytes at) same

-- Before it they are a front of it.
pub cut-front : (bytes : Text) (at next end count : ℕ) (pieces : List Text) → IsCut bytes at next end pieces → end ≡ at + count → (left : Text) × (concat pieces ++ left ≡ window bytes at count)
cut-front bytes at next end count pieces cut is =
    let n = length (concat pieces) in
    let same : n + (count - n) ≡ count = omega (arith, cut.place, cut.within, is) in (
      window bytes (at + n) (count - n),
      ap (λ (xs : Text). xs ++ window bytes (at + n) (count - n)) cut.whole ∙ sym (windows-join bytes at n (count - n)) ∙ ap (window bytes at) same,
    )

-- They are few.
pub cut-few : (bytes : Text) (at next end : ℕ) (pieces : List Text) → IsCut bytes at next end pieces → end ≤ at + 268435456 → length pieces ≤ 65536
cut-few bytes at next end pieces cut small = omega (arith, cut.place, cut.within, cut.few, small)

-- ---- slices and writes

pub slices-join : (row at : ℕ) (xs ys : List Text) → slices_of row at (xs ++ ys) ≡ slices_of row at xs ++ slices_of row (at + length (concat xs)) ys
slices-join row at [] ys = ap (λ n. slices_of row n ys) (omega arith)
slices-join row at (x ∷ xs) ys =
    let place : (at + length x) + length (concat xs) ≡ at + length (concat (x ∷ xs)) = omega (arith, length-append x (concat xs)) in
    ap (λ ts. (op.Slice row at (length x), reply.Read x) ∷ ts) (slices-join row (at + length x) xs ys ∙ ap (λ n. slices_of row (at + length x) xs ++ slices_of row n ys) place)

pub writes-join : (row : ℕ) (xs ys : List Text) → map (write_of row) (xs ++ ys) ≡ map (write_of row) xs ++ map (write_of row) ys
writes-join row xs ys = map-append (write_of row) xs ys

-- ---- ranges

nothing : (bytes : Text) → length bytes ≡ 0 → bytes ≡ []
nothing [] none = refl
nothing (b ∷ bytes) none = absurd (omega (arith, none))

pub window-none : (bytes : Text) (at len : ℕ) → min len (length bytes - at) ≡ 0 → window bytes at len ≡ []
window-none bytes at len is = nothing (window bytes at len) (window-length bytes at len ∙ is)

-- A window with all that there is.
pub window-short : (bytes : Text) (at len count : ℕ) → count ≡ min len (length bytes - at) → window bytes at count ≡ window bytes at len
window-short bytes at len count is = ap (λ n. take n (drop at bytes)) (is ∙ ap (min len) (sym (length-drop at bytes))) ∙ take_min len (drop at bytes)
