-- What the store's pages tell of a row whose pages were put.
use Rattle.std.proofs.Common.{◌≡◌, ◌⊎◌, ℕ, ◌<◌, ◌++◌, List, [], ◌∷◌, length, sym, ap, subst, ◌∙◌, inl, inr, arith}
use Rattle.std.specs.List.{AllByRecursion}
use Rattle.std.proofs.lemmas.Bool.{cases_eq, cases_lt}
use Rattle.std.proofs.lemmas.List.{get_or_past}
use Rattle.opfs_base.specs.Blocks.{blocks}
use Rattle.opfs_base.specs.Texts.{Text}
use Rattle.opfs_base.specs.declared.extents.Extent.{Extent}
use Rattle.opfs_data.specs.Pages.{page_of, blank, NamesPage}
use Rattle.opfs_data.specs.Rows.{Rows, pages_at, page_at}
use Rattle.opfs_data.specs.Writes.{PageWrite, WriteList, page_writes, page_moves, placed, blocks_in}
use Rattle.opfs_pages.specs.Copies.{IsPageOf, IsBegun, IsNamed, AreRight}
use Rattle.opfs_pages.specs.Stages.{Stage, changed, IsAtRest}
use Rattle.opfs_pages.proofs.Rest.{rest_begins}
use Rattle.opfs_pages.specs.Writing.Puts.{IsPut, all_writes}
use Rattle.opfs_pages.specs.HistoryLaws.Putting.{IsFromRow}

-- ---- pages of a list

pub named-or : (ws : List PageWrite) (i : ℕ) → NamesPage ws i ⊎ (NamesPage ws i → ⊥)
named-or [] i = inr (λ never. never)
named-or (w ∷ ws) i = elim (cases_eq w.page i) [
  | inl here ↦ inl (inl here)
  | inr apart ↦ elim (named-or ws i) [
    | inl later ↦ inl (inr later)
    | inr never ↦ inr (λ some. elim some [ inl here ↦ apart here | inr later ↦ never later ])
  ]
]

pub names-left : (xs ys : List PageWrite) (i : ℕ) → NamesPage xs i → NamesPage (xs ++ ys) i
names-left [] ys i named = absurd named
names-left (x ∷ xs) ys i named = elim named [ inl here ↦ inl here | inr later ↦ inr (names-left xs ys i later) ]

pub names-right : (xs ys : List PageWrite) (i : ℕ) → NamesPage ys i → NamesPage (xs ++ ys) i
names-right [] ys i named = named
names-right (x ∷ xs) ys i named = inr (names-right xs ys i named)

pub names-placed : (move : List PageWrite) (bs : List ℕ) (i : ℕ) → length move ≡ length bs → NamesPage move i → NamesPage (placed move bs) i
names-placed [] bs i same named = absurd named
names-placed (w ∷ move) [] i same named = absurd (omega (arith, same))
names-placed (w ∷ move) (b ∷ bs) i same named = elim named [ inl here ↦ inl here | inr later ↦ inr (names-placed move bs i (omega (arith, same)) later) ]

right-placed : (row : List ℕ) (move : List PageWrite) (bs : List ℕ) → AreRight row move → AreRight row (placed move bs)
right-placed row [] bs right = tt
right-placed row (w ∷ move) [] right = tt
right-placed row (w ∷ move) (b ∷ bs) right = (right.0, right-placed row move bs right.1)

right-both : (row : List ℕ) (xs ys : List PageWrite) → AreRight row xs → AreRight row ys → AreRight row (xs ++ ys)
right-both row [] ys left right = right
right-both row (x ∷ xs) ys left right = (left.0, right-both row xs ys left.1 right)

-- a named page of a list that was written right
found : (ws : List PageWrite) (row : List ℕ) (read : ℕ → List ℕ) (i : ℕ) → NamesPage ws i → AreRight row ws → AllByRecursion (λ w. read w.page ≡ w.bytes) ws → IsPageOf row i (read i)
found [] row read i named right given = absurd named
found (w ∷ ws) row read i named right given = elim named [
  | inl here ↦ subst (λ (p : ℕ). IsPageOf row p (read p)) here (subst (IsPageOf row w.page) (sym given.0) right.0)
  | inr later ↦ found ws row read i later right.1 given.1
]

pub page-begun : (bytes page : List ℕ) (i : ℕ) → IsPageOf bytes i page → IsBegun bytes i page
page-begun bytes page i is = record { size = is.size; at = λ k below inside. is.at k below }

-- ---- a row whose pages were put

module _ (tells : Type 0) (told : tells) (s : Stage) (w : WriteList) (extents : List Extent) (before after : Text) (base : ℕ) (c d : List ℕ) (mid new : Rows) (agent row pages : ℕ)
    (from : IsFromRow tells s w before after) (base_is : s.base ≡ base) (agent_is : s.agent ≡ agent) (row_is : s.row ≡ row)
    (same : length (pages_at agent row mid) ≡ length (pages_at agent row s.swap))
    (alike : (i : ℕ) → page_of c base (page_at agent row i mid) ≡ page_of s.content base (page_at agent row i s.swap))
    (count : length (page_moves w s.given) ≡ length (blocks_in extents))
    (put : IsPut tells base c d mid new agent row pages (all_writes w s.given extents)) (many : pages ≡ blocks s.size) where
  abbrev all : List PageWrite
  all = all_writes w s.given extents

  all-right : AreRight after all
  all-right =
      let right = from.staged.right told before (from.copy told) (from.held told) in
      subst (λ (row_after : List ℕ). AreRight row_after all) from.after_is
      (right-both (changed before s.at s.given s.size) (page_writes w s.given) (placed (page_moves w s.given) (blocks_in extents)) right.writes
      (right-placed (changed before s.at s.given s.size) (page_moves w s.given) (blocks_in extents) right.moves))

  all-named : (i : ℕ) → IsNamed w s.given i → NamesPage all i
  all-named i named = elim named [
    | inl here ↦ names-left (page_writes w s.given) (placed (page_moves w s.given) (blocks_in extents)) i here
    | inr later ↦ names-right (page_writes w s.given) (placed (page_moves w s.given) (blocks_in extents)) i (names-placed (page_moves w s.given) (blocks_in extents) i count later)
  ]

  rested : (i : ℕ) → IsAtRest s i → IsBegun after i (page_of s.content base (page_at agent row i s.swap))
  rested i rest =
      let begun = rest_begins s before i from.pages (from.copy told) (from.held told) rest in
      subst (λ (r : ℕ). IsBegun after i (page_of s.content base (page_at agent r i s.swap))) row_is
      (subst (λ (a : ℕ). IsBegun after i (page_of s.content base (page_at a s.row i s.swap))) agent_is
      (subst (λ (b : ℕ). IsBegun after i (page_of s.content b (page_at s.agent s.row i s.swap))) base_is
      (subst (λ (bytes : List ℕ). IsBegun bytes i (page_of s.content s.base (page_at s.agent s.row i s.swap))) from.after_is begun)))

  unnamed : (i : ℕ) → i < pages → (NamesPage all i → ⊥) → page_of d base (page_at agent row i new) ≡ page_of s.content base (page_at agent row i s.swap)
  unnamed i within never = elim (cases_lt i (length (pages_at agent row mid))) [
    | inl there ↦ put.rest told i within there never ∙ alike i
    | inr past ↦
        ap (page_of d base) (put.fresh i past within never)
        ∙ sym (ap (page_of s.content base) (get_or_past (pages_at agent row s.swap) i blank (omega (arith, same, past))))
  ]

  pub put-told : (i : ℕ) → i < pages → IsBegun after i (page_of d base (page_at agent row i new))
  put-told i within = elim (named-or all i) [
    | inl named ↦ page-begun after (page_of d base (page_at agent row i new)) i (found all after (λ p. page_of d base (page_at agent row p new)) i named all-right (put.given told))
    | inr never ↦ elim (from.staged.known i (omega (arith, within, many))) [
      | inl named ↦ absurd (never (all-named i named))
      | inr rest ↦ subst (IsBegun after i) (sym (unnamed i within never)) (rested i rest)
    ]
  ]
