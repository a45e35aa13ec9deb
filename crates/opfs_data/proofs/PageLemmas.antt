-- Pages on a disk's content.
use Rattle.std.proofs.Common.{◌≡◌, ◌≢◌, ℕ, zero, suc, ◌+◌, ◌*◌, ◌<◌, ◌≤◌, Option, Some, None, List, [], ◌∷◌, length, get_or, replicate, inl, inr, refl, sym, ap, subst, ◌∙◌, arith}
use Rattle.std.proofs.lemmas.Bool.{cases_lt}
use Rattle.opfs_base.specs.declared.extents.Extent.{Extent}
use Rattle.opfs_outside.specs.Bytes.{Same, window, Beside}
use Rattle.opfs_outside.specs.Windows.{same_window}
use Rattle.opfs_data.specs.Places.{run_room, run_place, Aside, AllLie}
use Rattle.opfs_data.specs.declared.page.Page.{Page}
use Rattle.opfs_data.specs.Writes.{PageWrite}
use Rattle.opfs_data.specs.Pages.{block_bytes, zeros, bytes_by, page_of, NamesBlock, AreOnce, runs_of, IsApart}
use Rattle.opfs_data.proofs.RunLemmas.{all_at}

-- the run of a block
abbrev pub run_of : PageWrite → Extent
run_of w = record { start = w.block; count = 1 }

pub run_at : (ws : List PageWrite) (i : ℕ) (d : PageWrite) → i < length ws → run_of (get_or ws i d) ≡ get_or (runs_of ws) i (record { start = 0; count = 0 })
run_at [] i d lt = absurd (omega arith)
run_at (w ∷ ws) zero d lt = refl
run_at (w ∷ ws) (suc i) d lt = run_at ws i d (omega arith)

pub length-runs : (ws : List PageWrite) → length (runs_of ws) ≡ length ws
length-runs [] = refl
length-runs (w ∷ ws) = ap suc (length-runs ws)

pub lies_at : (base end : ℕ) (ws : List PageWrite) (i : ℕ) (d : PageWrite) → i < length ws → AllLie base end (runs_of ws) → base + 4096 * (get_or ws i d).block + 4096 ≤ end
lies_at base end ws i d lt all =
    let here : run_place base (run_of (get_or ws i d)) + run_room (run_of (get_or ws i d)) ≤ end =
    subst (λ (e : Extent). run_place base e + run_room e ≤ end) (sym (run_at ws i d lt))
    (all_at (λ (e : Extent). run_place base e + run_room e ≤ end) (runs_of ws) i (record { start = 0; count = 0 }) (omega (arith, length-runs ws)) all) in
    omega (arith, here)

-- the places aside of all runs are beside each block of the list
pub aside_at : (base : ℕ) (ws : List PageWrite) (i : ℕ) (d : PageWrite) (n : ℕ) → n ≡ 4096 → i < length ws → (k : ℕ) → Aside base (runs_of ws) k → Beside (base + 4096 * (get_or ws i d).block) n k
aside_at base ws i d n is lt k aside =
    let here : Beside (run_place base (run_of (get_or ws i d))) (run_room (run_of (get_or ws i d))) k =
    subst (λ (e : Extent). Beside (run_place base e) (run_room e) k) (sym (run_at ws i d lt))
    (all_at (λ (e : Extent). Beside (run_place base e) (run_room e) k) (runs_of ws) i (record { start = 0; count = 0 }) (omega (arith, length-runs ws)) aside) in
    elim here [ inl before ↦ inl before | inr past ↦ inr (omega arith) ]

-- the bytes of a block are those of its places
pub block_is : (c : List ℕ) (base b n : ℕ) → n ≡ 4096 → block_bytes c base b ≡ window c (base + 4096 * b) n
unfolding block_bytes
block_is c base b n is = ap (λ (k : ℕ). window c (base + 4096 * b) k) (sym is)

pub same_block : (c d : List ℕ) (base b n : ℕ) → n ≡ 4096 → ((k : ℕ) → k < n → Same (λ i. i ≡ base + 4096 * b + k) c d) → block_bytes c base b ≡ block_bytes d base b
same_block c d base b n is same = block_is c base b n is ∙ same_window c d (base + 4096 * b) n (λ k lt. same k lt (base + 4096 * b + k) refl) ∙ sym (block_is d base b n is)

-- a write into one block leaves the others
pub other_block : (c d : List ℕ) (base b other n : ℕ) → n ≡ 4096 → b ≢ other → Same (Beside (base + 4096 * other) n) c d → block_bytes c base b ≡ block_bytes d base b
other_block c d base b other n is apart same = same_block c d base b n is (λ k lt i at. same i (
    elim (cases_lt b other) [
      | inl below ↦ inl (omega arith)
      | inr above ↦ elim (cases_lt other b) [ inl over ↦ inr (omega arith) | inr not_over ↦ absurd (apart (omega arith)) ]
    ]
    ))

pub names_at : (ws : List PageWrite) (i : ℕ) (d : PageWrite) → i < length ws → NamesBlock ws (get_or ws i d).block
names_at [] i d lt = absurd (omega arith)
names_at (w ∷ ws) zero d lt = inl refl
names_at (w ∷ ws) (suc i) d lt = inr (names_at ws i d (omega arith))

pub once_apart : (ws : List PageWrite) (k i : ℕ) (d e : PageWrite) → AreOnce ws → k < i → i < length ws → (get_or ws k d).block ≢ (get_or ws i e).block
once_apart [] k i d e once lt within is = absurd (omega arith)
once_apart (w ∷ ws) k zero d e once lt within is = absurd (omega arith)
once_apart (w ∷ ws) zero (suc i) d e once lt within is = once.1 (subst (NamesBlock ws) (sym is) (names_at ws i e (omega arith)))
once_apart (w ∷ ws) (suc k) (suc i) d e once lt within is = once_apart ws k i d e once.2 (omega arith) (omega arith) is

-- the bytes of a page by what it has
pub page_kept : (c : List ℕ) (base : ℕ) (p : Page) (bytes : List ℕ) → p.kept ≡ Some bytes → page_of c base p ≡ bytes
page_kept c base p bytes is = ap (λ (k : Option (List ℕ)). bytes_by c base k p.block) is

pub page_none : (c : List ℕ) (base : ℕ) (p : Page) → p.kept ≡ None → p.block ≡ None → page_of c base p ≡ zeros
page_none c base p kept block = ap (λ (k : Option (List ℕ)). bytes_by c base k p.block) kept ∙ ap (λ (b : Option ℕ). bytes_by c base None b) block

pub page_block : (c : List ℕ) (base : ℕ) (p : Page) (b : ℕ) → p.kept ≡ None → p.block ≡ Some b → page_of c base p ≡ block_bytes c base b
page_block c base p b kept block = ap (λ (k : Option (List ℕ)). bytes_by c base k p.block) kept ∙ ap (λ (x : Option ℕ). bytes_by c base None x) block

pub zeros_are : (n : ℕ) → n ≡ 4096 → replicate n 0 ≡ zeros
unfolding zeros
zeros_are n is = ap (λ (k : ℕ). replicate k 0) is

get_or_defaults : {X : Type 0} (xs : List X) (i : ℕ) (d e : X) → i < length xs → get_or xs i d ≡ get_or xs i e
get_or_defaults [] i d e lt = absurd (omega arith)
get_or_defaults (x ∷ xs) zero d e lt = refl
get_or_defaults (x ∷ xs) (suc i) d e lt = get_or_defaults xs i d e (omega arith)

pub item_is : {X : Type 0} (xs : List X) (k i : ℕ) (d x : X) → k ≡ i → x ≡ get_or xs i x → i < length xs → get_or xs k d ≡ x
item_is xs k i d x e is lt = ap (λ (j : ℕ). get_or xs j d) e ∙ get_or_defaults xs i d x lt ∙ sym is

-- the places of a block are aside of the blocks of a list without it
aside_blocks : (base b : ℕ) (ws : List PageWrite) (i : ℕ) → ((k : ℕ) (d : PageWrite) → k < length ws → b ≢ (get_or ws k d).block)
    → base + 4096 * b ≤ i → i < base + 4096 * b + 4096 → Aside base (runs_of ws) i
aside_blocks base b [] i apart from to = tt
aside_blocks base b (w ∷ ws) i apart from to = (
  elim (cases_lt b w.block) [
    | inl below ↦ inl (omega arith)
    | inr above ↦ elim (cases_lt w.block b) [ inl over ↦ inr (omega arith) | inr not_over ↦ absurd (apart 0 w (omega arith) (omega arith)) ]
  ],
  aside_blocks base b ws i (λ k d lt. apart (suc k) d (omega arith)) from to,
)

-- a page stays where its block, if it is read, is none of those that are written
stays_by : (c c' : List ℕ) (base : ℕ) (ws : List PageWrite) (kept : Option (List ℕ)) (block : Option ℕ) → Same (Aside base (runs_of ws)) c' c
    → ((k : ℕ) (d : PageWrite) → k < length ws → kept ≡ None → block ≡ Some (get_or ws k d).block → ⊥) → bytes_by c' base kept block ≡ bytes_by c base kept block
stays_by c c' base ws (Some bytes) block same apart = refl
stays_by c c' base ws None None same apart = refl
stays_by c c' base ws None (Some b) same apart =
    same_block c' c base b 4096 refl (λ k lt i at. same i (aside_blocks base b ws i (λ j d within is. apart j d within refl (ap (λ (x : ℕ). Some x) is)) (omega arith) (omega arith)))

pub page_stays : (c c' : List ℕ) (base : ℕ) (ws : List PageWrite) (p : Page) → Same (Aside base (runs_of ws)) c' c → IsApart p ws → page_of c' base p ≡ page_of c base p
page_stays c c' base ws p same apart = stays_by c c' base ws p.kept p.block same apart
