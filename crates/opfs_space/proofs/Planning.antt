-- The block in which a page is written again.
use Rattle.std.proofs.Common.{◌≡◌, ℕ, zero, suc, ◌+◌, ◌≤◌, cond, true, false, Option, Some, None, List, [], ◌∷◌, length, option_map, get_or, refl, sym, ap, subst, ◌∙◌, inl, inr, arith}
use Rattle.std.proofs.lemmas.Bool.{cases_eq}
use Rattle.opfs_blocks.specs.Sets.{Used}
use Rattle.opfs_data.specs.declared.page.Page.{Page}
use Rattle.opfs_data.specs.Pages.{blank}
use Rattle.opfs_data.specs.Rows.{Rows, page_at, pages_at}
use Rattle.opfs_space.specs.Spaces.{is_own}
use Rattle.opfs_space.specs.Plans.{if_own, own_block, AreAlike}

past : (pages : List Page) (i : ℕ) → length pages ≤ i → get_or pages i blank ≡ blank
past [] i le = refl
past (p ∷ pages) zero le = absurd (omega arith)
past (p ∷ pages) (suc i) le = past pages i (omega (arith, le))

pub past_none : (own : Used) (swap : Rows) (agent row page : ℕ) → length (pages_at agent row swap) ≤ page → None ≡ own_block own swap agent row page
unfolding own_block
past_none own swap agent row page le = sym (ap (λ (p : Page). if_own own p.block) (past (pages_at agent row swap) page le))

pub without_block : (own : Used) (swap : Rows) (agent row page : ℕ) → None ≡ (page_at agent row page swap).block → None ≡ own_block own swap agent row page
unfolding own_block
without_block own swap agent row page is = ap (if_own own) is

pub with_own : (own : Used) (swap : Rows) (agent row page b : ℕ) → Some b ≡ (page_at agent row page swap).block → true ≡ is_own own b → Some b ≡ own_block own swap agent row page
unfolding own_block
with_own own swap agent row page b is owned = ap (λ t. cond t (Some b) None) owned ∙ ap (if_own own) is

pub with_other : (own : Used) (swap : Rows) (agent row page b : ℕ) → Some b ≡ (page_at agent row page swap).block → false ≡ is_own own b → None ≡ own_block own swap agent row page
unfolding own_block
with_other own swap agent row page b is owned = ap (λ t. cond t (Some b) None) owned ∙ ap (if_own own) is

map_same : (o : Option ℕ) → o ≡ option_map (λ b. b + 0) o
map_same None = refl
map_same (Some b) = let e : b ≡ b + 0 = omega arith in ap Some e

-- one page alone is alike
pub one_alike : (own : Used) (swap : Rows) (agent row page : ℕ) → AreAlike own swap agent row page 1
one_alike own swap agent row page i lt =
    let first : i ≡ 0 = omega (arith, lt) in
    let at : page + i ≡ page = omega (arith, first) in
    ap (own_block own swap agent row) at ∙ (map_same (own_block own swap agent row page) ∙ ap (λ (n : ℕ). option_map (λ b. b + n) (own_block own swap agent row page)) (sym first))

pub next_alike : (own : Used) (swap : Rows) (agent row page count : ℕ) → AreAlike own swap agent row page count
    → own_block own swap agent row (page + count) ≡ option_map (λ b. b + count) (own_block own swap agent row page) → AreAlike own swap agent row page (count + 1)
next_alike own swap agent row page count are next i lt = elim (cases_eq i count) [
  | inl last ↦ subst (λ (n : ℕ). own_block own swap agent row (page + n) ≡ option_map (λ b. b + n) (own_block own swap agent row page)) (sym last) next
  | inr before ↦ are i (omega (arith, lt, before))
]
