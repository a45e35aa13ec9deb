-- Which pages a call writes again in their own blocks, and which ones want others. This project's own.
use Rattle.std.specs.Prelude.{◌≡◌, ◌⊎◌, ℕ, ◌+◌, ◌<◌, cond, nat_eq, List, map, Option, Some, None, option_map}
use Rattle.std.specs.List.{IsDistinct}
use Rattle.opfs_blocks.specs.Sets.{Used}
use Rattle.opfs_data.specs.Pages.{NamesPage}
use Rattle.opfs_data.specs.Rows.{Rows, page_at}
use Rattle.opfs_data.specs.Writes.{PageWrite}
use Rattle.opfs_space.specs.Holders.{Writes}
use Rattle.opfs_space.specs.Spaces.{is_own}

-- the block, where a page alone has it
abbrev pub if_own : Used → Option ℕ → Option ℕ
if_own own None = None
if_own own (Some b) = cond (is_own own b) (Some b) None

-- the block in which a page is written again; None where it wants another one
unfoldable pub own_block : Used → Rows → ℕ → ℕ → ℕ → Option ℕ
own_block own swap agent row page = if_own own (page_at agent row page swap).block

-- So many pages are written alike: all into other blocks, or into their own, which are neighbours.
abbrev pub AreAlike : Used → Rows → ℕ → ℕ → ℕ → ℕ → Type 0
AreAlike own swap agent row page count = (i : ℕ) → i < count → own_block own swap agent row (page + i) ≡ option_map (λ b. b + i) (own_block own swap agent row page)

-- Pages are planned: those that stay have their own blocks, the others have none, each is named once, and all lie below the
-- blocks that are kept for the row.
pub record ArePlanned (own : Used) (swap : Rows) (agent row reserve : ℕ) (stay move : List PageWrite) : Type 0 where
  pub blocks : (page b : ℕ) → Writes stay page b → own_block own swap agent row page ≡ Some b
  pub none : (page : ℕ) → NamesPage move page → own_block own swap agent row page ≡ None
  pub stay_once : IsDistinct nat_eq (map (λ (x : PageWrite). x.page) stay)
  pub move_once : IsDistinct nat_eq (map (λ (x : PageWrite). x.page) move)
  pub within : (page : ℕ) → NamesPage stay page ⊎ NamesPage move page → page < reserve
