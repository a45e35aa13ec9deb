-- What was saved serves when the other pages have their blocks.
use Rattle.std.proofs.Common.{◌≡◌, ◌++◌, ℕ, List, Option, Some, None, MatchOption, sym, subst}
use Rattle.std.specs.List.{AllByRecursion}
use Rattle.opfs_data.specs.declared.page.Page.{Page}
use Rattle.opfs_data.specs.declared.page.SavedPage.{SavedPage}
use Rattle.opfs_data.specs.Pages.{AreSaved, IsAgain}
use Rattle.opfs_data.specs.Writes.{PageWrite, WriteList, page_writes}
use Rattle.opfs_data.proofs.RowLemmas.{saved_more}

pub saved_placed : (o : Option (List SavedPage)) (pages : List Page) (w : WriteList) (given : List ℕ) (all more : List PageWrite) → all ≡ page_writes w given ++ more → AllByRecursion (λ x. IsAgain pages x → ⊥) more
    → MatchOption o ⊥ (λ saved. (g : List ℕ) → AreSaved saved pages (page_writes w g)) → MatchOption o ⊥ (λ saved. AreSaved saved pages all)
saved_placed None pages w given all more is never saved = saved
saved_placed (Some kept) pages w given all more is never saved = subst (AreSaved kept pages) (sym is) (saved_more kept pages (page_writes w given) more never (saved given))
