-- The working copy that a call hands in, and the one that it leaves.
use Rattle.std.proofs.Common.{◌≡◌, ℕ, ◌<◌, true, List, length, Some, refl, sym, ap, ◌∙◌, inl, inr}
use Rattle.std.proofs.lemmas.Bool.{cases_lt, false≢true}
use Rattle.std.proofs.lemmas.List.{get_or_past}
use Rattle.opfs_store.specs.Copies.Copies.{StandsFor}
use Rattle.opfs_data.specs.Rows.{Rows}
use Rattle.opfs_hist.specs.declared.entry.Entry.{Entry}
use Rattle.opfs_machine.specs.Histories.{state_after}
use Rattle.opfs_machine.specs.Openings.{Opening}
use Rattle.opfs_laws.specs.Steady.Steady.{open_bytes, row_bytes}
use Rattle.opfs_work.specs.declared.pages.Page.{Page}
use Rattle.opfs_work.specs.declared.pages.Page.TheVariants.{Zero, Near, Clean, Far}
use Rattle.opfs_work.specs.Pages.{page_at, is_far, is_held}
use Rattle.opfs_work.specs.Works.{WorkingCopy}

far-held : (p : Page) → is_far p ≡ true → is_held p ≡ true
far-held Zero is = absurd (false≢true is)
far-held (Near bytes) is = absurd (false≢true is)
far-held (Clean bytes) is = absurd (false≢true is)
far-held Far is = refl

far-within : (work : WorkingCopy) (i : ℕ) → is_far (page_at work.pages i) ≡ true → i < length work.pages
far-within work i far = elim (cases_lt i (length work.pages)) [
  | inl within ↦ within
  | inr past ↦ absurd (false≢true (ap is_far (sym (get_or_past work.pages i Zero past)) ∙ far))
]

module _ (tells : Type 0) (o : Opening) (h : List Entry) (swap : Rows) (k n : ℕ) (work : WorkingCopy) (stands : StandsFor tells o h k n work) where
  pub handed-bytes : row_bytes (state_after o h) k n ≡ Some stands.copy.bytes
  handed-bytes = ap (open_bytes (state_after o h)) stands.there ∙ stands.copy.open_row
