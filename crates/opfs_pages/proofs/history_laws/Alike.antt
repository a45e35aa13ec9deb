-- What the store's pages tell where all pages read as before.
use Rattle.std.proofs.Common.{◌≡◌, ℕ, ◌<◌, List, ◌++◌, length, Some}
use Rattle.opfs_base.specs.Texts.{Text}
use Rattle.opfs_data.specs.Rows.{Rows, pages_at}
use Rattle.opfs_hist.specs.declared.entry.Entry.{Entry}
use Rattle.opfs_machine.specs.Histories.{state_after}
use Rattle.opfs_machine.specs.Openings.{Opening}
use Rattle.opfs_laws.specs.Steady.Settling.{NoneSettles}
use Rattle.opfs_laws.specs.Steady.Steady.{row_bytes}
use Rattle.opfs_pages.specs.HistoryLaws.Told.{AreThere, AreTold}
use Rattle.opfs_pages.specs.HistoryLaws.Putting.{AllReadAlike}
use Rattle.opfs_pages.proofs.history_laws.Telling.{there-goes-on, told-goes-on}

-- No row has the number 0.
no-row : (o : Opening) (h : List Entry) (k : ℕ) (bytes : Text) → row_bytes (state_after o h) k 0 ≡ Some bytes → ⊥
no-row o h k bytes is = cc

module _ (o : Opening) (h more : List Entry) (old new : Rows) (none : (k n : ℕ) → NoneSettles (state_after o h) k n more) (stay : (k n i : ℕ) → i < length (pages_at k n old) → i < length (pages_at k n new)) where
  pub there-stays : AreThere o h old → AreThere o (h ++ more) new
  there-stays was = there-goes-on o h more 0 0 old new (λ k n apart. none k n) (λ k n i apart. stay k n i) was (λ i bytes is below. absurd (no-row o (h ++ more) 0 bytes is))

  pub told-stays : (base : ℕ) (c d : List ℕ) → AllReadAlike base c d old new → AreThere o h old → AreTold o h base c old → AreTold o (h ++ more) base d new
  told-stays base c d alike was told =
      told-goes-on o h more 0 0 old new (λ k n apart. none k n) (λ k n i apart. stay k n i) base c d (λ k n i apart within. alike k n i within) was told
      (λ i bytes is below. absurd (no-row o (h ++ more) 0 bytes is))
