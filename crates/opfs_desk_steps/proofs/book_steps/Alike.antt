-- Pages read alike where no byte outside of the areas changed.
use Rattle.std.proofs.Common.{◌≡◌, ℕ, ◌+◌, ◌*◌, ◌≤◌, List, Option, Some, None, refl, inr, arith}
use Rattle.opfs_books.specs.Laws.Laws.{LeavesPages}
use Rattle.opfs_data.specs.Pages.{bytes_by, block_bytes}
use Rattle.opfs_data.specs.Rows.{Rows, page_at}
use Rattle.opfs_pages.specs.HistoryLaws.Putting.{AllReadAlike}
use Rattle.opfs_journal.specs.Clauses.{Outside}
use Rattle.opfs_journal.specs.Seen.{Seen}
use Rattle.opfs_journal.specs.declared.areas.Areas.{Areas}
use Rattle.opfs_outside.specs.Bytes.{Same, window}
use Rattle.opfs_outside.specs.Windows.{same_window}
use Rattle.opfs_outside.specs.declared.disk.Disk.{Ghosts as DiskWords}

module _ (base : ℕ) (c d : List ℕ) (a : Areas) (behind : a.first + 2 * a.bytes ≤ base) (same : Same (Outside a) d c) where
  by-window : (b n : ℕ) → window d (base + 4096 * b) n ≡ window c (base + 4096 * b) n
  by-window b n = same_window d c (base + 4096 * b) n (λ k lt. same (base + 4096 * b + k) (inr (omega (arith, behind))))

  by-bytes : (kept : Option (List ℕ)) (block : Option ℕ) → bytes_by d base kept block ≡ bytes_by c base kept block
  unfolding block_bytes
  by-bytes (Some kept) block = refl
  by-bytes None (Some b) = by-window b 4096
  by-bytes None None = refl

  pub outside-alike : (p : Rows) → AllReadAlike base c d p p
  outside-alike p k n i within = by-bytes (page_at k n i p).kept (page_at k n i p).block

pub leaves-alike : {D : Type 0} (w : DiskWords D) (old new : Seen D) (base : ℕ) (p : Rows) → old.areas.first + 2 * old.areas.bytes ≤ base → LeavesPages w old new → w.tells
    → AllReadAlike base (w.content old.disk) (w.content new.disk) p p
leaves-alike w old new base p behind leaves told = outside-alike base (w.content old.disk) (w.content new.disk) old.areas behind (leaves.outside told) p
