-- Where the blocks of files and pages lie, over parts that are kept. This project's own.
use Rattle.std.specs.Prelude.{ℕ, ◌+◌, ◌*◌, ◌^◌, ◌≤◌, length}
use Rattle.std.specs.List.{AllByRecursion}
use Rattle.opfs_blocks.specs.Sets.{AreBelow}
use Rattle.opfs_books.specs.Laws.Books.{Fixed}
use Rattle.opfs_data.specs.Pages.{LiesIn, IsDataPart}
use Rattle.opfs_data.specs.Rows.{pages_at}
use Rattle.opfs_outside.specs.declared.disk.Disk.{Ghosts as DiskWords}
use Rattle.opfs_records.specs.Replay.Built.{Built, named}
use Rattle.opfs_space.specs.Holders.{AreAllBelow}
use Rattle.opfs_desk_steps.specs.Parts.Held.{AreHeldWhole}
use Rattle.opfs_desk_steps.specs.Parts.Seen.{tree_in}
use Rattle.opfs_desk_steps.specs.declared.parts.parts.Ledger.{Ledger}
use Rattle.opfs_desk_steps.specs.declared.parts.parts.OpenPages.{OpenPages}

-- The data part lies on the disk behind the areas, and all blocks of files and pages lie in it.
pub record AreInside {D : Type 0} (w : DiskWords D) (l : Ledger D) (p : OpenPages) : Type 0 where
  pub part : IsDataPart l.journal.areas p.base
  pub pages : AreAllBelow (length p.space.used) p.swap
  pub files : AreBelow (length p.space.used) (named (tree_in l))
  pub end : p.base + 4096 * length p.space.used ≤ w.size l.journal.disk
  pub few : length p.space.used ≤ 2 ^ 32
  pub lies : (agent row : ℕ) → AllByRecursion (λ page. LiesIn p.base (w.size l.journal.disk) page.block) (pages_at agent row p.swap)

abbrev pub PartsLieInside : {D : Type 0} → DiskWords D → Type 0
PartsLieInside {D} w = (f : Fixed D) (recorded : Built) (l : Ledger D) (p : OpenPages) → AreHeldWhole w f recorded l p → AreInside w l p
