-- There was no memory, and nothing was done.
use Rattle.std.proofs.Common.{refl}
use Rattle.opfs_books.specs.Laws.Books.{Fixed}
use Rattle.opfs_outside.specs.declared.disk.Disk.{Ghosts as DiskWords}
use Rattle.opfs_records.specs.Replay.Built.{Built}
use Rattle.opfs_desk_steps.specs.Parts.Acted.{IsUnacted}
use Rattle.opfs_desk_steps.specs.Parts.Held.{AreHeldWhole}
use Rattle.opfs_desk_steps.specs.declared.parts.parts.DeskParts.{DeskParts}
use Rattle.opfs_desk_steps.proofs.book_steps.Ways.{reads-here}

pub unacted : {D : Type 0} (w : DiskWords D) (f : Fixed D) (recorded : Built) (old : DeskParts D) → AreHeldWhole w f recorded old.ledger old.pages → IsUnacted w f old old
unacted w f recorded old held = record { recorded = recorded; are = held; entries = refl; reads = reads-here w old.ledger.journal }
