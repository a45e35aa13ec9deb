-- What is kept back is committed alone. This project's own.
use Rattle.std.specs.Prelude.{◌≡◌, false, List}
use Rattle.opfs_base.specs.Texts.{Text}
use Rattle.opfs_books.specs.Laws.Books.{Fixed}
use Rattle.opfs_machine.specs.declared.own.Own.{Own}
use Rattle.opfs_machine.specs.declared.state.State.{State}
use Rattle.opfs_outside.specs.declared.disk.Disk.{Ghosts as DiskWords}
use Rattle.opfs_records.specs.Replay.Built.{Built}
use Rattle.opfs_desk_steps.specs.Parts.Held.{AreHeldAt}
use Rattle.opfs_desk_steps.specs.Parts.Seen.{book_in}
use Rattle.opfs_desk_steps.specs.declared.parts.parts.Ledger.{Ledger}
use Rattle.opfs_desk_steps.specs.declared.parts.parts.OpenPages.{OpenPages}

-- It may be, over parts that are kept, while no gate is in doubt.
pub record MayCommitKept {D : Type 0} (w : DiskWords D) (l : Ledger D) : Type 0 where
  pub fixed : Fixed D
  pub recorded : Built
  pub base : State Text Own
  pub gone : List Text
  pub pages : OpenPages
  pub are : AreHeldAt w fixed recorded base gone l pages
  pub settled : l.journal.in_doubt ≡ false

-- The records build the rows as they are stored now, over the same pages.
pub record AreRecorded {D : Type 0} (w : DiskWords D) (f : Fixed D) (base : State Text Own) (gone : List Text) (l : Ledger D) (p : OpenPages) : Type 0 where
  pub are : AreHeldAt w f (book_in l).rows base gone l p
