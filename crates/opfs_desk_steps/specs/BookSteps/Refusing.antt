-- A call that is refused, or in which the disk failed. This project's own.
use Rattle.std.specs.Prelude.{◌≡◌, true, List}
use Rattle.opfs_base.specs.Texts.{Text}
use Rattle.opfs_books.specs.Laws.Books.{Fixed, IsNext, IsPlaced}
use Rattle.opfs_books.specs.Laws.Laws.{HasRisen}
use Rattle.opfs_hist.specs.declared.entry.Entry.{Entry}
use Rattle.opfs_machine.specs.declared.own.Own.{Own}
use Rattle.opfs_machine.specs.declared.state.State.{State}
use Rattle.opfs_machine.specs.Steps.{is_refusal}
use Rattle.opfs_outside.specs.declared.disk.Disk.{Ghosts as DiskWords}
use Rattle.opfs_records.specs.Replay.Built.{Built}
use Rattle.opfs_state.specs.Verdicts.Callers.{IsAgent}
use Rattle.opfs_desk_steps.specs.Parts.Held.{AreHeldAt}
use Rattle.opfs_desk_steps.specs.Parts.Seen.{machine_in, book_in}
use Rattle.opfs_desk_steps.specs.declared.parts.parts.Ledger.{Ledger}
use Rattle.opfs_desk_steps.specs.declared.parts.parts.OpenPages.{OpenPages}

-- Its entry may come now, after these evictions. One that tells of a disk fault has its own rise of the count.
pub record IsRefused {D : Type 0} (w : DiskWords D) (f : Fixed D) (base : State Text Own) (gone : List Text) (l : Ledger D) (e : Entry) : Type 0 where
  pub next : IsNext w.tells base gone e
  pub risen : HasRisen w f (book_in l) e l.journal

-- Over parts that are kept.
pub record MayRefuse {D : Type 0} (w : DiskWords D) (l : Ledger D) (e : Entry) : Type 0 where
  pub fixed : Fixed D
  pub recorded : Built
  pub base : State Text Own
  pub gone : List Text
  pub pages : OpenPages
  pub are : AreHeldAt w fixed recorded base gone l pages
  pub refuses : is_refusal e.reply ≡ true
  pub placed : IsPlaced l.books.history e.agent
  pub agent : IsAgent (machine_in l) e.agent
