-- The working copy of a row that a call opens, over parts that are kept. This project's own.
use Rattle.std.specs.Prelude.{◌≡◌, ℕ, ◌<◌, true, List, ◌∷◌, ◌++◌, [], fold, length}
use Rattle.opfs_base.specs.Blocks.{blocks}
use Rattle.opfs_base.specs.Texts.{Text}
use Rattle.opfs_books.specs.Laws.Books.{Fixed}
use Rattle.opfs_store.specs.Copies.Copies.{StandsFor, IsPaged}
use Rattle.opfs_hist.specs.declared.entry.Entry.{Entry}
use Rattle.opfs_hist.specs.declared.op.Op.{Op}
use Rattle.opfs_hist.specs.declared.op.Op.TheVariants as op
use Rattle.opfs_machine.specs.declared.own.Own.{Own}
use Rattle.opfs_machine.specs.declared.state.Sizes.{Sizes}
use Rattle.opfs_machine.specs.declared.state.State.{State}
use Rattle.opfs_machine.specs.Contents.{in_bytes}
use Rattle.opfs_machine.specs.Rulings.{first_reserve}
use Rattle.opfs_machine.specs.Steps.{evicted}
use Rattle.opfs_outside.specs.declared.disk.Disk.{Ghosts as DiskWords}
use Rattle.opfs_records.specs.Replay.Built.{Built}
use Rattle.opfs_work.specs.Pages.{page_at, is_far}
use Rattle.opfs_work.specs.Works.{WorkingCopy}
use Rattle.opfs_desk_steps.specs.declared.parts.parts.Ledger.{Ledger}
use Rattle.opfs_desk_steps.specs.declared.parts.parts.OpenPages.{OpenPages}
use Rattle.opfs_desk_steps.specs.RowLaws.Opens.{MayOpen, next_row, opened_bytes}

-- The blocks that are kept for the row: as many as a stream begins with.
abbrev pub opened_reserve : State Text Own → Op → ℕ
opened_reserve s (op.CreateWritable at keep) = first_reserve in_bytes s at keep
opened_reserve s o = 0

-- All pages of the copy are elsewhere; it has the row's size and reserve, and stands at its beginning.
pub record IsOpenedCopy (s : State Text Own) (o : Op) (work : WorkingCopy) : Type 0 where
  pub size : work.length ≡ length (opened_bytes s o)
  pub position : work.position ≡ 0
  pub reserve : work.reserve ≡ opened_reserve s o
  pub far : (k : ℕ) → k < blocks work.length → is_far (page_at work.pages k) ≡ true
  pub paged : IsPaged work

abbrev pub OpenedCopiesStand : {D : Type 0} → DiskWords D → Type 0
OpenedCopiesStand {D} w =
    (f : Fixed D) (recorded : Built) (base : State Text Own) (gone : List Text) (l : Ledger D) (p new : OpenPages) (e : Entry) (z : Sizes) (work : WorkingCopy)
    → MayOpen w f recorded base gone l p new e z → IsOpenedCopy (fold evicted base gone) e.op work
    → StandsFor w.tells f.opening (l.books.history ++ e ∷ []) e.agent (next_row (fold evicted base gone) e.agent) work
