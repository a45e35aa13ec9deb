-- A call whose units are cleared, and whose entry may come now. This project's own.
use Rattle.std.specs.Prelude.{◌≡◌, ◌<◌, true, List, fold, length}
use Rattle.opfs_base.specs.Texts.{Text}
use Rattle.opfs_books.specs.Laws.Books.{Fixed, IsNext, IsPlaced}
use Rattle.opfs_state_rows.specs.Changes.Allowed.{MayApply, IsSized}
use Rattle.opfs_hist.specs.declared.entry.Entry.{Entry}
use Rattle.opfs_laws.specs.Lengths.Kept.{Kept}
use Rattle.opfs_machine.specs.declared.own.Own.{Own}
use Rattle.opfs_machine.specs.declared.state.Sizes.{Sizes}
use Rattle.opfs_machine.specs.declared.state.State.{State}
use Rattle.opfs_machine.specs.Agents.{agent_of}
use Rattle.opfs_machine.specs.Replies.{sizes_of}
use Rattle.opfs_machine.specs.Steps.{evicted}
use Rattle.opfs_outside.specs.declared.disk.Disk.{Ghosts as DiskWords}
use Rattle.opfs_records.specs.Replay.Built.{Built}
use Rattle.opfs_register.specs.Slots.{most_rows}
use Rattle.opfs_state.specs.Applied.{IsPrepared}
use Rattle.opfs_state.specs.Verdicts.Callers.{IsAgent}
use Rattle.opfs_desk_steps.specs.Parts.Held.{AreHeldAt}
use Rattle.opfs_desk_steps.specs.Parts.Seen.{machine_in}
use Rattle.opfs_desk_steps.specs.declared.parts.parts.Ledger.{Ledger}
use Rattle.opfs_desk_steps.specs.declared.parts.parts.OpenPages.{OpenPages}

-- The shared state may change by a call that is not refused: it is judged, has room, and all stands ready.
pub record MayChange {D : Type 0} (l : Ledger D) (e : Entry) (z : Sizes) : Type 0 where
  pub agent : IsAgent (machine_in l) e.agent
  pub kept : Kept (machine_in l)
  pub may : MayApply (machine_in l) z e.agent e.op
  pub sized : IsSized (machine_in l) z e.agent e.op
  pub prepared : IsPrepared l.books.state e.agent e.op
  pub few : length (agent_of (machine_in l) e.agent).own < most_rows
  pub placed : IsPlaced l.books.history e.agent

-- A call's entry may come now: it is what the machine answers after these evictions, with these sizes of the row that it names.
pub record IsAnswered {D : Type 0} (w : DiskWords D) (base : State Text Own) (gone : List Text) (l : Ledger D) (e : Entry) (z : Sizes) : Type 0 where
  pub next : IsNext w.tells base gone e
  pub turn : e.turn ≡ true
  pub sizes : z ≡ sizes_of (fold evicted base gone) e.agent e.op
  pub change : MayChange l e z

-- Over parts that are kept.
pub record MayAnswer {D : Type 0} (w : DiskWords D) (l : Ledger D) (e : Entry) (z : Sizes) : Type 0 where
  pub fixed : Fixed D
  pub recorded : Built
  pub base : State Text Own
  pub gone : List Text
  pub pages : OpenPages
  pub are : AreHeldAt w fixed recorded base gone l pages
  pub answered : IsAnswered w base gone l e z
