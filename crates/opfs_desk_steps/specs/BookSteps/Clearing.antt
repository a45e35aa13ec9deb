-- Units that are cleared for a call, once its agent's pending calls are taken in. This project's own.
use Rattle.std.specs.Prelude.{◌≡◌, false, List, [], ◌∷◌, ◌++◌, map, fold, Ok, IsTrue, is_some}
use Rattle.opfs_base.specs.Texts.{Text}
use Rattle.opfs_books.specs.Laws.Books.{Fixed, IsPlaced}
use Rattle.opfs_books.specs.Laws.Laws.{failed}
use Rattle.opfs_state_rows.specs.Changes.Asking.{AreOwnUnits}
use Rattle.opfs_hist.specs.declared.entry.Entry.{Entry}
use Rattle.opfs_laws.specs.Lengths.Kept.{Kept}
use Rattle.opfs_machine.specs.declared.own.Own.{Own}
use Rattle.opfs_machine.specs.declared.state.State.{State}
use Rattle.opfs_machine.specs.Agents.{agent_of}
use Rattle.opfs_machine.specs.Histories.{IsCall, state_after, may_enter, is_disk_op}
use Rattle.opfs_machine.specs.Rows.{row_at}
use Rattle.opfs_machine.specs.Runs.{eviction}
use Rattle.opfs_machine.specs.Steps.{judged, evicted, step}
use Rattle.opfs_machine.specs.Sums.{is_persistent}
use Rattle.opfs_machine.specs.Victims.{is_callers}
use Rattle.opfs_outside.specs.declared.disk.Disk.{Ghosts as DiskWords}
use Rattle.opfs_records.specs.Replay.Built.{Built}
use Rattle.opfs_tree.specs.Rows.{Rows as Tree, without}
use Rattle.opfs_state.specs.Applied.{IsPrepared}
use Rattle.opfs_state.specs.Verdicts.Callers.{IsAgent}
use Rattle.opfs_desk_steps.specs.Parts.Acted.{AreCleared}
use Rattle.opfs_desk_steps.specs.Parts.Asked.{AreEvictions}
use Rattle.opfs_desk_steps.specs.Parts.Held.{AreHeldAt, AreHeldWhole}
use Rattle.opfs_desk_steps.specs.Parts.Seen.{machine_in, tree_in, units_in}
use Rattle.opfs_desk_steps.specs.declared.parts.call.Eviction.{Eviction}
use Rattle.opfs_desk_steps.specs.declared.parts.parts.Ledger.{Ledger}
use Rattle.opfs_desk_steps.specs.declared.parts.parts.OpenPages.{OpenPages}

-- A call is not refused, these units are cleared for it, and the disk may fail in it.
pub record IsJudged (s : State Text Own) (e : Entry) (units : List Text) : Type 0 where
  pub live : IsTrue (agent_of s e.agent).live
  pub fitting : IsTrue (may_enter s e.agent e.op)
  pub judged : judged s e.agent e.op ≡ Ok units
  pub disk : IsTrue (is_disk_op s e.agent e.op)

-- Over parts that are kept.
pub record MayMakeWay {D : Type 0} (w : DiskWords D) (l : Ledger D) (e : Entry) (clearing : List Eviction) : Type 0 where
  pub fixed : Fixed D
  pub recorded : Built
  pub pages : OpenPages
  pub are : AreHeldWhole w fixed recorded l pages
  pub judged : IsJudged (state_after fixed.opening l.books.history) e (units_in clearing)
  pub prepared : IsPrepared l.books.state e.agent e.op
  pub evictions : AreEvictions clearing
  pub placed : IsPlaced l.books.history e.agent

-- A unit's turn to be cleared has come, after these, for a call that the disk may fail in: it has a root, is not persistent and is
-- none of the caller's, and what every reached state keeps is kept after it.
pub record IsTurn {D : Type 0} (base : State Text Own) (gone : List Text) (l : Ledger D) (e : Entry) (unit : Text) : Type 0 where
  pub fault : IsCall base gone (failed e)
  pub rest : List Text
  pub victims : (step base e.agent e.op).victims ≡ gone ++ unit ∷ rest
  pub root : IsTrue (is_some (row_at (machine_in l) (unit, [])))
  pub mode : is_persistent (machine_in l) unit ≡ false
  pub after : Kept (evicted (machine_in l) unit)
  pub other : is_callers (agent_of (machine_in l) e.agent).key unit ≡ false

-- All stands ready for the call, which is about its own agent's units.
pub record IsStillReady {D : Type 0} (l : Ledger D) (e : Entry) : Type 0 where
  pub prepared : IsPrepared l.books.state e.agent e.op
  pub own : AreOwnUnits (machine_in l) e.agent e.op
  pub agent : IsAgent (machine_in l) e.agent
  pub placed : IsPlaced l.books.history e.agent

-- Over parts that are kept, while no gate is in doubt.
pub record MayEvict {D : Type 0} (w : DiskWords D) (l : Ledger D) (e : Entry) (c : Eviction) : Type 0 where
  pub fixed : Fixed D
  pub recorded : Built
  pub base : State Text Own
  pub gone : List Text
  pub pages : OpenPages
  pub are : AreHeldAt w fixed recorded base gone l pages
  pub turn : IsTurn base gone l e c.unit
  pub ready : IsStillReady l e
  pub told : c.gone.entry ≡ eviction c.unit
  pub settled : l.journal.in_doubt ≡ false

-- The call is entered as one in which the disk failed, and the parts are kept.
pub record IsEnteredFailed {D : Type 0} (w : DiskWords D) (f : Fixed D) (recorded : Built) (e : Entry) (old new : Ledger D) (p : OpenPages) : Type 0 where
  pub grown : new.books.history ≡ old.books.history ++ failed e ∷ []
  pub are : AreHeldWhole w f recorded new p

-- The disk may fail in a call before any unit is cleared, over parts that are kept.
pub record MayEndDoubt {D : Type 0} (w : DiskWords D) (l : Ledger D) (e : Entry) : Type 0 where
  pub fixed : Fixed D
  pub recorded : Built
  pub pages : OpenPages
  pub are : AreHeldWhole w fixed recorded l pages
  pub agent : IsAgent (machine_in l) e.agent
  pub placed : IsPlaced l.books.history e.agent

-- All these units may be cleared for a call, over parts that are kept, while no gate is in doubt.
pub record MayClearAll {D : Type 0} (w : DiskWords D) (l : Ledger D) (e : Entry) (clearing : List Eviction) : Type 0 where
  pub way : MayMakeWay w l e clearing
  pub settled : l.journal.in_doubt ≡ false

-- The rows once a unit is cleared.
abbrev pub cleared_from : Tree → Text → Tree
cleared_from t unit = without (unit, []) t

-- Some of them are cleared since a start, and the others are left.
pub record IsOnWay {D : Type 0} (w : DiskWords D) (start l : Ledger D) (e : Entry) (all rest : List Eviction) : Type 0 where
  pub done : List Text
  pub split : units_in all ≡ done ++ units_in rest
  pub entries : l.books.history ≡ start.books.history ++ map eviction done
  pub machine : machine_in l ≡ fold evicted (machine_in start) done
  pub tree : tree_in l ≡ fold cleared_from (tree_in start) done
  pub ready : IsStillReady l e
  pub settled : l.journal.in_doubt ≡ false
  pub evictions : AreEvictions rest
  pub cleared : (f : Fixed D) (recorded : Built) (p : OpenPages) → AreHeldWhole w f recorded start p → AreCleared w f done start l p
