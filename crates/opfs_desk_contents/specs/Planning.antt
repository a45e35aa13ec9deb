-- What is planned of a row's content before a call stores it, over parts that are kept. This project's own.
use Rattle.std.specs.Prelude.{◌≡◌, ℕ, ◌^◌, ◌<◌, ◌≤◌, true, [], Some, is_some}
use Rattle.std.specs.Vec.{vec_capacity}
use Rattle.opfs_base.specs.Blocks.{blocks}
use Rattle.opfs_data.specs.Calls.{Reads}
use Rattle.opfs_data.specs.Rows.{row_of}
use Rattle.opfs_desk_contents.specs.Putting.{IsStagedWhole}
use Rattle.opfs_desk_contents.specs.declared.planning.Plan.{Plan}
use Rattle.opfs_desk_steps.specs.Parts.Seen.{machine_in, tree_in}
use Rattle.opfs_desk_steps.specs.RowLaws.Inside.{AreInside}
use Rattle.opfs_desk_steps.specs.declared.parts.parts.DeskParts.{DeskParts}
use Rattle.opfs_outside.specs.declared.disk.Disk.{Ghosts as DiskWords}
use Rattle.opfs_pages.specs.HistoryLaws.Spaced.{AreSpaced}
use Rattle.opfs_pages.specs.RowCalls.Plans.{shelf, AreGotten}
use Rattle.opfs_pages.specs.Stages.{IsReady}
use Rattle.opfs_pages.specs.Writing.Puts.{HasSamePages, IsReady as IsPutReady}
use Rattle.opfs_space.specs.Room.{Machine}
use Rattle.opfs_state.specs.Reading.{row_file}
use Rattle.opfs_state.specs.Verdicts.Callers.{IsAgent}
use Rattle.opfs_tree.specs.Rows.{Rows as Tree}
use Rattle.opfs_work.specs.Works.{WorkingCopy}

-- It may be planned: the caller's row is open on a file, its pages may be staged by its working copy, and the parts lie inside.
pub record MayPlanContent {D : Type 0} (w : DiskWords D) (p : DeskParts D) (agent row : ℕ) (work : WorkingCopy) : Type 0 where
  pub small : work.length < 2 ^ 63
  pub inside : AreInside w p.ledger p.pages
  pub ready : IsReady work p.pages.swap p.pages.space agent row p.pages.base (w.size p.ledger.journal.disk) p.ledger.journal.areas
  pub opened : is_some (row_of agent row p.pages.swap) ≡ true
  pub caller : IsAgent (machine_in p.ledger) agent
  pub there : is_some (row_file (machine_in p.ledger) agent row) ≡ true

-- Whatever comes of it, the disk was only read, the rows have the pages of before, and who has which block stays right.
pub record LeavesContentPlanned {D : Type 0} (w : DiskWords D) (p q : DeskParts D) (agent row : ℕ) : Type 0 where
  pub books : q.ledger.books ≡ p.ledger.books
  pub freed : q.ledger.freed ≡ p.ledger.freed
  pub base : q.pages.base ≡ p.pages.base
  pub reads : Reads w p.ledger.journal q.ledger.journal
  pub pages : HasSamePages agent row p.pages.swap q.pages.swap
  pub spaced : (m : Machine) (recorded : Tree) → AreSpaced m (shelf recorded (tree_in p.ledger) p.pages.swap) p.pages.space → AreSpaced m (shelf recorded (tree_in p.ledger) q.pages.swap) q.pages.space

-- All its pages are staged and ready; they have their blocks or wait for them; its file is known, and there is room for the runs of
-- its blocks, twice.
pub record IsContentReady {D : Type 0} (w : DiskWords D) (p q : DeskParts D) (agent row : ℕ) (work : WorkingCopy) (plan : Plan) : Type 0 where
  pub staged : IsStagedWhole w p agent row work plan.put.writes
  pub ready : IsPutReady w.tells (w.content q.ledger.journal.disk) q.pages.base q.pages.swap agent row (blocks work.length) plan.put.writes plan.put.moves (vec_capacity plan.put.extents)
  pub count : plan.put.pages ≡ blocks work.length
  pub gotten : (m : Machine) (recorded : Tree) → AreSpaced m (shelf recorded (tree_in p.ledger) p.pages.swap) p.pages.space
      → AreGotten plan.put.taken m (shelf recorded (tree_in p.ledger) q.pages.swap) q.pages.space q.pages.base (w.size p.ledger.journal.disk) agent row (blocks work.length) plan.put.writes [] plan.put.extents.items
  pub file : row_file (machine_in p.ledger) agent row ≡ Some plan.place
  pub empty : plan.runs.items ≡ []
  pub none : plan.copy.items ≡ []
  pub room : blocks work.length ≤ vec_capacity plan.runs
  pub space : blocks work.length ≤ vec_capacity plan.copy
