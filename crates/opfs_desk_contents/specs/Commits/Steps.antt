-- A call that stores a row's content from its pages, step by step. This project's own.
use Rattle.std.specs.Prelude.{◌≡◌, ℕ, ◌≤◌, cond, Bool, true, false, List, [], ◌++◌, Some, None}
use Rattle.std.specs.Vec.{vec_capacity}
use Rattle.opfs_base.specs.Blocks.{blocks}
use Rattle.opfs_base.specs.Texts.{Text}
use Rattle.opfs_base.specs.declared.extents.Extent.{Extent}
use Rattle.opfs_blocks.specs.Sets.{Used, blocks_of, marked}
use Rattle.opfs_books.specs.Laws.Books.{Fixed}
use Rattle.opfs_store.specs.Copies.Copies.{IsPaged}
use Rattle.opfs_data.specs.Rows.{row_of, kept_count, OthersStay}
use Rattle.opfs_data.specs.Writes.{HasBytes, WriteList}
use Rattle.opfs_hist.specs.declared.entry.Entry.{Entry}
use Rattle.opfs_machine.specs.Histories.{state_after}
use Rattle.opfs_machine.specs.Replies.{row_named}
use Rattle.opfs_outside.specs.declared.disk.Disk.{Ghosts as DiskWords}
use Rattle.opfs_pages.specs.Copies.{IsCopy}
use Rattle.opfs_pages.specs.Writing.Puts.{IsReady as IsPutReady}
use Rattle.opfs_records.specs.Replay.Built.{Built}
use Rattle.opfs_pages.specs.RowCalls.Plans.{shelf, AreGotten}
use Rattle.opfs_pages.specs.RowCalls.Rows.{IsPutOf}
use Rattle.opfs_space.specs.Spaces.{SpaceSeen}
use Rattle.opfs_state.specs.Reading.{row_file}
use Rattle.opfs_laws.specs.Steady.Steady.{row_bytes}
use Rattle.opfs_work.specs.Works.{WorkingCopy}
use Rattle.opfs_desk_contents.specs.Putting.{all_of}
use Rattle.opfs_desk_contents.specs.declared.planning.Plan.{Plan}
use Rattle.opfs_desk_steps.specs.Parts.Asked.{IsAsked}
use Rattle.opfs_desk_steps.specs.Parts.Held.{AreHeldWhole}
use Rattle.opfs_desk_steps.specs.Parts.Seen.{machine_in, tree_in}
use Rattle.opfs_desk_steps.specs.declared.parts.call.ReadyCall.{ReadyCall}
use Rattle.opfs_desk_steps.specs.declared.parts.parts.OpenPages.{OpenPages}
use Rattle.opfs_desk_steps.specs.declared.parts.parts.DeskParts.{DeskParts}

-- A row's content of so many bytes is planned: its pages stand ready, and have their blocks or wait for them; its file is known,
-- and there is room for the runs of its blocks.
pub record IsContentPlanned {D : Type 0} (w : DiskWords D) (p : DeskParts D) (agent row size : ℕ) (plan : Plan) : Type 0 where
  pub count : plan.put.pages ≡ blocks size
  pub ready : IsPutReady w.tells (w.content p.ledger.journal.disk) p.pages.base p.pages.swap agent row plan.put.pages plan.put.writes plan.put.moves (vec_capacity plan.put.extents)
  pub bytes : HasBytes plan.put.writes []
  pub gotten : AreGotten plan.put.taken (machine_in p.ledger) (shelf [] (tree_in p.ledger) p.pages.swap) p.pages.space p.pages.base (w.size p.ledger.journal.disk) agent row plan.put.pages plan.put.writes [] plan.put.extents.items
  pub file : row_file (machine_in p.ledger) agent row ≡ Some plan.place
  pub empty : plan.runs.items ≡ []
  pub none : plan.copy.items ≡ []
  pub room : plan.put.pages ≤ vec_capacity plan.runs
  pub space : plan.put.pages ≤ vec_capacity plan.copy

-- The pages are those of the row that a call names, once its agent's pending calls are taken in.
abbrev pub IsContentFor : {D : Type 0} → DiskWords D → DeskParts D → List Entry → ReadyCall → WorkingCopy → WriteList → Type 0
IsContentFor {D} w p calls c work writes =
    (f : Fixed D) (recorded : Built) → AreHeldWhole w f recorded p.ledger p.pages → IsAsked w.tells f.opening p.ledger.books.history calls p.ledger.books.state c work []
    → (bytes : Text) → row_bytes (state_after f.opening (p.ledger.books.history ++ calls)) c.agent (row_named c.op) ≡ Some bytes
    → IsPutOf w.tells work (w.content p.ledger.journal.disk) p.pages.base p.pages.swap c.agent (row_named c.op) (all_of work.length) writes bytes bytes

-- A working copy after a flush: the same bytes at the same position, and nothing is reserved.
pub record IsFlushed (work left : WorkingCopy) : Type 0 where
  pub copy : (bytes : Text) → IsCopy bytes work → IsCopy bytes left
  pub size : left.length ≡ work.length
  pub position : left.position ≡ work.position
  pub reserve : left.reserve ≡ 0
  pub paged : IsPaged left

-- The used blocks once a file whose blocks were these has those of other runs: where no other row is open on it, the old ones are
-- free but for those that it has again.
abbrev pub used_left : Bool → List Extent → List Extent → Used → Used
used_left alone gone runs used = cond alone (marked true (blocks_of runs) (marked false (blocks_of gone) used)) used

-- The space after that: the new ones are no page's alone any more.
abbrev pub space_left : Bool → List Extent → List Extent → SpaceSeen → SpaceSeen
space_left alone gone runs space = record space { used = used_left alone gone runs space.used; own = marked false (blocks_of runs) space.own }

-- A row whose content was stored in these runs, in place of those of its file that are gone. It goes with its pages, or its working
-- copy is flushed.
pub record LeavesRow (p q : OpenPages) (agent row : ℕ) (alone : Bool) (former runs : List Extent) (ends : Bool) (work left : WorkingCopy) : Type 0 where
  pub base : q.base ≡ p.base
  pub space : q.space ≡ space_left alone former runs p.space
  pub others : OthersStay agent row p.swap q.swap
  pub kept : kept_count q.swap ≤ kept_count p.swap
  pub gone : ends ≡ true → row_of agent row q.swap ≡ None
  pub same : ends ≡ false → row_of agent row q.swap ≡ row_of agent row p.swap
  pub flushed : ends ≡ false → IsFlushed work left
