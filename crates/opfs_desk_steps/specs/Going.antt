-- A call through its steps: its agent's pending calls are taken in, its units are cleared, and its entry is added. This project's
-- own.
use Rattle.std.specs.Prelude.{◌≡◌, List, [], ◌∷◌, ◌++◌, fold, map, None}
use Rattle.opfs_books.specs.Laws.Books.{Fixed, AreBooks}
use Rattle.opfs_state_rows.specs.Changes.Changed.{tree_by}
use Rattle.opfs_hist.specs.declared.entry.Entry.{Entry}
use Rattle.opfs_machine.specs.declared.state.Sizes.{Sizes}
use Rattle.opfs_machine.specs.Agents.{counted}
use Rattle.opfs_machine.specs.Contents.{in_lengths}
use Rattle.opfs_machine.specs.Effects.{effect}
use Rattle.opfs_machine.specs.Runs.{eviction}
use Rattle.opfs_outside.specs.declared.disk.Disk.{Ghosts as DiskWords}
use Rattle.opfs_records.specs.Replay.Built.{Built}
use Rattle.opfs_state_rows.specs.Standing.Seen.{lines_of}
use Rattle.opfs_state.specs.Applied.{IsPrepared}
use Rattle.opfs_tree.specs.Rows.{IsInOrder}
use Rattle.opfs_desk_steps.specs.Parts.Acted.{AreCleared}
use Rattle.opfs_desk_steps.specs.Parts.Held.{AreTied, AreHeldWhole}
use Rattle.opfs_desk_steps.specs.Parts.Seen.{machine_in, tree_in, book_in, units_in}
use Rattle.opfs_desk_steps.specs.declared.parts.call.ReadyCall.{ReadyCall}
use Rattle.opfs_desk_steps.specs.declared.parts.parts.Ledger.{Ledger}
use Rattle.opfs_desk_steps.specs.declared.parts.parts.OpenPages.{OpenPages}
use Rattle.opfs_desk_steps.specs.BookSteps.Clearing.{cleared_from}
use Rattle.opfs_desk_steps.specs.Acting.{HasTaken}

-- Its agent's pending calls were taken in.
pub record HasTakenIn {D : Type 0} (w : DiskWords D) (f : Fixed D) (recorded : Built) (l mid : Ledger D) (p : OpenPages) (calls : List Entry) (c : ReadyCall) : Type 0 where
  pub taken : HasTaken l mid calls
  pub held : AreHeldWhole w f recorded mid p
  pub prepared : IsPrepared mid.books.state c.agent c.op
  pub tree : tree_in mid ≡ tree_in l

-- Its units were cleared.
pub record HasMadeWay {D : Type 0} (w : DiskWords D) (f : Fixed D) (mid back : Ledger D) (p : OpenPages) (c : ReadyCall) : Type 0 where
  pub entries : back.books.history ≡ mid.books.history ++ map eviction (units_in c.clearing.items)
  pub prepared : IsPrepared back.books.state c.agent c.op
  pub tree : tree_in back ≡ fold cleared_from (tree_in mid) (units_in c.clearing.items)
  pub cleared : AreCleared w f (units_in c.clearing.items) mid back p

-- And it was entered, over the pages of before, and stored nothing.
pub record HasTold {D : Type 0} (w : DiskWords D) (f : Fixed D) (recorded : Built) (back new : Ledger D) (p : OpenPages) (e : Entry) (z : Sizes) : Type 0 where
  pub journal : new.journal ≡ back.journal
  pub entries : new.books.history ≡ back.books.history ++ e ∷ []
  pub machine : machine_in new ≡ counted (effect in_lengths (machine_in back) z e.agent e.op) e.agent
  pub tree : tree_in new ≡ tree_by (machine_in back) (tree_in back) e.agent e.op z None
  pub idle : new.books.state.store.prepared.place ≡ None
  pub books : AreBooks w f recorded (book_in new) new.journal
  pub tied : AreTied w f new p
  pub fresh : new.books.commits.count ≡ 0 → recorded ≡ (book_in new).rows

-- The machine has the rows of the tree, which are in order.
pub record IsTidy {D : Type 0} (l : Ledger D) : Type 0 where
  pub lines : (machine_in l).rows ≡ lines_of (tree_in l)
  pub order : IsInOrder (tree_in l)
