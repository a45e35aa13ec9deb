-- The parts of the shared store as they are seen. This project's own.
use Rattle.std.specs.Prelude.{List, map}
use Rattle.opfs_base.specs.Texts.{Text}
use Rattle.opfs_books.specs.Laws.Books.{Book}
use Rattle.opfs_books.specs.Seen.{book}
use Rattle.opfs_pages.specs.HistoryLaws.Spaced.{Shelf}
use Rattle.opfs_machine.specs.Runs.{Call}
use Rattle.opfs_pages.specs.RowCalls.Plans.{shelf}
use Rattle.opfs_state_rows.specs.Standing.Seen.{Machine}
use Rattle.opfs_tree.specs.Rows.{Rows as Tree}
use Rattle.opfs_desk_steps.specs.declared.parts.call.Eviction.{Eviction}
use Rattle.opfs_desk_steps.specs.declared.parts.call.ReadyCall.{ReadyCall}
use Rattle.opfs_desk_steps.specs.declared.parts.parts.Ledger.{Ledger}
use Rattle.opfs_desk_steps.specs.declared.parts.parts.OpenPages.{OpenPages}

-- The machine in lengths, the rows of its tree with their blocks, and the books.
abbrev pub machine_in : {D : Type 0} → Ledger D → Machine
machine_in l = l.books.state.store.machine

abbrev pub tree_in : {D : Type 0} → Ledger D → Tree
tree_in l = l.books.state.store.tree

abbrev pub book_in : {D : Type 0} → Ledger D → Book
book_in l = book l.books.history (machine_in l) (tree_in l) l.books.commits l.books.place

-- What has data blocks, where the records build these rows.
abbrev pub shelf_in : {D : Type 0} → Tree → Ledger D → OpenPages → Shelf
shelf_in recorded l p = shelf recorded (tree_in l) p.swap

-- The words of a call, and the units that are cleared for it.
abbrev pub call_in : ReadyCall → Call
call_in c = record { agent = c.agent; number = c.number; op = c.op }

abbrev pub units_in : List Eviction → List Text
units_in clearing = map (λ (x : Eviction). x.unit) clearing
