-- An agent's pending calls, that are taken in. This project's own.
use Rattle.std.specs.Prelude.{ℕ, ◌+◌, ◌≤◌, List, length, count_by}
use Rattle.opfs_books.specs.Laws.Books.{Fixed, calls_of}
use Rattle.opfs_hist.specs.Sums.{makes_row}
use Rattle.opfs_hist.specs.declared.entry.Entry.{Entry}
use Rattle.opfs_laws.specs.Histories.Unread.{ArePendingFor}
use Rattle.opfs_machine.specs.Agents.{agent_of}
use Rattle.opfs_machine.specs.Histories.{state_after}
use Rattle.opfs_outside.specs.declared.disk.Disk.{Ghosts as DiskWords}
use Rattle.opfs_records.specs.Replay.Built.{Built}
use Rattle.opfs_register.specs.Slots.{most_rows}
use Rattle.opfs_state.specs.Verdicts.Callers.{IsAgent}
use Rattle.opfs_desk_steps.specs.Parts.Held.{AreHeldWhole}
use Rattle.opfs_desk_steps.specs.Parts.Seen.{machine_in}
use Rattle.opfs_desk_steps.specs.declared.parts.parts.Ledger.{Ledger}
use Rattle.opfs_desk_steps.specs.declared.parts.parts.OpenPages.{OpenPages}

-- They may be taken in, over parts that are kept: there is such an agent, and it has room for their entries and rows.
pub record MayTakeInto {D : Type 0} (w : DiskWords D) (l : Ledger D) (k : ℕ) (calls : List Entry) : Type 0 where
  pub fixed : Fixed D
  pub recorded : Built
  pub pages : OpenPages
  pub are : AreHeldWhole w fixed recorded l pages
  pub pending : ArePendingFor w.tells (state_after fixed.opening l.books.history) k calls
  pub agent : IsAgent (machine_in l) k
  pub last : k ≤ 64
  pub entries : calls_of k l.books.history + length calls ≤ 60000002
  pub rows : length (agent_of (machine_in l) k).own + count_by makes_row calls ≤ most_rows
