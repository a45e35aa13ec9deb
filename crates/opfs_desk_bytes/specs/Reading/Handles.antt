-- Access handles through whole calls. This project's own.
use Rattle.std.specs.Prelude.{List}
use Rattle.opfs_store.specs.Acts.Acting.{IsActed}
use Rattle.opfs_pages.specs.HistoryLaws.Handles.{AreHandlesWhole}
use Rattle.opfs_hist.specs.declared.entry.Entry.{Entry}
use Rattle.opfs_hist.specs.declared.reply.Reply.{Reply}
use Rattle.opfs_laws.specs.Histories.Unread.{IsTold, ArePendingFor}
use Rattle.opfs_machine.specs.Histories.{state_after}
use Rattle.opfs_machine.specs.Openings.{Opening}
use Rattle.opfs_machine.specs.Runs.{Call}

-- A shared call with its agent's pending calls leaves each page of each access handle one that the store tells.
abbrev pub HandlesGoOn : Type 0 → Type 0
HandlesGoOn tells =
    (o : Opening) (h pending new : List Entry) (c : Call) (answered : Reply) → IsTold tells o h → ArePendingFor tells (state_after o h) c.agent pending → IsActed tells o h pending c answered new
    → AreHandlesWhole o h → AreHandlesWhole o new
