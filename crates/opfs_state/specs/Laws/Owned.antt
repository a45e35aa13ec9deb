-- What a call is about is of its agent's origin. This project's own.
use Rattle.std.specs.Prelude.{ℕ, List, IsTrue}
use Rattle.opfs_state_rows.specs.Changes.Asking.{AreOwnUnits}
use Rattle.opfs_hist.specs.declared.entry.Entry.{Entry}
use Rattle.opfs_hist.specs.declared.op.Op.{Op}
use Rattle.opfs_laws.specs.Lengths.Outlines.{in_lengths_of}
use Rattle.opfs_machine.specs.Histories.{Legal, may_enter, state_after}
use Rattle.opfs_machine.specs.Openings.{Opening}
use Rattle.opfs_state.specs.Laws.Room.{HasOwnBuckets}

abbrev pub CallsAreAboutOwnUnits : Type 0
CallsAreAboutOwnUnits =
    (o : Opening) (h : List Entry) (k : ℕ) (op : Op) → Legal o h → IsTrue (may_enter (state_after o h) k op) → HasOwnBuckets (state_after o h) k → AreOwnUnits (in_lengths_of (state_after o h)) k op
