-- What judging does not see. This project's own.
use Rattle.std.specs.Prelude.{◌≡◌, ℕ, ◌-◌}
use Rattle.opfs_hist.specs.declared.history.PendingSum.{PendingSum}
use Rattle.opfs_hist.specs.declared.op.Op.{Op}
use Rattle.opfs_laws.specs.Lengths.Bridge.{judged_in}
use Rattle.opfs_machine.specs.declared.state.Sizes.{Sizes}
use Rattle.opfs_machine.specs.Contents.{in_lengths}
use Rattle.opfs_state_rows.specs.Standing.Noted.{with_sum}
use Rattle.opfs_state_rows.specs.Standing.Seen.{Machine}
use Rattle.opfs_state.specs.Verdicts.Callers.{IsAgent}

-- The sum of an agent's local calls decides nothing about its next call.
abbrev pub NotesDecideNothing : Type 0
NotesDecideNothing =
    (m : Machine) (k : ℕ) (sum : PendingSum) (z : Sizes) (op : Op) → IsAgent m k → judged_in in_lengths (with_sum m (k - 1) sum) z k op ≡ judged_in in_lengths m z k op
