-- What is judged of a call. This project's own.
use Rattle.std.specs.Prelude.{◌≡◌, ℕ, Option, Some, None, Ok, Err}
use Rattle.opfs_hist.specs.declared.op.Op.{Op}
use Rattle.opfs_locks.specs.Taking.{Lock}
use Rattle.opfs_machine.specs.declared.state.Need.{Need}
use Rattle.opfs_machine.specs.declared.state.Sizes.{Sizes}
use Rattle.opfs_machine.specs.Agents.{agent_of}
use Rattle.opfs_machine.specs.Contents.{in_lengths}
use Rattle.opfs_machine.specs.Ruled.{Ruled}
use Rattle.opfs_machine.specs.Rulings.{ruling, locked_by}
use Rattle.opfs_machine.specs.Sums.{no_need}
use Rattle.opfs_state_rows.specs.Standing.Seen.{Machine}
use Rattle.opfs_state.specs.Verdicts.Callers.{AsksByKey}

-- What is refused where a lock is not open.
abbrev pub lock_ruling : Option Lock → Ruled Need
lock_ruling None = Ok no_need
lock_ruling (Some lock) = Err (locked_by lock)

-- An agent without a key asks for no block of the pool. So it is of each call that may have an entry: files are of origins.
abbrev pub KeylessAskNothing : Machine → Sizes → ℕ → Op → Type 0
KeylessAskNothing m z k op = (need : Need) → ruling in_lengths m z k op ≡ Ok need → AsksByKey (agent_of m k).key need.pool
