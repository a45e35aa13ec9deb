-- What an estimate answers, by what the shared store knows (Storage: estimate).
use Rattle.std.specs.Prelude.{ℕ, ◌*◌, Bool, true, false}
use Rattle.opfs_hist.specs.declared.op.Op.{Op}
use Rattle.opfs_hist.specs.declared.op.Op.TheVariants as op
use Rattle.opfs_hist.specs.declared.reply.Reply.{Reply}
use Rattle.opfs_hist.specs.declared.reply.Reply.TheVariants as reply
use Rattle.opfs_machine.specs.Agents.{agent_of}
use Rattle.opfs_machine.specs.Contents.{in_lengths}
use Rattle.opfs_machine.specs.Replies.{block_bytes, origin_in}
use Rattle.opfs_machine.specs.Sums.{usage}
use Rattle.opfs_state_rows.specs.Standing.Seen.{Machine}

abbrev pub is_estimate : Op → Bool
is_estimate op.Estimate = true
is_estimate o = false

-- The blocks that the origin of an agent uses, in all its units.
abbrev pub usage_of : Machine → ℕ → ℕ
usage_of m k = usage in_lengths m (origin_in (agent_of m k).key)

-- Usage and quota of that origin, in bytes.
abbrev pub estimate_answer : Machine → ℕ → Reply
estimate_answer m k = reply.Estimate (block_bytes * usage_of m k) (block_bytes * m.limits.quota)
