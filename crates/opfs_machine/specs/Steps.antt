-- One call: what it answers, which units are cleared for it, and the state after it.
use Rattle.std.specs.Prelude.{ℕ, ◌+◌, Bool, true, false, List, [], fold, Option, Ok, Err}
use Rattle.opfs_base.specs.Texts.{Text}
use Rattle.opfs_hist.specs.declared.op.Op.{Op}
use Rattle.opfs_hist.specs.declared.reply.Refusal.TheVariants as refusal
use Rattle.opfs_hist.specs.declared.reply.Reply.{Reply}
use Rattle.opfs_hist.specs.declared.reply.Reply.TheVariants as reply
use Rattle.opfs_machine.specs.declared.own.Own.{Own}
use Rattle.opfs_machine.specs.declared.state.Need.{Need}
use Rattle.opfs_machine.specs.declared.state.State.{State}
use Rattle.opfs_machine.specs.Agents.{agent_of, counted}
use Rattle.opfs_machine.specs.Contents.{Contents, in_bytes}
use Rattle.opfs_machine.specs.Effects.{effect, refused}
use Rattle.opfs_machine.specs.Replies.{answer, sizes_of, origin_in}
use Rattle.opfs_machine.specs.Ruled.{Ruled, ◌>>=◌, ◌>>◌, unless, some_or}
use Rattle.opfs_machine.specs.Rulings.{ruling}
use Rattle.opfs_machine.specs.Sums.{usage, pool, charge, fits_quota, fits_area}
use Rattle.opfs_machine.specs.Victims.{cleared, victims}

-- The units that are cleared for a need, judged in this order: the quota, the area, the pool.
unfoldable pub room_for : {F R : Type 0} → Contents F R → State F R → Option Text → Need → Ruled (List Text)
room_for c s caller need = do
  unless (fits_quota c s (origin_in caller) need.quota) (refusal.QuotaExceededError (usage c s (origin_in caller)) need.quota s.limits.quota)
  unless (fits_area c s need.charge) (refusal.MetaFull (charge c s) need.charge s.limits.area)
  some_or (victims c s caller need.pool) (refusal.DataFull (pool c s) need.pool s.limits.blocks)

-- The refusal of a call, or the units that are cleared for it.
unfoldable pub judged : State Text Own → ℕ → Op → Ruled (List Text)
judged s k op = do
  need ← ruling in_bytes s (sizes_of s k op) k op
  room_for in_bytes s (agent_of s k).key need

-- The state after an eviction.
abbrev pub evicted : {F R : Type 0} → State F R → Text → State F R
evicted s unit = record (cleared s unit) { entries = s.entries + 1 }

abbrev pub is_refusal : Reply → Bool
is_refusal (reply.No r) = true
is_refusal r = false

-- What a call changes, by what it answered.
abbrev pub changed_by : State Text Own → ℕ → Op → Reply → State Text Own
changed_by s k op answered = elim (is_refusal answered) [ true ↦ refused s k op | false ↦ effect in_bytes s (sizes_of s k op) k op ]

-- The state after a call, the evictions before it being done.
abbrev pub after_reply : State Text Own → ℕ → Op → Reply → State Text Own
after_reply s k op answered = counted (changed_by s k op answered) k

pub record Outcome : Type 0 where
  pub answered : Reply
  pub victims : List Text
  pub after : State Text Own

unfoldable pub outcome_of : State Text Own → ℕ → Op → Ruled (List Text) → Outcome
outcome_of s k op (Ok units) = record {
  answered = answer s (sizes_of s k op) k op;
  victims = units;
  after = after_reply (fold evicted s units) k op (answer s (sizes_of s k op) k op);
}
outcome_of s k op (Err r) = record { answered = reply.No r; victims = []; after = after_reply s k op (reply.No r) }

-- The machine's step.
unfoldable pub step : State Text Own → ℕ → Op → Outcome
step s k op = outcome_of s k op (judged s k op)
