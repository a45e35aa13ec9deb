-- One party alone: what it is answered follows from its own calls, and from the recorded evictions of its units and
-- refusals of shared room. This project's own.
use Rattle.std.specs.Prelude.{◌≡◌, ℕ, ◌==◌, nat_lt, Bool, true, false, not, ◌&&◌, List, [], ◌∷◌, map, filter, Option, Some, None, Ok, Err, IsTrue}
use Rattle.std.specs.List.{list_any, enumerate_from}
use Rattle.opfs_base.specs.Texts.{Text, same_text}
use Rattle.opfs_base.specs.Units.{origin_of}
use Rattle.opfs_hist.specs.declared.entry.Entry.{Entry}
use Rattle.opfs_hist.specs.declared.op.Op.{Op}
use Rattle.opfs_hist.specs.declared.reply.Refusal.TheVariants as refusal
use Rattle.opfs_hist.specs.declared.reply.Reply.{Reply}
use Rattle.opfs_hist.specs.declared.reply.Reply.TheVariants as reply
use Rattle.opfs_machine.specs.declared.own.Own.{Own}
use Rattle.opfs_machine.specs.declared.state.Agent.{Agent}
use Rattle.opfs_machine.specs.declared.state.Party.{Party}
use Rattle.opfs_machine.specs.declared.state.Party.TheVariants.{Origin, Alone}
use Rattle.opfs_machine.specs.declared.state.Need.{Need}
use Rattle.opfs_machine.specs.declared.state.State.{State}
use Rattle.opfs_machine.specs.Agents.{agent_of, nobody, party_with, same_party}
use Rattle.opfs_machine.specs.Contents.{in_bytes}
use Rattle.opfs_machine.specs.Histories.{may_enter, is_disk_op, evicted_by, IsEviction}
use Rattle.opfs_machine.specs.Openings.{Opening, begun}
use Rattle.opfs_machine.specs.Replies.{answer, sizes_of, origin_in}
use Rattle.opfs_machine.specs.Ruled.{Ruled, ◌>>=◌, ◌>>◌, unless}
use Rattle.opfs_machine.specs.Rulings.{ruling}
use Rattle.opfs_machine.specs.Steps.{evicted, after_reply}
use Rattle.opfs_machine.specs.Sums.{usage, fits_quota, is_persistent}
use Rattle.opfs_machine.specs.Victims.{root_units, none_taken}

-- Whether a unit is the party's.
abbrev pub is_partys : Party → Text → Bool
is_partys (Origin key) unit = same_text key (origin_of unit)
is_partys (Alone k) unit = false

-- Whether the agent of a number is the party's.
abbrev pub is_member : Opening → Party → ℕ → Bool
is_member o party k = same_party party (party_with (agent_of (begun o) k).key k) && not (k == 0)

abbrev pub is_partys_entry : Opening → Party → Entry → Option Text → Bool
is_partys_entry o party e (Some unit) = is_partys party unit
is_partys_entry o party e None = is_member o party e.agent

-- The entries of a party's agents, and the evictions of its units.
abbrev pub project : Opening → Party → List Entry → List Entry
project o party es = filter (λ e. is_partys_entry o party e (evicted_by e.op)) es

-- An agent of the party; nobody for another.
abbrev pub kept_agent : Party → ℕ × Agent Own → Agent Own
kept_agent party numbered = elim (same_party party (party_with numbered.1.key numbered.0)) [ true ↦ numbered.1 | false ↦ nobody ]

-- The state in which the party begins alone: with its own rows, modes and agents, and with the quota. Nobody stands at
-- the numbers of other agents, and of the shared room nothing is told.
abbrev pub begun_alone : Opening → Party → State Text Own
begun_alone o party = record (begun o) {
  rows = filter (λ e. is_partys party e.0.0) (begun o).rows;
  persistent = filter (is_partys party) (begun o).persistent;
  agents = map (kept_agent party) (enumerate_from 1 (begun o).agents);
  limits = record { area = 0; blocks = 0; quota = o.limits.quota };
}

-- The need of a call that the party's own machine does not refuse: it judges the quota, and no shared room.
unfoldable pub judged_alone : State Text Own → ℕ → Op → Ruled Need
judged_alone s k op = do
  need ← ruling in_bytes s (sizes_of s k op) k op
  unless (fits_quota in_bytes s (origin_in (agent_of s k).key) need.quota) (refusal.QuotaExceededError (usage in_bytes s (origin_in (agent_of s k).key)) need.quota s.limits.quota)
  Ok need

-- An answer that the party's own machine gives, or a refusal of shared room, given the need that it has.
abbrev pub AcceptedAlone : State Text Own → ℕ → Op → Need → Reply → Type 0
AcceptedAlone s k op need (reply.No (refusal.MetaFull charge growth area)) = (growth ≡ need.charge) × IsTrue (nat_lt 0 need.charge)
AcceptedAlone s k op need (reply.No (refusal.DataFull pool wanted blocks)) = (wanted ≡ need.pool) × IsTrue (nat_lt 0 need.pool)
AcceptedAlone s k op need (reply.No refusal.DiskFault) = IsTrue (is_disk_op s k op)
AcceptedAlone s k op need answered = answered ≡ answer s (sizes_of s k op) k op

abbrev pub AgreesAlone : State Text Own → ℕ → Op → Reply → Ruled Need → Type 0
AgreesAlone s k op answered (Ok need) = AcceptedAlone s k op need answered
AgreesAlone s k op answered (Err r) = answered ≡ reply.No r

pub record IsCallAlone (s : State Text Own) (e : Entry) : Type 0 where
  pub live : IsTrue (agent_of s e.agent).live
  pub fitting : IsTrue (may_enter s e.agent e.op)
  pub agrees : AgreesAlone s e.agent e.op e.reply (judged_alone s e.agent e.op)

-- A unit that is evicted has a root, is best-effort, and has no taken lock.
pub record IsEvictionAlone (s : State Text Own) (unit : Text) (e : Entry) : Type 0 where
  pub entry : IsEviction unit e
  pub root : IsTrue (list_any (same_text unit) (root_units s))
  pub best_effort : IsTrue (not (is_persistent s unit))
  pub unlocked : IsTrue (none_taken s unit)

abbrev pub AloneFrom : State Text Own → List Entry → Type 0
AloneFrom s [] = Unit {0}
AloneFrom s (e ∷ es) = elim (evicted_by e.op) [
  | Some unit ↦ IsEvictionAlone s unit e × AloneFrom (evicted s unit) es
  | None ↦ IsCallAlone s e × AloneFrom (after_reply s e.agent e.op e.reply) es
]

-- A run of the machine that has the party's rows, modes and agents alone.
abbrev pub IsAlone : Opening → Party → List Entry → Type 0
IsAlone o party es = AloneFrom (begun_alone o party) es
