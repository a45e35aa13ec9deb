-- What others leave of an agent, and what its own calls do. This project's own.
use Rattle.std.specs.Prelude.{◌≡◌, ◌≢◌, ◌⊎◌, ℕ, ◌+◌, Bool, true, false, not, List, ◌++◌, All, fold, length, Some, IsTrue}
use Rattle.opfs_base.specs.Texts.{Text}
use Rattle.opfs_hist.specs.Sums.{asks_for_row}
use Rattle.opfs_hist.specs.declared.entry.Entry.{Entry}
use Rattle.opfs_hist.specs.declared.op.Op.{Op}
use Rattle.opfs_hist.specs.declared.op.Op.TheVariants.{Next, End}
use Rattle.opfs_hist.specs.declared.reply.Reply.{Reply}
use Rattle.opfs_machine.specs.declared.own.Own.{Own}
use Rattle.opfs_machine.specs.declared.state.Agent.{Agent}
use Rattle.opfs_machine.specs.declared.state.State.{State}
use Rattle.opfs_machine.specs.Agents.{agent_of, own_of}
use Rattle.opfs_machine.specs.Histories.{may_enter, asks_stuck, Legal, after_entry, state_after}
use Rattle.opfs_machine.specs.Openings.{Opening}
use Rattle.opfs_machine.specs.OwnRows.{Mine, mine, is_local}
use Rattle.opfs_machine.specs.Replies.{row_named}
use Rattle.opfs_machine.specs.Steps.{step, evicted, after_reply}
use Rattle.opfs_laws.specs.GoingOn.{ArePending}

-- All that is an agent's own: its record, and with it the bytes of the files of its open access handles.
abbrev pub seen_by : State Text Own → ℕ → Agent Own × Mine
seen_by s k = (agent_of s k, mine s k)

-- Whether a call asks nothing of other agents: any but await and wait.
abbrev pub asks_nobody : Op → Bool
asks_nobody op = not (asks_stuck op)

abbrev pub is_end : Op → Bool
is_end End = true
is_end op = false

-- The number of the own row that a call uses, an iterator's among them; 0 where it uses none.
abbrev pub row_used : Op → ℕ
row_used (Next n dir) = n
row_used op = row_named op

pub record OthersLeaveAnAgent : Type 0 where
  -- Entries of other agents, and evictions, leave all that is an agent's own.
  pub others : (o : Opening) (h more rest : List Entry) (k : ℕ) → Legal o ((h ++ more) ++ rest) → All (λ e. e.agent ≢ k) more
      → seen_by (state_after o (h ++ more)) k ≡ seen_by (state_after o h) k
  -- A local call does the same to it in states that are alike to the agent.
  pub local : (s t : State Text Own) (k : ℕ) (op : Op) → IsTrue (agent_of s k).live → seen_by s k ≡ seen_by t k → IsTrue (is_local s k op)
      → seen_by (step s k op).after k ≡ seen_by (step t k op).after k
  -- So is whether it may make a call.
  pub may : (s t : State Text Own) (k : ℕ) (op : Op) → seen_by s k ≡ seen_by t k → IsTrue (asks_nobody op) → may_enter s k op ≡ may_enter t k op
  -- Its local calls that are not entered yet stay such, and do the same.
  pub pending : (s t : State Text Own) (k : ℕ) (es : List Entry) → seen_by s k ≡ seen_by t k → ArePending s k es
      → ArePending t k es × (seen_by (fold after_entry s es) k ≡ seen_by (fold after_entry t es) k)

-- What a call of a live agent, with its evictions, leaves of the agent.
pub record IsMoved (a : Agent Own) (op : Op) (b : Agent Own) : Type 0 where
  pub key : b.key ≡ a.key
  pub grant : b.grant ≡ a.grant
  -- Only an end ends it.
  pub live : is_end op ≡ false → b.live ≡ a.live
  -- Only an await, a wait or an end changes what it waits for.
  pub waits : is_end op ≡ false → asks_stuck op ≡ false → b.waits ≡ a.waits
  -- Rows of other numbers stay, as they are.
  pub rows : (m : ℕ) (r : Own) → m ≢ row_used op → own_of a m ≡ Some r → own_of b m ≡ Some r
  -- There is a row more, or there are as many, and one more only of a call that asks for one.
  pub more : (length b.own ≡ length a.own) ⊎ ((length b.own ≡ length a.own + 1) × IsTrue (asks_for_row op))

abbrev pub ACallMovesItsAgent : Type 0
ACallMovesItsAgent =
    (s : State Text Own) (gone : List Text) (k : ℕ) (op : Op) (told : Reply) → IsTrue (agent_of s k).live
    → IsMoved (agent_of s k) op (agent_of (after_reply (fold evicted s gone) k op told) k)
