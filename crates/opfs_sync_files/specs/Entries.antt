-- What an agent's calls add to what it knows. This project's own.
use Rattle.std.specs.Prelude.{◌≡◌, ◌⊎◌, ℕ, ◌+◌, ◌≤◌, List, [], ◌∷◌, ◌++◌}
use Rattle.opfs_turns.specs.declared.asking.stop.Stop.{Stop}
use Rattle.opfs_turns.specs.declared.asking.stop.Stop.TheVariants as stop
use Rattle.opfs_hist.specs.declared.entry.Entry.{Entry}
use Rattle.opfs_hist.specs.declared.op.Op.{Op}
use Rattle.opfs_hist.specs.declared.reply.Reply.{Reply}
use Rattle.opfs_hist.specs.declared.reply.Reply.TheVariants as reply
use Rattle.opfs_turns.specs.Agents.{AgentSeen, known}

-- An entry stands in a list.
abbrev pub IsIn : Entry → List Entry → Type 0
IsIn e [] = ⊥
IsIn e (x ∷ xs) = (x ≡ e) ⊎ IsIn e xs

-- The call of an entry is just this one.
abbrev pub TheCall : Op → Op → Type 0
TheCall called asked = asked ≡ called

-- The agent has added an entry of such a call, with this reply.
pub record HasEntry {O : Type 0} (before after : AgentSeen O) (Asked : Op → Type 0) (answered : Reply) : Type 0 where
  pub entry : Entry
  pub there : IsIn entry (known after)
  pub mine : entry.agent ≡ before.pass.agent
  pub added : before.number ≤ entry.number
  pub asked : Asked entry.op
  pub told : entry.reply ≡ answered

-- Why calls gave nothing: a refusal has its entry, of such a call. Want of memory is free.
abbrev pub IsCaused : {O : Type 0} → AgentSeen O → AgentSeen O → (Op → Type 0) → Stop → Type 0
IsCaused before after Asked (stop.No r) = HasEntry before after Asked (reply.No r)
IsCaused before after Asked stop.NoMemory = Unit {0}

-- An agent after calls that made no row: it is the same agent of the same hall, with so many entries more at most, and it still
-- knows what it knew. What it has seen has grown.
pub record GoesOn {O : Type 0} (before after : AgentSeen O) (count : ℕ) : Type 0 where
  pub hall : after.pass.hall ≡ before.pass.hall
  pub agent : after.pass.agent ≡ before.pass.agent
  pub opening_is : after.opening ≡ before.opening
  pub rows : after.rows ≡ before.rows
  pub entries : after.entries ≤ before.entries + count
  pub number : before.number ≤ after.number
  pub knows : (e : Entry) → IsIn e (known before) → IsIn e (known after)
  pub newer : List Entry
  pub grown : after.pass.base ≡ before.pass.base ++ newer
