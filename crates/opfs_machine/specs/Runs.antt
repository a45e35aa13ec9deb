-- The history that the machine itself makes of a list of calls.
use Rattle.std.specs.Prelude.{ℕ, Bool, true, ◌&&◌, List, [], ◌∷◌, ◌++◌, map}
use Rattle.opfs_base.specs.Texts.{Text}
use Rattle.opfs_hist.specs.declared.entry.Entry.{Entry}
use Rattle.opfs_hist.specs.declared.op.Op.{Op}
use Rattle.opfs_hist.specs.declared.op.Op.TheVariants.{Evict}
use Rattle.opfs_hist.specs.declared.reply.Reply.TheVariants.{Gone}
use Rattle.opfs_machine.specs.declared.own.Own.{Own}
use Rattle.opfs_machine.specs.declared.state.State.{State}
use Rattle.opfs_machine.specs.Agents.{agent_of}
use Rattle.opfs_machine.specs.Histories.{may_enter}
use Rattle.opfs_machine.specs.Steps.{step, Outcome}

-- An agent, the number of its step, and what it asks.
pub record Call : Type 0 where
  pub agent : ℕ
  pub number : ℕ
  pub op : Op

-- The entry of an eviction.
abbrev pub eviction : Text → Entry
eviction unit = record { agent = 0; number = 0; op = Evict unit; reply = Gone unit; turn = true }

-- A call's entry with the machine's own answer.
abbrev pub entry_of : State Text Own → Call → Outcome → Entry
entry_of s c done = record { agent = c.agent; number = c.number; op = c.op; reply = done.answered; turn = true }

-- A call's evictions and its entry.
abbrev pub group_of : State Text Own → Call → Outcome → List Entry
group_of s c done = map eviction done.victims ++ entry_of s c done ∷ []

-- The entries of the calls, with the machine's own answers.
abbrev pub run : State Text Own → List Call → List Entry
run s [] = []
run s (c ∷ cs) = group_of s c (step s c.agent c.op) ++ run (step s c.agent c.op).after cs

-- Whether each call's agent is live, and may make it.
abbrev pub may_run : State Text Own → List Call → Bool
may_run s [] = true
may_run s (c ∷ cs) = (agent_of s c.agent).live && may_enter s c.agent c.op && may_run (step s c.agent c.op).after cs
