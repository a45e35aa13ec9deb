-- A call that keeps its change back, step by step. This project's own.
use Rattle.std.specs.Prelude.{◌≡◌, [], List, true}
use Rattle.opfs_store.specs.declared.acts.acted.Acted.{Acted}
use Rattle.opfs_store.specs.declared.acts.acted.Gift.TheVariants as gift
use Rattle.opfs_books.specs.Laws.Books.{Fixed}
use Rattle.opfs_codec.specs.declared.change.Change.{Change as Spelled}
use Rattle.opfs_hist.specs.declared.entry.Entry.{Entry}
use Rattle.opfs_hist.specs.declared.reply.Reply.{Reply}
use Rattle.opfs_hist.specs.declared.reply.Reply.TheVariants as reply
use Rattle.opfs_laws.specs.Counting.{key_of}
use Rattle.opfs_machine.specs.Agents.{agent_of}
use Rattle.opfs_machine.specs.Effects.{moment_of}
use Rattle.opfs_outside.specs.declared.disk.Disk.{Ghosts as DiskWords}
use Rattle.opfs_records.specs.Replay.Built.{Built}
use Rattle.opfs_state_rows.specs.Standing.Seen.{lines_of}
use Rattle.opfs_work.specs.Works.{WorkingCopy}
use Rattle.std.specs.Prelude.{ℕ}
use Rattle.opfs_desk_steps.specs.Parts.Asked.{IsAsked}
use Rattle.opfs_desk_steps.specs.Parts.Held.{AreHeldWhole}
use Rattle.opfs_desk_steps.specs.Parts.Seen.{machine_in, tree_in}
use Rattle.opfs_desk_steps.specs.declared.parts.call.ReadyCall.{ReadyCall}
use Rattle.opfs_desk_steps.specs.declared.parts.parts.Ledger.{Ledger}
use Rattle.opfs_desk_steps.specs.declared.parts.parts.OpenPages.{OpenPages}
use Rattle.opfs_desk_entries.specs.KeptBack.Keeping.{keeps_back, entry_place, change_of}

-- What such a call begins with.
pub record BeginsKeeping {D : Type 0} (w : DiskWords D) (f : Fixed D) (recorded : Built) (l : Ledger D) (p : OpenPages) (calls : List Entry) (c : ReadyCall) (work : WorkingCopy) : Type 0 where
  pub held : AreHeldWhole w f recorded l p
  pub asked : IsAsked w.tells f.opening l.books.history calls l.books.state c work []
  pub keeps : keeps_back (machine_in l) c.agent c.op ≡ true
  pub lines : (machine_in l).rows ≡ lines_of (tree_in l)
  pub keyed : (agent_of (machine_in l) c.agent).key ≡ key_of f.opening c.agent

-- The change that a call makes now.
abbrev pub change_now : {D : Type 0} → Ledger D → Entry → Spelled
change_now l e = change_of (moment_of (machine_in l) e.agent) (entry_place (agent_of (machine_in l) e.agent).key e.op) e.op

-- What such a call answers, with as many rows as its agent has. One that makes or removes an entry is answered by that it is done.
abbrev pub changed_act : Reply → ℕ → Acted
changed_act answered rows = record { reply = answered; gift = gift.Nothing; rows = rows }

abbrev pub kept_act : ℕ → Acted
kept_act rows = changed_act reply.Done rows
