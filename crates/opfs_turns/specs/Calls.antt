-- What an agent's calls ask, and what they leave. This project's own.
use Rattle.std.specs.Prelude.{◌≡◌, ◌≢◌, ℕ, ◌+◌, ◌≤◌, List, [], ◌∷◌, ◌++◌, All, length, false, Option, None, IsTrue}
use Rattle.opfs_base.specs.Texts.{Text}
use Rattle.opfs_hist.specs.declared.entry.Entry.{Entry}
use Rattle.opfs_hist.specs.declared.op.Op.{Op}
use Rattle.opfs_hist.specs.declared.reply.Reply.{Reply}
use Rattle.opfs_hist.specs.declared.op.Op.TheVariants.{End}
use Rattle.opfs_hall.specs.Seen.{PassSeen}
use Rattle.opfs_machine.specs.Agents.{agent_of}
use Rattle.opfs_machine.specs.Histories.{may_enter, state_after}
use Rattle.opfs_machine.specs.Openings.{Opening, begun}
use Rattle.opfs_machine.specs.OwnRows.{is_local}
use Rattle.opfs_machine.specs.Steps.{step}
use Rattle.opfs_laws.specs.Histories.Unread.{unread, IsTold}
use Rattle.opfs_machine.specs.Replies.{row_named}
use Rattle.opfs_machine.specs.Runs.{Call}
use Rattle.opfs_laws.specs.Leaving.{seen_by, asks_nobody}
use Rattle.opfs_laws.specs.Histories.Opened.{added}
use Rattle.opfs_store.specs.declared.acts.acted.Gift.{Gift}
use Rattle.opfs_store.specs.Acts.Acting.{told_entry, IsCallFor, IsGift}
use Rattle.opfs_store.specs.Acts.Asking.{is_shared, names_open, given_by, HasSmallNumbers, IsHandedIn}
use Rattle.opfs_work.specs.Works.{WorkingCopy}
use Rattle.opfs_turns.specs.Agents.{AgentSeen, known, state_of}

-- An agent has room for one more row and one more entry.
pub record HasRoom {O : Type 0} (a : AgentSeen O) : Type 0 where
  pub rows : a.rows ≤ 60000000
  pub entries : a.entries ≤ 60000000

-- An agent may ask for a shared call, which asks nothing of other agents, with this working copy and these names that its
-- iterator has given.
pub record MayAsk {O : Type 0} (tells : Type 0) (a : AgentSeen O) (op : Op) (work : WorkingCopy) (past : List Text) : Type 0 where
  pub shared : IsTrue (is_shared op)
  pub nobody : IsTrue (asks_nobody op)
  pub fitting : IsTrue (may_enter (state_of a) a.pass.agent op)
  pub opened : IsTrue (names_open (state_of a) a.pass.agent op)
  pub numbers : HasSmallNumbers op
  pub copy : IsHandedIn tells a.opening (known a) a.pass.agent (row_named op) work
  pub given : past ≡ given_by (state_of a) a.pass.agent op

-- An agent's next call.
abbrev pub call_of : {O : Type 0} → AgentSeen O → Op → Call
call_of a op = record { agent = a.pass.agent; number = a.number; op = op }

-- What stands in the store before a call: what the agent had seen, entries of others, and its own that come now.
abbrev pub before_call : {O : Type 0} → AgentSeen O → List Entry → List Entry
before_call a others = (a.pass.base ++ others) ++ a.pending

-- A shared call has its entry: the agent has seen what others entered since its last turn, and its own calls, the evictions
-- and this entry. All that is its own was as it knew. This was given beside the reply.
pub record IsEntered {O : Type 0} (tells : Type 0) (before after : AgentSeen O) (op : Op) (answered : Reply) (given : Gift) : Type 0 where
  pub others : List Entry
  pub gone : List Text
  pub apart : All (λ e. e.agent ≢ before.pass.agent) others
  pub legal : IsTold tells before.opening (before.pass.base ++ others)
  pub grown : after.pass.base ≡ (before.pass.base ++ others) ++ added before.pending gone (told_entry (call_of before op) answered)
  pub call : IsCallFor tells (state_after before.opening (before_call before others)) gone (told_entry (call_of before op) answered)
  pub gift : IsGift tells (state_after before.opening (before_call before others)) op answered given
  pub own : seen_by (state_after before.opening (before_call before others)) before.pass.agent ≡ seen_by (state_of before) before.pass.agent
  pub rest : after ≡ record before { pass = record before.pass { base = after.pass.base }; pending = []; number = before.number + 1; entries = before.entries + 1; rows = after.rows }

-- Nothing was entered: the agent has seen what others entered since its last turn.
pub record HasLooked {O : Type 0} (before after : AgentSeen O) : Type 0 where
  pub others : List Entry
  pub apart : All (λ e. e.agent ≢ before.pass.agent) others
  pub grown : after.pass.base ≡ before.pass.base ++ others
  pub own : seen_by (state_of after) before.pass.agent ≡ seen_by (state_of before) before.pass.agent
  pub rest : after ≡ record before { pass = record before.pass { base = after.pass.base } }

-- The entry of a local call.
abbrev pub kept_entry : {O : Type 0} → AgentSeen O → Op → Reply → Entry
kept_entry a op answered = record { agent = a.pass.agent; number = a.number; op = op; reply = answered; turn = false }

-- A call is local, this is its answer, but for the bytes of a read where the store does not tell, and it makes so many rows.
pub record IsLocal {O : Type 0} (tells : Type 0) (a : AgentSeen O) (op : Op) (answered : Reply) (made : ℕ) : Type 0 where
  pub local : IsTrue (is_local (state_of a) a.pass.agent op)
  pub fitting : IsTrue (may_enter (state_of a) a.pass.agent op)
  pub alike : unread answered ≡ unread (step (state_of a) a.pass.agent op).answered
  pub told : tells → answered ≡ (step (state_of a) a.pass.agent op).answered
  pub rows : length (agent_of (step (state_of a) a.pass.agent op).after a.pass.agent).own ≡ a.rows + made

-- A local call has its entry among those that are not entered yet.
abbrev pub IsKept : {O : Type 0} → AgentSeen O → AgentSeen O → Op → Reply → ℕ → Type 0
IsKept before after op answered made =
    after ≡ record before { pending = before.pending ++ kept_entry before op answered ∷ []; number = before.number + 1; entries = before.entries + 1; rows = before.rows + made }

-- A new agent: it has made no call.
abbrev pub new_agent : {O : Type 0} → (O → Opening) → PassSeen O Entry → Option Text → AgentSeen O
new_agent opened pass key = record {
  pass = pass;
  opening = opened pass.hall.opening;
  pending = [];
  key = key;
  number = 1;
  entries = 0;
  rows = 0;
  waiting = None;
}

-- A pass with which an agent of this key may begin.
pub record MayBegin {O : Type 0} (opened : O → Opening) (pass : PassSeen O Entry) (key : Option Text) : Type 0 where
  pub idle : pass.busy ≡ false
  pub real : pass.agent ≢ 0
  pub fresh : pass.base ≡ []
  pub live : IsTrue (agent_of (begun (opened pass.hall.opening)) pass.agent).live
  pub own_key : (agent_of (begun (opened pass.hall.opening)) pass.agent).key ≡ key

-- An agent has ended: its pass has seen its own calls, its end with the machine's answer, and what others entered before. The
-- history is legal.
pub record HasEnded {O : Type 0} (tells : Type 0) (before : AgentSeen O) (after : PassSeen O Entry) : Type 0 where
  pub others : List Entry
  pub gone : List Text
  pub answered : Reply
  pub apart : All (λ e. e.agent ≢ before.pass.agent) others
  pub grown : after.base ≡ (before.pass.base ++ others) ++ added before.pending gone (told_entry (call_of before End) answered)
  pub call : IsCallFor tells (state_after before.opening (before_call before others)) gone (told_entry (call_of before End) answered)
  pub legal : IsTold tells before.opening after.base
  pub rest : after ≡ record before.pass { base = after.base }
