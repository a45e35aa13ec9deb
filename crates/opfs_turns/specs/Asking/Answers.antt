-- What a shared call of an agent asks and answers. This project's own.
use Rattle.std.specs.Prelude.{◌≡◌, ℕ, Bool, false, List, [], Option, Some, None, Result, Ok, Err, IsTrue}
use Rattle.opfs_base.specs.Texts.{Text}
use Rattle.opfs_base.specs.declared.locator.Locator.{Locator}
use Rattle.opfs_hist.specs.declared.op.Op.{Op}
use Rattle.opfs_hist.specs.declared.reply.Refusal.{Refusal}
use Rattle.opfs_hist.specs.declared.reply.Reply.{Reply}
use Rattle.opfs_hist.specs.declared.reply.Reply.TheVariants as reply
use Rattle.opfs_machine.specs.Histories.{may_enter, is_own}
use Rattle.opfs_machine.specs.declared.own.Own.{Own}
use Rattle.opfs_machine.specs.declared.state.Sizes.{Sizes}
use Rattle.opfs_machine.specs.declared.state.State.{State}
use Rattle.opfs_machine.specs.Replies.{answer, row_named}
use Rattle.opfs_machine.specs.Steps.{is_refusal}
use Rattle.opfs_laws.specs.Leaving.{asks_nobody, is_end}
use Rattle.opfs_store.specs.declared.acts.acted.Acted.{Acted}
use Rattle.opfs_store.specs.declared.acts.acted.Gift.{Gift}
use Rattle.opfs_store.specs.Acts.Asking.{is_shared, given_by, HasSmallNumbers}
use Rattle.opfs_turns.specs.Agents.{AgentSeen, state_of}
use Rattle.opfs_turns.specs.Calls.{IsEntered, HasLooked}
use Rattle.opfs_turns.specs.declared.asking.stop.Stop.{Stop}
use Rattle.opfs_turns.specs.declared.asking.stop.Stop.TheVariants as stop

-- A call was entered and not refused, and this is made of its reply and of what is given beside it.
pub record HasAnswer {O T : Type 0} (tells : Type 0) (before after : AgentSeen O) (op : Op) (Gives : T → Reply → Gift → Type 0) (x : T) : Type 0 where
  pub answered : Reply
  pub given : Gift
  pub entered : IsEntered tells before after op answered given
  pub accepted : is_refusal answered ≡ false
  pub gives : Gives x answered given

-- A call was entered with this refusal.
pub record IsRefused {O : Type 0} (tells : Type 0) (before after : AgentSeen O) (op : Op) (r : Refusal) : Type 0 where
  pub given : Gift
  pub entered : IsEntered tells before after op (reply.No r) given

-- What a shared call leaves, by its answer: where there is no memory nothing was entered.
abbrev pub Shared : {O T : Type 0} → Type 0 → AgentSeen O → AgentSeen O → Op → (T → Reply → Gift → Type 0) → Result T Stop → Type 0
Shared tells before after op Gives (Ok x) = HasAnswer tells before after op Gives x
Shared tells before after op Gives (Err (stop.No r)) = IsRefused tells before after op r
Shared tells before after op Gives (Err stop.NoMemory) = HasLooked before after

-- An agent may make a shared call that names none of its open rows and no iterator.
pub record MayAskPlainly {O : Type 0} (a : AgentSeen O) (op : Op) : Type 0 where
  pub shared : IsTrue (is_shared op)
  pub nobody : IsTrue (asks_nobody op)
  pub fitting : IsTrue (may_enter (state_of a) a.pass.agent op)
  pub plain : row_named op ≡ 0
  pub numbers : HasSmallNumbers op
  pub given : given_by (state_of a) a.pass.agent op ≡ []
  pub stays : is_end op ≡ false

-- The same of one that names an iterator, which has given these names.
pub record MayAskPast {O : Type 0} (a : AgentSeen O) (op : Op) (past : List Text) : Type 0 where
  pub shared : IsTrue (is_shared op)
  pub nobody : IsTrue (asks_nobody op)
  pub fitting : IsTrue (may_enter (state_of a) a.pass.agent op)
  pub plain : row_named op ≡ 0
  pub numbers : HasSmallNumbers op
  pub given : past ≡ given_by (state_of a) a.pass.agent op
  pub stays : is_end op ≡ false

-- A locator is of the agent's own origin.
abbrev pub IsOwn : {O : Type 0} → AgentSeen O → Locator → Type 0
IsOwn a at = IsTrue (is_own (state_of a) a.pass.agent at)

-- The refusal of a reply.
abbrev pub refusal_in : Reply → Option Refusal
refusal_in (reply.No r) = Some r
refusal_in answered = None

-- What a call answered: a refusal is why it gives nothing.
abbrev pub IsAnswer : {E : Type 0} → Result Acted E → Result Acted Stop → Type 0
IsAnswer (Ok acted) (Ok given) = (given ≡ acted) × (is_refusal acted.reply ≡ false)
IsAnswer (Ok acted) (Err (stop.No r)) = acted.reply ≡ reply.No r
IsAnswer (Ok acted) (Err stop.NoMemory) = ⊥
IsAnswer (Err e) (Ok given) = ⊥
IsAnswer (Err e) (Err (stop.No r)) = ⊥
IsAnswer (Err e) (Err stop.NoMemory) = Unit {0}

-- Where nothing refuses it, a call is answered so.
abbrev pub IsAnsweredBy : Op → (Reply → Type 0) → Type 0
IsAnsweredBy op Kind = (s : State Text Own) (z : Sizes) (k : ℕ) → Kind (answer s z k op)

-- A reply is yes or no; or usage and quota.
abbrev pub IsFlag : Reply → Type 0
IsFlag answered = (flag : Bool) × (answered ≡ reply.Flag flag)

abbrev pub IsEstimate : Reply → Type 0
IsEstimate answered = (used : ℕ) × (quota : ℕ) × (answered ≡ reply.Estimate used quota)

-- A number of bytes; or bytes.
abbrev pub IsLength : Reply → Type 0
IsLength answered = (count : ℕ) × (answered ≡ reply.Length count)

abbrev pub IsRead : Reply → Type 0
IsRead answered = (bytes : Text) × (answered ≡ reply.Read bytes)
