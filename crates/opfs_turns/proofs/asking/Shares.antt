-- What a shared call leaves, by what the turn answered.
use Rattle.std.proofs.Common.{◌≡◌, ◌≢◌, ℕ, ◌+◌, List, [], length, append-nil, Result, Ok, Err, refl, sym, ap, subst}
use Rattle.std.proofs.lemmas.List.Elements.{All-nil}
use Rattle.std.specs.Prelude.{IfOk, OnErr, OnOk}
use Rattle.opfs_hist.specs.declared.op.Op.{Op}
use Rattle.opfs_hist.specs.declared.entry.Entry.{Entry}
use Rattle.opfs_machine.specs.Agents.{agent_of}
use Rattle.opfs_machine.specs.Histories.{state_after}
use Rattle.opfs_machine.specs.Openings.{Opening}
use Rattle.opfs_machine.specs.Runs.{Call}
use Rattle.opfs_machine.specs.Steps.{is_refusal}
use Rattle.opfs_store.specs.declared.acts.acted.Acted.{Acted}
use Rattle.opfs_store.specs.Acts.Acting.{IsLeft, IsSameCopy, StandsForLeft, row_left}
use Rattle.opfs_turns.specs.Agents.{AgentSeen, IsAgent, known, state_of}
use Rattle.opfs_turns.specs.Calls.{IsEntered, HasLooked, call_of}
use Rattle.opfs_work.specs.Works.{WorkingCopy}
use Rattle.opfs_turns.specs.Asking.Answers.{Shared, IsAnswer}
use Rattle.opfs_turns.specs.declared.asking.stop.Stop.{Stop}
use Rattle.opfs_turns.specs.declared.asking.stop.Stop.TheVariants as stop

-- Nothing was entered, and nothing was seen.
pub looked_none : {O : Type 0} (a : AgentSeen O) → HasLooked a a
looked_none a = record { others = []; apart = All-nil (λ e. e.agent ≢ a.pass.agent); grown = sym (append-nil a.pass.base); own = refl; rest = refl }

pub shared-by : {O E : Type 0} (tells : Type 0) (before after : AgentSeen O) (op : Op) (acted : Result Acted E) (result : Result Acted Stop)
    → IfOk acted (λ a. IsEntered tells before after op a.reply a.gift) → OnErr acted (HasLooked before after) → IsAnswer acted result
    → Shared tells before after op (λ a answered given. (a.reply ≡ answered) × (a.gift ≡ given)) result
shared-by tells before after op (Ok a) (Ok b) entered looked is = record {
  answered = a.reply;
  given = a.gift;
  entered = entered;
  accepted = is.1;
  gives = (ap (λ (x : Acted). x.reply) is.0, ap (λ (x : Acted). x.gift) is.0);
}
shared-by tells before after op (Ok a) (Err (stop.No r)) entered looked is = record { given = a.gift; entered = subst (λ x. IsEntered tells before after op x a.gift) is entered }
shared-by tells before after op (Ok a) (Err stop.NoMemory) entered looked is = absurd is
shared-by tells before after op (Err e) (Ok b) entered looked is = absurd is
shared-by tells before after op (Err e) (Err (stop.No r)) entered looked is = absurd is
shared-by tells before after op (Err e) (Err stop.NoMemory) entered looked is = looked

-- ---- working copies

-- A working copy is as it was, its room aside, where the call gives nothing.
pub same-by : {E : Type 0} (tells : Type 0) (o : Opening) (new : List Entry) (c : Call) (acted : Result Acted E) (result : Result Acted Stop) (old work : WorkingCopy)
    → IfOk acted (λ a. IsLeft tells o new c a.reply old work) → OnErr acted (IsSameCopy old work) → IsAnswer acted result → OnErr result (IsSameCopy old work)
same-by tells o new c (Ok a) (Ok b) old work left same is = tt
same-by tells o new c (Ok a) (Err (stop.No r)) old work left same is = left.refused (ap is_refusal is)
same-by tells o new c (Ok a) (Err stop.NoMemory) old work left same is = absurd is
same-by tells o new c (Err e) (Ok b) old work left same is = absurd is
same-by tells o new c (Err e) (Err (stop.No r)) old work left same is = absurd is
same-by tells o new c (Err e) (Err stop.NoMemory) old work left same is = same

-- The row that a call leaves open, by what the agent has seen.
abbrev LeftIn : {O : Type 0} → Type 0 → Op → WorkingCopy → AgentSeen O → Type 0
LeftIn tells called work a = StandsForLeft tells a.opening (known a) a.pass.agent (row_left (length (agent_of (state_of a) a.pass.agent).own) called) work

-- It has its working copy where the call was not refused.
pub left-by : {O E : Type 0} (tells : Type 0) (before after : AgentSeen O) (called : Op) (acted : Result Acted E) (result : Result Acted Stop) (old work : WorkingCopy) → IsAgent tells after
    → IfOk acted (λ a. IsEntered tells before after called a.reply a.gift) → IfOk acted (λ a. IsLeft tells before.opening after.pass.base (call_of before called) a.reply old work) → IsAnswer acted result
    → OnOk result (StandsForLeft tells after.opening (known after) after.pass.agent (row_left after.rows called) work)
left-by {O} tells before after called (Ok a) (Ok b) old work then entered left is =
    let here = left.stands is.1 in
    let there : LeftIn {O = O} tells called work (record before { pass = record before.pass { base = after.pass.base }; pending = []; number = before.number + 1; entries = before.entries + 1; rows = after.rows }) =
    subst (λ (es : List Entry). StandsForLeft tells before.opening es before.pass.agent (row_left (length (agent_of (state_after before.opening es) before.pass.agent).own) called) work) (sym (append-nil after.pass.base)) here
    in
    subst (λ (n : ℕ). StandsForLeft tells after.opening (known after) after.pass.agent (row_left n called) work) (sym then.made) (subst (LeftIn tells called work) (sym entered.rest) there)
left-by tells before after called (Ok a) (Err (stop.No r)) old work then entered left is = tt
left-by tells before after called (Ok a) (Err stop.NoMemory) old work then entered left is = absurd is
left-by tells before after called (Err e) (Ok b) old work then entered left is = absurd is
left-by tells before after called (Err e) (Err (stop.No r)) old work then entered left is = absurd is
left-by tells before after called (Err e) (Err stop.NoMemory) old work then entered left is = tt
