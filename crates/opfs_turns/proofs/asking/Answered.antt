-- A call that was entered and not refused has the machine's own answer.
use Rattle.std.proofs.Common.{◌≡◌, ℕ, Bool, true, false, List, Option, Some, None, Ok, Err, inl, inr, refl, sym, ap, ◌∙◌, subst}
use Rattle.std.specs.Prelude.{MatchOption}
use Rattle.opfs_base.specs.Texts.{Text}
use Rattle.opfs_base.specs.declared.locator.Locator.{Locator}
use Rattle.opfs_hist.specs.declared.entry.Entry.{Entry}
use Rattle.opfs_hist.specs.declared.op.Op.{Op}
use Rattle.opfs_hist.specs.declared.reply.Reply.{Reply}
use Rattle.opfs_hist.specs.declared.reply.Reply.TheVariants as reply
use Rattle.opfs_machine.specs.declared.own.Own.{Own}
use Rattle.opfs_machine.specs.declared.state.State.{State}
use Rattle.opfs_machine.specs.Histories.{Agrees, state_after}
use Rattle.opfs_machine.specs.Replies.{answer, sizes_of}
use Rattle.opfs_machine.specs.Ruled.{Ruled, ◌>>=◌, ◌>>◌, unless}
use Rattle.opfs_machine.specs.Rulings.{ruling, get_handle_ruling}
use Rattle.opfs_machine.specs.declared.state.Need.{Need}
use Rattle.opfs_hist.specs.declared.reply.Refusal.{Refusal}
use Rattle.opfs_hist.specs.declared.op.Op.TheVariants as op
use Rattle.opfs_base.specs.Names.{is_valid_name}
use Rattle.opfs_machine.specs.Steps.{is_refusal, outcome_of, step, judged}
use Rattle.opfs_laws.specs.Histories.Unread.{unread}
use Rattle.opfs_laws.proofs.histories.Reading.{refuses-same}
use Rattle.opfs_store.specs.declared.acts.acted.Acted.{Acted}
use Rattle.opfs_store.specs.declared.acts.acted.Gift.{Gift}
use Rattle.opfs_turns.specs.Agents.{AgentSeen}
use Rattle.opfs_turns.specs.Calls.{before_call, IsEntered}
use Rattle.opfs_turns.specs.Asking.Answers.{HasAnswer, IsAnsweredBy, IsRead}

true_false : true ≡ false → ⊥
true_false h = cc

answered-by : (s : State Text Own) (k : ℕ) (op : Op) (ruled : Ruled (List Text)) (r : Reply) → r ≡ (outcome_of s k op ruled).answered → is_refusal r ≡ false
    → r ≡ answer s (sizes_of s k op) k op
unfolding outcome_of
answered-by s k op (Ok units) r is accepted = is
answered-by s k op (Err e) r is accepted = absurd (true_false (sym (ap is_refusal is) ∙ accepted))

step-answered : (s : State Text Own) (k : ℕ) (op : Op) (r : Reply) → r ≡ (step s k op).answered → is_refusal r ≡ false → r ≡ answer s (sizes_of s k op) k op
unfolding step
step-answered s k op r is accepted = answered-by s k op (judged s k op) r is accepted

agrees-answered : (s : State Text Own) (gone : List Text) (k : ℕ) (op : Op) (r : Reply) → Agrees s gone k op r (step s k op) → is_refusal r ≡ false → r ≡ answer s (sizes_of s k op) k op
agrees-answered s gone k op r (inl is) accepted = step-answered s k op r is.same_reply accepted
agrees-answered s gone k op r (inr fault) accepted = absurd (true_false (sym (ap is_refusal fault.told) ∙ accepted))

-- Whether a reply gives bytes.
abbrev pub is_read : Reply → Bool
is_read (reply.Read bytes) = true
is_read r = false

pub unread-is : (r t : Reply) → unread r ≡ t → is_read t ≡ false → r ≡ t
unread-is (reply.Read bytes) t is plain = absurd (true_false (ap is_read is ∙ plain))
unread-is reply.Done t is plain = is
unread-is (reply.Length n) t is plain = is
unread-is (reply.Flag b) t is plain = is
unread-is (reply.Child kind name) t is plain = is
unread-is reply.Last t is plain = is
unread-is reply.NoPath t is plain = is
unread-is (reply.Names names) t is plain = is
unread-is (reply.FileInfo size stamp) t is plain = is
unread-is (reply.Estimate used quota) t is plain = is
unread-is (reply.Gone unit) t is plain = is
unread-is (reply.No r) t is plain = is

pub unread-plain : (t : Reply) → is_read t ≡ false → unread t ≡ t
unread-plain (reply.Read bytes) plain = absurd (true_false plain)
unread-plain reply.Done plain = refl
unread-plain (reply.Length n) plain = refl
unread-plain (reply.Flag b) plain = refl
unread-plain (reply.Child kind name) plain = refl
unread-plain reply.Last plain = refl
unread-plain reply.NoPath plain = refl
unread-plain (reply.Names names) plain = refl
unread-plain (reply.FileInfo size stamp) plain = refl
unread-plain (reply.Estimate used quota) plain = refl
unread-plain (reply.Gone unit) plain = refl
unread-plain (reply.No r) plain = refl

module _ {O : Type 0} (tells : Type 0) (before after : AgentSeen O) (called : Op) (answered : Reply) (given : Gift) (e : IsEntered tells before after called answered given)
    (accepted : is_refusal answered ≡ false) where
  -- The state in the turn.
  abbrev pub turn_state : State Text Own
  turn_state = state_after before.opening (before_call before e.others)

  pub real_accepted : is_refusal e.call.real.reply ≡ false
  real_accepted =
      sym (refuses-same e.call.real.reply) ∙ ap (λ (x : Entry). is_refusal x.reply) (sym e.call.alike) ∙ refuses-same answered ∙ accepted

  pub real_answered : e.call.real.reply ≡ answer turn_state (sizes_of turn_state before.pass.agent called) before.pass.agent called
  real_answered =
      agrees-answered turn_state e.gone e.call.real.agent e.call.real.op e.call.real.reply e.call.call.agrees real_accepted
      ∙ (λ i. answer turn_state (sizes_of turn_state (ap (λ (x : Entry). x.agent) (sym e.call.alike) i) (ap (λ (x : Entry). x.op) (sym e.call.alike) i)) (ap (λ (x : Entry). x.agent) (sym e.call.alike) i) (ap (λ (x : Entry). x.op) (sym e.call.alike) i))

  -- Its answer, where it gives no bytes.
  pub plain-answered : is_read (answer turn_state (sizes_of turn_state before.pass.agent called) before.pass.agent called) ≡ false
      → answered ≡ answer turn_state (sizes_of turn_state before.pass.agent called) before.pass.agent called
  plain-answered plain =
      unread-is answered _
      (ap (λ (x : Entry). x.reply) e.call.alike ∙ ap unread real_answered ∙ unread-plain (answer turn_state (sizes_of turn_state before.pass.agent called) before.pass.agent called) plain) plain

-- A reply of this kind gives no bytes.
abbrev pub GivesNone : (Reply → Type 0) → Type 0
GivesNone Kind = (r : Reply) → Kind r → is_read r ≡ false

-- A call whose answers are all of a kind.
pub kind-answered : {O : Type 0} (tells : Type 0) (before after : AgentSeen O) (called : Op) (acted : Acted) (Kind : Reply → Type 0) → GivesNone Kind → IsAnsweredBy called Kind
    → HasAnswer tells before after called (λ a answered given. (a.reply ≡ answered) × (a.gift ≡ given)) acted → Kind acted.reply
kind-answered tells before after called acted Kind none by h =
    let s = turn_state tells before after called h.answered h.given h.entered h.accepted in
    let z = sizes_of s before.pass.agent called in
    let here = by s z before.pass.agent in
    subst Kind (sym (h.gives.0 ∙ plain-answered tells before after called h.answered h.given h.entered h.accepted (none _ here))) here

-- The same call, with something made of its reply.
pub made-of : {O T : Type 0} (tells : Type 0) (before after : AgentSeen O) (called : Op) (acted : Acted) (Gives : T → Reply → Gift → Type 0) (x : T) → Gives x acted.reply acted.gift
    → HasAnswer tells before after called (λ a answered given. (a.reply ≡ answered) × (a.gift ≡ given)) acted → HasAnswer tells before after called Gives x
made-of tells before after called acted Gives x gives h = record {
  answered = h.answered;
  given = h.given;
  entered = h.entered;
  accepted = h.accepted;
  gives = subst (λ g. Gives x h.answered g) h.gives.1 (subst (λ r. Gives x r acted.gift) h.gives.0 gives);
}

-- A call that was done, with the locator that it was asked for.
pub with_child : {O : Type 0} (tells : Type 0) (before after : AgentSeen O) (called : Op) (at child : Locator) → at ≡ child
    → HasAnswer {T = Unit {0}} tells before after called (λ x answered given. answered ≡ reply.Done) tt
    → HasAnswer tells before after called (λ l answered given. (l ≡ child) × (answered ≡ reply.Done)) at
with_child tells before after called at child is h = record { answered = h.answered; given = h.given; entered = h.entered; accepted = h.accepted; gives = (is, h.gives) }

-- ---- names

judged-by : (s : State Text Own) (gone : List Text) (k : ℕ) (op : Op) (ruled : Ruled (List Text)) (r : Reply) → Agrees s gone k op r (outcome_of s k op ruled) → is_refusal r ≡ false
    → (units : List Text) × (ruled ≡ Ok units)
unfolding outcome_of
judged-by s gone k op (Ok units) r agrees accepted = (units, refl)
judged-by s gone k op (Err e) r (inl is) accepted = absurd (true_false (sym (ap is_refusal is.same_reply) ∙ accepted))
judged-by s gone k op (Err e) r (inr fault) accepted = absurd (true_false (sym (ap is_refusal fault.told) ∙ accepted))

step-judged : (s : State Text Own) (gone : List Text) (k : ℕ) (op : Op) (r : Reply) → Agrees s gone k op r (step s k op) → is_refusal r ≡ false → (units : List Text) × (judged s k op ≡ Ok units)
unfolding step
step-judged s gone k op r agrees accepted = judged-by s gone k op (judged s k op) r agrees accepted

passed : (test : Bool) (r : Refusal) (rest : Ruled Need) (next : Need → Ruled (List Text)) (units : List Text) → (unless test r >> rest) >>= next ≡ Ok units → test ≡ true
unfolding ◌>>=◌ ◌>>◌
passed true r rest next units is = refl
passed false r rest next units is = cc

-- A child that was found has a valid name.
file-named : (s : State Text Own) (k : ℕ) (dir : Locator) (name : Text) (create : Bool) (units : List Text) → judged s k (op.GetFileHandle dir name create) ≡ Ok units → is_valid_name name ≡ true
unfolding judged ruling get_handle_ruling
file-named s k dir name create units is = passed (is_valid_name name) _ _ _ units is

directory-named : (s : State Text Own) (k : ℕ) (dir : Locator) (name : Text) (create : Bool) (units : List Text) → judged s k (op.GetDirectoryHandle dir name create) ≡ Ok units → is_valid_name name ≡ true
unfolding judged ruling get_handle_ruling
directory-named s k dir name create units is = passed (is_valid_name name) _ _ _ units is

module _ {O T : Type 0} (tells : Type 0) (before after : AgentSeen O) (called : Op) (Gives : T → Reply → Gift → Type 0) (x : T) (h : HasAnswer tells before after called Gives x) where
  pub judged-there : (units : List Text) × (judged (turn_state tells before after called h.answered h.given h.entered h.accepted) before.pass.agent called ≡ Ok units)
  judged-there =
      let e = h.entered in
      let agent_is = ap (λ (r : Entry). r.agent) (sym e.call.alike) in
      let op_is = ap (λ (r : Entry). r.op) (sym e.call.alike) in
      let there = step-judged (turn_state tells before after called h.answered h.given h.entered h.accepted) e.gone e.call.real.agent e.call.real.op e.call.real.reply e.call.call.agrees (real_accepted tells before after called h.answered h.given e h.accepted) in
      (there.0, sym (λ i. judged (turn_state tells before after called h.answered h.given h.entered h.accepted) (agent_is i) (op_is i)) ∙ there.1)

pub named-file : {O T : Type 0} (tells : Type 0) (before after : AgentSeen O) (dir : Locator) (name : Text) (create : Bool) (Gives : T → Reply → Gift → Type 0) (x : T)
    → HasAnswer tells before after (op.GetFileHandle dir name create) Gives x → is_valid_name name ≡ true
named-file tells before after dir name create Gives x h =
    let there = judged-there tells before after (op.GetFileHandle dir name create) Gives x h in
    file-named (turn_state tells before after (op.GetFileHandle dir name create) h.answered h.given h.entered h.accepted) before.pass.agent dir name create there.0 there.1

pub named-directory : {O T : Type 0} (tells : Type 0) (before after : AgentSeen O) (dir : Locator) (name : Text) (create : Bool) (Gives : T → Reply → Gift → Type 0) (x : T)
    → HasAnswer tells before after (op.GetDirectoryHandle dir name create) Gives x → is_valid_name name ≡ true
named-directory tells before after dir name create Gives x h =
    let there = judged-there tells before after (op.GetDirectoryHandle dir name create) Gives x h in
    directory-named (turn_state tells before after (op.GetDirectoryHandle dir name create) h.answered h.given h.entered h.accepted) before.pass.agent dir name create there.0 there.1

-- What holds where there is none.
pub none-there : {A : Type 0} (o : Option A) (P : Type 0) (Q : A → Type 0) → MatchOption o P Q → o ≡ None → P
none-there None P Q h is = h
none-there (Some x) P Q h is = cc

-- What is unread as bytes gave bytes.
bytes-read : (r : Reply) (b : Text) → unread r ≡ unread (reply.Read b) → IsRead r
bytes-read (reply.Read bytes) b is = (bytes, refl)
bytes-read reply.Done b is = absurd cc
bytes-read (reply.Length n) b is = absurd cc
bytes-read (reply.Flag f) b is = absurd cc
bytes-read (reply.Child kind name) b is = absurd cc
bytes-read reply.Last b is = absurd cc
bytes-read reply.NoPath b is = absurd cc
bytes-read (reply.Names names) b is = absurd cc
bytes-read (reply.FileInfo size stamp) b is = absurd cc
bytes-read (reply.Estimate used quota) b is = absurd cc
bytes-read (reply.Gone unit) b is = absurd cc
bytes-read (reply.No r) b is = absurd cc

-- A call that is answered by bytes alone.
pub read-answered : {O : Type 0} (tells : Type 0) (before after : AgentSeen O) (called : Op) (acted : Acted) → IsAnsweredBy called IsRead
    → HasAnswer tells before after called (λ a answered given. (a.reply ≡ answered) × (a.gift ≡ given)) acted → IsRead acted.reply
read-answered tells before after called acted by h =
    let s = turn_state tells before after called h.answered h.given h.entered h.accepted in
    let here = by s (sizes_of s before.pass.agent called) before.pass.agent in
    let real = real_answered tells before after called h.answered h.given h.entered h.accepted ∙ here.1 in
    bytes-read acted.reply here.0 (ap unread h.gives.0 ∙ ap (λ (x : Entry). x.reply) h.entered.call.alike ∙ ap unread real)
