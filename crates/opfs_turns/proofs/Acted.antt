-- What an agent's turn found and left, by the clauses of the hall and of the store.
use Rattle.std.proofs.Common.{◌≡◌, ◌≢◌, ◌⊎◌, ℕ, ◌+◌, Bool, false, true, not, Option, Some, None, All, List, [], ◌∷◌, ◌++◌, append-nil, length, map, Result, Ok, Err, refl, sym, ap, ◌∙◌, subst, inl, inr, arith}
use Rattle.std.specs.Prelude.{IfOk, OnErr}
use Rattle.std.proofs.lemmas.List.Elements.{All-append, All-cons, All-nil, All-weaker}
use Rattle.opfs_base.specs.Texts.{Text}
use Rattle.opfs_hall.specs.History.{GrowsByOthers, Adds}
use Rattle.opfs_hall.specs.Seen.{PassSeen}
use Rattle.opfs_hist.specs.declared.entry.Entry.{Entry}
use Rattle.opfs_hist.specs.declared.op.Op.{Op}
use Rattle.opfs_hist.specs.declared.reply.Reply.{Reply}
use Rattle.opfs_machine.specs.declared.own.Own.{Own}
use Rattle.opfs_machine.specs.declared.state.State.{State}
use Rattle.opfs_machine.specs.Agents.{agent_of}
use Rattle.opfs_machine.specs.Histories.{after_entry, state_after}
use Rattle.opfs_machine.specs.Openings.{Opening}
use Rattle.opfs_machine.specs.Runs.{Call, eviction}
use Rattle.opfs_laws.specs.Leaving.{asks_nobody, is_end}
use Rattle.opfs_laws.proofs.Numbers.{number-of}
use Rattle.opfs_laws.specs.Histories.Opened.{added}
use Rattle.opfs_laws.specs.Histories.Unread.{IsTold, ArePendingFor}
use Rattle.opfs_store.specs.declared.acts.acted.Gift.{Gift}
use Rattle.opfs_store.specs.declared.acts.acted.Acted.{Acted}
use Rattle.opfs_store.specs.Acts.Acting.{told_entry, IsCallFor, IsActed, IsGift, InHand, IsServed, IsUnserved}
use Rattle.opfs_store.specs.Acts.Asking.{MayAct, MayTakePending, IsThere}
use Rattle.opfs_work.specs.Works.{WorkingCopy}
use Rattle.opfs_turns.specs.declared.notes.Notes.{Notes}
use Rattle.opfs_turns.specs.Agents.{AgentSeen, IsAgent, seen}
use Rattle.opfs_turns.specs.Calls.{HasRoom, MayAsk, before_call, IsEntered, HasLooked}
use Rattle.opfs_machine.specs.Agents.{waits_for}
use Rattle.opfs_store.specs.declared.acts.acted.AwaitState.{AwaitState}
use Rattle.opfs_store.specs.Acts.Acting.{awaited}
use Rattle.opfs_hist.specs.declared.op.Op.TheVariants as op
use Rattle.opfs_hist.specs.declared.reply.Reply.TheVariants as reply
use Rattle.opfs_turns.specs.Agents.{is_wait}
use Rattle.opfs_turns.specs.Entering.{HasEnteredPending}
use Rattle.opfs_turns.specs.Waiting.{HasWaitRoom, IsNotDue, IsTurned, IsWaiting, IsLooking, IsAwaitTurn, await_reply, planned, op_by, noted_by, turn_by}
use Rattle.opfs_turns.specs.declared.waiting.AwaitTurn.{AwaitTurn}
use Rattle.opfs_turns.specs.declared.waiting.Plan.{Plan}
use Rattle.opfs_turns.specs.declared.waiting.Plan.TheVariants as plan
use Rattle.opfs_turns.proofs.Awaiting.{IsAsk, answered-facts, begun-facts, begins-by, looks-by, op-same, op-none, await-ask, wait-ask}
use Rattle.opfs_turns.proofs.Beside.{pending-awaited, pending-agents}
use Rattle.opfs_turns.proofs.Counts.{one_if}
use Rattle.opfs_turns.proofs.Standing.{act-pending, after-more}
use Rattle.opfs_turns.proofs.Turning.{act-may, take-may, taken-agent, taken, looked-agent, looked, entered-agent, entered, await-may, wait-may, waits-there, fresh_work, asked_at, asked-agent, asked, asked-reply, asked-rows, asked-waits}

module _ {O : Type 0} (tells : Type 0) (opened : O → Opening) (pass : PassSeen O Entry) (notes : Notes) (owner : Entry → ℕ) (owned : (e : Entry) → owner e ≡ e.agent) where
  abbrev agent : AgentSeen O
  agent = seen opened pass notes

  abbrev call : Op → Call
  call called = record { agent = pass.agent; number = notes.number; op = called }

  module _ (kept : IsAgent tells agent) (o : Opening) (begun : o ≡ opened pass.hall.opening) (list : List Entry) (grows : GrowsByOthers owner pass.agent pass.base list) (told : IsTold tells o list) where
    abbrev more : List Entry
    more = grows.0

    apart : All (λ e. e.agent ≢ pass.agent) more
    apart = All-weaker (λ e. owner e ≢ pass.agent) (λ e. e.agent ≢ pass.agent) (λ e ne is. ne (owned e ∙ is)) more (grows.2 kept.real)

    told-here : IsTold tells (opened pass.hall.opening) (pass.base ++ more)
    told-here = subst (λ p. IsTold tells p (pass.base ++ more)) begun (subst (IsTold tells o) grows.1 told)

    pub acts : (called : Op) (work : WorkingCopy) (past : List Text) → HasRoom agent → MayAsk tells agent called work past → MayAct tells o list notes.pending (call called) work past
    acts called work past room may =
        subst (λ p. MayAct tells p list notes.pending (call called) work past) (sym begun)
        (subst (λ l. MayAct tells (opened pass.hall.opening) l notes.pending (call called) work past) (sym grows.1)
        (act-may tells agent kept more apart told-here called work past room may))

    -- Its own calls are such where they are taken in.
    pub pending-there : ArePendingFor tells (state_after o list) pass.agent notes.pending
    pending-there =
        subst (λ p. ArePendingFor tells (state_after p list) pass.agent notes.pending) (sym begun)
        (subst (λ l. ArePendingFor tells (state_after (opened pass.hall.opening) l) pass.agent notes.pending) (sym grows.1)
        (act-pending tells (opened pass.hall.opening) pass.base more pass.agent told-here apart notes.pending kept.local))

    rested : (new : List Entry) (after : PassSeen O Entry) → after ≡ record pass { base = new; busy = false } → after ≡ record pass { base = new }
    rested new after is = is ∙ (λ i. record pass { base = new; busy = sym kept.idle i })

    -- Nothing was entered.
    module _ (new : List Entry) (new_is : new ≡ list) (after : PassSeen O Entry) (after_is : after ≡ record pass { base = new; busy = false }) (pending : List Entry) (pending_is : pending ≡ notes.pending) where
      same : record agent { pass = record pass { base = pass.base ++ more } } ≡ seen opened after (record notes { pending = pending })
      same = λ i. seen opened (((λ j. record pass { base = sym (new_is ∙ grows.1) j }) ∙ sym (rested new after after_is)) i) (record notes { pending = sym pending_is i })

      pub unacted : IsAgent tells (seen opened after (record notes { pending = pending })) × HasLooked agent (seen opened after (record notes { pending = pending }))
      unacted = (subst (IsAgent tells) same (looked-agent tells agent kept more apart told-here), subst (HasLooked agent) same (looked tells agent kept more apart told-here))

    -- Its own calls may be taken in without a call.
    pub takes-in : HasRoom agent → MayTakePending tells o list notes.pending pass.agent
    takes-in room =
        subst (λ p. MayTakePending tells p list notes.pending pass.agent) (sym begun)
        (subst (λ l. MayTakePending tells (opened pass.hall.opening) l notes.pending pass.agent) (sym grows.1)
        (take-may tells agent kept more apart told-here room))

    -- They were taken in.
    module _ (new : List Entry) (new_is : new ≡ list ++ notes.pending) (told_new : IsTold tells o new) (after : PassSeen O Entry) (after_is : after ≡ record pass { base = new; busy = false }) (pending : List Entry) (none : pending ≡ []) where
      all-is : new ≡ (pass.base ++ more) ++ notes.pending
      all-is = new_is ∙ ap (λ l. l ++ notes.pending) grows.1

      all-same : record agent { pass = record pass { base = (pass.base ++ more) ++ notes.pending }; pending = [] } ≡ seen opened after (record notes { pending = pending })
      all-same = λ i. seen opened (((λ j. record pass { base = sym all-is j }) ∙ sym (rested new after after_is)) i) (record notes { pending = sym none i })

      pub told-agent : IsAgent tells (seen opened after (record notes { pending = pending }))
      told-agent =
          subst (IsAgent tells) all-same
          (taken-agent tells agent kept more apart told-here
          (subst (λ p. IsTold tells p ((pass.base ++ more) ++ notes.pending)) begun (subst (IsTold tells o) all-is told_new)))

      pub told-all : HasEnteredPending tells agent (seen opened after (record notes { pending = pending }))
      told-all = subst (HasEnteredPending tells agent) all-same (taken tells agent kept more apart told-here)

    abbrev there : State Text Own
    there = state_after (opened pass.hall.opening) (before_call agent more)

    -- The store has such an agent.
    pub agent-there : IsThere (state_after o list) pass.agent
    agent-there =
        let number = number-of there pass.agent (looked-agent tells agent kept more apart told-here).live in
        let many : length there.agents ≡ length (state_after o list).agents =
        ap (λ t. length t.agents) (after-more (opened pass.hall.opening) (pass.base ++ more) notes.pending)
        ∙ pending-agents tells (state_after (opened pass.hall.opening) (pass.base ++ more)) pass.agent notes.pending
        (act-pending tells (opened pass.hall.opening) pass.base more pass.agent told-here apart notes.pending kept.local)
        ∙ (λ i. length (state_after (sym begun i) (sym grows.1 i)).agents) in
        record { above = omega (arith, number.is); within = omega (arith, number.is, number.within, many) }

    -- A tag stands as the store tells: the agent's own calls change nothing of it.
    awaited-there : (tag : Text) → awaited there pass.agent tag ≡ awaited (state_after o list) pass.agent tag
    awaited-there tag =
        ap (λ t. awaited t pass.agent tag) (after-more (opened pass.hall.opening) (pass.base ++ more) notes.pending)
        ∙ pending-awaited tells (state_after (opened pass.hall.opening) (pass.base ++ more)) pass.agent tag notes.pending kept.real
        (act-pending tells (opened pass.hall.opening) pass.base more pass.agent told-here apart notes.pending kept.local)
        ∙ (λ i. awaited (state_after (sym begun i) (sym grows.1 i)) pass.agent tag)

    module _ (tag : Text) (stands : AwaitState) (stands_is : stands ≡ awaited (state_after o list) pass.agent tag) (begun_now : Bool) (begun_is : begun_now ≡ waits_for notes.waiting tag) where
      plan-there : (p : Plan) → planned stands begun_now ≡ p → planned (awaited there pass.agent tag) begun_now ≡ p
      plan-there p is = ap (λ w. planned w begun_now) (awaited-there tag ∙ sym stands_is) ∙ is

      begun-there : begun_now ≡ waits_for (agent_of there pass.agent).waits tag
      begun-there = begun_is ∙ ap (λ w. waits_for w tag) (sym (waits-there tells agent kept more apart told-here))

      to-act : (called : Op) (work : WorkingCopy) → MayAct tells (opened pass.hall.opening) (pass.base ++ more) notes.pending (call called) work [] → MayAct tells o list notes.pending (call called) work []
      to-act called work may =
          subst (λ p. MayAct tells p list notes.pending (call called) work []) (sym begun)
          (subst (λ l. MayAct tells (opened pass.hall.opening) l notes.pending (call called) work []) (sym grows.1) may)

      await-acts : (posted : Bool) (work : WorkingCopy) → work ≡ fresh_work → HasWaitRoom agent → planned stands begun_now ≡ plan.Answer posted → MayAct tells o list notes.pending (call (op.Await tag)) work []
      await-acts posted work fresh room is =
          to-act (op.Await tag) work
          (await-may tells agent kept more apart told-here tag work fresh room (answered-facts there pass.agent tag begun_now posted (plan-there (plan.Answer posted) is)).1)

      wait-acts : (work : WorkingCopy) → work ≡ fresh_work → HasWaitRoom agent → planned stands begun_now ≡ plan.Begin → MayAct tells o list notes.pending (call (op.Wait tag)) work []
      wait-acts work fresh room is =
          to-act (op.Wait tag) work
          (wait-may tells agent kept more apart told-here tag work fresh room (begun-facts there pass.agent tag begun_now begun-there (plan-there plan.Begin is)).0)

      -- What is entered by its plan may be entered.
      pub plan-acts : (p : Plan) (called : Op) (work : WorkingCopy) → planned stands begun_now ≡ p → op_by p tag ≡ Some called → work ≡ fresh_work → HasWaitRoom agent → MayAct tells o list notes.pending (call called) work []
      plan-acts (plan.Answer posted) called work is entered fresh room = subst (λ (x : Op). MayAct tells o list notes.pending (call x) work []) (op-same entered) (await-acts posted work fresh room is)
      plan-acts plan.Begin called work is entered fresh room = subst (λ (x : Op). MayAct tells o list notes.pending (call x) work []) (op-same entered) (wait-acts work fresh room is)
      plan-acts plan.Look called work is entered fresh room = absurd (op-none entered)

      await-asks : (posted : Bool) → planned stands begun_now ≡ plan.Answer posted → IsAsk there pass.agent (op.Await tag) (await_reply posted) None
      await-asks posted is = await-ask there pass.agent tag posted (answered-facts there pass.agent tag begun_now posted (plan-there (plan.Answer posted) is)).0

      wait-asks : IsAsk there pass.agent (op.Wait tag) reply.Done (Some tag)
      wait-asks = wait-ask there pass.agent tag

      -- It begins to wait for a tag that is not due.
      begins-waiting : (b : AgentSeen O) → planned stands begun_now ≡ plan.Begin → (t : IsTurned tells agent b (op.Wait tag) reply.Done) × (t.others ≡ more)
          → b ≡ record agent { pass = record pass { base = b.pass.base }; pending = []; entries = notes.entries + 1; waiting = Some tag } → IsWaiting tells agent b tag
      begins-waiting b is turned rest = record {
        turned = turned.0;
        first = sym begun_is ∙ (begun-facts there pass.agent tag begun_now begun-there (plan-there plan.Begin is)).1;
        not_due =
            subst (λ es. IsNotDue agent (pass.base ++ es) tag) (sym turned.1)
            ((λ i. awaited (state_after (sym begun i) (sym grows.1 i)) pass.agent tag) ∙ sym stands_is ∙ begins-by stands begun_now is);
        rest = rest;
      }

      -- It goes on waiting for one.
      pub goes-on-waiting : (after : PassSeen O Entry) → after ≡ record pass { base = list; busy = false } → planned stands begun_now ≡ plan.Look → HasLooked agent (seen opened after notes)
          → IsLooking agent (seen opened after notes) tag
      goes-on-waiting after after_is is looked = record {
        looked = looked;
        begun = sym begun_is ∙ (looks-by stands begun_now is).0;
        not_due =
            (λ i. awaited (state_after (opened (after_is i).hall.opening) (after_is i).base) (after_is i).agent tag)
            ∙ (λ i. awaited (state_after (sym begun i) list) pass.agent tag)
            ∙ sym stands_is
            ∙ (looks-by stands begun_now is).1;
      }

    -- The call was entered.
    module _ (called : Op) (answered : Reply) (new : List Entry) (acted : IsActed tells o list notes.pending (call called) answered new) where
      call-here : IsCallFor tells (state_after (opened pass.hall.opening) (before_call agent more)) acted.gone (told_entry (call called) answered)
      call-here =
          subst (λ p. IsCallFor tells (state_after p ((pass.base ++ more) ++ notes.pending)) acted.gone (told_entry (call called) answered)) begun
          (subst (λ l. IsCallFor tells (state_after o (l ++ notes.pending)) acted.gone (told_entry (call called) answered)) grows.1 acted.call)

      new-is : new ≡ (pass.base ++ more) ++ added notes.pending acted.gone (told_entry (call called) answered)
      new-is = acted.grown ∙ ap (λ l. l ++ added notes.pending acted.gone (told_entry (call called) answered)) grows.1

      module _ (told_new : IsTold tells o new) (after : PassSeen O Entry) (after_is : after ≡ record pass { base = new; busy = false }) (pending : List Entry) (none : pending ≡ []) (rows : ℕ) where
        abbrev then : AgentSeen O
        then = seen opened after (record notes { pending = pending; number = notes.number + 1; entries = notes.entries + 1; rows = rows })

        grown-same : record agent { pass = record pass { base = (pass.base ++ more) ++ added notes.pending acted.gone (told_entry (call called) answered) }; pending = []; number = notes.number + 1; entries = notes.entries + 1; rows = rows } ≡ then
        grown-same = λ i. seen opened (((λ j. record pass { base = sym new-is j }) ∙ sym (rested new after after_is)) i) (record notes { pending = sym none i; number = notes.number + 1; entries = notes.entries + 1; rows = rows })

        pub acted-agent : rows ≡ length (agent_of (state_after o new) pass.agent).own → asks_nobody called ≡ true → is_end called ≡ false → IsAgent tells then
        acted-agent made nobody stays =
            subst (IsAgent tells) grown-same
            (entered-agent tells agent kept more apart told-here called answered acted.gone call-here rows
            (subst (λ p. IsTold tells p ((pass.base ++ more) ++ added notes.pending acted.gone (told_entry (call called) answered))) begun (subst (IsTold tells o) new-is told_new))
            (made ∙ (λ i. length (agent_of (state_after (begun i) (new-is i)) pass.agent).own))
            nobody stays)

        pub acted-entered : (given : Gift) → IsGift tells (state_after o (list ++ notes.pending)) called answered given → IsEntered tells agent then called answered given
        acted-entered given gift =
            subst (λ b. IsEntered tells agent b called answered given) grown-same
            (entered tells agent kept more apart told-here called answered acted.gone call-here rows given
            (subst (λ p. IsGift tells (state_after p ((pass.base ++ more) ++ notes.pending)) called answered given) begun
            (subst (λ l. IsGift tells (state_after o (l ++ notes.pending)) called answered given) grows.1 gift)))

        -- A call that may change what the agent waits for, and its answer.
        module _ (right : Reply) (waiting : Option Text) (number : ℕ) (ask : IsAsk there pass.agent called right waiting) where
          abbrev asked_then : AgentSeen O
          asked_then = seen opened after (record notes { pending = pending; number = number; entries = notes.entries + 1; rows = rows; waiting = waiting })

          asked-same : asked_at tells agent kept more apart told-here called answered acted.gone call-here number rows waiting ≡ asked_then
          asked-same = λ i. seen opened (((λ j. record pass { base = sym new-is j }) ∙ sym (rested new after after_is)) i) (record notes { pending = sym none i; number = number; entries = notes.entries + 1; rows = rows; waiting = waiting })

          ask-agent : rows ≡ length (agent_of (state_after o new) pass.agent).own → number ≡ notes.number + one_if (not (is_wait called)) → IsAgent tells asked_then
          ask-agent made next =
              subst (IsAgent tells) asked-same
              (asked-agent tells agent kept more apart told-here called answered acted.gone call-here number rows waiting
              (subst (λ p. IsTold tells p ((pass.base ++ more) ++ added notes.pending acted.gone (told_entry (call called) answered))) begun (subst (IsTold tells o) new-is told_new))
              (made ∙ (λ i. length (agent_of (state_after (begun i) (new-is i)) pass.agent).own))
              ask.stays next
              (asked-waits tells agent kept more apart told-here called answered acted.gone call-here right waiting ask))

          abbrev Turned : AgentSeen O → Reply → Type 0
          Turned b r = (t : IsTurned tells agent b called r) × (t.others ≡ more)

          ask-turned : Turned asked_then right
          ask-turned =
              subst (Turned asked_then) (asked-reply tells agent kept more apart told-here called answered acted.gone call-here right waiting ask)
              (subst (λ b. Turned b answered) asked-same
              (asked tells agent kept more apart told-here called answered acted.gone call-here number rows waiting, refl))

          ask-rest : rows ≡ length (agent_of (state_after o new) pass.agent).own
              → asked_then ≡ record agent { pass = record pass { base = asked_then.pass.base }; pending = []; number = number; entries = notes.entries + 1; waiting = waiting }
          ask-rest made =
              subst (λ b. b ≡ record agent { pass = record pass { base = b.pass.base }; pending = []; number = number; entries = notes.entries + 1; rows = b.rows; waiting = waiting }) asked-same refl
              ∙ (λ i. record agent { pass = record pass { base = asked_then.pass.base }; pending = []; number = number; entries = notes.entries + 1; rows = same i; waiting = waiting })
            where
              same : rows ≡ notes.rows
              same =
                  asked-rows tells agent kept more apart told-here called answered acted.gone call-here right waiting rows ask
                  (made ∙ (λ i. length (agent_of (state_after (begun i) (new-is i)) pass.agent).own))

    -- The turn of an await has entered what its plan says.
    module _ (tag : Text) (stands : AwaitState) (stands_is : stands ≡ awaited (state_after o list) pass.agent tag) (begun_now : Bool) (begun_is : begun_now ≡ waits_for notes.waiting tag) (called : Op) (answered : Reply) (new : List Entry) (acted : IsActed tells o list notes.pending (call called) answered new) (told_new : IsTold tells o new) (after : PassSeen O Entry) (after_is : after ≡ record pass { base = new; busy = false }) (pending : List Entry) (none : pending ≡ []) (rows : ℕ) (made : rows ≡ length (agent_of (state_after o new) pass.agent).own) where
      abbrev then_by : ℕ → Option Text → AgentSeen O
      then_by number waiting = seen opened after (record notes { pending = pending; number = number; entries = notes.entries + 1; rows = rows; waiting = waiting })

      abbrev Left : Type 0 → Notes → AwaitTurn → Type 0
      Left E n t = IsAgent tells (seen opened after n) × IsAwaitTurn {E = E} tells agent (seen opened after n) tag (Ok t)

      left-by : (E : Type 0) (p : Plan) (heard : ℕ) → planned stands begun_now ≡ p → op_by p tag ≡ Some called → Left E (noted_by p (record notes { pending = pending }) rows tag) (turn_by p heard)
      left-by E (plan.Answer posted) heard is entered =
          let same : op.Await tag ≡ called = op-same entered in
          let ask = subst (λ (x : Op). IsAsk there pass.agent x (await_reply posted) None) same (await-asks tag stands stands_is begun_now begun_is posted is) in
          let next = subst (λ (x : Op). notes.number + 1 ≡ notes.number + one_if (not (is_wait x))) same refl in
          let turned = ask-turned called answered new acted told_new after after_is pending none rows (await_reply posted) None (notes.number + 1) ask in (
            ask-agent called answered new acted told_new after after_is pending none rows (await_reply posted) None (notes.number + 1) ask made next,
            record {
              turned = subst (λ (x : Op). IsTurned tells agent (then_by (notes.number + 1) None) x (await_reply posted)) (sym same) turned.0;
              rest = ask-rest called answered new acted told_new after after_is pending none rows (await_reply posted) None (notes.number + 1) ask made;
            },
          )
      left-by E plan.Begin heard is entered =
          let same : op.Wait tag ≡ called = op-same entered in
          let ask = subst (λ (x : Op). IsAsk there pass.agent x reply.Done (Some tag)) same (wait-asks tag stands stands_is begun_now begun_is) in
          let no_number : notes.number ≡ notes.number + one_if (not (is_wait (op.Wait tag))) = omega arith in
          let next = subst (λ (x : Op). notes.number ≡ notes.number + one_if (not (is_wait x))) same no_number in
          let turned = ask-turned called answered new acted told_new after after_is pending none rows reply.Done (Some tag) notes.number ask in (
            ask-agent called answered new acted told_new after after_is pending none rows reply.Done (Some tag) notes.number ask made next,
            inr
                (begins-waiting tag stands stands_is begun_now begun_is (then_by notes.number (Some tag)) is
                (subst (λ (x : Op). (t : IsTurned tells agent (then_by notes.number (Some tag)) x reply.Done) × (t.others ≡ more)) (sym same) turned)
                (ask-rest called answered new acted told_new after after_is pending none rows reply.Done (Some tag) notes.number ask made)),
          )
      left-by E plan.Look heard is entered = absurd (op-none entered)

      pub plan-left : (E : Type 0) (p : Plan) (heard : ℕ) (n : Notes) (t : AwaitTurn) → planned stands begun_now ≡ p → op_by p tag ≡ Some called
          → n ≡ noted_by p (record notes { pending = pending }) rows tag → t ≡ turn_by p heard → Left E n t
      plan-left E p heard n t is entered n_is t_is =
          subst (λ (x : Notes). Left E x t) (sym n_is)
          (subst (λ (x : AwaitTurn). Left E (noted_by p (record notes { pending = pending }) rows tag) x) (sym t_is) (left-by E p heard is entered))

-- ---- what is added is the agent's own, or nobody's

pending-own : (tells : Type 0) (s : State Text Own) (k : ℕ) (es : List Entry) → ArePendingFor tells s k es → All (λ e. e.agent ≡ k) es
pending-own tells s k [] h = All-nil (λ e. e.agent ≡ k)
pending-own tells s k (e ∷ es) h = All-cons (λ x. x.agent ≡ k) e es h.0.agent (pending-own tells (after_entry s e) k es h.1)

nobody-s : (gone : List Text) → All (λ e. e.agent ≡ 0) (map eviction gone)
nobody-s [] = All-nil (λ e. e.agent ≡ 0)
nobody-s (unit ∷ gone) = All-cons (λ e. e.agent ≡ 0) (eviction unit) (map eviction gone) refl (nobody-s gone)

module _ (owner : Entry → ℕ) (owned : (e : Entry) → owner e ≡ e.agent) (k : ℕ) where
  abbrev Mine : Entry → Type 0
  Mine e = (owner e ≡ k) ⊎ (owner e ≡ 0)

  pub added-own : (pending : List Entry) (gone : List Text) (e : Entry) → All (λ x. x.agent ≡ k) pending → e.agent ≡ k → All Mine (added pending gone e)
  added-own pending gone e mine here =
      All-append Mine pending (map eviction gone ++ e ∷ [])
      (All-weaker (λ x. x.agent ≡ k) Mine (λ x is. inl (owned x ∙ is)) pending mine)
      (All-append Mine (map eviction gone) (e ∷ []) (All-weaker (λ x. x.agent ≡ 0) Mine (λ x is. inr (owned x ∙ is)) (map eviction gone) (nobody-s gone))
      (All-cons Mine e [] (inl (owned e ∙ here)) (All-nil Mine)))

  -- What a turn without a call leaves: the pending calls.
  pub adds-pending : (tells : Type 0) (o : Opening) (before pending after : List Entry) → after ≡ before ++ pending → ArePendingFor tells (state_after o before) k pending → Adds owner k before after
  adds-pending tells o before pending after grown local = (
    pending,
    grown,
    All-weaker (λ x. x.agent ≡ k) Mine (λ x is. inl (owned x ∙ is)) pending (pending-own tells (state_after o before) k pending local),
  )

  -- What a turn leaves: the call's entries or nothing.
  pub adds : {E : Type 0} (tells : Type 0) (o : Opening) (before after : InHand) (c : Call) → c.agent ≡ k → (r : Result Acted E)
      → ArePendingFor tells (state_after o before.entries) k before.pending
      → IfOk r (λ done. IsServed tells o before after c done) → OnErr r (IsUnserved before after)
      → Adds owner k before.entries after.entries
  adds tells o before after c is_mine (Ok done) local served unserved =
      let acted = served.acted in (
        added before.pending acted.gone (told_entry c done.reply),
        acted.grown,
        added-own before.pending acted.gone (told_entry c done.reply) (pending-own tells (state_after o before.entries) k before.pending local) is_mine,
      )
  adds tells o before after c is_mine (Err e) local served unserved = ([], unserved.entries ∙ sym (append-nil before.entries), All-nil Mine)
