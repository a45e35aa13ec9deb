-- From what an agent knows to its turn, and back.
use Rattle.std.proofs.Common.{◌≡◌, ◌≢◌, ◌≤◌, ℕ, ◌+◌, ◌==◌, ◌&&◌, ◌||◌, Bool, true, false, not, All, List, [], ◌∷◌, ◌++◌, append-nil, length, map, fold, refl, sym, ap, ◌∙◌, subst, inl, inr, arith, Option, IsTrue}
use Rattle.std.specs.List.{count_by}
use Rattle.std.proofs.lemmas.Bool.{eqb-true, eq-eqb, false≢true}
use Rattle.std.proofs.lemmas.List.Elements.{All-cons, All-map, All-nil, All-weaker}
use Rattle.opfs_base.specs.Texts.{Text}
use Rattle.opfs_hist.specs.declared.entry.Entry.{Entry}
use Rattle.opfs_hist.specs.declared.op.Op.{Op}
use Rattle.opfs_hist.specs.declared.op.Op.TheVariants as op
use Rattle.opfs_hist.specs.declared.reply.Reply.{Reply}
use Rattle.opfs_machine.specs.declared.own.Own.{Own}
use Rattle.opfs_machine.specs.declared.state.State.{State}
use Rattle.opfs_machine.specs.Agents.{agent_of, own_of}
use Rattle.opfs_machine.specs.Histories.{asks_stuck, may_enter, state_after}
use Rattle.opfs_machine.specs.Replies.{given_in, row_named}
use Rattle.opfs_machine.specs.Runs.{eviction}
use Rattle.opfs_machine.specs.Steps.{evicted, after_reply}
use Rattle.opfs_laws.specs.Leaving.{seen_by, asks_nobody, is_end, IsMoved}
use Rattle.opfs_laws.proofs.Left.{may-left}
use Rattle.opfs_laws.proofs.Allowed.{agent-stays}
use Rattle.opfs_laws.proofs.Moved.{call-moves}
use Rattle.opfs_laws.proofs.Numbers.{number-of}
use Rattle.opfs_laws.specs.Histories.Opened.{added}
use Rattle.opfs_laws.specs.Histories.Unread.{unread, unread_entry, IsTold}
use Rattle.opfs_laws.proofs.histories.Adding.{added-state}
use Rattle.opfs_laws.proofs.histories.Reading.{unread-state}
use Rattle.opfs_store.specs.declared.acts.acted.Gift.{Gift}
use Rattle.opfs_store.specs.Acts.Acting.{told_entry, IsCallFor, IsGift}
use Rattle.opfs_store.specs.Acts.Asking.{MayAct, MayTakePending, HasPlace, given_by, is_open_own}
use Rattle.opfs_work.specs.Works.{WorkingCopy}
use Rattle.opfs_turns.specs.Agents.{AgentSeen, IsAgent, known, state_of, entries_of, next_number, is_wait}
use Rattle.opfs_turns.specs.Calls.{HasRoom, MayAsk, call_of, before_call, IsEntered, HasLooked}
use Rattle.opfs_turns.specs.Entering.{HasEnteredPending}
use Rattle.opfs_turns.specs.Waiting.{HasWaitRoom, IsTurned}
use Rattle.opfs_turns.proofs.Awaiting.{IsAsk, bare-is, real-answer, await-small, wait-small}
use Rattle.opfs_turns.proofs.Counts.{count-append, count-one, count-none, one_if}
use Rattle.opfs_turns.proofs.Standing.{act-pending, known-same, handed-there}

not_true : (t : Bool) → (t ≡ true → ⊥) → t ≡ false
not_true true no_true = absurd (no_true refl)
not_true false no_true = refl

differ : (a b : ℕ) → a ≢ b → (a == b) ≡ false
differ a b ne = not_true (a == b) (λ h. ne (eqb-true a b h))

-- ---- counts

abbrev pub is_of : ℕ → Entry → Bool
is_of k e = e.agent == k

abbrev pub is_numbered : ℕ → Entry → Bool
is_numbered k e = (e.agent == k) && not (is_wait e.op)

both-less : (x y : Bool) → one_if (x && y) ≤ one_if x
both-less true true = omega arith
both-less true false = omega arith
both-less false y = omega arith

of-none : (k : ℕ) (more : List Entry) → All (λ e. e.agent ≢ k) more → count_by (is_of k) more ≡ 0
of-none k more apart = count-none (is_of k) more (All-weaker (λ e. e.agent ≢ k) (λ e. is_of k e ≡ false) (λ e ne. differ e.agent k ne) more apart)

numbered-none : (k : ℕ) (more : List Entry) → All (λ e. e.agent ≢ k) more → count_by (is_numbered k) more ≡ 0
numbered-none k more apart =
    count-none (is_numbered k) more (All-weaker (λ e. e.agent ≢ k) (λ e. is_numbered k e ≡ false) (λ e ne. ap (λ t. t && not (is_wait e.op)) (differ e.agent k ne)) more apart)

pub numbered-within : (k : ℕ) (es : List Entry) → count_by (is_numbered k) es ≤ count_by (is_of k) es
numbered-within k [] = omega arith
numbered-within k (e ∷ es) =
    omega (
      arith,
      count-append (is_numbered k) (e ∷ []) es,
      count-append (is_of k) (e ∷ []) es,
      count-one (is_numbered k) e,
      count-one (is_of k) e,
      both-less (is_of k e) (not (is_wait e.op)),
      numbered-within k es,
    )

-- What others entered in between counts for nothing.
between : (p : Entry → Bool) (base more pend : List Entry) → count_by p more ≡ 0 → count_by p ((base ++ more) ++ pend) ≡ count_by p (base ++ pend)
between p base more pend none = omega (arith, count-append p (base ++ more) pend, count-append p base more, count-append p base pend, none)

evictions-none : (p : Entry → Bool) (gone : List Text) → ((unit : Text) → p (eviction unit) ≡ false) → count_by p (map eviction gone) ≡ 0
evictions-none p gone none = count-none p (map eviction gone) (All-map (λ e. p e ≡ false) eviction gone (all gone))
  where
    all : (gone : List Text) → All (λ unit. p (eviction unit) ≡ false) gone
    all [] = All-nil (λ unit. p (eviction unit) ≡ false)
    all (unit ∷ gone) = All-cons (λ u. p (eviction u) ≡ false) unit gone (none unit) (all gone)

-- Its own calls, the evictions, and its entry.
one-more : (p : Entry → Bool) (base more pend : List Entry) (gone : List Text) (e : Entry) → count_by p more ≡ 0 → ((unit : Text) → p (eviction unit) ≡ false) → p e ≡ true
    → count_by p ((base ++ more) ++ added pend gone e) ≡ count_by p (base ++ pend) + 1
one-more p base more pend gone e none gone_none here =
    let one : one_if (p e) ≡ 1 = ap one_if here in
    omega (
      arith,
      count-append p (base ++ more) (added pend gone e),
      count-append p base more,
      count-append p pend (map eviction gone ++ e ∷ []),
      count-append p (map eviction gone) (e ∷ []),
      count-append p base pend,
      evictions-none p gone gone_none,
      count-one p e,
      one,
      none,
    )

more-by : (p : Entry → Bool) (base more pend : List Entry) (gone : List Text) (e : Entry) → count_by p more ≡ 0 → ((unit : Text) → p (eviction unit) ≡ false)
    → count_by p ((base ++ more) ++ added pend gone e) ≡ count_by p (base ++ pend) + one_if (p e)
more-by p base more pend gone e none gone_none =
    omega (
      arith,
      count-append p (base ++ more) (added pend gone e),
      count-append p base more,
      count-append p pend (map eviction gone ++ e ∷ []),
      count-append p (map eviction gone) (e ∷ []),
      count-append p base pend,
      evictions-none p gone gone_none,
      count-one p e,
      none,
    )

-- An agent's next number is not above its entries by more than 1.
pub number-small : {O : Type 0} (tells : Type 0) (a : AgentSeen O) → IsAgent tells a → HasRoom a → a.number ≤ 60000001
number-small tells a kept room = omega (arith, room.entries, kept.numbered, kept.counted, numbered-within a.pass.agent (a.pass.base ++ a.pending))

pub number-small-waiting : {O : Type 0} (tells : Type 0) (a : AgentSeen O) → IsAgent tells a → HasWaitRoom a → a.number ≤ 60000002
number-small-waiting tells a kept room = omega (arith, room.entries, kept.numbered, kept.counted, numbered-within a.pass.agent (a.pass.base ++ a.pending))

-- ---- calls

abbrev pub fresh_work : WorkingCopy
fresh_work = record { pages = []; length = 0; position = 0; reserve = 0; room = 0; changed_from = 0; changed_to = 0 }

given-same : (s t : State Text Own) (k : ℕ) (called : Op) → agent_of s k ≡ agent_of t k → given_by s k called ≡ given_by t k called
given-same s t k (op.Next n dir) same = ap (λ a. given_in (own_of a n)) same
given-same s t k called same = refl

pub nobody-waits : (called : Op) → asks_nobody called ≡ true → is_wait called ≡ false
nobody-waits (op.Wait tag) h = absurd cc
nobody-waits called h = refl

pub not-stuck : (t : Bool) → not t ≡ true → t ≡ false
not-stuck true h = absurd cc
not-stuck false h = refl

alike-front : (h xs ys : List Entry) → map unread_entry xs ≡ map unread_entry ys → map unread_entry (h ++ xs) ≡ map unread_entry (h ++ ys)
alike-front [] xs ys alike = alike
alike-front (e ∷ h) xs ys alike = ap (λ zs. unread_entry e ∷ zs) (alike-front h xs ys alike)

module _ {O : Type 0} (tells : Type 0) (a : AgentSeen O) (kept : IsAgent tells a) (more : List Entry) (apart : All (λ e. e.agent ≢ a.pass.agent) more)
    (told : IsTold tells a.opening (a.pass.base ++ more)) where
  abbrev s : State Text Own
  s = state_after a.opening (before_call a more)

  -- All that is the agent's own is in its turn as it knew.
  pub own-same : seen_by s a.pass.agent ≡ seen_by (state_of a) a.pass.agent
  own-same = known-same tells a.opening a.pass.base more a.pass.agent told apart a.pending kept.local

  agent-same : agent_of s a.pass.agent ≡ agent_of (state_of a) a.pass.agent
  agent-same = ap (λ x. x.0) own-same

  live-there : IsTrue (agent_of s a.pass.agent).live
  live-there = ap (λ x. x.live) agent-same ∙ kept.live

  entries-there : entries_of a.pass.agent (before_call a more) ≡ a.entries
  entries-there = between (is_of a.pass.agent) a.pass.base more a.pending (of-none a.pass.agent more apart) ∙ sym kept.counted

  pub act-may : (called : Op) (work : WorkingCopy) (past : List Text) → HasRoom a → MayAsk tells a called work past
      → MayAct tells a.opening (a.pass.base ++ more) a.pending (call_of a called) work past
  act-may called work past room may = record {
    live = live-there;
    pending = act-pending tells a.opening a.pass.base more a.pass.agent told apart a.pending kept.local;
    place = record {
      rows = omega (arith, room.rows, kept.made, ap (λ x. length x.own) agent-same);
      entries = omega (arith, room.entries, entries-there);
    };
    shared = may.shared;
    fitting = may-left s (state_of a) a.pass.agent own-same called may.nobody ∙ may.fitting;
    opened = ap (λ x. row_named called == 0 || is_open_own (own_of x (row_named called))) agent-same ∙ may.opened;
    numbers = may.numbers;
    copy = handed-there tells a.opening a.pass.base more a.pass.agent told apart a.pending kept.local (row_named called) work may.copy;
    given = may.given ∙ sym (given-same s (state_of a) a.pass.agent called agent-same);
  }

  place-there : HasWaitRoom a → HasPlace a.opening ((a.pass.base ++ more) ++ a.pending) a.pass.agent
  place-there room = record {
    rows = omega (arith, room.rows, kept.made, ap (λ x. length x.own) agent-same);
    entries = omega (arith, room.entries, entries-there);
  }

  pub await-may : (tag : Text) (work : WorkingCopy) → work ≡ fresh_work → HasWaitRoom a → IsTrue (may_enter s a.pass.agent (op.Await tag))
      → MayAct tells a.opening (a.pass.base ++ more) a.pending (call_of a (op.Await tag)) work []
  await-may tag work fresh room fitting = record {
    live = live-there;
    pending = act-pending tells a.opening a.pass.base more a.pass.agent told apart a.pending kept.local;
    place = place-there room;
    shared = refl;
    fitting = fitting;
    opened = refl;
    numbers = await-small tag;
    copy = (ap (λ w. w.pages) fresh, ap (λ w. w.length) fresh, ap (λ w. w.position) fresh, ap (λ w. w.reserve) fresh);
    given = refl;
  }

  pub wait-may : (tag : Text) (work : WorkingCopy) → work ≡ fresh_work → HasWaitRoom a → IsTrue (may_enter s a.pass.agent (op.Wait tag))
      → MayAct tells a.opening (a.pass.base ++ more) a.pending (call_of a (op.Wait tag)) work []
  wait-may tag work fresh room fitting = record {
    live = live-there;
    pending = act-pending tells a.opening a.pass.base more a.pass.agent told apart a.pending kept.local;
    place = place-there room;
    shared = refl;
    fitting = fitting;
    opened = refl;
    numbers = wait-small tag;
    copy = (ap (λ w. w.pages) fresh, ap (λ w. w.length) fresh, ap (λ w. w.position) fresh, ap (λ w. w.reserve) fresh);
    given = refl;
  }

  pub waits-there : (agent_of s a.pass.agent).waits ≡ a.waiting
  waits-there = ap (λ x. x.waits) agent-same ∙ kept.waits

  -- Nothing was entered: the agent with a longer base.
  abbrev looked_at : AgentSeen O
  looked_at = record a { pass = record a.pass { base = a.pass.base ++ more } }

  pub looked-agent : IsAgent tells looked_at
  looked-agent = record {
    idle = kept.idle;
    real = kept.real;
    legal = told;
    local = act-pending tells a.opening a.pass.base more a.pass.agent told apart a.pending kept.local;
    live = live-there;
    own_key = ap (λ x. x.key) agent-same ∙ kept.own_key;
    numbered = kept.numbered ∙ sym (ap (λ n. 1 + n) (between (is_numbered a.pass.agent) a.pass.base more a.pending (numbered-none a.pass.agent more apart)));
    counted = sym entries-there;
    made = kept.made ∙ sym (ap (λ x. length x.own) agent-same);
    waits = ap (λ x. x.waits) agent-same ∙ kept.waits;
  }

  pub looked : HasLooked a looked_at
  looked = record { others = more; apart = apart; grown = refl; own = own-same; rest = refl }

  -- Its own calls are taken in without a call.
  pub take-may : HasRoom a → MayTakePending tells a.opening (a.pass.base ++ more) a.pending a.pass.agent
  take-may room = record {
    live = live-there;
    pending = act-pending tells a.opening a.pass.base more a.pass.agent told apart a.pending kept.local;
    place = record {
      rows = omega (arith, room.rows, kept.made, ap (λ x. length x.own) agent-same);
      entries = omega (arith, room.entries, entries-there);
    };
  }

  abbrev taken_at : AgentSeen O
  taken_at = record a { pass = record a.pass { base = (a.pass.base ++ more) ++ a.pending }; pending = [] }

  pub taken-agent : IsTold tells a.opening ((a.pass.base ++ more) ++ a.pending) → IsAgent tells taken_at
  taken-agent legal =
      let whole : known taken_at ≡ before_call a more = append-nil (before_call a more) in
      let same : state_of taken_at ≡ s = ap (state_after a.opening) whole in
      record {
        idle = kept.idle;
        real = kept.real;
        legal = legal;
        local = tt;
        live = ap (λ t. (agent_of t a.pass.agent).live) same ∙ live-there;
        own_key = ap (λ t. (agent_of t a.pass.agent).key) same ∙ ap (λ x. x.key) agent-same ∙ kept.own_key;
        numbered =
            kept.numbered
            ∙ sym (ap (λ n. 1 + n) (between (is_numbered a.pass.agent) a.pass.base more a.pending (numbered-none a.pass.agent more apart)))
            ∙ sym (ap (next_number a.pass.agent) whole);
        counted = sym entries-there ∙ sym (ap (entries_of a.pass.agent) whole);
        made = kept.made ∙ sym (ap (λ x. length x.own) agent-same) ∙ sym (ap (λ t. length (agent_of t a.pass.agent).own) same);
        waits = ap (λ t. (agent_of t a.pass.agent).waits) same ∙ ap (λ x. x.waits) agent-same ∙ kept.waits;
      }

  pub taken : HasEnteredPending tells a taken_at
  taken = record { others = more; apart = apart; legal = told; grown = refl; own = own-same; rest = refl }

  -- A call was entered.
  module _ (called : Op) (answered : Reply) (gone : List Text) (call : IsCallFor tells s gone (told_entry (call_of a called) answered)) where
    abbrev grown : List Entry
    grown = (a.pass.base ++ more) ++ added a.pending gone (told_entry (call_of a called) answered)

    abbrev entered_at : ℕ → AgentSeen O
    entered_at rows = record a { pass = record a.pass { base = grown }; pending = []; number = a.number + 1; entries = a.entries + 1; rows = rows }

    real_alike : map unread_entry grown ≡ map unread_entry ((a.pass.base ++ more) ++ added a.pending gone call.real)
    real_alike =
        alike-front (a.pass.base ++ more) _ _
        (alike-front a.pending _ _
        (alike-front (map eviction gone) (told_entry (call_of a called) answered ∷ []) (call.real ∷ []) (λ i. call.alike i ∷ [])))

    agent_is : call.real.agent ≡ a.pass.agent
    agent_is = ap (λ (x : Entry). x.agent) (sym call.alike)

    op_is : call.real.op ≡ called
    op_is = ap (λ (x : Entry). x.op) (sym call.alike)

    pub state-entered : state_after a.opening grown ≡ after_reply (fold evicted s gone) a.pass.agent called call.real.reply
    state-entered =
        unread-state a.opening grown ((a.pass.base ++ more) ++ added a.pending gone call.real) real_alike
        ∙ added-state a.opening (a.pass.base ++ more) a.pending a.pass.agent gone call.real call.call
        ∙ (λ i. after_reply (fold evicted s gone) (agent_is i) (op_is i) call.real.reply)

    moved : IsMoved (agent_of s a.pass.agent) called (agent_of (state_after a.opening grown) a.pass.agent)
    moved =
        subst (λ t. IsMoved (agent_of s a.pass.agent) called (agent_of t a.pass.agent)) (sym state-entered)
        (call-moves s gone a.pass.agent called call.real.reply live-there)

    here : is_of a.pass.agent (told_entry (call_of a called) answered) ≡ true
    here = eq-eqb a.pass.agent a.pass.agent refl

    no_eviction : (unit : Text) → is_of a.pass.agent (eviction unit) ≡ false
    no_eviction unit = differ 0 a.pass.agent (λ is. kept.real (sym is))

    pub entered-agent : (rows : ℕ) → IsTold tells a.opening grown → rows ≡ length (agent_of (state_after a.opening grown) a.pass.agent).own
        → asks_nobody called ≡ true → is_end called ≡ false → IsAgent tells (entered_at rows)
    entered-agent rows legal made nobody stays =
        let same : state_of (entered_at rows) ≡ state_after a.opening grown = ap (state_after a.opening) (append-nil grown) in
        let plain : asks_stuck called ≡ false = not-stuck (asks_stuck called) nobody in
        record {
          idle = kept.idle;
          real = kept.real;
          legal = legal;
          local = tt;
          live = ap (λ t. (agent_of t a.pass.agent).live) same ∙ moved.live stays ∙ live-there;
          own_key = ap (λ t. (agent_of t a.pass.agent).key) same ∙ moved.key ∙ ap (λ x. x.key) agent-same ∙ kept.own_key;
          numbered =
              let more_one =
              one-more (is_numbered a.pass.agent) a.pass.base more a.pending gone (told_entry (call_of a called) answered) (numbered-none a.pass.agent more apart)
              (λ unit. ap (λ t. t && true) (no_eviction unit)) (λ i. here i && not (nobody-waits called nobody i))
              in
              omega (arith, kept.numbered, more_one, ap (λ es. count_by (is_numbered a.pass.agent) es) (append-nil grown));
          counted =
              let more_one = one-more (is_of a.pass.agent) a.pass.base more a.pending gone (told_entry (call_of a called) answered) (of-none a.pass.agent more apart) no_eviction here in
              omega (arith, kept.counted, more_one, ap (λ es. count_by (is_of a.pass.agent) es) (append-nil grown));
          made = made ∙ sym (ap (λ t. length (agent_of t a.pass.agent).own) same);
          waits = ap (λ t. (agent_of t a.pass.agent).waits) same ∙ moved.waits stays plain ∙ ap (λ x. x.waits) agent-same ∙ kept.waits;
        }

    abbrev pub asked_at : ℕ → ℕ → Option Text → AgentSeen O
    asked_at number rows waiting = record a { pass = record a.pass { base = grown }; pending = []; number = number; entries = a.entries + 1; rows = rows; waiting = waiting }

    -- A call that may change what the agent waits for.
    pub asked-agent : (number rows : ℕ) (waiting : Option Text) → IsTold tells a.opening grown → rows ≡ length (agent_of (state_after a.opening grown) a.pass.agent).own
        → is_end called ≡ false → number ≡ a.number + one_if (not (is_wait called)) → (agent_of (state_after a.opening grown) a.pass.agent).waits ≡ waiting
        → IsAgent tells (asked_at number rows waiting)
    asked-agent number rows waiting legal made stays next waits =
        let same : state_of (asked_at number rows waiting) ≡ state_after a.opening grown = ap (state_after a.opening) (append-nil grown) in
        record {
          idle = kept.idle;
          real = kept.real;
          legal = legal;
          local = tt;
          live = ap (λ t. (agent_of t a.pass.agent).live) same ∙ moved.live stays ∙ live-there;
          own_key = ap (λ t. (agent_of t a.pass.agent).key) same ∙ moved.key ∙ ap (λ x. x.key) agent-same ∙ kept.own_key;
          numbered =
              let more =
              more-by (is_numbered a.pass.agent) a.pass.base more a.pending gone (told_entry (call_of a called) answered) (numbered-none a.pass.agent more apart)
              (λ unit. ap (λ t. t && true) (no_eviction unit))
              in
              let counts : one_if (is_numbered a.pass.agent (told_entry (call_of a called) answered)) ≡ one_if (not (is_wait called)) = (λ i. one_if (here i && not (is_wait called))) in
              omega (arith, kept.numbered, more, counts, next, ap (λ es. count_by (is_numbered a.pass.agent) es) (append-nil grown));
          counted =
              let more_one = one-more (is_of a.pass.agent) a.pass.base more a.pending gone (told_entry (call_of a called) answered) (of-none a.pass.agent more apart) no_eviction here in
              omega (arith, kept.counted, more_one, ap (λ es. count_by (is_of a.pass.agent) es) (append-nil grown));
          made = made ∙ sym (ap (λ t. length (agent_of t a.pass.agent).own) same);
          waits = ap (λ t. (agent_of t a.pass.agent).waits) same ∙ waits;
        }

    abbrev pub asked : (number rows : ℕ) (waiting : Option Text) → IsTurned tells a (asked_at number rows waiting) called answered
    asked number rows waiting = record { others = more; gone = gone; apart = apart; legal = told; grown = refl; call = call; own = own-same }

    real-reply : (right : Reply) (waiting : Option Text) → IsAsk s a.pass.agent called right waiting → call.real.reply ≡ right
    real-reply right waiting ask = real-answer s gone a.pass.agent call.real.agent called call.real.op call.real.reply agent_is op_is ask.plain call.call.agrees ∙ ask.told

    pub asked-reply : (right : Reply) (waiting : Option Text) → IsAsk s a.pass.agent called right waiting → answered ≡ right
    asked-reply right waiting ask = bare-is answered right (ap (λ (x : Entry). x.reply) call.alike ∙ ap unread (real-reply right waiting ask)) ask.bare

    pub asked-waits : (right : Reply) (waiting : Option Text) → IsAsk s a.pass.agent called right waiting → (agent_of (state_after a.opening grown) a.pass.agent).waits ≡ waiting
    asked-waits right waiting ask =
        ap (λ t. (agent_of t a.pass.agent).waits) (state-entered ∙ ap (after_reply (fold evicted s gone) a.pass.agent called) (real-reply right waiting ask))
        ∙ ask.waits (fold evicted s gone) (number-of (fold evicted s gone) a.pass.agent (ap (λ x. x.live) (agent-stays gone s a.pass.agent) ∙ live-there))

    pub asked-rows : (right : Reply) (waiting : Option Text) (rows : ℕ) → IsAsk s a.pass.agent called right waiting → rows ≡ length (agent_of (state_after a.opening grown) a.pass.agent).own → rows ≡ a.rows
    asked-rows right waiting rows ask made =
        made
        ∙ elim moved.more as (λ x. length (agent_of (state_after a.opening grown) a.pass.agent).own ≡ length (agent_of s a.pass.agent).own) [ inl same ↦ same | inr more ↦ absurd (false≢true (sym ask.few ∙ more.1)) ]
        ∙ ap (λ x. length x.own) agent-same
        ∙ sym kept.made

    pub entered : (rows : ℕ) (given : Gift) → IsGift tells s called answered given → IsEntered tells a (entered_at rows) called answered given
    entered rows given gift = record { others = more; gone = gone; apart = apart; legal = told; grown = refl; call = call; gift = gift; own = own-same; rest = refl }
