-- What an await leaves of its agent's rows.
use Rattle.std.proofs.Common.{◌≡◌, ◌≢◌, ℕ, All, List, [], ◌++◌, append_assoc, append-nil, Some, refl, sym, ap, ◌∙◌, subst, inl, inr}
use Rattle.std.proofs.lemmas.List.Elements.{All-append}
use Rattle.opfs_base.specs.Texts.{Text}
use Rattle.opfs_hist.specs.declared.entry.Entry.{Entry}
use Rattle.opfs_hist.specs.declared.op.Op.{Op}
use Rattle.opfs_hist.specs.declared.op.Op.TheVariants as op
use Rattle.opfs_hist.specs.declared.reply.Reply.{Reply}
use Rattle.opfs_hist.specs.declared.reply.Reply.TheVariants as reply
use Rattle.opfs_machine.specs.declared.own.Own.{Own}
use Rattle.opfs_machine.specs.Agents.{agent_of, own_of}
use Rattle.opfs_machine.specs.Histories.{state_after}
use Rattle.opfs_machine.specs.Openings.{Opening}
use Rattle.opfs_laws.specs.Leaving.{row_used}
use Rattle.opfs_laws.specs.Histories.Opened.{added}
use Rattle.opfs_laws.specs.Histories.Unread.{IsTold, ArePendingFor}
use Rattle.opfs_store.specs.Acts.Acting.{told_entry}
use Rattle.opfs_store.specs.Copies.Copies.{StandsFor}
use Rattle.opfs_turns.specs.Agents.{AgentSeen, IsAgent, known}
use Rattle.opfs_turns.specs.Calls.{call_of, HasLooked}
use Rattle.opfs_turns.specs.Waiting.{IsTurned, IsAwaited, HasBegun, HasWaited, HasAwaited}
use Rattle.opfs_turns.specs.OtherRows.Staying.{GoesBeside}
use Rattle.opfs_turns.proofs.other_rows.Entries.{row-goes, copy-goes}
use Rattle.opfs_work.specs.Works.{WorkingCopy}
use Rattle.opfs_turns.proofs.other_rows.Leaving.{Leaves, at-end, leaves-looked}
use Rattle.opfs_turns.proofs.other_rows.Turned.{turned-row, turned-copy}

-- Rows, and working copies of them, behind a list of entries are there behind another.
pub record Carries (tells : Type 0) (o : Opening) (es fs : List Entry) (k : ℕ) : Type 0 where
  pub row : (m : ℕ) (r : Own) → m ≢ 0 → own_of (agent_of (state_after o es) k) m ≡ Some r → own_of (agent_of (state_after o fs) k) m ≡ Some r
  pub copy : (m : ℕ) (work : WorkingCopy) → m ≢ 0 → StandsFor tells o es k m work → StandsFor tells o fs k m work

carries-on : (tells : Type 0) (o : Opening) (es fs gs : List Entry) (k : ℕ) → Carries tells o es fs k → Carries tells o fs gs k → Carries tells o es gs k
carries-on tells o es fs gs k one two = record {
  row = λ m r some there. two.row m r some (one.row m r some there);
  copy = λ m work some stands. two.copy m work some (one.copy m work some stands);
}

leaves-by : {O : Type 0} (tells : Type 0) (a b : AgentSeen O) (fs : List Entry) → Carries tells a.opening (known a) fs a.pass.agent → b.opening ≡ a.opening → known b ≡ fs → b.pass.agent ≡ a.pass.agent → b.key ≡ a.key
    → Leaves tells a b 0
leaves-by tells a b fs carries opening known_is agent key = record {
  row = λ m r some there. at-end (λ o es k. own_of (agent_of (state_after o es) k) m ≡ Some r) a.opening b.opening fs (known b) a.pass.agent b.pass.agent opening known_is agent (carries.row m r some there);
  copy = λ m work some stands. at-end (λ o es k. StandsFor tells o es k m work) a.opening b.opening fs (known b) a.pass.agent b.pass.agent opening known_is agent (carries.copy m work some stands);
  key = key;
}

-- ---- a look and a turn

module _ {O : Type 0} (tells : Type 0) (x first y : AgentSeen O) (real : x.pass.agent ≢ 0) (local : ArePendingFor tells (state_after x.opening x.pass.base) x.pass.agent x.pending)
    (looked : HasLooked x first) (called : Op) (answered : Reply) (turned : IsTurned tells first y called answered) (none : row_used called ≡ 0) where
  abbrev k : ℕ
  k = x.pass.agent

  abbrev e : Entry
  e = told_entry (call_of first called) answered

  abbrev others : List Entry
  others = looked.others ++ turned.others

  pending-is : first.pending ≡ x.pending
  pending-is = ap (λ (a : AgentSeen O). a.pending) looked.rest

  opening-is : first.opening ≡ x.opening
  opening-is = ap (λ (a : AgentSeen O). a.opening) looked.rest

  agent-is : first.pass.agent ≡ x.pass.agent
  agent-is = ap (λ (a : AgentSeen O). a.pass.agent) looked.rest

  base-is : y.pass.base ≡ (x.pass.base ++ others) ++ added x.pending turned.gone e
  base-is =
      turned.grown
      ∙ (λ i. (looked.grown i ++ turned.others) ++ added (pending-is i) turned.gone e)
      ∙ ap (λ xs. xs ++ added x.pending turned.gone e) (append_assoc x.pass.base looked.others turned.others)

  apart : All (λ d. d.agent ≢ x.pass.agent) (looked.others ++ turned.others)
  apart =
      All-append (λ d. d.agent ≢ x.pass.agent) looked.others turned.others looked.apart
      (subst (λ j. All (λ d. d.agent ≢ j) turned.others) agent-is turned.apart)

  front : IsTold tells x.opening (x.pass.base ++ (looked.others ++ turned.others))
  front =
      subst (IsTold tells x.opening) (ap (λ xs. xs ++ turned.others) looked.grown ∙ append_assoc x.pass.base looked.others turned.others)
      (subst (λ o. IsTold tells o (first.pass.base ++ turned.others)) opening-is turned.legal)

  module _ (rest : List Entry) (told : IsTold tells x.opening (y.pass.base ++ rest)) where
    whole : IsTold tells x.opening (((x.pass.base ++ (looked.others ++ turned.others)) ++ added x.pending turned.gone e) ++ rest)
    whole = subst (λ xs. IsTold tells x.opening (xs ++ rest)) base-is told

    pub turn-carries : Carries tells x.opening (known x) y.pass.base x.pass.agent
    turn-carries = record {
      row = λ m r some there.
          subst (λ xs. own_of (agent_of (state_after x.opening xs) x.pass.agent) m ≡ Some r) (sym base-is)
          (turned-row tells x.opening x.pass.base (looked.others ++ turned.others) x.pending x.pass.agent real front apart local turned.gone e rest whole m (λ is. some (is ∙ none)) r there);
      copy = λ m work some stands.
          subst (λ xs. StandsFor tells x.opening xs x.pass.agent m work) (sym base-is)
          (turned-copy tells x.opening x.pass.base (looked.others ++ turned.others) x.pending x.pass.agent real front apart local turned.gone e rest whole m (λ is. some (is ∙ none)) work stands);
    }

-- ---- a wait that goes on

module _ {O : Type 0} (tells : Type 0) (a b : AgentSeen O) (kept : IsAgent tells a) (tag : Text) (begun : HasBegun tells a b tag) where
  now-pending : begun.then_on.pending ≡ []
  now-pending = ap (λ (x : AgentSeen O). x.pending) begun.wait.rest

  now-opening : begun.then_on.opening ≡ a.opening
  now-opening = ap (λ (x : AgentSeen O). x.opening) begun.wait.rest ∙ ap (λ (x : AgentSeen O). x.opening) begun.looked.rest

  now-agent : begun.then_on.pass.agent ≡ a.pass.agent
  now-agent = ap (λ (x : AgentSeen O). x.pass.agent) begun.wait.rest ∙ ap (λ (x : AgentSeen O). x.pass.agent) begun.looked.rest

  now-key : begun.then_on.key ≡ a.key
  now-key = ap (λ (x : AgentSeen O). x.key) begun.wait.rest ∙ ap (λ (x : AgentSeen O). x.key) begun.looked.rest

  now-known : known begun.then_on ≡ begun.then_on.pass.base
  now-known = ap (λ xs. begun.then_on.pass.base ++ xs) now-pending ∙ append-nil begun.then_on.pass.base

  now-carries : (rest : List Entry) → IsTold tells a.opening (begun.then_on.pass.base ++ rest) → Carries tells a.opening (known a) (known begun.then_on) a.pass.agent
  now-carries rest told =
      subst (λ xs. Carries tells a.opening (known a) xs a.pass.agent) (sym now-known)
      (turn-carries tells a begun.first begun.then_on kept.real kept.local begun.looked (op.Wait tag) reply.Done begun.wait.turned refl rest told)

  -- It still waits.
  pub leaves-begun : IsAgent tells b → Leaves tells a b 0
  leaves-begun then =
      let since = begun.since in
      let opening : b.opening ≡ a.opening = ap (λ (x : AgentSeen O). x.opening) since.rest ∙ now-opening in
      let told : IsTold tells a.opening (begun.then_on.pass.base ++ since.others) = subst (IsTold tells a.opening) since.grown (subst (λ o. IsTold tells o b.pass.base) opening then.legal) in
      let first = now-carries since.others told in
      let goes : (m : ℕ) → GoesBeside tells a.opening begun.then_on.pass.base since.others a.pass.agent m = λ m. record {
        real = kept.real;
        rest = [];
        told = subst (IsTold tells a.opening) (sym (append-nil (begun.then_on.pass.base ++ since.others))) told;
        beside = λ j d within mine. absurd (subst (λ k. All (λ x. x.agent ≢ k) since.others) now-agent since.apart j d within mine);
      } in
      let second : Carries tells a.opening (known begun.then_on) (begun.then_on.pass.base ++ since.others) a.pass.agent = subst (λ xs. Carries tells a.opening xs (begun.then_on.pass.base ++ since.others) a.pass.agent) (sym now-known) (record {
        row = λ m r some there. row-goes tells a.opening begun.then_on.pass.base since.others a.pass.agent m (goes m) r there;
        copy = λ m work some stands. copy-goes tells a.opening begun.then_on.pass.base since.others a.pass.agent m (goes m) work stands;
      }) in
      let known_is : known b ≡ begun.then_on.pass.base ++ since.others =
      ap (λ (x : AgentSeen O). b.pass.base ++ x.pending) since.rest ∙ ap (λ xs. b.pass.base ++ xs) now-pending ∙ append-nil b.pass.base ∙ since.grown in
      leaves-by tells a b (begun.then_on.pass.base ++ since.others)
      (carries-on tells a.opening (known a) (known begun.then_on) (begun.then_on.pass.base ++ since.others) a.pass.agent first second)
      opening known_is (ap (λ (x : AgentSeen O). x.pass.agent) since.rest ∙ now-agent) (ap (λ (x : AgentSeen O). x.key) since.rest ∙ now-key)

-- ---- an await that is answered

module _ {O : Type 0} (tells : Type 0) (a b : AgentSeen O) (kept : IsAgent tells a) (then : IsAgent tells b) (tag : Text) (answered : Reply) where
  module _ (mid : AgentSeen O) (awaited : IsAwaited tells mid b tag answered) where
    last-known : known b ≡ b.pass.base
    last-known = ap (λ (x : AgentSeen O). b.pass.base ++ x.pending) awaited.rest ∙ append-nil b.pass.base

    leaves-at-once : HasLooked a mid → Leaves tells a b 0
    leaves-at-once looked =
        let opening : b.opening ≡ a.opening = ap (λ (x : AgentSeen O). x.opening) awaited.rest ∙ ap (λ (x : AgentSeen O). x.opening) looked.rest in
        let told : IsTold tells a.opening (b.pass.base ++ []) = subst (IsTold tells a.opening) (sym (append-nil b.pass.base)) (subst (λ o. IsTold tells o b.pass.base) opening then.legal) in
        leaves-by tells a b b.pass.base (turn-carries tells a mid b kept.real kept.local looked (op.Await tag) answered awaited.turned refl [] told)
        opening last-known
        (ap (λ (x : AgentSeen O). x.pass.agent) awaited.rest ∙ ap (λ (x : AgentSeen O). x.pass.agent) looked.rest)
        (ap (λ (x : AgentSeen O). x.key) awaited.rest ∙ ap (λ (x : AgentSeen O). x.key) looked.rest)

    leaves-later : HasBegun tells a mid tag → Leaves tells a b 0
    leaves-later begun =
        let on = begun.then_on in
        let from : on.opening ≡ a.opening = now-opening tells a mid kept tag begun in
        let who : on.pass.agent ≡ a.pass.agent = now-agent tells a mid kept tag begun in
        let none : on.pending ≡ [] = now-pending tells a mid kept tag begun in
        let opening : b.opening ≡ a.opening = ap (λ (x : AgentSeen O). x.opening) awaited.rest ∙ ap (λ (x : AgentSeen O). x.opening) begun.since.rest ∙ from in
        let real : on.pass.agent ≢ 0 = λ zero_is. kept.real (sym who ∙ zero_is) in
        let local : ArePendingFor tells (state_after on.opening on.pass.base) on.pass.agent on.pending = subst (ArePendingFor tells (state_after on.opening on.pass.base) on.pass.agent) (sym none) tt in
        let whole : IsTold tells a.opening b.pass.base = subst (λ o. IsTold tells o b.pass.base) opening then.legal in
        let last : IsTold tells on.opening (b.pass.base ++ []) = subst (λ o. IsTold tells o (b.pass.base ++ [])) (sym from) (subst (IsTold tells a.opening) (sym (append-nil b.pass.base)) whole) in
        let second = turn-carries tells on mid b real local begun.since (op.Await tag) answered awaited.turned refl [] last in
        let rest : List Entry = (begun.since.others ++ awaited.turned.others) ++ added on.pending awaited.turned.gone (told_entry (call_of mid (op.Await tag)) answered) in
        let split : b.pass.base ≡ on.pass.base ++ rest =
        base-is tells on mid b real local begun.since (op.Await tag) answered awaited.turned refl
        ∙ append_assoc on.pass.base (begun.since.others ++ awaited.turned.others) (added on.pending awaited.turned.gone (told_entry (call_of mid (op.Await tag)) answered)) in
        let first = now-carries tells a mid kept tag begun rest (subst (IsTold tells a.opening) split whole) in
        let second-here : Carries tells a.opening (known on) b.pass.base a.pass.agent =
        subst (λ k. Carries tells a.opening (known on) b.pass.base k) who (subst (λ o. Carries tells o (known on) b.pass.base on.pass.agent) from second) in
        leaves-by tells a b b.pass.base (carries-on tells a.opening (known a) (known on) b.pass.base a.pass.agent first second-here)
        opening last-known
        (ap (λ (x : AgentSeen O). x.pass.agent) awaited.rest ∙ ap (λ (x : AgentSeen O). x.pass.agent) begun.since.rest ∙ who)
        (ap (λ (x : AgentSeen O). x.key) awaited.rest ∙ ap (λ (x : AgentSeen O). x.key) begun.since.rest ∙ now-key tells a mid kept tag begun)

    leaves-either : HasWaited tells a mid tag → Leaves tells a b 0
    leaves-either (inl looked) = leaves-at-once looked
    leaves-either (inr begun) = leaves-later begun

  pub leaves-awaited : HasAwaited tells a b tag answered → Leaves tells a b 0
  leaves-awaited h = leaves-either h.mid h.awaited h.waited

  pub leaves-waited : HasWaited tells a b tag → Leaves tells a b 0
  leaves-waited (inl looked) = leaves-looked tells a b kept then 0 looked
  leaves-waited (inr begun) = leaves-begun tells a b kept tag begun then
