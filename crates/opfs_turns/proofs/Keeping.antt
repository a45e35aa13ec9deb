-- A local call among those that are not entered yet.
use Rattle.std.proofs.Common.{◌≡◌, ℕ, ◌+◌, ◌≤◌, ◌&&◌, Bool, true, not, List, [], ◌∷◌, ◌++◌, append_assoc, length, fold, refl, sym, ap, ◌∙◌, subst, arith}
use Rattle.std.specs.List.{count_by}
use Rattle.std.proofs.lemmas.Bool.{eq-eqb}
use Rattle.opfs_base.specs.Texts.{Text}
use Rattle.opfs_hist.specs.declared.entry.Entry.{Entry}
use Rattle.opfs_hist.specs.declared.op.Op.{Op}
use Rattle.opfs_hist.specs.declared.reply.Reply.{Reply}
use Rattle.opfs_machine.specs.declared.own.Own.{Own}
use Rattle.opfs_machine.specs.declared.state.State.{State}
use Rattle.opfs_machine.specs.Agents.{agent_of}
use Rattle.opfs_machine.specs.Histories.{after_op, after_entry, state_after}
use Rattle.opfs_machine.specs.Steps.{step}
use Rattle.opfs_laws.specs.GoingOn.{IsPending}
use Rattle.opfs_laws.specs.Leaving.{IsMoved}
use Rattle.opfs_laws.proofs.Going.{not_evict}
use Rattle.opfs_laws.proofs.Left.{local-plain, pending-after}
use Rattle.opfs_laws.proofs.Moved.{call-moves}
use Rattle.opfs_laws.specs.Histories.Unread.{unread_entry, IsPendingFor, ArePendingFor}
use Rattle.opfs_turns.specs.Agents.{AgentSeen, IsAgent, state_of}
use Rattle.opfs_turns.specs.Calls.{HasRoom, IsLocal, kept_entry}
use Rattle.opfs_turns.proofs.Counts.{count-append, count-one, one_if}
use Rattle.opfs_turns.proofs.Others.{after-alike}
use Rattle.opfs_turns.proofs.Standing.{after-more}
use Rattle.opfs_turns.proofs.Turning.{is_of, is_numbered, nobody-waits}

pub pending-last : (tells : Type 0) (s : State Text Own) (k : ℕ) (es : List Entry) (e : Entry) → ArePendingFor tells s k es → IsPendingFor tells (fold after_entry s es) k e
    → ArePendingFor tells s k (es ++ e ∷ [])
pending-last tells s k [] e h last = (last, tt)
pending-last tells s k (x ∷ es) e h last = (h.0, pending-last tells (after_entry s x) k es e h.1 last)

-- Each of them is the agent's.
pub pending-count : (tells : Type 0) (s : State Text Own) (k : ℕ) (es : List Entry) → ArePendingFor tells s k es → count_by (is_of k) es ≡ length es
pending-count tells s k [] h = refl
pending-count tells s k (e ∷ es) h =
    let here : one_if (is_of k e) ≡ 1 = ap one_if (eq-eqb e.agent k h.0.agent) in
    omega (arith, count-append (is_of k) (e ∷ []) es, count-one (is_of k) e, here, pending-count tells (after_entry s e) k es h.1)

pub pending-few : {O : Type 0} (tells : Type 0) (a : AgentSeen O) → IsAgent tells a → HasRoom a → length a.pending ≤ 60000000
pending-few tells a kept room =
    omega (arith, room.entries, kept.counted, count-append (is_of a.pass.agent) a.pass.base a.pending, pending-count tells (state_after a.opening a.pass.base) a.pass.agent a.pending kept.local)

module _ {O : Type 0} (tells : Type 0) (a : AgentSeen O) (kept : IsAgent tells a) (called : Op) (answered : Reply) (made : ℕ) (is : IsLocal tells a called answered made) where
  abbrev pub s : State Text Own
  s = state_of a

  abbrev pub e : Entry
  e = kept_entry a called answered

  abbrev pub own_entry : Entry
  own_entry = record e { reply = (step s a.pass.agent called).answered }

  here : IsPendingFor tells s a.pass.agent e
  here = record { agent = refl; live = kept.live; fitting = is.fitting; local = is.local; alike = is.alike; answered = is.told; turn = refl }

  real : IsPending s a.pass.agent own_entry
  real = record { agent = refl; live = kept.live; fitting = is.fitting; local = is.local; answered = refl; turn = refl }

  -- The state is that after the machine's own step.
  pub after-step : after_entry s e ≡ (step s a.pass.agent called).after
  after-step =
      let alike : unread_entry e ≡ unread_entry own_entry = ap (λ r. record e { reply = r }) is.alike in
      after-alike s e own_entry alike ∙ pending-after s a.pass.agent own_entry real

  pub moved : IsMoved (agent_of s a.pass.agent) called (agent_of (after_entry s e) a.pass.agent)
  moved =
      subst (λ t. IsMoved (agent_of s a.pass.agent) called (agent_of t a.pass.agent)) (sym (ap (after_op s e) (not_evict s a.pass.agent called is.fitting)))
      (call-moves s [] a.pass.agent called answered kept.live)

  abbrev pub after : AgentSeen O
  after = record a { pending = a.pending ++ e ∷ []; number = a.number + 1; entries = a.entries + 1; rows = a.rows + made }

  pub state-after : state_of after ≡ after_entry s e
  state-after = ap (state_after a.opening) (sym (append_assoc a.pass.base a.pending (e ∷ []))) ∙ after-more a.opening (a.pass.base ++ a.pending) (e ∷ [])

  one : (p : Entry → Bool) → p e ≡ true → count_by p (a.pass.base ++ (a.pending ++ e ∷ [])) ≡ count_by p (a.pass.base ++ a.pending) + 1
  one p this =
      let last : one_if (p e) ≡ 1 = ap one_if this in
      omega (arith, count-append p a.pass.base (a.pending ++ e ∷ []), count-append p a.pending (e ∷ []), count-append p a.pass.base a.pending, count-one p e, last)

  pub kept-agent : IsAgent tells after
  kept-agent =
      let plain = local-plain s a.pass.agent called is.local in
      let mine : is_of a.pass.agent e ≡ true = eq-eqb a.pass.agent a.pass.agent refl in
      record {
        idle = kept.idle;
        real = kept.real;
        legal = kept.legal;
        local =
            pending-last tells (state_after a.opening a.pass.base) a.pass.agent a.pending e kept.local
            (subst (λ t. IsPendingFor tells t a.pass.agent e) (after-more a.opening a.pass.base a.pending) here);
        live = ap (λ t. (agent_of t a.pass.agent).live) state-after ∙ moved.live plain.0 ∙ kept.live;
        own_key = ap (λ t. (agent_of t a.pass.agent).key) state-after ∙ moved.key ∙ kept.own_key;
        numbered = let more = one (is_numbered a.pass.agent) (λ i. mine i && not (nobody-waits called (ap not plain.1) i)) in omega (arith, kept.numbered, more);
        counted = let more = one (is_of a.pass.agent) mine in omega (arith, kept.counted, more);
        made = sym is.rows ∙ sym (ap (λ t. length (agent_of t a.pass.agent).own) (state-after ∙ after-step));
        waits = ap (λ t. (agent_of t a.pass.agent).waits) state-after ∙ moved.waits plain.0 plain.1 ∙ kept.waits;
      }
