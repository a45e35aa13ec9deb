-- What a call leaves of its agent's other rows.
use Rattle.std.proofs.Common.{◌≡◌, ◌≢◌, ℕ, List, [], ◌∷◌, ◌++◌, append_assoc, append-nil, Some, refl, sym, ap, ◌∙◌, subst}
use Rattle.std.proofs.lemmas.List.Elements.{All-cons, All-nil}
use Rattle.opfs_hist.specs.declared.entry.Entry.{Entry}
use Rattle.opfs_hist.specs.declared.op.Op.{Op}
use Rattle.opfs_hist.specs.declared.reply.Reply.{Reply}
use Rattle.opfs_machine.specs.declared.own.Own.{Own}
use Rattle.opfs_machine.specs.declared.state.Agent.{Agent}
use Rattle.opfs_machine.specs.Agents.{agent_of, own_of}
use Rattle.opfs_machine.specs.Histories.{Legal, state_after}
use Rattle.opfs_machine.specs.Openings.{Opening}
use Rattle.opfs_laws.specs.Leaving.{row_used}
use Rattle.opfs_laws.proofs.Going.{go-on}
use Rattle.opfs_laws.proofs.Local.{pending-legal}
use Rattle.opfs_laws.specs.GoingOn.{ArePending}
use Rattle.opfs_laws.specs.Histories.Unread.{IsTold}
use Rattle.opfs_laws.proofs.histories.Reading.{pending-told, told-more, unread-state}
use Rattle.opfs_store.specs.declared.acts.acted.Gift.{Gift}
use Rattle.opfs_store.specs.Acts.Acting.{told_entry}
use Rattle.opfs_store.specs.Copies.Copies.{StandsFor}
use Rattle.opfs_turns.specs.Agents.{AgentSeen, IsAgent, known, own_row}
use Rattle.opfs_turns.specs.Calls.{call_of, IsEntered, HasLooked, kept_entry}
use Rattle.opfs_turns.specs.Asking.Locals.{IsMade}
use Rattle.opfs_turns.proofs.asking.Entered.{list, known-is, opening-is, agent-is}
use Rattle.opfs_turns.proofs.asking.Rowed.{looked-own}
use Rattle.opfs_turns.proofs.asking.Stands.{looked-stands}
use Rattle.opfs_turns.specs.OtherRows.Staying.{IsBesideRow, GoesBeside}
use Rattle.opfs_turns.proofs.other_rows.Entries.{row-goes, copy-goes}
use Rattle.opfs_work.specs.Works.{WorkingCopy}
use Rattle.opfs_turns.proofs.other_rows.Turned.{turned-row, turned-copy}

-- All own rows but that of a number are as they were, and so is the key.
pub record Leaves {O : Type 0} (tells : Type 0) (a b : AgentSeen O) (n : ℕ) : Type 0 where
  pub row : (m : ℕ) (r : Own) → m ≢ n → own_row a m ≡ Some r → own_row b m ≡ Some r
  pub copy : (m : ℕ) (work : WorkingCopy) → m ≢ n → StandsFor tells a.opening (known a) a.pass.agent m work → StandsFor tells b.opening (known b) b.pass.agent m work
  pub key : b.key ≡ a.key

pub leaves-self : {O : Type 0} (tells : Type 0) (a b : AgentSeen O) (n : ℕ) → b ≡ a → Leaves tells a b n
leaves-self {O} tells a b n same = subst (λ (x : AgentSeen O). Leaves tells a x n) (sym same) (record { row = λ m r apart is. is; copy = λ m work apart stands. stands; key = refl })

-- The same, said of other names of where it is.
pub at-end : (P : Opening → List Entry → ℕ → Type 0) (o p : Opening) (es fs : List Entry) (k j : ℕ) → p ≡ o → fs ≡ es → j ≡ k → P o es k → P p fs j
at-end P o p es fs k j a b c h = subst (λ (x : Opening × List Entry × ℕ). P x.0 x.1 x.2) (sym (λ i. (a i, b i, c i))) h

module _ {O : Type 0} (tells : Type 0) (a b : AgentSeen O) (kept : IsAgent tells a) (then : IsAgent tells b) where
  -- ---- a call under the turn

  module _ (called : Op) (answered : Reply) (given : Gift) (e : IsEntered tells a b called answered given) where
    whole-told : IsTold tells a.opening (list tells a b kept called answered given e ++ [])
    whole-told =
        subst (IsTold tells a.opening) (e.grown ∙ sym (append-nil (list tells a b kept called answered given e)))
        (subst (λ (x : AgentSeen O). IsTold tells x.opening b.pass.base) e.rest then.legal)

    pub leaves-entered : Leaves tells a b (row_used called)
    leaves-entered = record {
      row = λ m r apart there.
          at-end (λ o es k. own_of (agent_of (state_after o es) k) m ≡ Some r) a.opening b.opening (list tells a b kept called answered given e) (known b) a.pass.agent b.pass.agent
          (opening-is tells a b kept called answered given e) (known-is tells a b kept called answered given e) (agent-is tells a b kept called answered given e)
          (turned-row tells a.opening a.pass.base e.others a.pending a.pass.agent kept.real e.legal e.apart kept.local e.gone (told_entry (call_of a called) answered) [] whole-told m apart r there);
      copy = λ m work apart stands.
          at-end (λ o es k. StandsFor tells o es k m work) a.opening b.opening (list tells a b kept called answered given e) (known b) a.pass.agent b.pass.agent
          (opening-is tells a b kept called answered given e) (known-is tells a b kept called answered given e) (agent-is tells a b kept called answered given e)
          (turned-copy tells a.opening a.pass.base e.others a.pending a.pass.agent kept.real e.legal e.apart kept.local e.gone (told_entry (call_of a called) answered) [] whole-told m apart work stands);
      key = ap (λ (x : AgentSeen O). x.key) e.rest;
    }

  -- ---- a local call

  module _ (called : Op) (answered : Reply) (made : ℕ) (h : IsMade tells a b called answered made) where
    abbrev e : Entry
    e = kept_entry a called answered

    known-more : known b ≡ known a ++ e ∷ []
    known-more = ap (λ (x : AgentSeen O). x.pass.base ++ x.pending) h.kept ∙ sym (append_assoc a.pass.base a.pending (e ∷ []))

    known-told : IsTold tells b.opening (known b)
    known-told =
        let p = pending-told tells (state_after b.opening b.pass.base) b.pass.agent b.pending then.local in
        let same = unread-state b.opening b.pass.base then.legal.real then.legal.alike in
        let legal : Legal b.opening (then.legal.real ++ p.real) =
        (go-on b.opening then.legal.real p.real then.legal.legal
        (pending-legal (state_after b.opening then.legal.real) b.pass.agent p.real (subst (λ s. ArePending s b.pass.agent p.real) same p.pending))).0 in
        told-more tells b.opening b.pass.base b.pending p.real then.legal legal p.alike p.told

    opening-same : b.opening ≡ a.opening
    opening-same = ap (λ (x : AgentSeen O). x.opening) h.kept

    agent-same : b.pass.agent ≡ a.pass.agent
    agent-same = ap (λ (x : AgentSeen O). x.pass.agent) h.kept

    goes : (m : ℕ) → m ≢ row_used called → GoesBeside tells a.opening (known a) (e ∷ []) a.pass.agent m
    goes m apart = record {
      real = kept.real;
      rest = [];
      told = subst (IsTold tells a.opening) (known-more ∙ sym (append-nil (known a ++ e ∷ []))) (subst (λ o. IsTold tells o (known b)) opening-same known-told);
      beside = All-cons (IsBesideRow a.pass.agent m) e [] (λ mine used. apart (sym used)) (All-nil (IsBesideRow a.pass.agent m));
    }

    pub leaves-made : Leaves tells a b (row_used called)
    leaves-made = record {
      row = λ m r apart there.
          at-end (λ o es k. own_of (agent_of (state_after o es) k) m ≡ Some r) a.opening b.opening (known a ++ e ∷ []) (known b) a.pass.agent b.pass.agent opening-same known-more agent-same
          (row-goes tells a.opening (known a) (e ∷ []) a.pass.agent m (goes m apart) r there);
      copy = λ m work apart stands.
          at-end (λ o es k. StandsFor tells o es k m work) a.opening b.opening (known a ++ e ∷ []) (known b) a.pass.agent b.pass.agent opening-same known-more agent-same
          (copy-goes tells a.opening (known a) (e ∷ []) a.pass.agent m (goes m apart) work stands);
      key = ap (λ (x : AgentSeen O). x.key) h.kept;
    }

  -- ---- no call

  pub leaves-looked : (n : ℕ) → HasLooked a b → Leaves tells a b n
  leaves-looked n looked = record {
    row = λ m r apart there. ap (λ (x : Agent Own). own_of x m) (looked-own a b looked) ∙ there;
    copy = λ m work apart stands. looked-stands tells a b m work kept then looked stands;
    key = ap (λ (x : AgentSeen O). x.key) looked.rest;
  }
