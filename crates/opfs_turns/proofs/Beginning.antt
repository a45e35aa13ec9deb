-- An agent that has made no call, and one that has none open.
use Rattle.std.proofs.Common.{◌≡◌, ℕ, zero, suc, List, [], ◌∷◌, ◌++◌, map, length, None, refl, sym, ap, ◌∙◌, subst, IsTrue}
use Rattle.opfs_base.specs.Texts.{Text}
use Rattle.std.specs.Prelude.{Option}
use Rattle.opfs_hall.specs.Seen.{PassSeen}
use Rattle.opfs_hist.specs.declared.entry.Entry.{Entry}
use Rattle.opfs_hist.specs.declared.op.Op.TheVariants as op
use Rattle.opfs_machine.specs.Agents.{agent_in, agent_of}
use Rattle.opfs_machine.specs.Histories.{may_enter, state_after}
use Rattle.opfs_machine.specs.Openings.{Opening, Who, agent_begun, begun}
use Rattle.opfs_laws.specs.Histories.Unread.{IsTold}
use Rattle.opfs_store.specs.Acts.Asking.{HasSmallNumbers}
use Rattle.opfs_work.specs.Works.{WorkingCopy}
use Rattle.opfs_turns.specs.Agents.{AgentSeen, IsAgent, state_of, entries_of, next_number}
use Rattle.opfs_turns.specs.Calls.{MayAsk, MayBegin, new_agent}

-- No agent has rows or waits as a run begins.
begun-own : (who : List Who) (k : ℕ) → ((agent_in (map agent_begun who) k).own ≡ []) × ((agent_in (map agent_begun who) k).waits ≡ None)
begun-own who zero = (refl, refl)
begun-own [] (suc k) = (refl, refl)
begun-own (w ∷ who) (suc zero) = (refl, refl)
begun-own (w ∷ who) (suc (suc k)) = begun-own who (suc k)

module _ {O : Type 0} (tells : Type 0) (opened : O → Opening) (pass : PassSeen O Entry) (key : Option Text) (may : MayBegin opened pass key) where
  abbrev o : Opening
  o = opened pass.hall.opening

  known-none : pass.base ++ [] ≡ []
  known-none = ap (λ (es : List Entry). es ++ []) may.fresh

  state-begun : state_of (new_agent opened pass key) ≡ begun o
  state-begun = ap (state_after o) known-none

  pub new-is : IsAgent tells (new_agent opened pass key)
  new-is = record {
    idle = may.idle;
    real = may.real;
    legal = subst (IsTold tells o) (sym may.fresh) (record { real = []; legal = refl; alike = refl; told = λ told. refl });
    local = tt;
    live = ap (λ t. (agent_of t pass.agent).live) state-begun ∙ may.live;
    own_key = ap (λ t. (agent_of t pass.agent).key) state-begun ∙ may.own_key;
    numbered = ap (next_number pass.agent) (sym known-none);
    counted = ap (entries_of pass.agent) (sym known-none);
    made = ap length (sym (begun-own o.agents pass.agent).0) ∙ ap (λ t. length (agent_of t pass.agent).own) (sym state-begun);
    waits = ap (λ t. (agent_of t pass.agent).waits) state-begun ∙ (begun-own o.agents pass.agent).1;
  }

end-small : HasSmallNumbers op.End
unfolding HasSmallNumbers
end-small = tt

-- An agent may ask to end where it has nothing open.
pub may-end : {O : Type 0} (tells : Type 0) (a : AgentSeen O) (work : WorkingCopy) → work ≡ record { pages = []; length = 0; position = 0; reserve = 0; room = 0; changed_from = 0; changed_to = 0 }
    → IsTrue (may_enter (state_of a) a.pass.agent op.End) → MayAsk tells a op.End work []
may-end tells a work fresh none = record {
  shared = refl;
  nobody = refl;
  fitting = none;
  opened = refl;
  numbers = end-small;
  copy = (ap (λ w. w.pages) fresh, ap (λ w. w.length) fresh, ap (λ w. w.position) fresh, ap (λ w. w.reserve) fresh);
  given = refl;
}
