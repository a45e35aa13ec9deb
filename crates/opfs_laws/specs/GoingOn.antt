-- How a legal history goes on, and where it may be cut. This project's own.
use Rattle.std.specs.Prelude.{◌≡◌, ℕ, Bool, true, false, List, [], ◌∷◌, ◌++◌, map, fold, is_none, IsTrue}
use Rattle.opfs_base.specs.Texts.{Text}
use Rattle.opfs_hist.specs.declared.entry.Entry.{Entry}
use Rattle.opfs_machine.specs.declared.own.Own.{Own}
use Rattle.opfs_machine.specs.declared.state.State.{State}
use Rattle.opfs_machine.specs.Agents.{agent_of}
use Rattle.opfs_machine.specs.Histories.{may_enter, evicted_by, IsCall, LegalFrom, Legal, after_entry, state_after}
use Rattle.opfs_machine.specs.Openings.{Opening}
use Rattle.opfs_machine.specs.OwnRows.{is_local}
use Rattle.opfs_machine.specs.Runs.{Call, eviction, group_of}
use Rattle.opfs_machine.specs.Steps.{step, after_reply, evicted}

-- Whether a list of entries is empty, or ends with one that is no eviction.
abbrev pub ends_with_call : List Entry → Bool
ends_with_call [] = true
ends_with_call (e ∷ []) = is_none (evicted_by e.op)
ends_with_call (e ∷ next ∷ es) = ends_with_call (next ∷ es)

-- A call that a live agent may make.
pub record IsCallable (s : State Text Own) (c : Call) : Type 0 where
  pub live : IsTrue (agent_of s c.agent).live
  pub fitting : IsTrue (may_enter s c.agent c.op)

-- A local call of the agent of a number, with the machine's own answer, that had no turn of the shared store.
pub record IsPending (s : State Text Own) (k : ℕ) (e : Entry) : Type 0 where
  pub agent : e.agent ≡ k
  pub live : IsTrue (agent_of s e.agent).live
  pub fitting : IsTrue (may_enter s e.agent e.op)
  pub local : IsTrue (is_local s e.agent e.op)
  pub answered : e.reply ≡ (step s e.agent e.op).answered
  pub turn : e.turn ≡ false

-- Such calls, one after another.
abbrev pub ArePending : State Text Own → ℕ → List Entry → Type 0
ArePending s k [] = Unit {0}
ArePending s k (e ∷ es) = IsPending s k e × ArePending (after_entry s e) k es

abbrev pub with_group : State Text Own → List Entry → Call → List Entry
with_group s es c = es ++ group_of s c (step s c.agent c.op)

pub record LegalHistoriesGoOn : Type 0 where
  -- A call, answered as the machine answers.
  pub call : (o : Opening) (h : List Entry) (c : Call) → Legal o h → IsCallable (state_after o h) c
      → Legal o (with_group (state_after o h) h c) × (state_after o (with_group (state_after o h) h c) ≡ (step (state_after o h) c.agent c.op).after)
  -- A call after some evictions, answered by the machine or by a disk fault.
  pub answered : (o : Opening) (h : List Entry) (gone : List Text) (e : Entry) → Legal o h → IsCall (state_after o h) gone e
      → Legal o (h ++ (map eviction gone ++ e ∷ []))
      × (state_after o (h ++ (map eviction gone ++ e ∷ [])) ≡ after_reply (fold evicted (state_after o h) gone) e.agent e.op e.reply)
  -- Whatever goes on legally from its last state.
  pub more : (o : Opening) (h more : List Entry) → Legal o h → LegalFrom (state_after o h) [] more
      → Legal o (h ++ more) × (state_after o (h ++ more) ≡ fold after_entry (state_after o h) more)
  -- Each front that ends with a call.
  pub front : (o : Opening) (front rest : List Entry) → Legal o (front ++ rest) → IsTrue (ends_with_call front) → Legal o front
  -- A local call clears no unit.
  pub local : (s : State Text Own) (k : ℕ) (e : Entry) → IsPending s k e → (step s e.agent e.op).victims ≡ []
  -- Local calls of an agent that are not entered yet.
  pub pending : (o : Opening) (h more : List Entry) (k : ℕ) → Legal o h → ArePending (state_after o h) k more → Legal o (h ++ more)
  -- The same, and then a call.
  pub call_after : (o : Opening) (h more : List Entry) (k : ℕ) (c : Call) → Legal o h → ArePending (state_after o h) k more
      → IsCallable (state_after o (h ++ more)) c
      → Legal o (with_group (state_after o (h ++ more)) (h ++ more) c)
      × (state_after o (with_group (state_after o (h ++ more)) (h ++ more) c) ≡ (step (state_after o (h ++ more)) c.agent c.op).after)
