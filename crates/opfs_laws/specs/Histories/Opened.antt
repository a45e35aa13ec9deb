-- Histories whose last group is not whole yet: the evictions of a call stand, and its entry does not. This project's own.
use Rattle.std.specs.Prelude.{◌≡◌, ℕ, List, [], ◌∷◌, ◌++◌, map, fold, Some, None}
use Rattle.opfs_base.specs.Texts.{Text}
use Rattle.opfs_hist.specs.declared.entry.Entry.{Entry}
use Rattle.opfs_machine.specs.declared.own.Own.{Own}
use Rattle.opfs_machine.specs.declared.state.State.{State}
use Rattle.opfs_machine.specs.Changes.{evict, entry_changes, changes}
use Rattle.opfs_machine.specs.Histories.{evicted_by, IsEviction, IsCall, Legal, state_after}
use Rattle.opfs_machine.specs.Openings.{Opening, begun}
use Rattle.opfs_machine.specs.Runs.{eviction}
use Rattle.opfs_machine.specs.Steps.{evicted, after_reply}
use Rattle.opfs_laws.specs.GoingOn.{ArePending}

-- A history that goes on from a state to another one, after which these evictions stand.
abbrev pub LegalTo : State Text Own → List Text → List Entry → State Text Own → List Text → Type 0
LegalTo s gone [] base last = (s ≡ base) × (gone ≡ last)
LegalTo s gone (e ∷ es) base last = elim (evicted_by e.op) [
  | Some unit ↦ IsEviction unit e × LegalTo s (gone ++ unit ∷ []) es base last
  | None ↦ IsCall s gone e × LegalTo (after_reply (fold evicted s gone) e.agent e.op e.reply) [] es base last
]

-- A history whose whole groups leave a state, and after which these evictions stand.
abbrev pub IsOpenAt : Opening → List Entry → State Text Own → List Text → Type 0
IsOpenAt o h base last = LegalTo (begun o) [] h base last

pub record IsOpen (o : Opening) (h : List Entry) : Type 0 where
  pub base : State Text Own
  pub last : List Text
  pub is : IsOpenAt o h base last

-- The call may come now: the evictions that stand are its own.
abbrev pub MayEnd : Opening → List Entry → Entry → Type 0
MayEnd o h e = (base : State Text Own) (last : List Text) → IsOpenAt o h base last → IsCall base last e

pub record OpenHistoriesGoOn : Type 0 where
  -- A legal history is open at its last state, with no eviction.
  pub begin : (o : Opening) (h : List Entry) → Legal o h → IsOpenAt o h (state_after o h) []
  -- Without evictions it is legal.
  pub whole : (o : Opening) (h : List Entry) (base : State Text Own) → IsOpenAt o h base [] → Legal o h × (state_after o h ≡ base)
  -- One eviction more.
  pub more : (o : Opening) (h : List Entry) (base : State Text Own) (last : List Text) (unit : Text) → IsOpenAt o h base last
      → IsOpenAt o (h ++ eviction unit ∷ []) base (last ++ unit ∷ [])
  -- The call itself makes it legal.
  pub ended : (o : Opening) (h : List Entry) (e : Entry) → IsOpen o h → MayEnd o h e → Legal o (h ++ e ∷ [])
  -- Its state is that of its whole groups, with the evictions.
  pub state : (o : Opening) (h : List Entry) (base : State Text Own) (last : List Text) → IsOpenAt o h base last → state_after o h ≡ fold evicted base last
  -- It is open in one way alone, so a call that may come there may come.
  pub one : (o : Opening) (h : List Entry) (a b : State Text Own) (x y : List Text) → IsOpenAt o h a x → IsOpenAt o h b y → (a ≡ b) × (x ≡ y)
  pub may : (o : Opening) (h : List Entry) (e : Entry) (base : State Text Own) (last : List Text) → IsOpenAt o h base last → IsCall base last e → MayEnd o h e

-- Pending calls, evictions, and a call.
abbrev pub added : List Entry → List Text → Entry → List Entry
added pending gone e = pending ++ (map eviction gone ++ e ∷ [])

pub record CallsAreAdded : Type 0 where
  -- A legal history goes on with an agent's pending calls, and with the evictions and the entry of its call.
  pub legal : (o : Opening) (h pending : List Entry) (k : ℕ) (gone : List Text) (e : Entry) → Legal o h → ArePending (state_after o h) k pending
      → IsCall (state_after o (h ++ pending)) gone e → Legal o (h ++ added pending gone e)
  -- Its state is then that after the call's entry.
  pub state : (o : Opening) (h pending : List Entry) (k : ℕ) (gone : List Text) (e : Entry) → ArePending (state_after o h) k pending
      → IsCall (state_after o (h ++ pending)) gone e
      → state_after o (h ++ added pending gone e) ≡ after_reply (fold evicted (state_after o (h ++ pending)) gone) e.agent e.op e.reply
  -- What they store: nothing, the evictions, and what the call stores.
  pub changes : (o : Opening) (h pending : List Entry) (k : ℕ) (gone : List Text) (e : Entry) → ArePending (state_after o h) k pending
      → changes o (h ++ added pending gone e) ≡ changes o h ++ (map evict gone ++ entry_changes (fold evicted (state_after o (h ++ pending)) gone) e)
