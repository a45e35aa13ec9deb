-- Pages of open access handles: only a handle's own calls change its file's bytes, so all its pages are steady. This project's
-- own.
use Rattle.std.specs.Prelude.{◌≡◌, ℕ, true, List, [], ◌∷◌, ◌++◌, map, Option, Some, None}
use Rattle.opfs_base.specs.Places.{Place}
use Rattle.opfs_base.specs.Texts.{Text}
use Rattle.opfs_hist.specs.declared.entry.Entry.{Entry}
use Rattle.opfs_laws.specs.GoingOn.{ArePending}
use Rattle.opfs_machine.specs.declared.own.Own.{Own}
use Rattle.opfs_machine.specs.declared.own.Own.TheVariants as own
use Rattle.opfs_machine.specs.Agents.{agent_of, own_of}
use Rattle.opfs_machine.specs.Histories.{Legal, IsCall, state_after}
use Rattle.opfs_machine.specs.Openings.{Opening}
use Rattle.opfs_machine.specs.Replies.{bytes_at}
use Rattle.opfs_machine.specs.Runs.{eviction}
use Rattle.opfs_laws.specs.Steady.Steady.{is_steady, has_page}

-- The file of an own row, where it is an open access handle.
abbrev pub handle_on : Option Own → Option Place
handle_on (Some (own.Handle h)) = Some h.file
handle_on r = None

-- Each page of each open access handle is steady.
abbrev pub AreHandlesWhole : Opening → List Entry → Type 0
AreHandlesWhole o h = (k n : ℕ) (p : Place) → handle_on (own_of (agent_of (state_after o h) k) n) ≡ Some p → (i : ℕ) → is_steady o h k n i ≡ has_page (Some (bytes_at (state_after o h) p)) i

pub record HandlesStayWhole : Type 0 where
  pub begun : (o : Opening) → AreHandlesWhole o []
  -- Units are cleared for a call.
  pub cleared : (o : Opening) (h : List Entry) (gone : List Text) (e : Entry) → Legal o h → IsCall (state_after o h) gone e → AreHandlesWhole o h → AreHandlesWhole o (h ++ map eviction gone)
  -- And the call is answered, under the turn.
  pub called : (o : Opening) (h : List Entry) (gone : List Text) (e : Entry) → Legal o h → IsCall (state_after o h) gone e → e.turn ≡ true → AreHandlesWhole o h
      → AreHandlesWhole o (h ++ (map eviction gone ++ e ∷ []))
  -- Local calls that had no turn.
  pub pending : (o : Opening) (h es : List Entry) (k : ℕ) → ArePending (state_after o h) k es → AreHandlesWhole o h → AreHandlesWhole o (h ++ es)
