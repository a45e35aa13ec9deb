-- Pending calls leave which rows are open.
use Rattle.std.proofs.Common.{◌≡◌, ℕ, zero, suc, ◌-◌, Bool, true, false, List, [], ◌∷◌, ◌++◌, Option, Some, None, is_some, option_map, ◌⊎◌, inl, inr, slice_set, fold, length, refl, sym, ap, ◌∙◌, subst, arith}
use Rattle.std.specs.Prelude.{slice_get, unwrap_or}
use Rattle.std.proofs.lemmas.Bool.{false≢true}
use Rattle.opfs_base.specs.declared.locator.Locator.{Locator}
use Rattle.opfs_base.specs.Texts.{Text}
use Rattle.opfs_books.proofs.Following.{notes-follow, pending-notes}
use Rattle.opfs_pages.specs.HistoryLaws.Open.{open_at, if_open}
use Rattle.opfs_hist.specs.declared.entry.Entry.{Entry}
use Rattle.opfs_hist.specs.declared.op.Op.{Op}
use Rattle.opfs_hist.specs.declared.op.Op.TheVariants as op
use Rattle.opfs_laws.specs.Histories.Unread.{ArePendingFor}
use Rattle.opfs_laws.proofs.lengths.Readers.{own-on, agent-on}
use Rattle.opfs_laws.specs.Lengths.Bridge.{LengthsFollowEachCall, LocalCallsAreKnownByTheirWord}
use Rattle.opfs_laws.specs.Lengths.Outlines.{in_lengths_of, local_change}
use Rattle.opfs_machine.specs.declared.own.Outline.{Outline}
use Rattle.opfs_machine.specs.declared.own.Outline.TheVariants as outline
use Rattle.opfs_machine.specs.declared.own.Own.{Own}
use Rattle.opfs_machine.specs.declared.own.Own.TheVariants as own
use Rattle.opfs_machine.specs.declared.state.Agent.{Agent}
use Rattle.opfs_machine.specs.declared.state.State.{State}
use Rattle.opfs_machine.specs.Agents.{agent_of, own_of, nobody, counted, with_agent}
use Rattle.opfs_machine.specs.Contents.{outline_of}
use Rattle.opfs_machine.specs.Histories.{after_entry}
use Rattle.opfs_machine.specs.Steps.{is_refusal}
use Rattle.opfs_books.specs.Sharing.Noting.{noted, AreNotes}
use Rattle.opfs_books.proofs.sharing.Pending.{does, IsQuiet}
use Rattle.opfs_state_rows.specs.Standing.Seen.{Machine}
use Rattle.opfs_laws.specs.Steady.Steady.{open_bytes}

abbrev open_in : Agent Outline → ℕ → Option Outline
open_in a n = if_open (own_of a n)

-- An iterator more is not open.
one-more : (rows : List Outline) (n : ℕ) → if_open (slice_get (rows ++ outline.Iterator ∷ []) n) ≡ if_open (slice_get rows n)
one-more [] zero = refl
one-more [] (suc n) = refl
one-more (r ∷ rows) zero = refl
one-more (r ∷ rows) (suc n) = one-more rows n

with-iterator : (a : Agent Outline) (n : ℕ) → open_in (record a { own = a.own ++ outline.Iterator ∷ [] }) n ≡ open_in a n
with-iterator a zero = refl
with-iterator a (suc n) = one-more a.own n

-- A change of one agent that leaves its open rows leaves all.
set-stays : (agents : List (Agent Outline)) (at i n : ℕ) (f : Agent Outline → Agent Outline) → ((a : Agent Outline) (m : ℕ) → open_in (f a) m ≡ open_in a m)
    → open_in (unwrap_or (slice_get (slice_set agents at (f (unwrap_or (slice_get agents at) nobody))) i) nobody) n ≡ open_in (unwrap_or (slice_get agents i) nobody) n
set-stays [] zero i n f same = refl
set-stays [] (suc at) i n f same = refl
set-stays (x ∷ xs) zero zero n f same = same x n
set-stays (x ∷ xs) zero (suc i) n f same = refl
set-stays (x ∷ xs) (suc at) zero n f same = refl
set-stays (x ∷ xs) (suc at) (suc i) n f same = set-stays xs at i n f same

agent-stays : (m : Machine) (at : ℕ) (f : Agent Outline → Agent Outline) → ((a : Agent Outline) (i : ℕ) → open_in (f a) i ≡ open_in a i) → (j n : ℕ)
    → open_at (with_agent m (suc at) (f (agent_of m (suc at)))) j n ≡ open_at m j n
agent-stays m at f same zero n = refl
agent-stays m at f same (suc i) n =
    let number : suc at - 1 ≡ at = omega arith in
    ap (λ (k : ℕ). open_in (unwrap_or (slice_get (slice_set m.agents k (f (agent_of m (suc at)))) i) nobody) n) number ∙ set-stays m.agents at i n f same

change-stays : (m : Machine) (at : ℕ) (o : Op) → IsQuiet m at o ⊎ (((dir : Locator) × (o ≡ op.Values dir)) ⊎ ((ms : ℕ) × (o ≡ op.Moment ms))) → (j n : ℕ) → open_at (local_change m (suc at) o) j n ≡ open_at m j n
change-stays m at o (inl quiet) j n = ap (λ (x : Machine). open_at x j n) quiet.2
change-stays m at o (inr (inl values)) j n =
    subst (λ (x : Op). open_at (local_change m (suc at) x) j n ≡ open_at m j n) (sym values.1) (agent-stays m at (λ a. record a { own = a.own ++ outline.Iterator ∷ [] }) with-iterator j n)
change-stays m at o (inr (inr moment)) j n =
    subst (λ (x : Op). open_at (local_change m (suc at) x) j n ≡ open_at m j n) (sym moment.1) (agent-stays m at (λ a. record a { moment = moment.0 }) (λ a i. refl) j n)

note-stays : (m : Machine) (at : ℕ) (b : Bool) (o : Op) → IsQuiet m at o ⊎ (((dir : Locator) × (o ≡ op.Values dir)) ⊎ ((ms : ℕ) × (o ≡ op.Moment ms))) → (j n : ℕ)
    → open_at (counted (elim b [ true ↦ m | false ↦ local_change m (suc at) o ]) (suc at)) j n ≡ open_at m j n
note-stays m at true o is j n = refl
note-stays m at false o is j n = change-stays m at o is j n

pub notes-stay : (m : Machine) (at : ℕ) (es : List Entry) → AreNotes es → (j n : ℕ) → open_at (noted m (suc at) es) j n ≡ open_at m j n
notes-stay m at [] notes j n = refl
notes-stay m at (e ∷ es) notes j n =
    notes-stay (counted (elim (is_refusal e.reply) [ true ↦ m | false ↦ local_change m (suc at) e.op ]) (suc at)) at es notes.1 j n
    ∙ note-stays m at (is_refusal e.reply) e.op (does m at e.op notes.0.slot) j n

module _ (follow : LengthsFollowEachCall) (local : LocalCallsAreKnownByTheirWord) (tells : Type 0) (s : State Text Own) where
  -- An agent's pending calls leave which rows are open.
  pub pending-stays : (k : ℕ) (es : List Entry) → ArePendingFor tells s k es → (j n : ℕ) → open_at (in_lengths_of (fold after_entry s es)) j n ≡ open_at (in_lengths_of s) j n
  pending-stays k [] pending j n = refl
  pending-stays zero (e ∷ es) pending j n = absurd (false≢true (sym (ap (λ i. (agent_of s i).live) pending.0.agent) ∙ pending.0.live))
  pending-stays (suc at) (e ∷ es) pending j n =
      sym (ap (λ (x : Machine). open_at x j n) (notes-follow follow local tells (suc at) s (e ∷ es) pending))
      ∙ notes-stay (in_lengths_of s) at (e ∷ es) (pending-notes follow local tells (suc at) s (e ∷ es) pending) j n

-- An open row is one with bytes.
opened-by : (s : State Text Own) (r : Option Own) (bytes : Text) → open_bytes s r ≡ Some bytes → is_some (if_open (option_map outline_of r)) ≡ true
opened-by s (Some (own.Stream w)) bytes is = refl
opened-by s (Some (own.Handle h)) bytes is = refl
opened-by s (Some own.ClosedStream) bytes is = absurd (none_some is)
  where
    none_some : ◌≡◌ {A = Option Text} None (Some bytes) → ⊥
    none_some e = cc
opened-by s (Some own.ClosedHandle) bytes is = absurd (none_some is)
  where
    none_some : ◌≡◌ {A = Option Text} None (Some bytes) → ⊥
    none_some e = cc
opened-by s (Some (own.Snapshot b)) bytes is = absurd (none_some is)
  where
    none_some : ◌≡◌ {A = Option Text} None (Some bytes) → ⊥
    none_some e = cc
opened-by s (Some (own.Iterator i)) bytes is = absurd (none_some is)
  where
    none_some : ◌≡◌ {A = Option Text} None (Some bytes) → ⊥
    none_some e = cc
opened-by s None bytes is = absurd (none_some is)
  where
    none_some : ◌≡◌ {A = Option Text} None (Some bytes) → ⊥
    none_some e = cc

pub open-with-bytes : (s : State Text Own) (k n : ℕ) (bytes : Text) → open_bytes s (own_of (agent_of s k) n) ≡ Some bytes → is_some (open_at (in_lengths_of s) k n) ≡ true
open-with-bytes s k n bytes is =
    ap (λ (a : Agent Outline). is_some (open_in a n)) (agent-on length outline_of s k)
    ∙ (ap (λ (r : Option Outline). is_some (if_open r)) (own-on outline_of (agent_of s k) n) ∙ opened-by s (own_of (agent_of s k) n) bytes is)
