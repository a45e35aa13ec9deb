-- The entries and rows of an agent with its pending calls.
use Rattle.std.proofs.Common.{◌≡◌, ℕ, ◌+◌, ◌-◌, ◌≤◌, ◌==◌, ◌&&◌, suc, zero, Bool, true, false, not, cond, List, [], ◌∷◌, ◌++◌, length, refl, sym, ap, ◌∙◌, subst, arith}
use Rattle.std.specs.Prelude.{count_by, IsTrue}
use Rattle.std.proofs.lemmas.Bool.{eq-eqb}
use Rattle.std.proofs.lemmas.List.{length-append, length-map, length-replicate, append-nil}
use Rattle.std.proofs.lemmas.List.Sums.{fold-append}
use Rattle.opfs_base.specs.Texts.{Text}
use Rattle.opfs_books.specs.Laws.Books.{calls_of, is_eviction}
use Rattle.opfs_books.proofs.laws.Counting.{count-append, count-cons}
use Rattle.opfs_books.proofs.Following.{notes-follow, pending-notes}
use Rattle.opfs_hist.specs.Sums.{makes_row, last_moment}
use Rattle.opfs_hist.specs.declared.entry.Entry.{Entry}
use Rattle.opfs_hist.specs.declared.history.PendingSum.{PendingSum}
use Rattle.opfs_laws.specs.Histories.Unread.{ArePendingFor}
use Rattle.opfs_laws.proofs.lengths.Readers.{agent-on}
use Rattle.opfs_laws.specs.Lengths.Bridge.{LengthsFollowEachCall, LocalCallsAreKnownByTheirWord}
use Rattle.opfs_laws.specs.Lengths.Outlines.{in_lengths_of}
use Rattle.opfs_machine.specs.declared.own.Own.{Own}
use Rattle.opfs_machine.specs.declared.own.Outline.TheVariants as outline
use Rattle.opfs_machine.specs.declared.state.State.{State}
use Rattle.opfs_machine.specs.Agents.{agent_of}
use Rattle.opfs_machine.specs.Contents.{outline_of}
use Rattle.opfs_machine.specs.Histories.{after_entry, state_after}
use Rattle.opfs_machine.specs.Openings.{Opening, begun}
use Rattle.opfs_books.specs.Sharing.Noting.{noted}
use Rattle.opfs_books.proofs.sharing.Pending.{sum-noted}
use Rattle.opfs_state_rows.specs.Standing.Noted.{with_sum}
use Rattle.opfs_state_rows.specs.Standing.Seen.{Machine}
use Rattle.opfs_state.proofs.laws.Readying.{agent-noted}
use Rattle.opfs_state.specs.Verdicts.Callers.{IsAgent}

-- ---- entries

one-less : (a b : Bool) (n m : ℕ) → n ≤ m → cond (a && b) 1 0 + n ≤ cond b 1 0 + m
one-less true true n m h = omega (arith, h)
one-less true false n m h = omega (arith, h)
one-less false true n m h = omega (arith, h)
one-less false false n m h = omega (arith, h)

-- An agent's calls are among its entries.
pub calls-less : (k : ℕ) (h : List Entry) → calls_of k h ≤ count_by (λ e. e.agent == k) h
calls-less k [] = omega arith
calls-less k (e ∷ h) =
    omega (
      arith,
      count-cons (λ x. not (is_eviction x) && (x.agent == k)) e h,
      count-cons (λ x. x.agent == k) e h,
      one-less (not (is_eviction e)) (e.agent == k) (calls_of k h) (count_by (λ x. x.agent == k) h) (calls-less k h),
    )

all-its : (tells : Type 0) (s : State Text Own) (k : ℕ) (es : List Entry) → ArePendingFor tells s k es → count_by (λ e. e.agent == k) es ≡ length es
all-its tells s k [] h = refl
all-its tells s k (e ∷ es) h =
    omega (
      arith,
      count-cons (λ x. x.agent == k) e es,
      ap {B = ℕ} (λ b. cond b 1 0) (eq-eqb e.agent k h.0.agent),
      all-its tells (after_entry s e) k es h.1,
    )

pub pending-entries : (tells : Type 0) (o : Opening) (h calls : List Entry) (k : ℕ) → ArePendingFor tells (state_after o h) k calls → count_by (λ e. e.agent == k) (h ++ calls) ≤ 60000001
    → calls_of k h + length calls ≤ 60000002
pending-entries tells o h calls k pending few =
    omega (arith, few, count-append (λ (e : Entry). e.agent == k) h calls, all-its tells (state_after o h) k calls pending, calls-less k h)

-- ---- a live agent

pub live-before : (tells : Type 0) (o : Opening) (h calls : List Entry) (k : ℕ) → ArePendingFor tells (state_after o h) k calls → IsTrue (agent_of (state_after o (h ++ calls)) k).live → IsTrue (agent_of (state_after o h) k).live
live-before tells o h [] k pending live = subst (λ (es : List Entry). IsTrue (agent_of (state_after o es) k).live) (append-nil h) live
live-before tells o h (e ∷ es) k pending live = subst (λ (n : ℕ). IsTrue (agent_of (state_after o h) n).live) pending.0.agent pending.0.live

-- ---- rows

abbrev sum_of : List Entry → PendingSum
sum_of es = record { entries = length es; rows = count_by makes_row es; moment = last_moment es }

pub own-length : (s : State Text Own) (k : ℕ) → length (agent_of (in_lengths_of s) k).own ≡ length (agent_of s k).own
own-length s k = ap (λ a. length a.own) (agent-on length outline_of s k) ∙ length-map (agent_of s k).own outline_of

rows-noted : (m : Machine) (k : ℕ) (es : List Entry) → IsAgent m k → length (agent_of (with_sum m (k - 1) (sum_of es)) k).own ≡ length (agent_of m k).own + count_by makes_row es
rows-noted m zero es agent = absurd (omega (arith, agent.above))
rows-noted m (suc at) es agent =
    ap (λ n. length (agent_of (with_sum m n (sum_of es)) (suc at)).own) (number at)
    ∙ ap (λ a. length a.own) (agent-noted m at (sum_of es) (omega (arith, agent.within)))
    ∙ (length-append (agent_of m (suc at)).own _ ∙ ap (λ n. length (agent_of m (suc at)).own + n) (length-replicate (count_by makes_row es) outline.Iterator))
  where
    number : (at : ℕ) → suc at - 1 ≡ at
    number at = omega arith

module _ (follow : LengthsFollowEachCall) (local : LocalCallsAreKnownByTheirWord) (tells : Type 0) (o : Opening) (h calls : List Entry) (k : ℕ) (pending : ArePendingFor tells (state_after o h) k calls) where
  pub pending-rows : (m : Machine) → m ≡ in_lengths_of (state_after o h) → IsAgent m k → length (agent_of m k).own + count_by makes_row calls ≡ length (agent_of (state_after o (h ++ calls)) k).own
  pending-rows m machine agent =
      sym (rows-noted m k calls agent)
      ∙ ap (λ (x : Machine). length (agent_of x k).own)
      (sum-noted m k (sum_of calls) calls agent.above agent.within (record { entries = refl; rows = refl; moment = refl }) (pending-notes follow local tells k (state_after o h) calls pending)
      ∙ ap (λ x. noted x k calls) machine
      ∙ notes-follow follow local tells k (state_after o h) calls pending
      ∙ ap in_lengths_of (sym (fold-append after_entry (begun o) h calls)))
      ∙ own-length (state_after o (h ++ calls)) k
