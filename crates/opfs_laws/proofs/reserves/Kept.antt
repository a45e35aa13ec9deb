-- What access handles keep, after any legal history.
use Rattle.std.proofs.Common.{◌≡◌, ◌⊎◌, ℕ, ◌≤◌, zero, suc, true, List, [], ◌∷◌, fold, length, map, flat_map, sum_by, Some, refl, sym, ap, subst, inl, inr, arith}
use Rattle.std.proofs.lemmas.Bool.{false≢true}
use Rattle.std.proofs.lemmas.Option.{slice_get_within}
use Rattle.opfs_base.specs.Blocks.{blocks}
use Rattle.opfs_base.specs.Texts.{Text}
use Rattle.opfs_hist.specs.declared.entry.Entry.{Entry}
use Rattle.opfs_hist.specs.declared.op.Mode.{Mode}
use Rattle.opfs_hist.specs.declared.op.Mode.TheVariants as mode
use Rattle.opfs_laws.proofs.histories.Reading.{unread-state}
use Rattle.opfs_locks.specs.declared.Want.TheVariants as want
use Rattle.opfs_machine.specs.declared.own.Own.{Own}
use Rattle.opfs_machine.specs.declared.own.Own.TheVariants as own
use Rattle.opfs_machine.specs.declared.state.State.{State}
use Rattle.opfs_machine.specs.Agents.{agent_of, own_of}
use Rattle.opfs_machine.specs.Histories.{IsCall, Legal, state_after}
use Rattle.opfs_machine.specs.Openings.{Opening, Who, agent_begun, begun}
use Rattle.opfs_machine.specs.Rulings.{is_read_write, want_of}
use Rattle.opfs_machine.specs.Steps.{evicted, after_reply}
use Rattle.opfs_laws.specs.Covered.{writer_reserve, reserve_at, now_of, stored_of, AreCovered}
use Rattle.opfs_laws.specs.Holders.{AreLocksOfHolders}
use Rattle.opfs_laws.proofs.CoveredBegun.{covered-begun}
use Rattle.opfs_laws.proofs.CoveredKept.{covered-calls, covered-gone}
use Rattle.opfs_laws.proofs.LocksEffect.{call-allowed, gone-untaken, locks-begun, locks-fold, locks-kept, number-after}
use Rattle.opfs_laws.proofs.Numbers.{IsNumber}
use Rattle.opfs_laws.proofs.OwnSums.{agent-get}
use Rattle.opfs_laws.proofs.Reaching.{IsKeptBy, kept-all}
use Rattle.opfs_laws.specs.Reserves.Reserves.{DoReservesFit, AreOthersStored, ReservesFitOrNothingIsUnflushed}
use Rattle.opfs_laws.proofs.reserves.AllOrNone.{AreAllOrNone, all-gone}
use Rattle.opfs_laws.proofs.reserves.Alone.{only-writer}
use Rattle.opfs_laws.proofs.reserves.Effects.{changed-all}

-- ---- what is kept through calls

pub record IsFitting (s : State Text Own) : Type 0 where
  pub locks : AreLocksOfHolders s
  pub all : AreAllOrNone s
  pub covered : AreCovered s

fitting-gone : (s : State Text Own) (gone : List Text) (e : Entry) → IsCall s gone e → IsFitting s → IsFitting (fold evicted s gone)
fitting-gone s gone e call h = record {
  locks = locks-fold gone s (gone-untaken s gone e call) h.locks;
  all = all-gone gone s h.all;
  covered = covered-gone gone s h.covered;
}

all-calls : (s : State Text Own) (gone : List Text) (e : Entry) → IsCall s gone e → IsFitting s → AreAllOrNone (after_reply (fold evicted s gone) e.agent e.op e.reply)
all-calls s gone e call h =
    let then = fitting-gone s gone e call h in
    changed-all (fold evicted s gone) e.agent e.op e.reply (number-after s gone e.agent call.live) (call-allowed s gone e call) then.locks then.all

fitting-kept : IsKeptBy IsFitting
fitting-kept s gone e call h = record {
  locks = locks-kept s gone e call h.locks;
  all = all-calls s gone e call h;
  covered = covered-calls s gone e call h.covered;
}

-- ---- in the beginning

begun-none : (agents : List Who) (f : Own → ℕ) → sum_by f (flat_map (λ a. a.own) (map agent_begun agents)) ≡ 0
begun-none [] f = refl
begun-none (a ∷ agents) f = begun-none agents f

fitting-begun : (o : Opening) → IsFitting (begun o)
fitting-begun o = record {
  locks = locks-begun o;
  all = λ q f is. inl (begun-none o.agents (writer_reserve q));
  covered = covered-begun o;
}

reached-fitting : (o : Opening) (h : List Entry) → Legal o h → IsFitting (state_after o h)
reached-fitting o h legal = kept-all IsFitting fitting-kept (begun o) [] h legal (fitting-begun o)

-- ---- what it says of one access handle

some-agent : (s : State Text Own) (k n : ℕ) (r : Own) → own_of (agent_of s k) n ≡ Some r → IsNumber s k
some-agent s zero zero r is = cc
some-agent s zero (suc n) r is = cc
some-agent s (suc i) n r is = record { index = i; is = refl; within = slice_get_within s.agents i (agent_of s (suc i)) (agent-get s i n r is) }

exclusive : (m : Mode) → is_read_write m ≡ true → want_of m ≡ want.Exclusive
exclusive mode.ReadWrite h = refl
exclusive mode.ReadOnly h = absurd (false≢true h)

one-of : (kept reserve size : ℕ) (even : Type 0) → kept ≡ reserve → (kept ≡ 0) ⊎ (size ≤ kept) → even ⊎ (size ≤ kept) → (size ≤ reserve) ⊎ ((reserve ≡ 0) × even)
one-of kept reserve size even same (inr fits) covered = inl (omega (arith, same, fits))
one-of kept reserve size even same (inl none) (inr fits) = inl (omega (arith, same, fits))
one-of kept reserve size even same (inl none) (inl stored) = inr (omega (arith, same, none), stored)

pub fits : (s : State Text Own) → IsFitting s → DoReservesFit s
fits s h k n x f is writes there =
    let only = only-writer s k n (own.Handle x) x.file h.locks (some-agent s k n (own.Handle x) is) is (ap (λ w. Some (x.file, w)) (exclusive x.mode writes)) in
    one-of (reserve_at s x.file) x.reserve (blocks (length f.present)) (now_of f ≡ stored_of f) only (h.all x.file f there)
    (elim (h.covered x.file f there) [ inl even ↦ inl even | inr more ↦ inr more.1 ])

others : (s : State Text Own) → IsFitting s → AreOthersStored s
others s h place f there none = elim (h.covered place f there) [ inl even ↦ even | inr more ↦ absurd (omega (arith, more.0, none)) ]

pub reserves-fit : ReservesFitOrNothingIsUnflushed
reserves-fit = record {
  reached = λ o h legal. fits (state_after o h) (reached-fitting o h legal);
  cleared = λ o h gone e legal call. fits (fold evicted (state_after o h) gone) (fitting-gone (state_after o h) gone e call (reached-fitting o h legal));
  told = λ o h real alike legal. subst (λ (s : State Text Own). DoReservesFit s) (sym (unread-state o h real alike)) (fits (state_after o real) (reached-fitting o real legal));
  others = λ o h legal. others (state_after o h) (reached-fitting o h legal);
}
