-- The charge grows by what is judged, over a call with its evictions.
use Rattle.std.proofs.Common.{◌≡◌, ℕ, Bool, true, false, List, [], fold, Ok, sym, ap, ◌∙◌, subst, inl, inr, arith}
use Rattle.std.proofs.lemmas.Bool.{false≢true}
use Rattle.opfs_base.specs.Texts.{Text}
use Rattle.opfs_hist.specs.declared.entry.Entry.{Entry}
use Rattle.opfs_hist.specs.declared.op.Op.{Op}
use Rattle.opfs_hist.specs.declared.op.Op.TheVariants as op
use Rattle.opfs_machine.specs.declared.own.Own.{Own}
use Rattle.opfs_machine.specs.declared.state.Need.{Need}
use Rattle.opfs_machine.specs.declared.state.Sizes.{Sizes}
use Rattle.opfs_machine.specs.declared.state.State.{State}
use Rattle.opfs_machine.specs.Agents.{agent_of, counted}
use Rattle.opfs_machine.specs.Contents.{in_bytes}
use Rattle.opfs_machine.specs.Effects.{effect, refused}
use Rattle.opfs_machine.specs.Histories.{IsCall, state_after}
use Rattle.opfs_machine.specs.Openings.{begun}
use Rattle.opfs_machine.specs.Replies.{sizes_of}
use Rattle.opfs_machine.specs.Ruled.{Ruled}
use Rattle.opfs_machine.specs.Rulings.{ruling}
use Rattle.opfs_machine.specs.Steps.{room_for, evicted, after_reply, is_refusal}
use Rattle.opfs_machine.specs.Sums.{no_need, charge}
use Rattle.opfs_laws.specs.Charges.{lets_charge_go, GrowsAsJudged, TheChargeGrowsAsJudged}
use Rattle.opfs_laws.specs.Whole.{is_rising}
use Rattle.opfs_laws.proofs.charges.Adds.{effect-adds}
use Rattle.opfs_laws.proofs.Bounded.{IsBounded, bounded-kept, grows-gone, modes-gone, needs-after}
use Rattle.opfs_laws.proofs.CoveredBegun.{covered-begun}
use Rattle.opfs_laws.proofs.CoveredKept.{covered-gone}
use Rattle.opfs_laws.proofs.Gone.{IsGiven, ran-by, gone-candidates}
use Rattle.opfs_laws.proofs.Growth.{IsWithin, effect-within}
use Rattle.opfs_laws.proofs.LocksEffect.{locks-begun, locks-fold, gone-untaken, number-after}
use Rattle.opfs_laws.proofs.Needs.{Needs, needs}
use Rattle.opfs_laws.proofs.OwnFiles.{own_files-begun}
use Rattle.opfs_laws.proofs.OwnKept.{evicted-agents}
use Rattle.opfs_laws.proofs.OwnSizes.{AgentsFit, fits-begun}
use Rattle.opfs_laws.proofs.Reaching.{kept-all}

same-need : {a b : Need} → ◌≡◌ {A = Ruled Need} (Ok a) (Ok b) → a ≡ b
same-need h = cc

-- A call that lets rows or blocks go needs nothing.
none-needed : (s : State Text Own) (z : Sizes) (k : ℕ) (o : Op) (need : Need) → lets_charge_go o ≡ true → Needs s z k o need → need ≡ no_need
none-needed s z k (op.RemoveEntry dir name recursive) need goes n = n
none-needed s z k (op.Close i) need goes n = n
none-needed s z k (op.Abort i) need goes n = n
none-needed s z k (op.SyncFlush i) need goes n = n
none-needed s z k (op.SyncClose i) need goes n = n
none-needed s z k (op.Discard i) need goes n = n
none-needed s z k o need goes n = absurd (false≢true goes)

-- What a call leaves that is not refused.
abbrev left_by : State Text Own → ℕ → Op → Bool → State Text Own
left_by t k o b = counted (elim b [ true ↦ refused t k o | false ↦ effect in_bytes t (sizes_of t k o) k o ]) k

module _ (s : State Text Own) (gone : List Text) (e : Entry) (need : Need) (kept : IsBounded s) (call : IsCall s gone e) (accepted : is_refusal e.reply ≡ false)
    (ruled : ruling in_bytes s (sizes_of s e.agent e.op) e.agent e.op ≡ Ok need) where
  abbrev t : State Text Own
  t = fold evicted s gone

  given : IsGiven s e.agent e.op gone
  given =
      let ran = ran-by s gone e call in
      elim ran as (λ r. IsGiven s e.agent e.op gone) [
        | inl denied ↦ absurd (false≢true (sym accepted ∙ ap is_refusal denied.told))
        | inr done ↦ elim done as (λ r. IsGiven s e.agent e.op gone) [
          | inl done_so ↦ done_so.given
          | inr fault ↦ absurd (false≢true (sym accepted ∙ fault.refused))
        ]
      ]

  needed : Needs t (sizes_of t e.agent e.op) e.agent e.op need
  needed =
      let g = given in
      let same : g.need ≡ need = same-need (sym g.ruled ∙ ruled) in
      let ran = ran-by s gone e call in
      needs-after s gone e.agent need kept.files (gone-candidates s gone e.agent e.op e.reply ran) (subst (λ (n : Need). room_for in_bytes s (agent_of s e.agent).key n ≡ Ok gone) same g.room) e.op call.fitting (needs s (sizes_of s e.agent e.op) e.agent e.op need ruled)

  rising : is_rising t.persistent ≡ true
  rising = ap is_rising (modes-gone gone s) ∙ kept.rising

  after-is : charge in_bytes (after_reply t e.agent e.op e.reply) ≡ charge in_bytes (effect in_bytes t (sizes_of t e.agent e.op) e.agent e.op)
  after-is = ap (λ b. charge in_bytes (left_by t e.agent e.op b)) accepted

  within : IsWithin t (effect in_bytes t (sizes_of t e.agent e.op) e.agent e.op) need
  within =
      effect-within t e.agent e.op need (number-after s gone e.agent call.live) (locks-fold gone s (gone-untaken s gone e call) kept.locks) (covered-gone gone s kept.covered)
      (subst AgentsFit (sym (evicted-agents gone s)) kept.fits) rising needed

  pub call-grows : GrowsAsJudged s gone e need
  call-grows = record {
    cleared = let g = grows-gone gone s in omega (arith, g.pool, g.plain);
    grows = λ stays. after-is ∙ effect-adds t e.agent e.op need (number-after s gone e.agent call.live) rising stays needed;
    falls = λ goes.
        let none : need.charge ≡ 0 = ap (λ n. n.charge) (none-needed t (sizes_of t e.agent e.op) e.agent e.op need goes needed) in
        let w = within in
        (none, omega (arith, after-is, w.grows.pool, w.grows.plain, w.charged, none));
  }

pub charge-grows : TheChargeGrowsAsJudged
charge-grows o h gone e need opening legal call accepted ruled =
    call-grows (state_after o h) gone e need
    (kept-all IsBounded bounded-kept (begun o) [] h legal (record {
      files = own_files-begun o;
      locks = locks-begun o;
      fits = fits-begun o;
      covered = covered-begun o;
      rising = opening.modes;
      pool = opening.pool;
      area = opening.area;
    }))
    call accepted ruled
