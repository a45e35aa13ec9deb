-- A call that the machine answers is answered by its party's own machine, refusals of shared room aside.
use Rattle.std.proofs.Common.{◌≡◌, ◌||◌, ◌+◌, ◌==◌, ℕ, nat_le, nat_lt, option_map, Bool, true, false, List, [], ◌∷◌, Option, Some, None, Ok, Err, refl, sym, ap, ◌∙◌, subst, inl, inr, arith, eqb-true}
use Rattle.std.proofs.lemmas.Bool.Decides.{nat_tests}
use Rattle.opfs_base.specs.Texts.{Text}
use Rattle.opfs_base.specs.Places.{Place, place_of, resolved}
use Rattle.opfs_hist.specs.declared.entry.Entry.{Entry}
use Rattle.opfs_hist.specs.declared.op.Op.{Op}
use Rattle.opfs_hist.specs.declared.op.Op.TheVariants as op
use Rattle.opfs_hist.specs.declared.reply.Refusal.{Refusal}
use Rattle.opfs_hist.specs.declared.reply.Refusal.TheVariants as refusal
use Rattle.opfs_hist.specs.declared.reply.Reply.{Reply}
use Rattle.opfs_hist.specs.declared.reply.Reply.TheVariants as reply
use Rattle.opfs_machine.specs.declared.own.Own.{Own}
use Rattle.opfs_machine.specs.declared.state.FileRow.{FileRow}
use Rattle.opfs_machine.specs.declared.state.Need.{Need}
use Rattle.opfs_machine.specs.declared.state.Sizes.{Sizes}
use Rattle.opfs_machine.specs.declared.state.State.{State}
use Rattle.opfs_machine.specs.Agents.{agent_of, own_of, others_stuck}
use Rattle.opfs_machine.specs.Alone.{judged_alone, AcceptedAlone, AgreesAlone, IsCallAlone}
use Rattle.opfs_machine.specs.Contents.{in_bytes, next_of}
use Rattle.opfs_machine.specs.Histories.{may_enter, asks_stuck, Agrees, IsCall}
use Rattle.opfs_machine.specs.Replies.{answer, sizes_of, origin_in, child_reply, path_reply, file_reply, given_in}
use Rattle.opfs_machine.specs.Rows.{children_of, file_at}
use Rattle.opfs_machine.specs.Ruled.{Ruled, ◌>>=◌, ◌>>◌, unless, some_or}
use Rattle.opfs_machine.specs.Rulings.{ruling}
use Rattle.opfs_machine.specs.Steps.{room_for, judged, outcome_of, step, is_refusal}
use Rattle.opfs_machine.specs.Sums.{usage, pool, charge, fits_quota, fits_area, fits_pool}
use Rattle.opfs_machine.specs.Victims.{victims, shortest_front, candidates, cleared}
use Rattle.opfs_laws.proofs.separation.Follows.{IsPlain}
use Rattle.opfs_laws.proofs.separation.Lists.{from_false}
use Rattle.opfs_laws.proofs.OwnFiles.{OwnFiles}
use Rattle.opfs_laws.proofs.separation.Reading.{Reads}
use Rattle.opfs_laws.proofs.separation.SameRuling.{ruling-same, sizes-same, may-same, disk-same}
use Rattle.opfs_laws.proofs.separation.SameAnswer.{ruling-free, is_free, answer-same, usage-at}

child-accepted : (s : State Text Own) (dir : Place) (name : Option Text) → is_refusal (child_reply s dir name) ≡ false
child-accepted s dir None = refl
child-accepted s dir (Some name) = refl

path-accepted : (names : Option (List Text)) → is_refusal (path_reply names) ≡ false
path-accepted None = refl
path-accepted (Some names) = refl

file-accepted : (f : Option (FileRow Text)) → is_refusal (file_reply f) ≡ false
file-accepted None = refl
file-accepted (Some f) = refl

answer-accepted : (s : State Text Own) (z : Sizes) (k : ℕ) (o : Op) → is_refusal (answer s z k o) ≡ false
unfolding answer
answer-accepted s z k (op.Next n dir) = child-accepted s (place_of dir) (next_of (given_in (own_of (agent_of s k) n)) (children_of s (place_of dir)))
answer-accepted s z k (op.Resolve dir entry) = path-accepted (resolved dir entry)
answer-accepted s z k (op.GetFile at) = file-accepted (file_at s (place_of at))
answer-accepted s z k o = refl

-- An answer that is no refusal is accepted as the party's own.
own-answer : (t : State Text Own) (k : ℕ) (o : Op) (need : Need) (answered : Reply) → is_refusal answered ≡ false → answered ≡ answer t (sizes_of t k o) k o → AcceptedAlone t k o need answered
own-answer t k o need (reply.No r) accepted is = from_false (sym accepted)
own-answer t k o need answered accepted is = is

positive : (n : ℕ) → nat_le n 0 ≡ false → nat_lt 0 n ≡ true
positive n h = grind (arith, nat_tests)

first_false : (a b : Bool) → (a || b) ≡ false → a ≡ false
first_false true b h = h
first_false false b h = refl

free_fits : (n : ℕ) (b : Bool) → (n == 0) ≡ true → (nat_le n 0 || b) ≡ true
free_fits n b h = ap (λ m. nat_le m 0 || b) (eqb-true n 0 h)

-- Where the victims are not enough, the need does not fit.
none-fits : (s : State Text Own) (need : ℕ) (units : List Text) → shortest_front in_bytes s need units ≡ None → fits_pool in_bytes s need ≡ false
none-fits s need [] is =
    elim (fits_pool in_bytes s need) as (λ b. ◌≡◌ {A = Option (List Text)} (elim b [ true ↦ Some [] | false ↦ None ]) None → b ≡ false) [ true ↦ λ h. cc | false ↦ λ h. refl ] is
none-fits s need (unit ∷ units) is =
    elim (fits_pool in_bytes s need) as (λ b. ◌≡◌ {A = Option (List Text)} (elim b [ true ↦ Some [] | false ↦ option_map (λ more. unit ∷ more) (shortest_front in_bytes (cleared s unit) need units) ]) None → b ≡ false) [
      | true ↦ λ h. cc
      | false ↦ λ h. refl
    ] is

module _ (k : ℕ) (s t : State Text Own) (r : Reads k s t) where
  abbrev origin : State Text Own → Text
  origin x = origin_in (agent_of x k).key

  -- The test of the quota, and what then is asked for.
  abbrev in_quota : State Text Own → Need → Ruled Need
  in_quota x need = unless (fits_quota in_bytes x (origin x) need.quota) (refusal.QuotaExceededError (usage in_bytes x (origin x)) need.quota x.limits.quota) >> Ok need

  free-quota : (x : State Text Own) (need : Need) → (need.quota == 0) ≡ true → in_quota x need ≡ Ok need
  unfolding ◌>>◌
  free-quota x need h =
      ap (λ b. unless b (refusal.QuotaExceededError (usage in_bytes x (origin x)) need.quota x.limits.quota) >> Ok need) (free_fits need.quota _ h)

  quota-same : IsPlain (agent_of s k).key → OwnFiles s → (z : Sizes) (o : Op) (need : Need) → may_enter s k o ≡ true → ruling in_bytes s z k o ≡ Ok need → in_quota s need ≡ in_quota t need
  quota-same plain files z o need may ok =
      elim (agent_of s k).key as (λ key. (agent_of s k).key ≡ key → in_quota s need ≡ in_quota t need) [
        | None ↦ λ is.
            let free : (need.quota == 0) ≡ true = ap is_free (sym ok) ∙ ruling-free k s is files z o may in
            free-quota s need free ∙ sym (free-quota t need free)
        | Some x ↦ λ is.
            let used = usage-at k s t r x is in
            λ i. unless (nat_le need.quota 0 || nat_le (used i + need.quota) (r.quota i)) (refusal.QuotaExceededError (used i) need.quota (r.quota i)) >> Ok need
      ] refl

  module _ (gone : List Text) (o : Op) (answered : Reply) where
    -- A refusal that the party's machine gives too.
    refused-alone : (why : Refusal) → Agrees s gone k o answered (outcome_of s k o (Err why)) → answered ≡ reply.No why
    unfolding outcome_of
    refused-alone why (inl a) = a.same_reply
    refused-alone why (inr f) = from_false (sym f.accepted)

    module _ (plain : IsPlain (agent_of s k).key) (files : OwnFiles s) (may : may_enter s k o ≡ true) (need : Need) (ok : ruling in_bytes s (sizes_of s k o) k o ≡ Ok need) where
      done : (units : List Text) → Agrees s gone k o answered (outcome_of s k o (Ok units)) → AcceptedAlone t k o need answered
      unfolding outcome_of
      done units (inl a) =
          own-answer t k o need answered (ap is_refusal a.same_reply ∙ answer-accepted s (sizes_of s k o) k o)
          (a.same_reply ∙ answer-same k s t r plain files (sizes_of s k o) o need may ok ∙ ap (λ z. answer t z k o) (sizes-same k s t r files o))
      done units (inr f) = subst (AcceptedAlone t k o need) (sym f.told) (sym (disk-same k s t r o) ∙ f.disk)

      abbrev pool_full : Refusal
      pool_full = refusal.DataFull (pool in_bytes s) need.pool s.limits.blocks

      abbrev map_full : Refusal
      map_full = refusal.MetaFull (charge in_bytes s) need.charge s.limits.area

      in-pool : Agrees s gone k o answered (outcome_of s k o (some_or (victims in_bytes s (agent_of s k).key need.pool) pool_full)) → AcceptedAlone t k o need answered
      in-pool =
          elim (victims in_bytes s (agent_of s k).key need.pool) as (λ v. victims in_bytes s (agent_of s k).key need.pool ≡ v
          → Agrees s gone k o answered (outcome_of s k o (some_or v pool_full)) → AcceptedAlone t k o need answered) [
            | Some units ↦ λ is agrees. done units agrees
            | None ↦ λ is agrees.
                subst (AcceptedAlone t k o need) (sym (refused-alone pool_full agrees))
                (refl, positive need.pool (first_false _ _ (none-fits s need.pool (candidates s (agent_of s k).key) is)))
          ] refl

      in-area : Agrees s gone k o answered (outcome_of s k o (unless (fits_area in_bytes s need.charge) map_full >> some_or (victims in_bytes s (agent_of s k).key need.pool) pool_full))
          → AcceptedAlone t k o need answered
      unfolding ◌>>◌
      in-area =
          elim (fits_area in_bytes s need.charge) as (λ b. fits_area in_bytes s need.charge ≡ b
          → Agrees s gone k o answered (outcome_of s k o (unless b map_full >> some_or (victims in_bytes s (agent_of s k).key need.pool) pool_full)) → AcceptedAlone t k o need answered) [
            | true ↦ λ is agrees. in-pool agrees
            | false ↦ λ is agrees. subst (AcceptedAlone t k o need) (sym (refused-alone map_full agrees)) (refl, positive need.charge (first_false _ _ is))
          ] refl

      in-room : Agrees s gone k o answered (outcome_of s k o (room_for in_bytes s (agent_of s k).key need)) → AgreesAlone t k o answered (in_quota s need)
      unfolding ◌>>◌ room_for
      in-room =
          let full = refusal.QuotaExceededError (usage in_bytes s (origin s)) need.quota s.limits.quota in
          elim (fits_quota in_bytes s (origin s) need.quota) as (λ b.
          Agrees s gone k o answered (outcome_of s k o (unless b full >> (unless (fits_area in_bytes s need.charge) map_full >> some_or (victims in_bytes s (agent_of s k).key need.pool) pool_full)))
          → AgreesAlone t k o answered (unless b full >> Ok need)) [
            | true ↦ λ agrees. in-area agrees
            | false ↦ λ agrees. refused-alone full agrees
          ]

    abbrev Judged : Ruled Need → Type 0
    Judged x = Agrees s gone k o answered (outcome_of s k o (x >>= room_for in_bytes s (agent_of s k).key)) → AgreesAlone t k o answered (x >>= in_quota t)

    by-ruling : IsPlain (agent_of s k).key → OwnFiles s → may_enter s k o ≡ true → (x : Ruled Need) → ruling in_bytes s (sizes_of s k o) k o ≡ x → Judged x
    unfolding ◌>>=◌
    by-ruling plain files may (Ok need) is agrees =
        subst (AgreesAlone t k o answered) (quota-same plain files (sizes_of s k o) o need may is) (in-room plain files may need is agrees)
    by-ruling plain files may (Err why) is agrees = refused-alone why agrees

    agrees-alone : IsPlain (agent_of s k).key → OwnFiles s → may_enter s k o ≡ true → Agrees s gone k o answered (step s k o) → AgreesAlone t k o answered (judged_alone t k o)
    unfolding step judged judged_alone
    agrees-alone plain files may agrees =
        subst (λ x. AgreesAlone t k o answered (x >>= in_quota t))
        (ruling-same k s t r plain files (sizes_of s k o) o may ∙ ap (λ z. ruling in_bytes t z k o) (sizes-same k s t r files o))
        (by-ruling plain files may (ruling in_bytes s (sizes_of s k o) k o) refl agrees)

-- A call of the party's agent.
pub call-alone : (s t : State Text Own) (gone : List Text) (e : Entry) → Reads e.agent s t → (asks_stuck e.op ≡ true → others_stuck s e.agent ≡ others_stuck t e.agent)
    → IsPlain (agent_of s e.agent).key → OwnFiles s → IsCall s gone e → IsCallAlone t e
call-alone s t gone e r stuck plain files call = record {
  live = ap (λ a. a.live) (sym r.agent) ∙ call.live;
  fitting = sym (may-same e.agent s t r e.op stuck) ∙ call.fitting;
  agrees = agrees-alone e.agent s t r gone e.op e.reply plain files call.fitting call.agrees;
}
