-- A call of an agent that does not wait is answered the same in two states that differ in waits and last uses alone.
use Rattle.std.proofs.Common.{◌≡◌, ◌+◌, ℕ, Bool, true, false, nat_le, ◌||◌, List, [], Option, Some, None, Ok, Err, refl, sym, ap, subst, ◌∙◌, inl, inr}
use Rattle.opfs_base.specs.Texts.{Text, same_text}
use Rattle.opfs_base.specs.Units.{origin_of}
use Rattle.opfs_hist.specs.declared.entry.Entry.{Entry}
use Rattle.opfs_hist.specs.declared.op.Op.{Op}
use Rattle.opfs_hist.specs.declared.op.Op.TheVariants as op
use Rattle.opfs_hist.specs.declared.reply.Refusal.{Refusal}
use Rattle.opfs_hist.specs.declared.reply.Refusal.TheVariants as refusal
use Rattle.opfs_hist.specs.declared.reply.Reply.{Reply}
use Rattle.opfs_hist.specs.declared.reply.Reply.TheVariants as reply
use Rattle.opfs_laws.proofs.Accepted.{answer-accepted}
use Rattle.opfs_laws.proofs.Local.{room_for_nothing}
use Rattle.opfs_laws.proofs.OwnFiles.{OwnFiles}
use Rattle.opfs_machine.specs.declared.own.Own.{Own}
use Rattle.opfs_machine.specs.declared.state.Need.{Need}
use Rattle.opfs_machine.specs.declared.state.State.{State}
use Rattle.opfs_machine.specs.Agents.{agent_of, party_of, party_with, is_posted, others_stuck}
use Rattle.opfs_machine.specs.Contents.{in_bytes}
use Rattle.opfs_machine.specs.Histories.{may_enter, asks_stuck, is_disk_op, Agrees, IsCall}
use Rattle.opfs_machine.specs.Replies.{answer, sizes_of, origin_in}
use Rattle.opfs_machine.specs.Ruled.{Ruled, ◌>>=◌, ◌>>◌, unless, some_or}
use Rattle.opfs_machine.specs.Rulings.{ruling, await_ruling}
use Rattle.opfs_machine.specs.Steps.{room_for, judged, outcome_of, step}
use Rattle.opfs_machine.specs.Sums.{no_need, usage, charge, pool, fits_quota, fits_area, present_blocks, row_reserve}
use Rattle.std.specs.List.{filter, sum_by}
use Rattle.opfs_machine.specs.Victims.{victims}
use Rattle.opfs_laws.proofs.separation.Follows.{IsPlain}
use Rattle.opfs_laws.proofs.separation.Reading.{Reads}
use Rattle.opfs_laws.proofs.separation.SameAnswer.{answer-same}
use Rattle.opfs_laws.proofs.separation.SameRuling.{ruling-same, sizes-same, may-same, disk-same}
use Rattle.opfs_transcripts.specs.Told.Reading.{is_stuck}
use Rattle.opfs_transcripts.proofs.waiting.Room.{SameRoom, charge-same, pool-same, none-same, some-same}
use Rattle.opfs_transcripts.proofs.waiting.Calm.{Calm, calm-quiet}

-- The same refusal; or units are cleared in both, and none in the other where none are in the one.
pub record SameJudged (x y : Ruled (List Text)) : Type 0 where
  pub refused : (why : Refusal) → x ≡ Err why → y ≡ Err why
  pub accepted : (units : List Text) → x ≡ Ok units → (other : List Text) × (y ≡ Ok other) × (units ≡ [] → other ≡ [])

err-same : (why : Refusal) → SameJudged (Err why) (Err why)
err-same why = record { refused = λ other is. is; accepted = λ units is. absurd (cc) }

inside : (a b : List Text) → ◌≡◌ {A = Ruled (List Text)} (Ok a) (Ok b) → a ≡ b
inside a b h = cc

inside_some : (a b : List Text) → Some a ≡ Some b → a ≡ b
inside_some a b h = cc

abbrev room_by : Bool → Bool → Option (List Text) → Refusal → Refusal → Refusal → Ruled (List Text)
room_by q a v full map_full pool_full = unless q full >> (unless a map_full >> some_or v pool_full)

pool-by : (v w : Option (List Text)) (why : Refusal) → (v ≡ None → w ≡ None) → ((found : List Text) → v ≡ Some found → (other : List Text) × (w ≡ Some other) × (found ≡ [] → other ≡ []))
    → SameJudged (some_or v why) (some_or w why)
pool-by None w why none some = subst (λ x. SameJudged (Err why) (some_or x why)) (sym (none refl)) (err-same why)
pool-by (Some found) w why none some =
    let other = some found refl in
    record {
      refused = λ other_why is. absurd (cc);
      accepted = λ units is. (other.0, ap (λ x. some_or x why) other.1, λ empty. other.2 (inside found units is ∙ empty));
    }

room-by : (q a : Bool) (v w : Option (List Text)) (full map_full pool_full : Refusal) → (v ≡ None → w ≡ None)
    → ((found : List Text) → v ≡ Some found → (other : List Text) × (w ≡ Some other) × (found ≡ [] → other ≡ []))
    → SameJudged (room_by q a v full map_full pool_full) (room_by q a w full map_full pool_full)
unfolding ◌>>◌
room-by false a v w full map_full pool_full none some = err-same full
room-by true false v w full map_full pool_full none some = err-same map_full
room-by true true v w full map_full pool_full none some = pool-by v w pool_full none some

module _ (s t : State Text Own) (m : SameRoom s t) where
  usage-same : (origin : Text) → usage in_bytes s origin ≡ usage in_bytes t origin
  usage-same origin = λ i. sum_by (λ e. present_blocks in_bytes e.1) (filter (λ e. same_text origin (origin_of e.0.0)) (m.rows i)) + sum_by (row_reserve in_bytes origin) (m.own i)

  room-same : (caller : Option Text) (need : Need) → SameJudged (room_for in_bytes s caller need) (room_for in_bytes t caller need)
  unfolding room_for
  room-same caller need =
      let used = usage-same (origin_in caller) in
      let charged = charge-same s t m in
      let pooled = pool-same s t m in
      subst (SameJudged (room_by (fits_quota in_bytes s (origin_in caller) need.quota) (fits_area in_bytes s need.charge) (victims in_bytes s caller need.pool)
      (refusal.QuotaExceededError (usage in_bytes s (origin_in caller)) need.quota s.limits.quota) (refusal.MetaFull (charge in_bytes s) need.charge s.limits.area) (refusal.DataFull (pool in_bytes s) need.pool s.limits.blocks)))
      (λ i. room_by (nat_le need.quota 0 || nat_le (used i + need.quota) (m.limits i).quota) (nat_le need.charge 0 || nat_le (charged i + need.charge + 7) (m.limits i).area) (victims in_bytes t caller need.pool)
      (refusal.QuotaExceededError (used i) need.quota (m.limits i).quota) (refusal.MetaFull (charged i) need.charge (m.limits i).area) (refusal.DataFull (pooled i) need.pool (m.limits i).blocks))
      (room-by (fits_quota in_bytes s (origin_in caller) need.quota) (fits_area in_bytes s need.charge) (victims in_bytes s caller need.pool) (victims in_bytes t caller need.pool) _ _ _
      (none-same s t m caller need.pool) (λ found is. some-same s t m caller need.pool found is))

bound-same : (s t : State Text Own) (m : SameRoom s t) (caller : Option Text) (x : Ruled Need) → SameJudged (x >>= room_for in_bytes s caller) (x >>= room_for in_bytes t caller)
unfolding ◌>>=◌
bound-same s t m caller (Ok need) = room-same s t m caller need
bound-same s t m caller (Err why) = err-same why

module _ (k : ℕ) (s t : State Text Own) (r : Reads k s t) (m : SameRoom s t) (plain : IsPlain (agent_of s k).key) (files : OwnFiles s) where
  judged-same : (o : Op) → may_enter s k o ≡ true → SameJudged (judged s k o) (judged t k o)
  unfolding judged
  judged-same o may =
      let z = sizes_of s k o in
      let rulings : ruling in_bytes s z k o ≡ ruling in_bytes t (sizes_of t k o) k o =
      ruling-same k s t r plain files z o may ∙ ap (λ y. ruling in_bytes t y k o) (sizes-same k s t r files o) in
      subst (SameJudged (ruling in_bytes s z k o >>= room_for in_bytes s (agent_of s k).key))
      (λ i. rulings i >>= room_for in_bytes t (r.agent i).key)
      (bound-same s t m (agent_of s k).key (ruling in_bytes s z k o))

  -- What a call that is not refused answers.
  answered-by : (o : Op) (x : Ruled Need) (units : List Text) → may_enter s k o ≡ true → ruling in_bytes s (sizes_of s k o) k o ≡ x
      → ◌≡◌ {A = Ruled (List Text)} (x >>= room_for in_bytes s (agent_of s k).key) (Ok units) → answer s (sizes_of s k o) k o ≡ answer t (sizes_of t k o) k o
  unfolding ◌>>=◌
  answered-by o (Ok need) units may is ok = answer-same k s t r plain files (sizes_of s k o) o need may is ∙ ap (λ z. answer t z k o) (sizes-same k s t r files o)
  answered-by o (Err why) units may is ok = absurd (err-ok why units ok)
    where
      err-ok : (why : Refusal) (units : List Text) → ◌≡◌ {A = Ruled (List Text)} (Err why) (Ok units) → ⊥
      err-ok why units h = cc

  answers : (o : Op) (units : List Text) → may_enter s k o ≡ true → judged s k o ≡ Ok units → answer s (sizes_of s k o) k o ≡ answer t (sizes_of t k o) k o
  unfolding judged
  answers o units may ok = answered-by o (ruling in_bytes s (sizes_of s k o) k o) units may refl ok

  refused-agrees : (o : Op) (answered : Reply) (why : Refusal) → judged t k o ≡ Err why → Agrees s [] k o answered (outcome_of s k o (Err why)) → Agrees t [] k o answered (step t k o)
  unfolding outcome_of step
  refused-agrees o answered why is (inl a) = subst (λ x. Agrees t [] k o answered (outcome_of t k o x)) (sym is) (inl (record { same_reply = a.same_reply; victims = a.victims }))
  refused-agrees o answered why is (inr f) = absurd (no f.accepted)
    where
      no : true ≡ false → ⊥
      no h = cc

  accepted-agrees : (o : Op) (answered : Reply) (units other : List Text) → judged t k o ≡ Ok other → (units ≡ [] → other ≡ []) → answer s (sizes_of s k o) k o ≡ answer t (sizes_of t k o) k o
      → Agrees s [] k o answered (outcome_of s k o (Ok units)) → Agrees t [] k o answered (step t k o)
  unfolding outcome_of step
  accepted-agrees o answered units other is empty same (inl a) =
      subst (λ x. Agrees t [] k o answered (outcome_of t k o x)) (sym is) (inl (record { same_reply = a.same_reply ∙ same; victims = sym (empty (sym a.victims)) }))
  accepted-agrees o answered units other is empty same (inr f) =
      subst (λ x. Agrees t [] k o answered (outcome_of t k o x)) (sym is)
      (inr (record { told = f.told; accepted = answer-accepted t (sizes_of t k o) k o; disk = sym (disk-same k s t r o) ∙ f.disk; front = (other, refl) }))

  by-judged : (o : Op) (answered : Reply) (x : Ruled (List Text)) → may_enter s k o ≡ true → judged s k o ≡ x → Agrees s [] k o answered (outcome_of s k o x) → Agrees t [] k o answered (step t k o)
  by-judged o answered (Err why) may is agrees = refused-agrees o answered why ((judged-same o may).refused why is) agrees
  by-judged o answered (Ok units) may is agrees =
      let other = (judged-same o may).accepted units is in
      accepted-agrees o answered units other.0 other.1 other.2 (answers o units may is) agrees

  agrees-same : (o : Op) (answered : Reply) → may_enter s k o ≡ true → Agrees s [] k o answered (step s k o) → Agrees t [] k o answered (step t k o)
  unfolding step
  agrees-same o answered may agrees = by-judged o answered (judged s k o) may refl agrees

-- A call that asks of nobody whether it is stuck.
pub call-same : (s t : State Text Own) (e : Entry) → Reads e.agent s t → SameRoom s t → IsPlain (agent_of s e.agent).key → OwnFiles s → asks_stuck e.op ≡ false → IsCall s [] e → IsCall t [] e
call-same s t e r m plain files free call = record {
  live = ap (λ a. a.live) (sym r.agent) ∙ call.live;
  fitting = sym (may-same e.agent s t r e.op (λ asks. absurd (no (sym free ∙ asks)))) ∙ call.fitting;
  agrees = agrees-same e.agent s t r m plain files e.op e.reply call.fitting call.agrees;
}
  where
    no : false ≡ true → ⊥
    no h = cc

-- ---- an await

-- An await that is posted is answered so, and clears nothing.
posted-judged : (s : State Text Own) (k : ℕ) (tag : Text) → is_posted s (party_of s k) tag ≡ true → judged s k (op.Await tag) ≡ Ok []
unfolding judged ruling await_ruling ◌>>=◌ ◌>>◌
posted-judged s k tag posted = ap (λ b. (unless b refusal.Stuck >> Ok no_need) >>= room_for in_bytes s (agent_of s k).key) posted ∙ room_for_nothing s (agent_of s k).key

unposted-judged : (s : State Text Own) (k : ℕ) (tag : Text) → is_posted s (party_of s k) tag ≡ false → judged s k (op.Await tag) ≡ Err refusal.Stuck
unfolding judged ruling await_ruling ◌>>=◌ ◌>>◌
unposted-judged s k tag unposted = ap (λ b. (unless b refusal.Stuck >> Ok no_need) >>= room_for in_bytes s (agent_of s k).key) unposted

stuck-answer : (s : State Text Own) (k : ℕ) (tag : Text) (answered : Reply) → is_posted s (party_of s k) tag ≡ false → Agrees s [] k (op.Await tag) answered (step s k (op.Await tag)) → is_stuck answered ≡ true
unfolding step outcome_of
stuck-answer s k tag answered unposted agrees =
    by-agrees (subst (λ x. Agrees s [] k (op.Await tag) answered (outcome_of s k (op.Await tag) x)) (unposted-judged s k tag unposted) agrees)
  where
    by-agrees : Agrees s [] k (op.Await tag) answered (outcome_of s k (op.Await tag) (Err refusal.Stuck)) → is_stuck answered ≡ true
    by-agrees (inl a) = ap is_stuck a.same_reply
    by-agrees (inr f) = absurd (no f.accepted)
      where
        no : true ≡ false → ⊥
        no h = cc

posted-answer : (s : State Text Own) (k : ℕ) (tag : Text) (answered : Reply) → is_posted s (party_of s k) tag ≡ true → Agrees s [] k (op.Await tag) answered (step s k (op.Await tag)) → answered ≡ reply.Done
unfolding step outcome_of answer is_disk_op
posted-answer s k tag answered posted agrees =
    by-agrees (subst (λ x. Agrees s [] k (op.Await tag) answered (outcome_of s k (op.Await tag) x)) (posted-judged s k tag posted) agrees)
  where
    by-agrees : Agrees s [] k (op.Await tag) answered (outcome_of s k (op.Await tag) (Ok [])) → answered ≡ reply.Done
    by-agrees (inl a) = a.same_reply
    by-agrees (inr f) = absurd (no f.disk)
      where
        no : false ≡ true → ⊥
        no h = cc

done-agrees : (t : State Text Own) (k : ℕ) (tag : Text) → is_posted t (party_of t k) tag ≡ true → Agrees t [] k (op.Await tag) reply.Done (step t k (op.Await tag))
unfolding step outcome_of answer
done-agrees t k tag posted =
    subst (λ x. Agrees t [] k (op.Await tag) reply.Done (outcome_of t k (op.Await tag) x)) (sym (posted-judged t k tag posted)) (inl (record { same_reply = refl; victims = refl }))

may-await : (t : State Text Own) (k : ℕ) (tag : Text) → is_posted t (party_of t k) tag ≡ true → may_enter t k (op.Await tag) ≡ true
unfolding may_enter
may-await t k tag posted = ap (λ b. b || others_stuck t k) posted

-- An await that was not answered Stuck is answered the same.
pub await-same : (waits : ℕ → Bool) (s t : State Text Own) (e : Entry) (tag : Text) → e.op ≡ op.Await tag → Calm waits s t → is_stuck e.reply ≡ false → IsCall s [] e
    → IsCall t [] e × (e.reply ≡ reply.Done)
await-same waits s t e tag is q free call =
    let k = e.agent in
    let agrees : Agrees s [] k (op.Await tag) e.reply (step s k (op.Await tag)) = subst (λ o. Agrees s [] k o e.reply (step s k o)) is call.agrees in
    let posted = elim (is_posted s (party_of s k) tag) as (λ b. is_posted s (party_of s k) tag ≡ b → is_posted s (party_of s k) tag ≡ true) [
      | true ↦ λ here. here
      | false ↦ λ here. absurd (no (sym free ∙ stuck-answer s k tag e.reply here agrees))
    ] refl in
    let agent = calm-quiet waits s t q k in
    let there : is_posted t (party_of t k) tag ≡ true = (λ i. is_posted (record t { posted = sym q.posted i }) (party_with (sym agent i).key k) tag) ∙ posted in
    let answered = posted-answer s k tag e.reply posted agrees in (
      record {
        live = ap (λ a. a.live) (sym agent) ∙ call.live;
        fitting = ap (may_enter t k) is ∙ may-await t k tag there;
        agrees = subst (λ o. Agrees t [] k o e.reply (step t k o)) (sym is) (subst (λ r. Agrees t [] k (op.Await tag) r (step t k (op.Await tag))) (sym answered) (done-agrees t k tag there));
      },
      answered,
    )
  where
    no : false ≡ true → ⊥
    no h = cc
