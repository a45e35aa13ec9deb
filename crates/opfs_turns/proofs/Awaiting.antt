-- What an await or a wait is answered, and what it leaves its agent waiting for.
use Rattle.std.proofs.Common.{◌≡◌, ℕ, ◌&&◌, ◌||◌, Bool, true, false, not, List, [], Option, Some, None, Ok, Err, refl, sym, ap, ◌∙◌, subst, inl, inr, IsTrue}
use Rattle.std.proofs.lemmas.Bool.{false≢true}
use Rattle.opfs_base.specs.Texts.{Text}
use Rattle.opfs_hist.specs.Sums.{asks_for_row}
use Rattle.opfs_hist.specs.declared.op.Op.{Op}
use Rattle.opfs_hist.specs.declared.op.Op.TheVariants as op
use Rattle.opfs_hist.specs.declared.reply.Refusal.{Refusal}
use Rattle.opfs_hist.specs.declared.reply.Refusal.TheVariants as refusal
use Rattle.opfs_hist.specs.declared.reply.Reply.{Reply}
use Rattle.opfs_hist.specs.declared.reply.Reply.TheVariants as reply
use Rattle.opfs_machine.specs.declared.own.Own.{Own}
use Rattle.opfs_machine.specs.declared.state.Need.{Need}
use Rattle.opfs_machine.specs.declared.state.State.{State}
use Rattle.opfs_machine.specs.Agents.{agent_of, party_of, is_posted, others_stuck, waits_for}
use Rattle.opfs_machine.specs.Contents.{in_bytes}
use Rattle.opfs_machine.specs.Effects.{effect, with_waiting}
use Rattle.opfs_machine.specs.Histories.{may_enter, is_disk_op, Agrees}
use Rattle.opfs_machine.specs.Replies.{answer, sizes_of}
use Rattle.opfs_machine.specs.Ruled.{Ruled, ◌>>=◌, ◌>>◌, unless}
use Rattle.opfs_machine.specs.Rulings.{ruling, await_ruling}
use Rattle.opfs_machine.specs.Steps.{step, judged, outcome_of, room_for, after_reply, Outcome}
use Rattle.opfs_machine.specs.Sums.{no_need}
use Rattle.opfs_laws.specs.Leaving.{is_end}
use Rattle.opfs_laws.proofs.Local.{room_for_nothing}
use Rattle.opfs_laws.proofs.Numbers.{IsNumber, agent-set}
use Rattle.opfs_laws.specs.Histories.Unread.{unread}
use Rattle.opfs_store.specs.declared.acts.acted.AwaitState.{AwaitState}
use Rattle.opfs_store.specs.declared.acts.acted.AwaitState.TheVariants as await
use Rattle.opfs_store.specs.Acts.Acting.{awaited}
use Rattle.opfs_store.specs.Acts.Asking.{HasSmallNumbers}
use Rattle.opfs_turns.specs.Waiting.{await_reply, planned, op_by}
use Rattle.opfs_turns.specs.declared.waiting.Plan.{Plan}
use Rattle.opfs_turns.specs.declared.waiting.Plan.TheVariants as plan
use Rattle.opfs_turns.proofs.Beside.{StateBy}

abbrev pub is_read : Reply → Bool
is_read (reply.Read bytes) = true
is_read r = false

-- A call that is answered so, never by the disk, and leaves its agent waiting for this.
pub record IsAsk (s : State Text Own) (k : ℕ) (called : Op) (answered : Reply) (waiting : Option Text) : Type 0 where
  pub stays : is_end called ≡ false
  pub plain : is_disk_op s k called ≡ false
  pub few : asks_for_row called ≡ false
  pub told : (step s k called).answered ≡ answered
  pub bare : is_read answered ≡ false
  pub waits : (t : State Text Own) → IsNumber t k → (agent_of (after_reply t k called answered) k).waits ≡ waiting

pub bare-is : (r t : Reply) → unread r ≡ unread t → is_read t ≡ false → r ≡ t
bare-is (reply.Read bytes) t is plain = absurd (false≢true (sym (still t plain) ∙ sym (ap is_read is)))
  where
    still : (t : Reply) → is_read t ≡ false → is_read (unread t) ≡ false
    still (reply.Read bytes) h = h
    still t h = h
bare-is r (reply.Read bytes) is plain = absurd (false≢true (sym plain))
bare-is r t is plain = is

-- ---- how the turn goes

answered-by : (p q b posted : Bool) → planned (StateBy p q) b ≡ plan.Answer posted → (posted ≡ p) × ((p || q) ≡ true)
answered-by true q b posted h = (cc, refl)
answered-by false true b posted h = (cc, refl)
answered-by false false true posted h = absurd cc
answered-by false false false posted h = absurd cc

begun-by : (p q b : Bool) → planned (StateBy p q) b ≡ plan.Begin → (p ≡ false) × ((q ≡ false) × (b ≡ false))
begun-by true q b h = absurd cc
begun-by false true b h = absurd cc
begun-by false false true h = absurd cc
begun-by false false false h = (refl, (refl, refl))

pub begins-by : (w : AwaitState) (b : Bool) → planned w b ≡ plan.Begin → w ≡ await.Neither
begins-by await.Posted b h = absurd cc
begins-by await.Stuck b h = absurd cc
begins-by await.Neither b h = refl

pub looks-by : (w : AwaitState) (b : Bool) → planned w b ≡ plan.Look → (b ≡ true) × (w ≡ await.Neither)
looks-by await.Posted b h = absurd cc
looks-by await.Stuck b h = absurd cc
looks-by await.Neither true h = (refl, refl)
looks-by await.Neither false h = absurd cc

pub op-same : {x y : Op} → Some x ≡ Some y → x ≡ y
op-same h = cc

pub op-none : {x : Op} → None ≡ Some x → ⊥
op-none h = cc

module _ (s : State Text Own) (k : ℕ) (tag : Text) where
  pub answered-facts : (b posted : Bool) → planned (awaited s k tag) b ≡ plan.Answer posted → (posted ≡ is_posted s (party_of s k) tag) × IsTrue (may_enter s k (op.Await tag))
  unfolding awaited may_enter
  answered-facts b posted h = answered-by (is_posted s (party_of s k) tag) (others_stuck s k) b posted h

  pub begun-facts : (b : Bool) → b ≡ waits_for (agent_of s k).waits tag → planned (awaited s k tag) b ≡ plan.Begin → IsTrue (may_enter s k (op.Wait tag)) × (b ≡ false)
  unfolding awaited may_enter
  begun-facts b is h =
      let f = begun-by (is_posted s (party_of s k) tag) (others_stuck s k) b h in
      ((λ i. (not (f.0 i) && not (f.1.0 i)) && not ((sym is ∙ f.1.1) i)), f.1.1)

  -- ---- what is answered

  outcome-by : (o : Op) (caller : Option Text) (r : Ruled Need) → r ≡ Ok no_need → outcome_of s k o (r >>= room_for in_bytes s caller) ≡ outcome_of s k o (Ok [])
  unfolding ◌>>=◌
  outcome-by o caller r is = ap (λ x. outcome_of s k o (x >>= room_for in_bytes s caller)) is ∙ ap (outcome_of s k o) (room_for_nothing s caller)

  granted : (o : Op) → ruling in_bytes s (sizes_of s k o) k o ≡ Ok no_need → (step s k o).answered ≡ answer s (sizes_of s k o) k o
  unfolding step judged outcome_of
  granted o is = ap (λ (x : Outcome). x.answered) (outcome-by o (agent_of s k).key (ruling in_bytes s (sizes_of s k o) k o) is)

  refused-by : (o : Op) (caller : Option Text) (r : Ruled Need) (e : Refusal) → r ≡ Err e → outcome_of s k o (r >>= room_for in_bytes s caller) ≡ outcome_of s k o (Err e)
  unfolding ◌>>=◌
  refused-by o caller r e is = ap (λ x. outcome_of s k o (x >>= room_for in_bytes s caller)) is

  denied : (o : Op) (e : Refusal) → ruling in_bytes s (sizes_of s k o) k o ≡ Err e → (step s k o).answered ≡ reply.No e
  unfolding step judged outcome_of
  denied o e is = ap (λ (x : Outcome). x.answered) (refused-by o (agent_of s k).key (ruling in_bytes s (sizes_of s k o) k o) e is)

  abbrev RulingBy : Bool → Ruled Need
  RulingBy b = unless b refusal.Stuck >> Ok no_need

  await-told : (posted : Bool) → posted ≡ is_posted s (party_of s k) tag → (step s k (op.Await tag)).answered ≡ await_reply posted
  unfolding ruling await_ruling ◌>>◌ answer
  await-told true is = granted (op.Await tag) (ap RulingBy (sym is))
  await-told false is = denied (op.Await tag) refusal.Stuck (ap RulingBy (sym is))

  await-plain : is_disk_op s k (op.Await tag) ≡ false
  unfolding is_disk_op
  await-plain = refl

  wait-plain : is_disk_op s k (op.Wait tag) ≡ false
  unfolding is_disk_op
  wait-plain = refl

  wait-told : (step s k (op.Wait tag)).answered ≡ reply.Done
  unfolding ruling answer
  wait-told = granted (op.Wait tag) refl

  await-bare : (posted : Bool) → is_read (await_reply posted) ≡ false
  await-bare true = refl
  await-bare false = refl

  with-waits : (t : State Text Own) (w : Option Text) → IsNumber t k → (agent_of (with_waiting t k w) k).waits ≡ w
  with-waits t w number = ap (λ x. x.waits) (agent-set t k (record (agent_of t k) { waits = w }) number)

  await-waits : (posted : Bool) (t : State Text Own) → IsNumber t k → (agent_of (after_reply t k (op.Await tag) (await_reply posted)) k).waits ≡ None
  unfolding effect
  await-waits true t number = with-waits t None number
  await-waits false t number = with-waits t None number

  wait-waits : (t : State Text Own) → IsNumber t k → (agent_of (after_reply t k (op.Wait tag) reply.Done) k).waits ≡ Some tag
  unfolding effect
  wait-waits t number = with-waits t (Some tag) number

  pub await-ask : (posted : Bool) → posted ≡ is_posted s (party_of s k) tag → IsAsk s k (op.Await tag) (await_reply posted) None
  await-ask posted is = record { stays = refl; plain = await-plain; few = refl; told = await-told posted is; bare = await-bare posted; waits = await-waits posted }

  pub wait-ask : IsAsk s k (op.Wait tag) reply.Done (Some tag)
  wait-ask = record { stays = refl; plain = wait-plain; few = refl; told = wait-told; bare = refl; waits = wait-waits }

-- A call that is answered by the machine, as the disk may not fail it.
pub real-answer : (s : State Text Own) (gone : List Text) (k j : ℕ) (called o : Op) (r : Reply) → j ≡ k → o ≡ called → is_disk_op s k called ≡ false → Agrees s gone j o r (step s j o)
    → r ≡ (step s k called).answered
real-answer s gone k j called o r agent_is op_is plain agrees =
    elim (subst (λ x. Agrees s gone k x r (step s k x)) op_is (subst (λ x. Agrees s gone x o r (step s x o)) agent_is agrees)) as (λ x. r ≡ (step s k called).answered) [
      | inl is ↦ is.same_reply
      | inr fault ↦ absurd (false≢true (sym plain ∙ fault.disk))
    ]

pub await-small : (tag : Text) → HasSmallNumbers (op.Await tag)
unfolding HasSmallNumbers
await-small tag = tt

pub wait-small : (tag : Text) → HasSmallNumbers (op.Wait tag)
unfolding HasSmallNumbers
wait-small tag = tt
