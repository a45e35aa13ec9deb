-- What is known of iterators, through an agent's pending calls and a whole call.
use Rattle.std.proofs.Common.{◌≡◌, ◌≢◌, ℕ, ◌++◌, true, false, List, [], ◌∷◌, append_assoc, fold, map, Option, Some, None, refl, sym, ap, ◌∙◌, subst}
use Rattle.std.proofs.lemmas.Bool.{false≢true}
use Rattle.std.proofs.lemmas.Grind.{fold-append}
use Rattle.opfs_store.specs.Acts.Acting.{IsActed, told_entry}
use Rattle.opfs_store.specs.Acts.Asking.{MayAct}
use Rattle.opfs_base.specs.Texts.{Text}
use Rattle.opfs_hist.specs.declared.entry.Entry.{Entry}
use Rattle.opfs_hist.specs.declared.op.Op.{Op}
use Rattle.opfs_hist.specs.declared.op.Op.TheVariants as op
use Rattle.opfs_hist.specs.declared.reply.Reply.{Reply}
use Rattle.opfs_laws.specs.Histories.Opened.{added}
use Rattle.opfs_laws.specs.Histories.Unread.{ArePendingFor}
use Rattle.opfs_laws.proofs.Going.{call-after, not_evict}
use Rattle.opfs_laws.proofs.histories.Reading.{refuses-same}
use Rattle.opfs_machine.specs.declared.own.Own.{Own}
use Rattle.opfs_machine.specs.declared.own.Own.TheVariants as own
use Rattle.opfs_machine.specs.declared.state.State.{State}
use Rattle.opfs_machine.specs.Agents.{agent_of, own_of}
use Rattle.opfs_machine.specs.Histories.{after_entry, after_op, evicted_by, state_after}
use Rattle.opfs_machine.specs.Openings.{Opening, begun}
use Rattle.opfs_machine.specs.OwnRows.{is_local}
use Rattle.opfs_machine.specs.Runs.{Call, eviction}
use Rattle.opfs_machine.specs.Steps.{after_reply, evicted, is_refusal}
use Rattle.opfs_work.specs.Works.{WorkingCopy}
use Rattle.opfs_desk_steps.specs.Iterating.GoingOn.{IsWithout}
use Rattle.opfs_desk_steps.specs.Iterating.Known.{AreReached, Lasts}
use Rattle.opfs_desk_steps.specs.Iterating.Reached.{HasReached, asked_row, may_make}
use Rattle.opfs_desk_steps.proofs.iterating.Children.{child-there}
use Rattle.opfs_desk_steps.proofs.iterating.Fewer.{HasChild}
use Rattle.opfs_desk_steps.proofs.iterating.Staying.{reached-stays}

-- A local call makes no row, asks no iterator, and is no eviction.
record IsBeside (o : Op) : Type 0 where
  makes : may_make o ≡ false
  asks : asked_row o ≡ 0
  clears : evicted_by o ≡ None
  there : (t : State Text Own) → HasChild t o

local-beside : (s : State Text Own) (k : ℕ) (o : Op) → is_local s k o ≡ true → IsBeside o
unfolding is_local
local-beside s k (op.GetDirectory bucket) h = absurd (false≢true h)
local-beside s k (op.GetDirectoryHandle dir name create) h = absurd (false≢true h)
local-beside s k (op.GetFileHandle dir name create) h = absurd (false≢true h)
local-beside s k (op.Next n dir) h = absurd (false≢true h)
local-beside s k (op.Evict unit) h = absurd (false≢true h)
local-beside s k o h = record { makes = refl; asks = refl; clears = refl; there = λ t. tt }

row-there : (s : State Text Own) (k n : ℕ) (last : Text) → HasReached s k n last → n ≢ 0
row-there s k n last has same = none (sym (ap (λ (j : ℕ). own_of (agent_of s k) j) same) ∙ has.there)
  where
    none : ◌≡◌ {A = Option Own} None (Some (own.Iterator (record { dir = has.dir; given = has.given }))) → ⊥
    none h = cc

pub pending-stays : (tells : Type 0) (s : State Text Own) (j : ℕ) (calls : List Entry) (k n : ℕ) (last : Text) → ArePendingFor tells s j calls → HasReached s k n last → HasReached (fold after_entry s calls) k n last
pending-stays tells s j [] k n last pending has = has
pending-stays tells s j (e ∷ calls) k n last pending has =
    let first = pending.0 in
    let beside = local-beside s e.agent e.op first.local in
    let here : HasReached (after_reply s e.agent e.op e.reply) k n last =
    reached-stays s [] e first.live first.fitting k n last beside.makes (λ accepted. beside.there s) (λ mine same. row-there s k n last has (sym same ∙ beside.asks)) has in
    pending-stays tells (after_entry s e) j calls k n last pending.1 (subst (λ (o : Option Text). HasReached (after_op s e o) k n last) (sym beside.clears) here)

-- The state before a call, its agent's pending calls done.
pub pending-state : (o : Opening) (h calls : List Entry) → state_after o (h ++ calls) ≡ fold after_entry (state_after o h) calls
pending-state o h calls = fold-append after_entry (begun o) h calls

pub pending-known : (tells : Type 0) (o : Opening) (h calls : List Entry) (j k n : ℕ) (last : Text) → ArePendingFor tells (state_after o h) j calls → HasReached (state_after o h) k n last
    → HasReached (state_after o (h ++ calls)) k n last
pending-known tells o h calls j k n last pending has =
    subst (λ (s : State Text Own). HasReached s k n last) (sym (pending-state o h calls)) (pending-stays tells (state_after o h) j calls k n last pending has)

-- The state after a call.
pub acted-state : (o : Opening) (h calls : List Entry) (gone : List Text) (e : Entry) → evicted_by e.op ≡ None
    → state_after o (h ++ added calls gone e) ≡ after_reply (fold evicted (state_after o (h ++ calls)) gone) e.agent e.op e.reply
acted-state o h calls gone e none =
    let group = map eviction gone ++ e ∷ [] in
    ap (state_after o) (sym (append_assoc h calls group)) ∙ fold-append after_entry (begun o) (h ++ calls) group ∙ call-after (state_after o (h ++ calls)) gone e none

pub acted-stays : (tells : Type 0) (o : Opening) (h calls new : List Entry) (c : Call) (work : WorkingCopy) (past : List Text) (answered : Reply) (lasts : Lasts) → MayAct tells o h calls c work past
    → IsActed tells o h calls c answered new → may_make c.op ≡ false → IsWithout c lasts → AreReached (state_after o h) lasts → AreReached (state_after o new) lasts
acted-stays tells o h calls new c work past answered lasts may acted makes without known k n last is =
    let s = state_after o (h ++ calls) in
    let e = told_entry c answered in
    let before = pending-known tells o h calls c.agent k n last may.pending (known k n last is) in
    let real = acted.call.real in
    let op_is : real.op ≡ c.op = ap (λ (x : Entry). x.op) (sym acted.call.alike) in
    let reply_is : is_refusal real.reply ≡ is_refusal answered = sym (refuses-same real.reply) ∙ ap (λ (x : Entry). is_refusal x.reply) (sym acted.call.alike) ∙ refuses-same answered in
    let there : is_refusal answered ≡ false → HasChild (fold evicted s acted.gone) c.op = λ accepted. subst (HasChild (fold evicted s acted.gone)) op_is (child-there s acted.gone real acted.call.call (reply_is ∙ accepted)) in
    let after = reached-stays s acted.gone e may.live may.fitting k n last makes there (λ mine same. without k n last is (sym mine, sym same)) before in
    subst (λ (xs : List Entry). HasReached (state_after o xs) k n last) (sym acted.grown)
    (subst (λ (t : State Text Own). HasReached t k n last) (sym (acted-state o h calls acted.gone e (not_evict s c.agent c.op may.fitting))) after)
