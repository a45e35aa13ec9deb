-- A call that stores something may meet a disk fault, which leaves in doubt what it would have stored.
use Rattle.std.proofs.Common.{◌≡◌, inl, inr, ℕ, true, false, List, [], ◌∷◌, ◌++◌, drop, fold, length, Option, Some, None, refl, sym, ap, ◌∙◌, subst, append-nil}
use Rattle.std.specs.Prelude.{IsTrue}
use Rattle.std.proofs.lemmas.Bool.{false≢true}
use Rattle.opfs_base.specs.Texts.{Text}
use Rattle.opfs_hist.specs.declared.entry.Entry.{Entry}
use Rattle.opfs_hist.specs.declared.op.Op.{Op}
use Rattle.opfs_hist.specs.declared.op.Op.TheVariants as op
use Rattle.opfs_hist.specs.declared.reply.Reply.{Reply}
use Rattle.opfs_hist.specs.declared.reply.Reply.TheVariants as reply
use Rattle.opfs_laws.specs.Histories.Doubts.{faulted, next_stored}
use Rattle.opfs_laws.specs.Histories.Unread.{unread}
use Rattle.opfs_laws.proofs.Going.{not_evict}
use Rattle.opfs_machine.specs.declared.own.HandleOutline.{HandleOutline}
use Rattle.opfs_machine.specs.declared.own.Own.{Own}
use Rattle.opfs_machine.specs.declared.state.State.{State}
use Rattle.opfs_machine.specs.Agents.{agent_of, open_handle}
use Rattle.opfs_machine.specs.Changes.{Change, evict, file_stored, handle_stored, stored_by}
use Rattle.opfs_machine.specs.Contents.{in_bytes}
use Rattle.opfs_machine.specs.Histories.{may_enter, is_disk_op, writes_in, evicted_by, IsCall, IsAnswer}
use Rattle.opfs_machine.specs.Rows.{file_at}
use Rattle.opfs_machine.specs.Rulings.{is_read_write}
use Rattle.opfs_machine.specs.Steps.{evicted, step, is_refusal}
use Rattle.opfs_books.specs.Laws.Books.{IsNext}
use Rattle.opfs_books.specs.Laws.Laws.{failed}

none-stored : (c : Change) → ◌≡◌ {A = List Change} [] (c ∷ []) → ⊥
none-stored c h = cc

handle-writes : (s : State Text Own) (o : Option HandleOutline) (c : Change) → handle_stored s o ≡ c ∷ [] → writes_in o ≡ true
handle-writes s None c h = absurd (none-stored c h)
handle-writes s (Some w) c h =
    elim (is_read_write w.mode) as (λ b. (elim b as (λ y. List Change) [ true ↦ file_stored w.file (file_at s w.file) | false ↦ [] ]) ≡ c ∷ [] → b ≡ true) [
      | true ↦ λ g. refl
      | false ↦ λ g. absurd (none-stored c g)
    ] h

-- A call that stores something may need the disk.
pub stores-by-disk : (s : State Text Own) (k : ℕ) (o : Op) (c : Change) → evicted_by o ≡ None → stored_by s k o ≡ c ∷ [] → is_disk_op s k o ≡ true
unfolding stored_by is_disk_op
stores-by-disk s k (op.GetDirectory bucket) c plain h = refl
stores-by-disk s k (op.GetDirectoryHandle dir name create) c plain h = refl
stores-by-disk s k (op.GetFileHandle dir name create) c plain h = refl
stores-by-disk s k (op.RemoveEntry dir name recursive) c plain h = refl
stores-by-disk s k (op.Close n) c plain h = refl
stores-by-disk s k (op.SyncFlush n) c plain h = handle-writes s (open_handle in_bytes s k n) c h
stores-by-disk s k (op.SyncClose n) c plain h = handle-writes s (open_handle in_bytes s k n) c h
stores-by-disk s k (op.Persist bucket) c plain h = refl
stores-by-disk s k (op.Evict unit) c plain h = absurd (bad unit plain)
  where
    bad : (u : Text) → ◌≡◌ {A = Option Text} (Some u) None → ⊥
    bad u e = cc
stores-by-disk s k o c plain h = absurd (none-stored c h)

disk-evicted : (s : State Text Own) (unit : Text) (k : ℕ) (o : Op) → is_disk_op (evicted s unit) k o ≡ is_disk_op s k o
unfolding is_disk_op
disk-evicted s unit k (op.SyncWrite n bytes at) = refl
disk-evicted s unit k (op.SyncTruncate n size) = refl
disk-evicted s unit k (op.SyncFlush n) = refl
disk-evicted s unit k (op.SyncClose n) = refl
disk-evicted s unit k o = refl

-- Evictions do not change whether a call may need the disk.
pub disk-before : (s : State Text Own) (gone : List Text) (k : ℕ) (o : Op) → is_disk_op (fold evicted s gone) k o ≡ is_disk_op s k o
disk-before s [] k o = refl
disk-before s (unit ∷ gone) k o = disk-before (evicted s unit) gone k o ∙ disk-evicted s unit k o

refuses-unread : (r : Reply) → is_refusal (unread r) ≡ is_refusal r
refuses-unread (reply.Read bytes) = refl
refuses-unread r = refl

-- The machine's own answer, if it is no refusal.
answered-by : (s : State Text Own) (gone : List Text) (e : Entry) → IsCall s gone e → is_refusal e.reply ≡ false → IsAnswer gone e.reply (step s e.agent e.op)
answered-by s gone e call plain = elim call.agrees [
  | inl answer ↦ answer
  | inr fault ↦ absurd (false≢true (sym plain ∙ ap is_refusal fault.told))
]

drop-own : (xs : List Text) → drop (length xs) xs ≡ []
drop-own [] = refl
drop-own (x ∷ xs) = drop-own xs

drop-front : (xs ys : List Text) → drop (length xs) (xs ++ ys) ≡ ys
drop-front [] ys = refl
drop-front (x ∷ xs) ys = drop-front xs ys

module _ (tells : Type 0) (base : State Text Own) (gone : List Text) (e : Entry) (next : IsNext tells base gone e) (plain : is_refusal e.reply ≡ false) where
  real-plain : is_refusal next.real.reply ≡ false
  real-plain = sym (refuses-unread next.real.reply) ∙ ap (λ (x : Entry). is_refusal x.reply) (sym next.alike) ∙ refuses-unread e.reply ∙ plain

  answer : IsAnswer gone next.real.reply (step base next.real.agent next.real.op)
  answer = answered-by base gone next.real next.call real-plain

  same-agent : next.real.agent ≡ e.agent
  same-agent = ap (λ x. x.agent) (sym next.alike)

  same-op : next.real.op ≡ e.op
  same-op = ap (λ x. x.op) (sym next.alike)

  -- It is no eviction.
  pub next-plain : evicted_by e.op ≡ None
  next-plain = ap evicted_by (sym same-op) ∙ not_evict base next.real.agent next.real.op next.call.fitting

  pub victims-gone : (step base e.agent e.op).victims ≡ gone
  victims-gone = (λ i. (step base (sym same-agent i) (sym same-op i)).victims) ∙ sym answer.victims

  -- The entry of the call as the disk failed in it.
  pub may-fail : is_disk_op base e.agent e.op ≡ true → IsCall base gone (failed e)
  may-fail disk = record {
    live = subst (λ k. IsTrue (agent_of base k).live) same-agent next.call.live;
    fitting = subst (λ (x : ℕ × Op). IsTrue (may_enter base x.0 x.1)) (λ i. (same-agent i, same-op i)) next.call.fitting;
    agrees = inr (record {
      told = refl;
      accepted = (λ i. is_refusal (step base (sym same-agent i) (sym same-op i)).answered) ∙ ap is_refusal (sym answer.same_reply) ∙ real-plain;
      disk = disk;
      front = ([], victims-gone ∙ sym (append-nil gone));
    });
  }

  pub own-doubt : faulted base gone (failed e) ≡ stored_by (fold evicted base gone) e.agent e.op
  own-doubt = ap (λ us. next_stored us (stored_by (fold evicted base gone) e.agent e.op)) (ap (drop (length gone)) victims-gone ∙ drop-own gone)

-- A fault before the next victim is cleared leaves its eviction in doubt.
pub next-doubt : (base : State Text Own) (gone rest : List Text) (unit : Text) (e : Entry) → (step base e.agent e.op).victims ≡ gone ++ unit ∷ rest → faulted base gone (failed e) ≡ evict unit ∷ []
next-doubt base gone rest unit e are =
    ap (λ us. next_stored us (stored_by (fold evicted base gone) e.agent e.op)) (ap (drop (length gone)) are ∙ drop-front gone (unit ∷ rest))
