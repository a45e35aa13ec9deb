-- An entry that is refused for a lock, in a legal history.
use Rattle.std.proofs.Common.{◌≡◌, ℕ, Bool, true, false, List, [], ◌∷◌, ◌++◌, filter, fold, Option, Some, None, Ok, Err, refl, sym, ap, ◌∙◌, subst, inl, inr, arith}
use Rattle.std.specs.Cmp.Lexicographic.{same_text as equal_texts}
use Rattle.std.proofs.lemmas.Bool.{false≢true, and_parts}
use Rattle.std.proofs.lemmas.List.Elements.{filter_passes, All-contains, All-same, Contains-append_right}
use Rattle.opfs_base.specs.Places.{Place, place_of, child, is_within}
use Rattle.opfs_base.specs.Texts.{Text, same_text}
use Rattle.opfs_base.specs.declared.locator.Locator.{Locator}
use Rattle.opfs_hist.specs.declared.entry.Entry.{Entry}
use Rattle.opfs_hist.specs.declared.op.Op.{Op}
use Rattle.opfs_hist.specs.declared.op.Op.TheVariants as op
use Rattle.opfs_hist.specs.declared.reply.Refusal.{Refusal}
use Rattle.opfs_hist.specs.declared.reply.Refusal.TheVariants as refusal
use Rattle.opfs_hist.specs.declared.reply.Reply.{Reply}
use Rattle.opfs_hist.specs.declared.reply.Reply.TheVariants as reply
use Rattle.opfs_locks.specs.Taking.{Lock}
use Rattle.opfs_locks.specs.declared.LockValue.{LockValue}
use Rattle.opfs_machine.specs.declared.own.HandleOutline.{HandleOutline}
use Rattle.opfs_machine.specs.declared.own.Own.{Own}
use Rattle.opfs_machine.specs.declared.own.Own.TheVariants as own
use Rattle.opfs_machine.specs.declared.state.Row.TheVariants as row
use Rattle.opfs_machine.specs.declared.state.State.{State}
use Rattle.opfs_machine.specs.Agents.{agent_of, own_of, handle_in, of_row}
use Rattle.opfs_machine.specs.Contents.{outline_of}
use Rattle.opfs_machine.specs.Histories.{may_enter, is_own, IsCall, state_after}
use Rattle.opfs_machine.specs.Openings.{begun}
use Rattle.opfs_machine.specs.Replies.{sizes_of}
use Rattle.opfs_machine.specs.Rows.{Rows}
use Rattle.opfs_machine.specs.Ruled.{Ruled}
use Rattle.opfs_machine.specs.Steps.{is_refusal, evicted, outcome_of, judged, step}
use Rattle.opfs_machine.specs.Victims.{is_callers}
use Rattle.opfs_laws.specs.Holders.{AreLocksOfHolders}
use Rattle.opfs_laws.specs.LockRefusals.{IsFirstLocked, IsNotGiven, IsReadOnly, RefusedAt, IsRefusedByLock, ALockRefusesWithItsCause}
use Rattle.opfs_laws.proofs.Accepted.{answer-accepted}
use Rattle.opfs_laws.proofs.LockCauses.{Refuser, judged_caused, cause_of}
use Rattle.opfs_laws.proofs.LocksEffect.{locks-kept, locks-begun}
use Rattle.opfs_laws.proofs.OwnFiles.{OwnFiles, HasOwnFile, callers-own, own_files-kept, own_files-begun}
use Rattle.opfs_laws.proofs.OwnKept.{keeps-row}
use Rattle.opfs_laws.proofs.Reaching.{IsKeptBy, found-at}

abbrev refusal_in : Reply → Refusal
refusal_in (reply.No r) = r
refusal_in r = refusal.TypeError

-- A refusal that the machine answers is what was judged, and clears nothing.
pub refused-outcome : (s : State Text Own) (k : ℕ) (o : Op) (m : Ruled (List Text)) (r : Refusal)
    → (outcome_of s k o m).answered ≡ reply.No r → (m ≡ Err r) × ((outcome_of s k o m).victims ≡ [])
unfolding outcome_of
refused-outcome s k o (Ok units) r h = absurd (false≢true (sym (answer-accepted s (sizes_of s k o) k o) ∙ ap is_refusal h))
refused-outcome s k o (Err e) r h = (ap (λ t. Err (refusal_in t)) h, refl)

pub refused-step : (s : State Text Own) (k : ℕ) (o : Op) (r : Refusal)
    → (step s k o).answered ≡ reply.No r → (judged s k o ≡ Err r) × ((step s k o).victims ≡ [])
unfolding step
refused-step s k o r h = refused-outcome s k o (judged s k o) r h

abbrev is_fault : Refusal → Bool
is_fault refusal.DiskFault = true
is_fault r = false

-- What the place of the refusing file tells.
child-own : (key : Option Text) (dir : Locator) (unit : Text) → is_callers key dir.key ≡ true → same_text dir.key unit ≡ true → is_callers key unit ≡ true
child-own key dir unit own same = subst (λ u. is_callers key u ≡ true) (equal_texts dir.key unit (sym same)) own

within-first : (rows : Rows Text) (place : Place) (lock : Lock) (file : Place)
    → IsFirstLocked (filter (λ e. is_within place e.0) rows) lock file → is_within place file ≡ true
within-first rows place lock file h =
    let whole = h.before ++ (file, row.File h.held) ∷ h.after in
    All-contains (λ e. is_within place e.0 ≡ true) whole (file, row.File h.held)
    (All-same (λ e. is_within place e.0 ≡ true) whole _ (sym h.split) (filter_passes (λ e. is_within place e.0) rows))
    (Contains-append_right h.before ((file, row.File h.held) ∷ h.after) (file, row.File h.held) (0, omega arith, refl))

handle-own : (key : Option Text) (r : Option Own) (h : HandleOutline) → of_row (λ r. handle_in (outline_of r)) r ≡ Some h
    → ((x : Own) → r ≡ Some x → HasOwnFile key x) → is_callers key h.file.0 ≡ true
handle-own key None h is all = cc
handle-own key (Some (own.Handle w)) h is all = subst (λ o. is_callers key o.file.0 ≡ true) (some_handle is) (all (own.Handle w) refl)
  where
    some_handle : {a b : HandleOutline} → Some a ≡ Some b → a ≡ b
    some_handle e = cc
handle-own key (Some r) h is all = cc

read-only-own : (s : State Text Own) (k n : ℕ) (lock : Lock) (file : Place) → OwnFiles s → IsReadOnly s k n lock file → is_callers (agent_of s k).key file.0 ≡ true
read-only-own s k n lock file kept h =
    subst (λ p. is_callers (agent_of s k).key p.0 ≡ true) (sym h.named)
    (handle-own (agent_of s k).key (own_of (agent_of s k) n) h.handle h.stands (λ x is. keeps-row HasOwnFile s k n x kept is))

not-given-own : (s : State Text Own) (k : ℕ) (at : Locator) (w : _) (lock : Lock) (file : Place) → is_own s k at ≡ true
    → IsNotGiven s (place_of at) w lock file → is_callers (agent_of s k).key file.0 ≡ true
not-given-own s k at w lock file may h =
    subst (λ p. is_callers (agent_of s k).key p.0 ≡ true) (sym h.named) (sym (callers-own (agent_of s k).key at) ∙ may)

refuser-own : (s : State Text Own) (k : ℕ) (o : Op) (lock : Lock) (file : Place) → may_enter s k o ≡ true → OwnFiles s
    → RefusedAt s k o lock file → is_callers (agent_of s k).key file.0 ≡ true
unfolding may_enter
refuser-own s k (op.CreateWritable at keep) lock file may kept h = not-given-own s k at _ lock file may h
refuser-own s k (op.CreateSyncAccessHandle at m) lock file may kept h = not-given-own s k at _ lock file may h
refuser-own s k (op.RemoveEntry dir name recursive) lock file may kept h =
    child-own (agent_of s k).key dir file.0 (sym (callers-own (agent_of s k).key dir) ∙ may)
    (and_parts _ _ (within-first s.rows (child (place_of dir) name) lock file h)).0
refuser-own s k (op.SyncWrite n bytes at) lock file may kept h = read-only-own s k n lock file kept h
refuser-own s k (op.SyncTruncate n size) lock file may kept h = read-only-own s k n lock file kept h
refuser-own s k o lock file may kept h = absurd h

refused-call : (s : State Text Own) (gone : List Text) (e : Entry) (v : LockValue) (n : ℕ) → OwnFiles s → AreLocksOfHolders s → IsCall s gone e
    → e.reply ≡ reply.No (refusal.NoModificationAllowedError v n) → (gone ≡ []) × IsRefusedByLock s e.agent e.op (v, n)
refused-call s gone e v n kept locks call told =
    elim call.agrees as (λ a. (gone ≡ []) × IsRefusedByLock s e.agent e.op (v, n)) [
      | inl same ↦
          let judges = refused-step s e.agent e.op (refusal.NoModificationAllowedError v n) (sym same.same_reply ∙ told) in
          let found = cause_of (Refuser s e.agent e.op) (judged s e.agent e.op) v n (judged_caused s e.agent e.op locks) judges.0 in
          (same.victims ∙ judges.1, record { file = found.0; own = refuser-own s e.agent e.op (v, n) found.0 call.fitting kept found.1; cause = found.1 })
      | inr fault ↦ absurd (false≢true (ap (λ r. is_fault (refusal_in r)) (sym told ∙ fault.told)))
    ]

-- What is kept for this.
record IsFound (s : State Text Own) : Type 0 where
  pub files : OwnFiles s
  pub locks : AreLocksOfHolders s

found-kept : IsKeptBy IsFound
found-kept s gone e call h = record { files = own_files-kept s gone e call h.files; locks = locks-kept s gone e call h.locks }

pub refused-entry : ALockRefusesWithItsCause
refused-entry o front e rest v n legal told =
    elim (found-at IsFound found-kept (begun o) [] front e rest legal (record { files = own_files-begun o; locks = locks-begun o })) as (λ f. IsRefusedByLock (state_after o front) e.agent e.op (v, n)) [
      | inl eviction ↦ absurd (false≢true (ap is_refusal (sym eviction.1.told ∙ told)))
      | inr stands ↦
          let both = refused-call stands.before stands.gone e v n stands.holds.files stands.holds.locks stands.call told in
          subst (λ t. IsRefusedByLock t e.agent e.op (v, n)) (sym (ap (fold evicted stands.before) both.0) ∙ stands.is) both.1
    ]
