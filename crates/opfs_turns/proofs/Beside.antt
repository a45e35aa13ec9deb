-- An agent's own local calls leave how its tags stand.
use Rattle.std.proofs.Common.{◌≡◌, ◌≢◌, ◌⊎◌, ℕ, ◌+◌, ◌-◌, ◌==◌, ◌&&◌, ◌||◌, zero, suc, Bool, true, false, not, List, [], ◌∷◌, fold, slice_set, Option, Some, None, refl, sym, ap, ◌∙◌, subst, inl, inr, arith, length}
use Rattle.std.proofs.lemmas.Bool.{false≢true, eq-eqb}
use Rattle.std.proofs.lemmas.List.{length-set}
use Rattle.std.specs.List.{list_any, list_all, enumerate_from}
use Rattle.opfs_base.specs.Texts.{Text, same_text}
use Rattle.opfs_hist.specs.declared.entry.Entry.{Entry}
use Rattle.opfs_hist.specs.declared.op.Op.{Op}
use Rattle.opfs_hist.specs.declared.op.Op.TheVariants as op
use Rattle.opfs_hist.specs.declared.reply.Reply.{Reply}
use Rattle.opfs_machine.specs.declared.own.Own.{Own}
use Rattle.opfs_machine.specs.declared.own.Own.TheVariants as own
use Rattle.opfs_machine.specs.declared.own.HandleOutline.{HandleOutline}
use Rattle.opfs_machine.specs.declared.own.StreamOutline.{StreamOutline}
use Rattle.opfs_machine.specs.declared.state.Agent.{Agent}
use Rattle.opfs_machine.specs.declared.state.Party.{Party}
use Rattle.opfs_machine.specs.declared.state.Sizes.{Sizes}
use Rattle.opfs_machine.specs.declared.state.State.{State}
use Rattle.opfs_machine.specs.Agents.{agent_of, own_of, open_handle, with_agent, with_own, of_row, stream_in, party_of, party_with, same_party, is_posted, is_unposted, is_no_help, others_stuck}
use Rattle.opfs_machine.specs.Contents.{in_bytes, outline_of}
use Rattle.opfs_machine.specs.Effects.{effect, refused, with_changed, closes_stream, aborts_stream, changes_file, flushes, closes_handle}
use Rattle.opfs_machine.specs.Histories.{after_entry}
use Rattle.opfs_machine.specs.OwnRows.{is_local, is_closed_stream}
use Rattle.opfs_machine.specs.Replies.{sizes_of}
use Rattle.opfs_machine.specs.Steps.{after_reply, is_refusal}
use Rattle.opfs_laws.proofs.Local.{closed}
use Rattle.opfs_laws.proofs.Moved.{call-moves}
use Rattle.opfs_laws.specs.Histories.Unread.{IsPendingFor, ArePendingFor}
use Rattle.opfs_store.specs.declared.acts.acted.AwaitState.{AwaitState}
use Rattle.opfs_store.specs.declared.acts.acted.AwaitState.TheVariants as await
use Rattle.opfs_store.specs.Acts.Acting.{awaited}
use Rattle.opfs_laws.proofs.Going.{not_evict}
use Rattle.opfs_machine.specs.Histories.{after_op}

-- The tags and all other agents are as they were.
pub record IsBeside (s t : State Text Own) (k : ℕ) : Type 0 where
  pub posted : t.posted ≡ s.posted
  pub agents : (t.agents ≡ s.agents) ⊎ ((a : Agent Own) × (t.agents ≡ slice_set s.agents (k - 1) a))

same-beside : (s : State Text Own) (k : ℕ) → IsBeside s s k
same-beside s k = record { posted = refl; agents = inl refl }

agent-beside : (s : State Text Own) (k : ℕ) (a : Agent Own) → IsBeside s (with_agent s k a) k
agent-beside s k a = record { posted = refl; agents = inr (a, refl) }

changed-beside : (s : State Text Own) (k n : ℕ) (change : Own → Own) → IsBeside s (with_changed s k n change) k
unfolding with_changed
changed-beside s k n change =
    elim (own_of (agent_of s k) n) as (λ o. IsBeside s (elim o as (λ x. State Text Own) [ Some r ↦ with_own s k n (change r) | None ↦ s ]) k) [
      | Some r ↦ agent-beside s k _
      | None ↦ same-beside s k
    ]

no-stream : (r : Option Own) → is_closed_stream r ≡ true → of_row (λ x. stream_in (outline_of x)) r ≡ None
no-stream None h = refl
no-stream (Some own.ClosedStream) h = refl
no-stream (Some (own.Stream w)) h = absurd (false≢true h)
no-stream (Some (own.Handle w)) h = refl
no-stream (Some own.ClosedHandle) h = refl
no-stream (Some (own.Snapshot b)) h = refl
no-stream (Some (own.Iterator i)) h = refl

altered-beside : (s : State Text Own) (k n : ℕ) (change : Text → Text) (cursor : ℕ) (size : ℕ) (o : Option HandleOutline) → o ≡ None → IsBeside s (changes_file in_bytes s k n change cursor size o) k
unfolding changes_file
altered-beside s k n change cursor size None h = same-beside s k
altered-beside s k n change cursor size (Some x) h = absurd cc

effect-beside : (s : State Text Own) (k : ℕ) (z : Sizes) (o : Op) → is_local s k o ≡ true → IsBeside s (effect in_bytes s z k o) k
unfolding effect is_local changes_file
effect-beside s k z (op.Values dir) h = agent-beside s k _
effect-beside s k z (op.Resolve dir entry) h = same-beside s k
effect-beside s k z (op.IsSameEntry entry other) h = same-beside s k
effect-beside s k z (op.Slice n at len) h = same-beside s k
effect-beside s k z (op.Write n bytes position) h = changed-beside s k n _
effect-beside s k z (op.Seek n position) h = changed-beside s k n _
effect-beside s k z (op.Truncate n size) h = changed-beside s k n _
effect-beside s k z (op.Close n) h = subst (λ (o : Option StreamOutline). IsBeside s (closes_stream in_bytes s z k n o) k) (sym (no-stream (own_of (agent_of s k) n) h)) (same-beside s k)
effect-beside s k z (op.Abort n) h = subst (λ (o : Option StreamOutline). IsBeside s (aborts_stream in_bytes s k n o) k) (sym (no-stream (own_of (agent_of s k) n) h)) (same-beside s k)
effect-beside s k z (op.SyncRead n len at) h = changed-beside s k n _
effect-beside s k z (op.SyncWrite n bytes at) h = altered-beside s k n _ _ _ (open_handle in_bytes s k n) (closed (own_of (agent_of s k) n) h)
effect-beside s k z (op.SyncTruncate n size) h = altered-beside s k n _ _ _ (open_handle in_bytes s k n) (closed (own_of (agent_of s k) n) h)
effect-beside s k z (op.SyncGetSize n) h = same-beside s k
effect-beside s k z (op.SyncFlush n) h = subst (λ (o : Option HandleOutline). IsBeside s (flushes in_bytes s z k n o) k) (sym (closed (own_of (agent_of s k) n) h)) (same-beside s k)
effect-beside s k z (op.SyncClose n) h = subst (λ (o : Option HandleOutline). IsBeside s (closes_handle in_bytes s k n o) k) (sym (closed (own_of (agent_of s k) n) h)) (same-beside s k)
effect-beside s k z (op.Moment ms) h = agent-beside s k _
effect-beside s k z (op.Unbound word) h = same-beside s k
effect-beside s k z o h = absurd (false≢true h)

refused-beside : (s : State Text Own) (k : ℕ) (o : Op) → is_local s k o ≡ true → IsBeside s (refused s k o) k
unfolding is_local
refused-beside s k (op.Await tag) h = absurd (false≢true h)
refused-beside s k o h = same-beside s k

reply-beside : (s : State Text Own) (k : ℕ) (o : Op) (r : Reply) → is_local s k o ≡ true → IsBeside s (after_reply s k o r) k
reply-beside s k o r h =
    let done = elim (is_refusal r) as (λ b. IsBeside s (elim b as (λ x. State Text Own) [ true ↦ refused s k o | false ↦ effect in_bytes s (sizes_of s k o) k o ]) k) [
      | true ↦ refused-beside s k o h
      | false ↦ effect-beside s k (sizes_of s k o) o h
    ] in
    record { posted = done.posted; agents = done.agents }

-- ---- how a tag stands

unposted-same : (s t : State Text Own) (p : Party) (w : Option Text) → t.posted ≡ s.posted → is_unposted t p w ≡ is_unposted s p w
unposted-same s t p None same = refl
unposted-same s t p (Some tag) same = ap (λ ps. not (list_any (λ x. same_party p x.party && same_text tag x.tag) ps)) same

help-same : (s t : State Text Own) (k : ℕ) (p : Party) (x : ℕ × Agent Own) → t.posted ≡ s.posted → is_no_help t k p x ≡ is_no_help s k p x
help-same s t k p x same = ap (λ b. x.0 == k || not x.1.live || not (same_party p (party_with x.1.key x.0)) || b) (unposted-same s t p x.1.waits same)

-- Of all agents the one of a number does not count.
all-but : (test : ℕ × Agent Own → Bool) (from : ℕ) (xs : List (Agent Own)) (i : ℕ) (a : Agent Own) → ((n : ℕ) (x : Agent Own) → n ≡ from + i → test (n, x) ≡ true)
    → list_all test (enumerate_from from (slice_set xs i a)) ≡ list_all test (enumerate_from from xs)
all-but test from [] i a own = refl
all-but test from (x ∷ xs) zero a own = λ j. (own from a (omega arith) ∙ sym (own from x (omega arith))) j && list_all test (enumerate_from (from + 1) xs)
all-but test from (x ∷ xs) (suc i) a own =
    ap (λ b. test (from, x) && b) (all-but test (from + 1) xs i a (λ n y is. own n y (omega (arith, is))))

own-counts : (s : State Text Own) (k : ℕ) (p : Party) (n : ℕ) (x : Agent Own) → n ≡ k → is_no_help s k p (n, x) ≡ true
own-counts s k p n x is = ap (λ b. b || not x.live || not (same_party p (party_with x.key n)) || is_unposted s p x.waits) (eq-eqb n k is)

stuck-same : (s t : State Text Own) (k : ℕ) (p : Party) → k ≢ 0 → IsBeside s t k → list_all (is_no_help t k p) (enumerate_from 1 t.agents) ≡ list_all (is_no_help s k p) (enumerate_from 1 s.agents)
stuck-same s t k p real h =
    ap (λ test. list_all test (enumerate_from 1 t.agents)) (λ i x. help-same s t k p x h.posted i)
    ∙ elim h.agents as (λ x. list_all (is_no_help s k p) (enumerate_from 1 t.agents) ≡ list_all (is_no_help s k p) (enumerate_from 1 s.agents)) [
      | inl same ↦ ap (λ as_. list_all (is_no_help s k p) (enumerate_from 1 as_)) same
      | inr set ↦
          ap (λ as_. list_all (is_no_help s k p) (enumerate_from 1 as_)) set.1
          ∙ all-but (is_no_help s k p) 1 s.agents (k - 1) set.0 (λ n x is. own-counts s k p n x (omega (arith, is, real)))
    ]

abbrev pub StateBy : Bool → Bool → AwaitState
StateBy posted stuck = elim posted [ true ↦ await.Posted | false ↦ elim stuck [ true ↦ await.Stuck | false ↦ await.Neither ] ]

pub beside-awaited : (s t : State Text Own) (k : ℕ) (tag : Text) → k ≢ 0 → IsBeside s t k → (agent_of t k).key ≡ (agent_of s k).key → awaited t k tag ≡ awaited s k tag
unfolding awaited
beside-awaited s t k tag real h key =
    let party : party_of t k ≡ party_of s k = ap (λ x. party_with x k) key in
    let posted : is_posted t (party_of t k) tag ≡ is_posted s (party_of s k) tag =
    (λ i. list_any (λ x. same_party (party i) x.party && same_text tag x.tag) (h.posted i)) in
    let stuck : others_stuck t k ≡ others_stuck s k = ap (λ p. list_all (is_no_help t k p) (enumerate_from 1 t.agents)) party ∙ stuck-same s t k (party_of s k) real h in
    λ i. StateBy (posted i) (stuck i)

-- ---- pending calls

module _ (tells : Type 0) (s : State Text Own) (k : ℕ) (e : Entry) (h : IsPendingFor tells s k e) where
  after-one : after_entry s e ≡ after_reply s e.agent e.op e.reply
  after-one = ap (after_op s e) (not_evict s e.agent e.op h.fitting)

  one-beside : IsBeside s (after_entry s e) k
  one-beside = subst (λ j. IsBeside s (after_entry s e) j) h.agent (subst (λ u. IsBeside s u e.agent) (sym after-one) (reply-beside s e.agent e.op e.reply h.local))

  one-awaited : (tag : Text) → k ≢ 0 → awaited (after_entry s e) k tag ≡ awaited s k tag
  one-awaited tag real =
      let moved = call-moves s [] e.agent e.op e.reply h.live in
      let key : (agent_of (after_entry s e) k).key ≡ (agent_of s k).key =
      subst (λ j. (agent_of (after_entry s e) j).key ≡ (agent_of s j).key) h.agent (ap (λ u. (agent_of u e.agent).key) after-one ∙ moved.key) in
      beside-awaited s (after_entry s e) k tag real one-beside key

pub pending-awaited : (tells : Type 0) (s : State Text Own) (k : ℕ) (tag : Text) (es : List Entry) → k ≢ 0 → ArePendingFor tells s k es → awaited (fold after_entry s es) k tag ≡ awaited s k tag
pending-awaited tells s k tag [] real h = refl
pending-awaited tells s k tag (e ∷ es) real h = pending-awaited tells (after_entry s e) k tag es real h.1 ∙ one-awaited tells s k e h.0 tag real

-- There are as many agents.
pub pending-agents : (tells : Type 0) (s : State Text Own) (k : ℕ) (es : List Entry) → ArePendingFor tells s k es → length (fold after_entry s es).agents ≡ length s.agents
pending-agents tells s k [] h = refl
pending-agents tells s k (e ∷ es) h =
    pending-agents tells (after_entry s e) k es h.1
    ∙ elim (one-beside tells s k e h.0).agents as (λ x. length (after_entry s e).agents ≡ length s.agents) [
      | inl same ↦ ap (λ as_. length as_) same
      | inr set ↦ ap (λ as_. length as_) set.1 ∙ length-set s.agents (k - 1) set.0
    ]
