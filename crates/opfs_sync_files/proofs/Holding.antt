-- An agent's access handle was open before its local calls.
use Rattle.std.proofs.Common.{◌≡◌, ℕ, ◌+◌, ◌-◌, min, zero, suc, true, false, List, [], ◌∷◌, ◌++◌, fold, length, Option, Some, None, slice_set, refl, sym, ap, ◌∙◌, subst, arith}
use Rattle.std.specs.Prelude.{slice_get}
use Rattle.std.proofs.lemmas.Bool.{false≢true}
use Rattle.opfs_base.specs.Places.{Place}
use Rattle.opfs_base.specs.Texts.{Text}
use Rattle.opfs_hist.specs.declared.entry.Entry.{Entry}
use Rattle.opfs_hist.specs.declared.op.Op.{Op}
use Rattle.opfs_hist.specs.declared.op.Op.TheVariants as op
use Rattle.opfs_hist.specs.declared.reply.Reply.{Reply}
use Rattle.opfs_laws.specs.Histories.Unread.{ArePendingFor}
use Rattle.opfs_laws.proofs.Going.{not_evict}
use Rattle.opfs_laws.proofs.Local.{closed}
use Rattle.opfs_laws.proofs.Numbers.{IsNumber, agent-set, number-of}
use Rattle.opfs_machine.specs.declared.own.HandleRow.{HandleRow}
use Rattle.opfs_machine.specs.declared.own.HandleOutline.{HandleOutline}
use Rattle.opfs_machine.specs.declared.own.Own.{Own}
use Rattle.opfs_machine.specs.declared.own.Own.TheVariants as own
use Rattle.opfs_machine.specs.declared.own.StreamOutline.{StreamOutline}
use Rattle.opfs_machine.specs.declared.state.Agent.{Agent}
use Rattle.opfs_machine.specs.declared.state.Sizes.{Sizes}
use Rattle.opfs_machine.specs.declared.state.State.{State}
use Rattle.opfs_machine.specs.Agents.{agent_of, own_of, of_row, stream_in, with_own, adds_own}
use Rattle.opfs_machine.specs.Contents.{in_bytes, outline_of, moved_row, sought_row, truncated_row, written_row}
use Rattle.opfs_machine.specs.Effects.{aborts_stream, changes_file, closes_handle, closes_stream, cursor_after_read, effect, flushes, refused, with_changed}
use Rattle.opfs_machine.specs.Histories.{after_op, after_entry}
use Rattle.opfs_machine.specs.OwnRows.{is_closed_stream, is_local}
use Rattle.opfs_machine.specs.Replies.{sizes_of}
use Rattle.opfs_machine.specs.Rulings.{reserve_for, size_written, start_of}
use Rattle.opfs_machine.specs.Steps.{after_reply, is_refusal}
use Rattle.opfs_machine.specs.Sums.{reserve_of}

-- The file of an own row that is an open access handle.
abbrev pub file_held : Own → Option Place
file_held (own.Handle h) = Some h.file
file_held r = None

abbrev pub held : State Text Own → ℕ → ℕ → Option Place
held s k n = of_row file_held (own_of (agent_of s k) n)

no-place : (p : Place) → ◌≡◌ {A = Option Place} None (Some p) → ⊥
no-place p e = cc

one-place : (p q : Place) → ◌≡◌ {A = Option Place} (Some p) (Some q) → p ≡ q
one-place p q e = cc

pub held-row : (o : Option Own) (p : Place) → of_row file_held o ≡ Some p → (h : HandleRow) × (o ≡ Some (own.Handle h)) × (h.file ≡ p)
held-row (Some (own.Handle h)) p is = (h, refl, one-place h.file p is)
held-row None p is = absurd (no-place p is)
held-row (Some (own.Stream w)) p is = absurd (no-place p is)
held-row (Some own.ClosedStream) p is = absurd (no-place p is)
held-row (Some own.ClosedHandle) p is = absurd (no-place p is)
held-row (Some (own.Snapshot bytes)) p is = absurd (no-place p is)
held-row (Some (own.Iterator i)) p is = absurd (no-place p is)

-- ---- rows that are changed or added

set-held : (xs : List Own) (i j : ℕ) (x y : Own) → slice_get xs i ≡ Some x → file_held y ≡ file_held x → of_row file_held (slice_get (slice_set xs i y) j) ≡ of_row file_held (slice_get xs j)
set-held [] i j x y is same = refl
set-held (z ∷ zs) zero zero x y is same = same ∙ ap file_held (sym (here is))
  where
    here : Some z ≡ Some x → z ≡ x
    here e = cc
set-held (z ∷ zs) zero (suc j) x y is same = refl
set-held (z ∷ zs) (suc i) zero x y is same = refl
set-held (z ∷ zs) (suc i) (suc j) x y is same = set-held zs i j x y is same

add-held : (xs : List Own) (j : ℕ) (y : Own) → file_held y ≡ None → of_row file_held (slice_get (xs ++ y ∷ []) j) ≡ of_row file_held (slice_get xs j)
add-held [] zero y none = none
add-held [] (suc j) y none = refl
add-held (x ∷ xs) zero y none = refl
add-held (x ∷ xs) (suc j) y none = add-held xs j y none

less_one : (i : ℕ) → suc i - 1 ≡ i
less_one i = omega arith

set-own : (a : Agent Own) (m n : ℕ) (x y : Own) → own_of a m ≡ Some x → file_held y ≡ file_held x → of_row file_held (own_of (record a { own = slice_set a.own (m - 1) y }) n) ≡ of_row file_held (own_of a n)
set-own a zero n x y is same = cc
set-own a (suc m) zero x y is same = refl
set-own a (suc m) (suc n) x y is same = ap (λ (j : ℕ). of_row file_held (slice_get (slice_set a.own j y) n)) (less_one m) ∙ set-held a.own m n x y is same

add-own : (a : Agent Own) (n : ℕ) (y : Own) → file_held y ≡ None → of_row file_held (own_of (record a { own = a.own ++ y ∷ [] }) n) ≡ of_row file_held (own_of a n)
add-own a zero y none = refl
add-own a (suc n) y none = add-held a.own n y none

module _ (s : State Text Own) (k n : ℕ) (number : IsNumber s k) where
  changed-by : (m : ℕ) (change : Own → Own) → ((r : Own) → file_held (change r) ≡ file_held r) → (o : Option Own) → own_of (agent_of s k) m ≡ o
      → held (elim o as (λ x. State Text Own) [ Some r ↦ with_own s k m (change r) | None ↦ s ]) k n ≡ held s k n
  changed-by m change same None is = refl
  changed-by m change same (Some r) is =
      ap (λ (a : Agent Own). of_row file_held (own_of a n)) (agent-set s k _ number) ∙ set-own (agent_of s k) m n r (change r) is (same r)

  changed-held : (m : ℕ) (change : Own → Own) → ((r : Own) → file_held (change r) ≡ file_held r) → held (with_changed s k m change) k n ≡ held s k n
  unfolding with_changed
  changed-held m change same = changed-by m change same (own_of (agent_of s k) m) refl

  added-held : (y : Own) → file_held y ≡ None → held (adds_own s k y) k n ≡ held s k n
  added-held y none = ap (λ (a : Agent Own). of_row file_held (own_of a n)) (agent-set s k _ number) ∙ add-own (agent_of s k) n y none

-- ---- local calls

written-same : (position : ℕ) (bytes : Text) (reserve : ℕ) (r : Own) → file_held (written_row r position bytes reserve) ≡ file_held r
written-same position bytes reserve (own.Stream w) = refl
written-same position bytes reserve r = refl

truncated-same : (size reserve : ℕ) (r : Own) → file_held (truncated_row r size reserve) ≡ file_held r
truncated-same size reserve (own.Stream w) = refl
truncated-same size reserve r = refl

sought-same : (offset : ℕ) (r : Own) → file_held (sought_row r offset) ≡ file_held r
sought-same offset (own.Stream w) = refl
sought-same offset r = refl

moved-same : (cursor reserve : ℕ) (r : Own) → file_held (moved_row r cursor reserve) ≡ file_held r
moved-same cursor reserve (own.Handle h) = refl
moved-same cursor reserve r = refl

closed-stream : (o : Option Own) → is_closed_stream o ≡ true → of_row (λ r. stream_in (outline_of r)) o ≡ None
closed-stream None h = refl
closed-stream (Some (own.Stream w)) h = absurd (false≢true h)
closed-stream (Some r) h = refl

module _ (s : State Text Own) (k n : ℕ) (number : IsNumber s k) (z : Sizes) where
  effect-held : (o : Op) → is_local s k o ≡ true → held (effect in_bytes s z k o) k n ≡ held s k n
  unfolding effect is_local changes_file
  effect-held (op.Values dir) local = added-held s k n number (in_bytes.iterator dir) refl
  effect-held (op.Resolve dir entry) local = refl
  effect-held (op.IsSameEntry entry other) local = refl
  effect-held (op.Slice m at len) local = refl
  effect-held (op.Write m bytes position) local = changed-held s k n number m _ (λ r. written-same (start_of z position) bytes (reserve_for (reserve_of (outline_of r)) (size_written z position bytes)) r)
  effect-held (op.Seek m position) local = changed-held s k n number m _ (sought-same position)
  effect-held (op.Truncate m size) local = changed-held s k n number m _ (λ r. truncated-same size (reserve_for (reserve_of (outline_of r)) size) r)
  effect-held (op.Close m) local = ap (λ (o : Option StreamOutline). held (closes_stream in_bytes s z k m o) k n) (closed-stream (own_of (agent_of s k) m) local)
  effect-held (op.Abort m) local = ap (λ (o : Option StreamOutline). held (aborts_stream in_bytes s k m o) k n) (closed-stream (own_of (agent_of s k) m) local)
  effect-held (op.SyncRead m len at) local = changed-held s k n number m _ (λ r. moved-same (cursor_after_read z len at) (reserve_of (outline_of r)) r)
  effect-held (op.SyncWrite m bytes at) local =
      ap (λ (o : Option HandleOutline). held (changes_file in_bytes s k m (λ f. in_bytes.overwritten f (start_of z at) bytes) (start_of z at + length bytes) (size_written z at bytes) o) k n) (closed (own_of (agent_of s k) m) local)
  effect-held (op.SyncTruncate m size) local =
      ap (λ (o : Option HandleOutline). held (changes_file in_bytes s k m (λ f. in_bytes.cut f size) (min z.position size) size o) k n) (closed (own_of (agent_of s k) m) local)
  effect-held (op.SyncGetSize m) local = refl
  effect-held (op.SyncFlush m) local = ap (λ (o : Option HandleOutline). held (flushes in_bytes s z k m o) k n) (closed (own_of (agent_of s k) m) local)
  effect-held (op.SyncClose m) local = ap (λ (o : Option HandleOutline). held (closes_handle in_bytes s k m o) k n) (closed (own_of (agent_of s k) m) local)
  effect-held (op.Moment ms) local = ap (λ (a : Agent Own). of_row file_held (own_of a n)) (agent-set s k _ number) ∙ moment-own n
    where
      moment-own : (j : ℕ) → of_row file_held (own_of (record (agent_of s k) { moment = ms }) j) ≡ of_row file_held (own_of (agent_of s k) j)
      moment-own zero = refl
      moment-own (suc j) = refl
  effect-held (op.Unbound word) local = refl
  effect-held o local = absurd (false≢true local)

refused-same : (s : State Text Own) (k : ℕ) (o : Op) → is_local s k o ≡ true → refused s k o ≡ s
unfolding is_local
refused-same s k (op.Await tag) local = absurd (false≢true local)
refused-same s k o local = refl

reply-held : (s : State Text Own) (k n : ℕ) (o : Op) (answered : Reply) → IsNumber s k → is_local s k o ≡ true → held (after_reply s k o answered) k n ≡ held s k n
reply-held s k n o answered number local =
    elim (is_refusal answered) as (λ b. held (elim b as (λ x. State Text Own) [ true ↦ refused s k o | false ↦ effect in_bytes s (sizes_of s k o) k o ]) k n ≡ held s k n) [
      | true ↦ ap (λ u. held u k n) (refused-same s k o local)
      | false ↦ effect-held s k n number (sizes_of s k o) o local
    ]

-- What is held behind an agent's pending calls, is held before them.
pub pending-held : (tells : Type 0) (s : State Text Own) (k n : ℕ) (es : List Entry) → ArePendingFor tells s k es → held (fold after_entry s es) k n ≡ held s k n
pending-held tells s k n [] waits = refl
pending-held tells s k n (e ∷ es) waits =
    let here = waits.0 in
    let plain = not_evict s e.agent e.op here.fitting in
    let one : held (after_reply s e.agent e.op e.reply) e.agent n ≡ held s e.agent n = reply-held s e.agent n e.op e.reply (number-of s e.agent here.live) here.local in
    pending-held tells (after_entry s e) k n es waits.1
    ∙ ap (λ u. held u k n) (ap (after_op s e) plain)
    ∙ subst (λ j. held (after_reply s e.agent e.op e.reply) j n ≡ held s j n) here.agent one
