-- All pages of open access handles stay steady.
use Rattle.std.proofs.Common.{◌≡◌, ◌⊎◌, ℕ, ◌+◌, ◌==◌, zero, suc, Bool, true, false, not, ◌&&◌, ◌||◌, cond, All, List, [], ◌∷◌, ◌++◌, map, fold, length, min, Option, Some, None, refl, sym, ap, ◌∙◌, subst, inl, inr, append_assoc, append-nil, arith, IsTrue}
use Rattle.std.specs.Prelude.{slice_get}
use Rattle.std.proofs.lemmas.Bool.Decides.{nat_tests}
use Rattle.std.proofs.lemmas.List.Elements.{All-head, All-tail, All-weaker}
use Rattle.std.proofs.lemmas.List.Sums.{fold-append}
use Rattle.opfs_base.specs.Places.{Place}
use Rattle.opfs_base.specs.Texts.{Text}
use Rattle.opfs_base.specs.declared.locator.Locator.{Locator}
use Rattle.opfs_data.specs.Rows.{IsOther}
use Rattle.opfs_hist.specs.Sums.{asks_for_row}
use Rattle.opfs_hist.specs.declared.entry.Entry.{Entry}
use Rattle.opfs_hist.specs.declared.op.Op.{Op}
use Rattle.opfs_hist.specs.declared.op.Op.TheVariants as op
use Rattle.opfs_machine.specs.declared.own.HandleRow.{HandleRow}
use Rattle.opfs_machine.specs.declared.own.Own.{Own}
use Rattle.opfs_machine.specs.declared.own.Own.TheVariants as own
use Rattle.opfs_machine.specs.declared.state.Sizes.{Sizes}
use Rattle.opfs_machine.specs.declared.state.State.{State}
use Rattle.opfs_machine.specs.Agents.{agent_of, agent_in, own_of, of_row, stream_in, with_own, adds_own}
use Rattle.opfs_machine.specs.Contents.{in_bytes, outline_of, written_row, truncated_row, sought_row, moved_row, advanced_row}
use Rattle.opfs_machine.specs.Effects.{effect, refused, with_changed, closes_stream, aborts_stream, changes_file, flushes, closes_handle, cursor_after_read}
use Rattle.opfs_machine.specs.Histories.{Legal, IsCall, evicted_by, after_op, after_entry, state_after}
use Rattle.opfs_machine.specs.Openings.{Opening, Who, agent_begun, begun}
use Rattle.opfs_machine.specs.OwnRows.{is_local, is_closed_stream}
use Rattle.opfs_machine.specs.Replies.{bytes_at, row_named, sizes_of}
use Rattle.opfs_machine.specs.Rulings.{start_of, size_written, reserve_for}
use Rattle.opfs_machine.specs.Runs.{eviction}
use Rattle.opfs_machine.specs.Steps.{evicted, is_refusal, changed_by, after_reply}
use Rattle.opfs_machine.specs.Sums.{reserve_of}
use Rattle.opfs_laws.specs.GoingOn.{ArePending}
use Rattle.opfs_laws.specs.Holders.{AreLocksOfHolders}
use Rattle.opfs_laws.specs.Leaving.{row_used}
use Rattle.opfs_laws.proofs.Allowed.{IsAllowed}
use Rattle.opfs_laws.proofs.Apart.{apart-evicted}
use Rattle.opfs_laws.proofs.Going.{not_evict}
use Rattle.opfs_laws.proofs.Local.{closed}
use Rattle.opfs_laws.proofs.LocksEffect.{Untaken, untaken-stays, gone-untaken, call-allowed, locks-fold, locks-kept, locks-begun}
use Rattle.opfs_laws.proofs.LocksKept.{locks-evicted}
use Rattle.opfs_laws.proofs.Allowed.{agent-stays}
use Rattle.opfs_laws.proofs.Numbers.{IsNumber, number-of, agent-set}
use Rattle.opfs_laws.proofs.Reaching.{kept-all}
use Rattle.opfs_laws.specs.Steady.Steady.{open_bytes, row_bytes, has_page, concerns, settles, is_steady}
use Rattle.opfs_laws.proofs.steady.GoingOn.{steady-settled, steady-has, steady-kept}
use Rattle.opfs_pages.specs.HistoryLaws.Handles.{handle_on, AreHandlesWhole, HandlesStayWhole}
use Rattle.opfs_pages.specs.HistoryLaws.Hands.{row_in_hand}
use Rattle.opfs_pages.proofs.history_laws.Begun.{other-or}
use Rattle.opfs_pages.proofs.history_laws.HandleFiles.{changed-same, refused-same, effect-same}
use Rattle.opfs_pages.proofs.history_laws.Leaving.{own-left}
use Rattle.opfs_pages.proofs.history_laws.Own.{own-changed}

-- ---- what a row is on

abbrev file_of_handle : State Text Own → ℕ → ℕ → Option Place
file_of_handle s k n = handle_on (own_of (agent_of s k) n)

row-of : (s : State Text Own) (o : Option Own) (p : Place) → handle_on o ≡ Some p → open_bytes s o ≡ Some (bytes_at s p)
row-of s None p is = cc
row-of s (Some (own.Stream w)) p is = cc
row-of s (Some own.ClosedStream) p is = cc
row-of s (Some (own.Handle h)) p is = ap (λ q. Some (bytes_at s q)) (same is)
  where
    same : {a b : Place} → Some a ≡ Some b → a ≡ b
    same e = cc
row-of s (Some own.ClosedHandle) p is = cc
row-of s (Some (own.Snapshot bytes)) p is = cc
row-of s (Some (own.Iterator i)) p is = cc

handle-of : (o : Option Own) (p : Place) → handle_on o ≡ Some p → (h : HandleRow) × (o ≡ Some (own.Handle h)) × (h.file ≡ p)
handle-of None p is = cc
handle-of (Some (own.Stream w)) p is = cc
handle-of (Some own.ClosedStream) p is = cc
handle-of (Some (own.Handle h)) p is = (h, refl, same is)
  where
    same : {a b : Place} → Some a ≡ Some b → a ≡ b
    same e = cc
handle-of (Some own.ClosedHandle) p is = cc
handle-of (Some (own.Snapshot bytes)) p is = cc
handle-of (Some (own.Iterator i)) p is = cc

written-on : (position : ℕ) (bytes : Text) (reserve : ℕ) (r : Own) → handle_on (Some (written_row r position bytes reserve)) ≡ handle_on (Some r)
written-on position bytes reserve (own.Stream w) = refl
written-on position bytes reserve r = refl

truncated-on : (size reserve : ℕ) (r : Own) → handle_on (Some (truncated_row r size reserve)) ≡ handle_on (Some r)
truncated-on size reserve (own.Stream w) = refl
truncated-on size reserve r = refl

sought-on : (offset : ℕ) (r : Own) → handle_on (Some (sought_row r offset)) ≡ handle_on (Some r)
sought-on offset (own.Stream w) = refl
sought-on offset r = refl

moved-on : (cursor reserve : ℕ) (r : Own) → handle_on (Some (moved_row r cursor reserve)) ≡ handle_on (Some r)
moved-on cursor reserve (own.Handle w) = refl
moved-on cursor reserve r = refl

advanced-on : (names : List Text) (r : Own) → handle_on (Some (advanced_row r names)) ≡ handle_on (Some r)
advanced-on names (own.Iterator i) = refl
advanced-on names r = refl

-- ---- local calls

last-own : {X : Type 0} (xs : List X) (x : X) → slice_get (xs ++ x ∷ []) (length xs) ≡ Some x
last-own [] x = refl
last-own (y ∷ xs) x = last-own xs x

more-one : (n : ℕ) → n + 1 ≡ suc n
more-one n = omega arith

closed-stream : (o : Option Own) → is_closed_stream o ≡ true → of_row (λ r. stream_in (outline_of r)) o ≡ None
closed-stream None h = refl
closed-stream (Some (own.Stream w)) h = cc
closed-stream (Some r) h = refl

module _ (s : State Text Own) (j : ℕ) (number : IsNumber s j) where
  added-on : (new : Own) → file_of_handle (adds_own s j new) j (length (agent_of s j).own + 1) ≡ handle_on (Some new)
  added-on new =
      ap (λ (x : ℕ). file_of_handle (adds_own s j new) j x) (more-one (length (agent_of s j).own))
      ∙ ap (λ a. handle_on (own_of a (suc (length (agent_of s j).own)))) (agent-set s j (record (agent_of s j) { own = (agent_of s j).own ++ new ∷ [] }) number)
      ∙ ap handle_on (last-own (agent_of s j).own new)

  changed-on : (m : ℕ) (change : Own → Own) → ((r : Own) → handle_on (Some (change r)) ≡ handle_on (Some r)) → file_of_handle (with_changed s j m change) j m ≡ file_of_handle s j m
  unfolding with_changed
  changed-on m change keeps =
      elim (own_of (agent_of s j) m) as (λ o. own_of (agent_of s j) m ≡ o → file_of_handle (with_changed s j m change) j m ≡ file_of_handle s j m) [
        | Some r ↦ λ is. ap handle_on (own-changed s j m r change number is) ∙ keeps r ∙ sym (ap handle_on is)
        | None ↦ λ is. ap (λ o. file_of_handle (elim o as (λ x. State Text Own) [ Some x ↦ with_own s j m (change x) | None ↦ s ]) j m) is
      ] refl

  -- A local call leaves the bytes of all files.
  local-same : (z : Sizes) (o : Op) (p : Place) → is_local s j o ≡ true → bytes_at (effect in_bytes s z j o) p ≡ bytes_at s p
  unfolding effect is_local changes_file
  local-same z (op.Values dir) p may = refl
  local-same z (op.Resolve dir entry) p may = refl
  local-same z (op.IsSameEntry entry to) p may = refl
  local-same z (op.Slice m at len) p may = refl
  local-same z (op.Write m bytes position) p may = changed-same s p s j m _ refl
  local-same z (op.Seek m position) p may = changed-same s p s j m _ refl
  local-same z (op.Truncate m size) p may = changed-same s p s j m _ refl
  local-same z (op.Close m) p may = ap (λ w. bytes_at (closes_stream in_bytes s z j m w) p) (closed-stream (own_of (agent_of s j) m) may)
  local-same z (op.Abort m) p may = ap (λ w. bytes_at (aborts_stream in_bytes s j m w) p) (closed-stream (own_of (agent_of s j) m) may)
  local-same z (op.SyncRead m len at) p may = changed-same s p s j m _ refl
  local-same z (op.SyncWrite m bytes at) p may =
      ap (λ w. bytes_at (changes_file in_bytes s j m (λ f. in_bytes.overwritten f (start_of z at) bytes) (start_of z at + length bytes) (size_written z at bytes) w) p) (closed (own_of (agent_of s j) m) may)
  local-same z (op.SyncTruncate m size) p may =
      ap (λ w. bytes_at (changes_file in_bytes s j m (λ f. in_bytes.cut f size) (min z.position size) size w) p) (closed (own_of (agent_of s j) m) may)
  local-same z (op.SyncGetSize m) p may = refl
  local-same z (op.SyncFlush m) p may = ap (λ w. bytes_at (flushes in_bytes s z j m w) p) (closed (own_of (agent_of s j) m) may)
  local-same z (op.SyncClose m) p may = ap (λ w. bytes_at (closes_handle in_bytes s j m w) p) (closed (own_of (agent_of s j) m) may)
  local-same z (op.Moment ms) p may = refl
  local-same z (op.Unbound word) p may = refl
  local-same z o p may = cc

  -- What is an access handle after a local call was one on the same file.
  local-on : (z : Sizes) (o : Op) (p : Place) → is_local s j o ≡ true → file_of_handle (effect in_bytes s z j o) j (row_in_hand s j o) ≡ Some p → file_of_handle s j (row_in_hand s j o) ≡ Some p
  unfolding effect is_local changes_file row_in_hand
  local-on z (op.Values dir) p may is = absurd (none (sym (added-on (in_bytes.iterator dir)) ∙ is))
    where
      none : None ≡ Some p → ⊥
      none e = cc
  local-on z (op.Resolve dir entry) p may is = is
  local-on z (op.IsSameEntry entry to) p may is = is
  local-on z (op.Slice m at len) p may is = is
  local-on z (op.Write m bytes position) p may is =
      sym (changed-on m (λ r. written_row r (start_of z position) bytes (reserve_for (reserve_of (outline_of r)) (size_written z position bytes))) (λ r. written-on (start_of z position) bytes (reserve_for (reserve_of (outline_of r)) (size_written z position bytes)) r)) ∙ is
  local-on z (op.Seek m position) p may is = sym (changed-on m (λ r. sought_row r position) (sought-on position)) ∙ is
  local-on z (op.Truncate m size) p may is =
      sym (changed-on m (λ r. truncated_row r size (reserve_for (reserve_of (outline_of r)) size)) (λ r. truncated-on size (reserve_for (reserve_of (outline_of r)) size) r)) ∙ is
  local-on z (op.Close m) p may is = sym (ap (λ w. file_of_handle (closes_stream in_bytes s z j m w) j m) (closed-stream (own_of (agent_of s j) m) may)) ∙ is
  local-on z (op.Abort m) p may is = sym (ap (λ w. file_of_handle (aborts_stream in_bytes s j m w) j m) (closed-stream (own_of (agent_of s j) m) may)) ∙ is
  local-on z (op.SyncRead m len at) p may is =
      sym (changed-on m (λ r. moved_row r (cursor_after_read z len at) (reserve_of (outline_of r))) (λ r. moved-on (cursor_after_read z len at) (reserve_of (outline_of r)) r)) ∙ is
  local-on z (op.SyncWrite m bytes at) p may is =
      sym (ap (λ w. file_of_handle (changes_file in_bytes s j m (λ f. in_bytes.overwritten f (start_of z at) bytes) (start_of z at + length bytes) (size_written z at bytes) w) j m) (closed (own_of (agent_of s j) m) may)) ∙ is
  local-on z (op.SyncTruncate m size) p may is =
      sym (ap (λ w. file_of_handle (changes_file in_bytes s j m (λ f. in_bytes.cut f size) (min z.position size) size w) j m) (closed (own_of (agent_of s j) m) may)) ∙ is
  local-on z (op.SyncGetSize m) p may is = is
  local-on z (op.SyncFlush m) p may is = sym (ap (λ w. file_of_handle (flushes in_bytes s z j m w) j m) (closed (own_of (agent_of s j) m) may)) ∙ is
  local-on z (op.SyncClose m) p may is = sym (ap (λ w. file_of_handle (closes_handle in_bytes s j m w) j m) (closed (own_of (agent_of s j) m) may)) ∙ is
  local-on z (op.Moment ms) p may is = cc
  local-on z (op.Unbound word) p may is = is
  local-on z o p may is = cc

  next-on : (z : Sizes) (m : ℕ) (dir : Locator) → file_of_handle (effect in_bytes s z j (op.Next m dir)) j m ≡ file_of_handle s j m
  unfolding effect
  next-on z m dir = changed-on m _ (advanced-on _)

  refused-on : (o : Op) → file_of_handle (refused s j o) j (row_in_hand s j o) ≡ file_of_handle s j (row_in_hand s j o)
  unfolding row_in_hand
  refused-on (op.Await tag) = refl
  refused-on o = refl

-- ---- one entry

-- What an entry does to an access handle: it settles it, or leaves its file and the bytes.
abbrev Leaves : State Text Own → State Text Own → ℕ → ℕ → Place → Type 0
Leaves s t k n p = (file_of_handle s k n ≡ Some p) × (bytes_at t p ≡ bytes_at s p)

abbrev GoesOn : State Text Own → Entry → Type 0
GoesOn s e = (k n : ℕ) (p : Place) → file_of_handle (after_entry s e) k n ≡ Some p → (settles s k n e ≡ true) ⊎ Leaves s (after_entry s e) k n p

same-truth : (a b : Bool) → (a ≡ true → b ≡ true) → (b ≡ true → a ≡ true) → a ≡ b
same-truth true b to from = sym (to refl)
same-truth false true to from = from refl
same-truth false false to from = refl

pub whole-step : (o : Opening) (h : List Entry) (e : Entry) → GoesOn (state_after o h) e → AreHandlesWhole o h → AreHandlesWhole o (h ++ e ∷ [])
whole-step o h e goes was k n p is i =
    let s = state_after o h in
    let t = state_after o (h ++ e ∷ []) in
    let next : t ≡ after_entry s e = fold-append after_entry (begun o) h (e ∷ []) in
    let now : row_bytes t k n ≡ Some (bytes_at t p) = row-of t (own_of (agent_of t k) n) p is in
    let there : file_of_handle (after_entry s e) k n ≡ Some p = ap (λ x. file_of_handle x k n) (sym next) ∙ is in
    elim (goes k n p there) [
      | inl settled ↦ steady-settled o h e k n i settled ∙ ap (λ x. has_page x i) now
      | inr left ↦
          let before : row_bytes s k n ≡ Some (bytes_at s p) = row-of s (own_of (agent_of s k) n) p left.0 in
          let same : row_bytes (after_entry s e) k n ≡ row_bytes s k n = row-of (after_entry s e) (own_of (agent_of (after_entry s e) k) n) p there ∙ ap Some left.1 ∙ sym before in
          let bytes : bytes_at t p ≡ bytes_at s p = ap (λ x. bytes_at x p) next ∙ left.1 in
          same-truth (is_steady o (h ++ e ∷ []) k n i) (has_page (Some (bytes_at t p)) i)
          (λ steady. sym (ap (λ x. has_page x i) now) ∙ steady-has o (h ++ e ∷ []) k n i steady)
          (λ has. steady-kept o h (e ∷ []) k n i (same, tt) (was k n p left.0 i ∙ sym (ap (λ x. has_page (Some x) i) bytes) ∙ has))
    ]

-- ---- a row in hand

equal-itself : (n : ℕ) → (n == n) ≡ true
equal-itself n = grind (arith, nat_tests)

used-named : (o : Op) → (row_named o ≡ row_used o) ⊎ ((m : ℕ) × (dir : Locator) × (o ≡ op.Next m dir))
used-named (op.Next m dir) = inr (m, dir, refl)
used-named o = inl refl

or-right : (a b : Bool) → b ≡ true → (a || b) ≡ true
or-right true b is = refl
or-right false b is = is

some-number : (m : ℕ) → not (suc m == 0) ≡ true
some-number m = ap not (far m)
  where
    far : (i : ℕ) → (suc i == 0) ≡ false
    far i = grind (arith, nat_tests)

hand-asks : (s : State Text Own) (k m : ℕ) (o : Op) → suc m ≡ length (agent_of s k).own + 1 → asks_for_row o ≡ true → concerns s k (suc m) o ≡ true
hand-asks s k m o is asks =
    ap (λ b. b && (row_named o == suc m || (asks_for_row o && (length (agent_of s k).own + 1 == suc m)))) (some-number m)
    ∙ or-right (row_named o == suc m) (asks_for_row o && (length (agent_of s k).own + 1 == suc m))
    (ap (λ b. b && (length (agent_of s k).own + 1 == suc m)) asks ∙ ap (λ (x : ℕ). length (agent_of s k).own + 1 == x) is ∙ equal-itself (length (agent_of s k).own + 1))

hand-named : (s : State Text Own) (k m : ℕ) (o : Op) → suc m ≡ row_named o → concerns s k (suc m) o ≡ true
hand-named s k m o is =
    ap (λ b. b && (row_named o == suc m || (asks_for_row o && (length (agent_of s k).own + 1 == suc m)))) (some-number m)
    ∙ ap (λ b. b || (asks_for_row o && (length (agent_of s k).own + 1 == suc m))) (ap (λ (x : ℕ). row_named o == x) is ∙ equal-itself (row_named o))

-- The row in hand is settled, if the call is not refused and has the turn, or the call is the next of an iterator.
hand-concerned : (s : State Text Own) (k m : ℕ) (o : Op) → suc m ≡ row_in_hand s k o → (concerns s k (suc m) o ≡ true) ⊎ ((i : ℕ) × (dir : Locator) × (o ≡ op.Next i dir))
unfolding row_in_hand
hand-concerned s k m o is =
    elim (asks_for_row o) as (λ b. asks_for_row o ≡ b → suc m ≡ cond b (length (agent_of s k).own + 1) (row_used o) → (concerns s k (suc m) o ≡ true) ⊎ ((i : ℕ) × (dir : Locator) × (o ≡ op.Next i dir))) [
      | true ↦ λ asks here. inl (hand-asks s k m o here asks)
      | false ↦ λ asks here. elim (used-named o) [
        | inl same ↦ inl (hand-named s k m o (here ∙ sym same))
        | inr next ↦ inr next
      ]
    ] refl is

settles-here : (s : State Text Own) (e : Entry) (n : ℕ) → e.turn ≡ true → is_refusal e.reply ≡ false → concerns s e.agent n e.op ≡ true → settles s e.agent n e ≡ true
settles-here s e n turn done here =
    ap (λ b. b && not (is_refusal e.reply) && (e.agent == e.agent && concerns s e.agent n e.op)) turn
    ∙ ap (λ b. not b && (e.agent == e.agent && concerns s e.agent n e.op)) done
    ∙ ap (λ b. b && concerns s e.agent n e.op) (equal-itself e.agent)
    ∙ here

-- ---- calls

module _ (s : State Text Own) (e : Entry) (live : IsTrue (agent_of s e.agent).live) where
  number : IsNumber s e.agent
  number = number-of s e.agent live

  abbrev told_by : Bool → State Text Own
  told_by b = elim b as (λ x. State Text Own) [ true ↦ refused s e.agent e.op | false ↦ effect in_bytes s (sizes_of s e.agent e.op) e.agent e.op ]

  abbrev after : State Text Own
  after = after_reply s e.agent e.op e.reply

  after-same : (p : Place) → (is_refusal e.reply ≡ false → bytes_at (effect in_bytes s (sizes_of s e.agent e.op) e.agent e.op) p ≡ bytes_at s p) → bytes_at after p ≡ bytes_at s p
  after-same p done =
      elim (is_refusal e.reply) as (λ b. (b ≡ false → bytes_at (effect in_bytes s (sizes_of s e.agent e.op) e.agent e.op) p ≡ bytes_at s p) → bytes_at (told_by b) p ≡ bytes_at s p) [
        | true ↦ λ d. refused-same s p e.agent e.op
        | false ↦ λ d. d refl
      ] done

  -- A row that the call has not in hand.
  other-leaves : (k n : ℕ) (p : Place) → IsOther e.agent (row_in_hand s e.agent e.op) k n → file_of_handle after k n ≡ Some p → file_of_handle s k n ≡ Some p
  other-leaves k n p far is = sym (ap handle_on (own-left s e.agent e.op e.reply k n live far)) ∙ is

  after-refused : is_refusal e.reply ≡ true → changed_by s e.agent e.op e.reply ≡ refused s e.agent e.op
  after-refused is = ap told_by is

  after-done : is_refusal e.reply ≡ false → changed_by s e.agent e.op e.reply ≡ effect in_bytes s (sizes_of s e.agent e.op) e.agent e.op
  after-done is = ap told_by is

  -- A refused call leaves the row in hand.
  refused-leaves : (n : ℕ) (p : Place) → n ≡ row_in_hand s e.agent e.op → is_refusal e.reply ≡ true → file_of_handle after e.agent n ≡ Some p → Leaves s after e.agent n p
  refused-leaves n p here denied is = (
    ap (λ (x : ℕ). file_of_handle s e.agent x) here
        ∙ sym (refused-on s e.agent number e.op)
        ∙ ap (λ (x : ℕ). file_of_handle (refused s e.agent e.op) e.agent x) (sym here)
        ∙ ap (λ t. file_of_handle t e.agent n) (sym (after-refused denied))
        ∙ is,
    ap (λ t. bytes_at t p) (after-refused denied) ∙ refused-same s p e.agent e.op,
  )

  local-leaves : IsTrue (is_local s e.agent e.op) → (k n : ℕ) (p : Place) → file_of_handle after k n ≡ Some p → Leaves s after k n p
  local-leaves local k n p is =
      let same = after-same p (λ done. local-same s e.agent number (sizes_of s e.agent e.op) e.op p local) in
      elim (other-or e.agent (row_in_hand s e.agent e.op) k n) [
        | inl far ↦ (other-leaves k n p far is, same)
        | inr both ↦ (subst (λ (x : ℕ). file_of_handle s x n ≡ Some p) (sym both.0) (here both.1 (subst (λ (x : ℕ). file_of_handle after x n ≡ Some p) both.0 is)), same)
      ]
    where
      by_reply : (b : Bool) → is_refusal e.reply ≡ b → n ≡ row_in_hand s e.agent e.op → file_of_handle after e.agent n ≡ Some p → file_of_handle s e.agent n ≡ Some p
      by_reply true denied hand there = (refused-leaves n p hand denied there).0
      by_reply false done hand there =
          ap (λ (x : ℕ). file_of_handle s e.agent x) hand
          ∙ local-on s e.agent number (sizes_of s e.agent e.op) e.op p local
          (ap (λ (x : ℕ). file_of_handle (effect in_bytes s (sizes_of s e.agent e.op) e.agent e.op) e.agent x) (sym hand) ∙ ap (λ t. file_of_handle t e.agent n) (sym (after-done done)) ∙ there)

      here : n ≡ row_in_hand s e.agent e.op → file_of_handle after e.agent n ≡ Some p → file_of_handle s e.agent n ≡ Some p
      here hand there = by_reply (is_refusal e.reply) refl hand there

  next-leaves : (z : Sizes) (o : Op) (i : ℕ) (dir : Locator) (n : ℕ) (p : Place) → o ≡ op.Next i dir → n ≡ row_in_hand s e.agent o → file_of_handle (effect in_bytes s z e.agent o) e.agent n ≡ Some p
      → Leaves s (effect in_bytes s z e.agent o) e.agent n p
  unfolding row_in_hand effect
  next-leaves z o i dir n p same =
      subst (λ (x : Op). n ≡ row_in_hand s e.agent x → file_of_handle (effect in_bytes s z e.agent x) e.agent n ≡ Some p → Leaves s (effect in_bytes s z e.agent x) e.agent n p) (sym same)
      (λ here is. (
        ap (λ (x : ℕ). file_of_handle s e.agent x) here
            ∙ sym (next-on s e.agent number z i dir)
            ∙ ap (λ (x : ℕ). file_of_handle (effect in_bytes s z e.agent (op.Next i dir)) e.agent x) (sym here)
            ∙ is,
        changed-same s p s e.agent i _ refl,
      ))

  module _ (turn : e.turn ≡ true) (locks : AreLocksOfHolders s) (allowed : is_refusal e.reply ≡ false → IsAllowed s e.agent e.op) where
    hand-goes : (n : ℕ) (p : Place) → n ≡ row_in_hand s e.agent e.op → file_of_handle after e.agent n ≡ Some p → (settles s e.agent n e ≡ true) ⊎ Leaves s after e.agent n p
    hand-goes zero p hand is = absurd (none is)
      where
        none : None ≡ Some p → ⊥
        none x = cc
    hand-goes (suc m) p hand is = by_reply (is_refusal e.reply) refl
      where
        by_reply : (b : Bool) → is_refusal e.reply ≡ b → (settles s e.agent (suc m) e ≡ true) ⊎ Leaves s after e.agent (suc m) p
        by_reply true denied = inr (refused-leaves (suc m) p hand denied is)
        by_reply false done = elim (hand-concerned s e.agent m e.op hand) [
          | inl here ↦ inl (settles-here s e (suc m) turn done here)
          | inr next ↦
              let left = next-leaves (sizes_of s e.agent e.op) e.op next.0 next.1 (suc m) p next.2 hand (ap (λ t. file_of_handle t e.agent (suc m)) (sym (after-done done)) ∙ is) in
              inr (left.0, ap (λ t. bytes_at t p) (after-done done) ∙ left.1)
        ]

    called-goes : (k n : ℕ) (p : Place) → file_of_handle after k n ≡ Some p → (settles s k n e ≡ true) ⊎ Leaves s after k n p
    called-goes k n p is = elim (other-or e.agent (row_in_hand s e.agent e.op) k n) [
      | inl far ↦
          let file = other-leaves k n p far is in
          let held = handle-of (own_of (agent_of s k) n) p file in
          inr (
            file,
            after-same p (λ done. subst (λ q. bytes_at (effect in_bytes s (sizes_of s e.agent e.op) e.agent e.op) q ≡ bytes_at s q) held.2
                (effect-same s e.agent k n held.0 held.1 locks (sizes_of s e.agent e.op) e.op (allowed done) far)),
          )
      | inr both ↦
          subst (λ (x : ℕ). (settles s x n e ≡ true) ⊎ Leaves s after x n p) (sym both.0) (hand-goes n p both.1 (subst (λ (x : ℕ). file_of_handle after x n ≡ Some p) both.0 is))
    ]

goes-by : (s : State Text Own) (e : Entry) → evicted_by e.op ≡ None
    → ((k n : ℕ) (p : Place) → file_of_handle (after_reply s e.agent e.op e.reply) k n ≡ Some p → (settles s k n e ≡ true) ⊎ Leaves s (after_reply s e.agent e.op e.reply) k n p) → GoesOn s e
goes-by s e plain = subst (λ t. (k n : ℕ) (p : Place) → file_of_handle t k n ≡ Some p → (settles s k n e ≡ true) ⊎ Leaves s t k n p) (sym (ap (after_op s e) plain))

evicted-goes : (s : State Text Own) (unit : Text) → Untaken s unit → AreLocksOfHolders s → GoesOn s (eviction unit)
evicted-goes s unit none locks k n p is =
    let apart = apart-evicted s k unit none locks in
    let file : file_of_handle s k n ≡ Some p = sym (ap (λ a. handle_on (own_of a n)) apart.agent) ∙ is in
    let held = handle-of (own_of (agent_of s k) n) p file in
    inr (file, subst (λ q. bytes_at (evicted s unit) q ≡ bytes_at s q) held.2 (apart.files n held.0 held.1))

-- ---- histories

after-one : (o : Opening) (h : List Entry) (e : Entry) → state_after o (h ++ e ∷ []) ≡ after_entry (state_after o h) e
after-one o h e = fold-append after_entry (begun o) h (e ∷ [])

cleared-whole : (gone : List Text) (o : Opening) (h : List Entry) → All (Untaken (state_after o h)) gone → AreLocksOfHolders (state_after o h) → AreHandlesWhole o h → AreHandlesWhole o (h ++ map eviction gone)
cleared-whole [] o h all locks was = subst (AreHandlesWhole o) (sym (append-nil h)) was
cleared-whole (unit ∷ gone) o h all locks was =
    let s = state_after o h in
    let first = All-head (Untaken s) unit gone all in
    let next : state_after o (h ++ eviction unit ∷ []) ≡ evicted s unit = after-one o h (eviction unit) in
    let rest : All (Untaken (evicted s unit)) gone = All-weaker (Untaken s) (Untaken (evicted s unit)) (λ u. untaken-stays s u unit) gone (All-tail (Untaken s) unit gone all) in
    subst (AreHandlesWhole o) (append_assoc h (eviction unit ∷ []) (map eviction gone))
    (cleared-whole gone o (h ++ eviction unit ∷ []) (subst (λ t. All (Untaken t) gone) (sym next) rest) (subst AreLocksOfHolders (sym next) (locks-evicted s unit first locks))
    (whole-step o h (eviction unit) (evicted-goes s unit first locks) was))

locks-of : (o : Opening) (h : List Entry) → Legal o h → AreLocksOfHolders (state_after o h)
locks-of o h legal = kept-all AreLocksOfHolders locks-kept (begun o) [] h legal (locks-begun o)

evictions-after : (s : State Text Own) (units : List Text) → fold after_entry s (map eviction units) ≡ fold evicted s units
evictions-after s [] = refl
evictions-after s (unit ∷ units) = evictions-after (evicted s unit) units

cleared-all : (o : Opening) (h : List Entry) (gone : List Text) (e : Entry) → Legal o h → IsCall (state_after o h) gone e → AreHandlesWhole o h → AreHandlesWhole o (h ++ map eviction gone)
cleared-all o h gone e legal call was = cleared-whole gone o h (gone-untaken (state_after o h) gone e call) (locks-of o h legal) was

called-whole : (o : Opening) (h : List Entry) (gone : List Text) (e : Entry) → Legal o h → IsCall (state_after o h) gone e → e.turn ≡ true → AreHandlesWhole o h
    → AreHandlesWhole o (h ++ (map eviction gone ++ e ∷ []))
called-whole o h gone e legal call turn was =
    let s = state_after o h in
    let t = fold evicted s gone in
    let here : state_after o (h ++ map eviction gone) ≡ t = fold-append after_entry (begun o) h (map eviction gone) ∙ evictions-after s gone in
    let live : IsTrue (agent_of t e.agent).live = ap (λ a. a.live) (agent-stays gone s e.agent) ∙ call.live in
    let locks = locks-fold gone s (gone-untaken s gone e call) (locks-of o h legal) in
    let goes : GoesOn t e = goes-by t e (not_evict s e.agent e.op call.fitting) (called-goes t e live turn locks (call-allowed s gone e call)) in
    subst (AreHandlesWhole o) (append_assoc h (map eviction gone) (e ∷ []))
    (whole-step o (h ++ map eviction gone) e (subst (λ x. GoesOn x e) (sym here) goes) (cleared-all o h gone e legal call was))

pending-whole : (o : Opening) (h es : List Entry) (k : ℕ) → ArePending (state_after o h) k es → AreHandlesWhole o h → AreHandlesWhole o (h ++ es)
pending-whole o h [] k are was = subst (AreHandlesWhole o) (sym (append-nil h)) was
pending-whole o h (e ∷ es) k are was =
    let s = state_after o h in
    let goes : GoesOn s e = goes-by s e (not_evict s e.agent e.op are.0.fitting) (λ k n p is. inr (local-leaves s e are.0.live are.0.local k n p is)) in
    subst (AreHandlesWhole o) (append_assoc h (e ∷ []) es)
    (pending-whole o (h ++ e ∷ []) es k (subst (λ t. ArePending t k es) (sym (after-one o h e)) are.1) (whole-step o h e goes was))

none-begun : (ws : List Who) (k n : ℕ) → own_of (agent_in (map agent_begun ws) k) n ≡ None
none-begun ws k zero = refl
none-begun ws zero (suc n) = refl
none-begun [] (suc i) (suc n) = refl
none-begun (w ∷ ws) (suc zero) (suc n) = refl
none-begun (w ∷ ws) (suc (suc i)) (suc n) = none-begun ws (suc i) (suc n)

begun-whole : (o : Opening) → AreHandlesWhole o []
begun-whole o k n p is = absurd (none (sym (ap handle_on (none-begun o.agents k n)) ∙ is))
  where
    none : None ≡ Some p → ⊥
    none x = cc

pub handles-stay : HandlesStayWhole
handles-stay = record { begun = begun-whole; cleared = cleared-all; called = called-whole; pending = pending-whole }
