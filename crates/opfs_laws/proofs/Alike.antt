-- Local calls of two agents whose own rows are alike.
use Rattle.std.proofs.Common.{◌≡◌, ℕ, ◌-◌, zero, suc, true, false, List, [], ◌∷◌, ◌++◌, length, Option, Some, None, Ok, Err, append-nil, refl, sym, ap, ◌∙◌, subst, slice_set, arith, IsTrue}
use Rattle.std.specs.Prelude.{slice_get}
use Rattle.std.specs.List.{filter_map, cons_option}
use Rattle.std.proofs.lemmas.List.Elements.{filter_map-append}
use Rattle.opfs_base.specs.Texts.{Text}
use Rattle.opfs_hist.specs.declared.op.Op.{Op}
use Rattle.opfs_hist.specs.declared.op.Op.TheVariants as op
use Rattle.opfs_hist.specs.declared.reply.Refusal.TheVariants as refusal
use Rattle.opfs_hist.specs.declared.reply.Reply.{Reply}
use Rattle.opfs_hist.specs.declared.reply.Reply.TheVariants as reply
use Rattle.opfs_machine.specs.declared.own.Own.{Own}
use Rattle.opfs_machine.specs.declared.own.Own.TheVariants as own
use Rattle.opfs_machine.specs.declared.state.Agent.{Agent}
use Rattle.opfs_machine.specs.declared.state.Need.{Need}
use Rattle.opfs_machine.specs.declared.state.Sizes.{Sizes}
use Rattle.opfs_machine.specs.declared.state.State.{State}
use Rattle.opfs_machine.specs.Agents.{agent_of, own_of, open_stream, open_handle, stream_in, handle_in, of_row, with_agent, with_own, adds_own}
use Rattle.opfs_machine.specs.Contents.{in_bytes, outline_of, written_row, truncated_row, sought_row, moved_row}
use Rattle.opfs_machine.specs.Effects.{effect, refused, with_changed, cursor_after_read, closes_handle, closes_stream, aborts_stream, changes_file, flushes}
use Rattle.opfs_machine.specs.OwnRows.{Mine, mine, is_local, handle_file, fits_stream, is_closed_stream, is_closed_handle}
use Rattle.opfs_machine.specs.Replies.{answer, sizes_of, sizes_in, snapshot_in, handle_bytes}
use Rattle.opfs_machine.specs.Ruled.{Ruled, ◌>>=◌, some_or}
use Rattle.opfs_machine.specs.Rulings.{ruling, grow_stream_ruling, stream_ruling, grow_handle_ruling, handle_ruling, start_of, size_written, reserve_for}
use Rattle.opfs_machine.specs.Steps.{judged, outcome_of, step, room_for, after_reply, is_refusal, Outcome}
use Rattle.opfs_machine.specs.Sums.{no_need, keeps_blocks, reserve_of}
use Rattle.opfs_splice.specs.Splicing.{window}
use Rattle.opfs_laws.proofs.Local.{Asks, nothing, refuses, local_asks, room_for_nothing, closed, grown}
use Rattle.opfs_laws.proofs.Numbers.{IsNumber, number-of, agent-set, filter_map-set}
use Rattle.opfs_laws.proofs.Accepted.{answer-accepted}

abbrev row_in : List Own → ℕ → Option Own
row_in rows zero = None
row_in rows (suc n) = slice_get rows n

own_of-row : (a : Agent Own) (n : ℕ) → own_of a n ≡ row_in a.own n
own_of-row a zero = refl
own_of-row a (suc n) = refl

-- What a change of a row leaves.
abbrev changed_rows : List Own → ℕ → (Own → Own) → Option Own → List Own
changed_rows rows n change None = rows
changed_rows rows n change (Some r) = slice_set rows (n - 1) (change r)

abbrev with_rows : Mine → List Own → Mine
with_rows m rows = record m { rows = rows }

mine-set : (s : State Text Own) (k n : ℕ) (r new : Own) → IsNumber s k → own_of (agent_of s k) n ≡ Some r → handle_file s new ≡ handle_file s r
    → mine (with_own s k n new) k ≡ with_rows (mine s k) (slice_set (mine s k).rows (n - 1) new)
mine-set s k zero r new number is alike = cc
mine-set s k (suc n) r new number is alike =
    let a = record (agent_of s k) { own = slice_set (agent_of s k).own (suc n - 1) new } in
    let at : suc n - 1 ≡ n = omega arith in
    ap (λ b. record { rows = b.own; moment = b.moment; files = filter_map (handle_file s) b.own }) (agent-set s k a number)
    ∙ ap (λ files. record { rows = slice_set (agent_of s k).own (suc n - 1) new; moment = (agent_of s k).moment; files = files })
    (filter_map-set (handle_file s) (agent_of s k).own (suc n - 1) r new (ap (slice_get (agent_of s k).own) at ∙ is) alike)

mine-changed : (s : State Text Own) (k n : ℕ) (change : Own → Own) → IsNumber s k → ((r : Own) → handle_file s (change r) ≡ handle_file s r)
    → mine (with_changed s k n change) k ≡ with_rows (mine s k) (changed_rows (mine s k).rows n change (own_of (agent_of s k) n))
unfolding with_changed
mine-changed s k n change number alike =
    elim (own_of (agent_of s k) n) as (λ o. own_of (agent_of s k) n ≡ o
    → mine (elim o as (λ x. State Text Own) [ Some r ↦ with_own s k n (change r) | None ↦ s ]) k ≡ with_rows (mine s k) (changed_rows (mine s k).rows n change o)) [
      | Some r ↦ λ is. mine-set s k n r (change r) number is (alike r)
      | None ↦ λ is. refl
    ] refl

mine-adds : (s : State Text Own) (k : ℕ) (r : Own) → IsNumber s k → handle_file s r ≡ None
    → mine (adds_own s k r) k ≡ with_rows (mine s k) ((mine s k).rows ++ r ∷ [])
mine-adds s k r number plain =
    let a = record (agent_of s k) { own = (agent_of s k).own ++ r ∷ [] } in
    ap (λ b. record { rows = b.own; moment = b.moment; files = filter_map (handle_file s) b.own }) (agent-set s k a number)
    ∙ ap (λ files. record { rows = (agent_of s k).own ++ r ∷ []; moment = (agent_of s k).moment; files = files })
    (filter_map-append (handle_file s) (agent_of s k).own (r ∷ [])
    ∙ ap (λ o. filter_map (handle_file s) (agent_of s k).own ++ cons_option o []) plain
    ∙ append-nil (filter_map (handle_file s) (agent_of s k).own))

mine-moment : (s : State Text Own) (k ms : ℕ) → IsNumber s k
    → mine (with_agent s k (record (agent_of s k) { moment = ms })) k ≡ record (mine s k) { moment = ms }
mine-moment s k ms number =
    ap (λ b. record { rows = b.own; moment = b.moment; files = filter_map (handle_file s) b.own })
    (agent-set s k (record (agent_of s k) { moment = ms }) number)

written-file : (s : State Text Own) (position : ℕ) (bytes : Text) (reserve : ℕ) (r : Own) → handle_file s (written_row r position bytes reserve) ≡ handle_file s r
written-file s position bytes reserve (own.Stream w) = refl
written-file s position bytes reserve r = refl

truncated-file : (s : State Text Own) (size reserve : ℕ) (r : Own) → handle_file s (truncated_row r size reserve) ≡ handle_file s r
truncated-file s size reserve (own.Stream w) = refl
truncated-file s size reserve r = refl

sought-file : (s : State Text Own) (offset : ℕ) (r : Own) → handle_file s (sought_row r offset) ≡ handle_file s r
sought-file s offset (own.Stream w) = refl
sought-file s offset r = refl

moved-file : (s : State Text Own) (cursor reserve : ℕ) (r : Own) → handle_file s (moved_row r cursor reserve) ≡ handle_file s r
moved-file s cursor reserve (own.Handle h) = refl
moved-file s cursor reserve r = refl

-- The bytes that an agent's handles read.
some_same : {a b : Own} → Some a ≡ Some b → a ≡ b
some_same h = cc

head_same : {x y : Text} {xs ys : List Text} → x ∷ xs ≡ y ∷ ys → x ≡ y
head_same h = cc

tail_same : {x y : Text} {xs ys : List Text} → x ∷ xs ≡ y ∷ ys → xs ≡ ys
tail_same h = cc

files-alike : (s t : State Text Own) (rows : List Own) (n : ℕ) → filter_map (handle_file s) rows ≡ filter_map (handle_file t) rows
    → (r : Own) → slice_get rows n ≡ Some r → handle_file s r ≡ handle_file t r
files-alike s t [] n same r is = cc
files-alike s t (own.Handle h ∷ rows) zero same r is =
    ap (handle_file s) (sym (some_same is)) ∙ ap Some (head_same same) ∙ ap (handle_file t) (some_same is)
files-alike s t (x ∷ rows) zero same r is = ap (handle_file s) (sym (some_same is)) ∙ ap (handle_file t) (some_same is)
files-alike s t (own.Handle h ∷ rows) (suc n) same r is = files-alike s t rows n (tail_same same) r is
files-alike s t (x ∷ rows) (suc n) same r is = files-alike s t rows n same r is

text_same : {a b : Text} → Some a ≡ Some b → a ≡ b
text_same h = cc

-- Two agents whose own rows are alike.
module _ (s t : State Text Own) (k : ℕ) (same : mine s k ≡ mine t k) where
  pub own-alike : (n : ℕ) → own_of (agent_of s k) n ≡ own_of (agent_of t k) n
  own-alike n = own_of-row (agent_of s k) n ∙ ap (λ m. row_in m.rows n) same ∙ sym (own_of-row (agent_of t k) n)

  stream-alike : (n : ℕ) → open_stream in_bytes s k n ≡ open_stream in_bytes t k n
  stream-alike n = ap (of_row (λ r. stream_in (outline_of r))) (own-alike n)

  handle-alike : (n : ℕ) → open_handle in_bytes s k n ≡ open_handle in_bytes t k n
  handle-alike n = ap (of_row (λ r. handle_in (outline_of r))) (own-alike n)

  pub row-files : (n : ℕ) (r : Own) → own_of (agent_of s k) n ≡ Some r → handle_file s r ≡ handle_file t r
  row-files zero r is = cc
  row-files (suc n) r is =
      files-alike s t (agent_of s k).own n (ap (λ m. m.files) same ∙ ap (λ m. filter_map (handle_file t) m.rows) (sym same)) r is

  sizes-in : (o : Option Own) → ((r : Own) → o ≡ Some r → handle_file s r ≡ handle_file t r) → sizes_in s o ≡ sizes_in t o
  sizes-in None h = refl
  sizes-in (Some (own.Handle w)) h = ap (λ b. record { size = length b; position = w.cursor }) (text_same (h (own.Handle w) refl))
  sizes-in (Some r) h = refl

  row-sizes : (n : ℕ) → sizes_in s (own_of (agent_of s k) n) ≡ sizes_in t (own_of (agent_of t k) n)
  row-sizes n = sizes-in (own_of (agent_of s k) n) (λ r is. row-files n r is) ∙ ap (sizes_in t) (own-alike n)

  bytes-in : (o : Option Own) → ((r : Own) → o ≡ Some r → handle_file s r ≡ handle_file t r)
      → handle_bytes s (of_row (λ r. handle_in (outline_of r)) o) ≡ handle_bytes t (of_row (λ r. handle_in (outline_of r)) o)
  bytes-in None h = refl
  bytes-in (Some (own.Handle w)) h = text_same (h (own.Handle w) refl)
  bytes-in (Some r) h = refl

  handle-bytes : (n : ℕ) → handle_bytes s (open_handle in_bytes s k n) ≡ handle_bytes t (open_handle in_bytes t k n)
  handle-bytes n = bytes-in (own_of (agent_of s k) n) (λ r is. row-files n r is) ∙ ap (handle_bytes t) (handle-alike n)

  pub local-alike : (o : Op) → is_local s k o ≡ is_local t k o
  unfolding is_local
  local-alike (op.Write n bytes position) =
      ap (λ r. fits_stream r (size_written (sizes_in s (own_of (agent_of s k) n)) position bytes)) (own-alike n)
      ∙ ap (λ z. fits_stream (own_of (agent_of t k) n) (size_written z position bytes)) (row-sizes n)
  local-alike (op.Truncate n size) = ap (λ r. fits_stream r size) (own-alike n)
  local-alike (op.Close n) = ap is_closed_stream (own-alike n)
  local-alike (op.Abort n) = ap is_closed_stream (own-alike n)
  local-alike (op.SyncWrite n bytes at) = ap is_closed_handle (own-alike n)
  local-alike (op.SyncTruncate n size) = ap is_closed_handle (own-alike n)
  local-alike (op.SyncFlush n) = ap is_closed_handle (own-alike n)
  local-alike (op.SyncClose n) = ap is_closed_handle (own-alike n)
  local-alike o = refl

  grow-alike : (n a b : ℕ) → a ≡ b → grow_stream_ruling in_bytes s k n a ≡ grow_stream_ruling in_bytes t k n b
  unfolding grow_stream_ruling
  grow-alike n a b is =
      ap (λ w. (some_or w refusal.TypeError) >>= (λ w. Ok (keeps_blocks (reserve_for w.reserve a - w.reserve)))) (stream-alike n)
      ∙ ap (λ x. (some_or (open_stream in_bytes t k n) refusal.TypeError) >>= (λ w. Ok (keeps_blocks (reserve_for w.reserve x - w.reserve)))) is

  streams-alike : (n : ℕ) → stream_ruling in_bytes s k n ≡ stream_ruling in_bytes t k n
  unfolding stream_ruling
  streams-alike n = ap (λ w. (some_or w refusal.TypeError) >>= (λ w. Ok no_need)) (stream-alike n)

  handles-alike : (n : ℕ) → handle_ruling in_bytes s k n ≡ handle_ruling in_bytes t k n
  unfolding handle_ruling
  handles-alike n = ap (λ w. (some_or w refusal.InvalidStateError) >>= (λ w. Ok no_need)) (handle-alike n)

  none_at : (u : State Text Own) (n : ℕ) → is_closed_handle (own_of (agent_of u k) n) ≡ true → open_handle in_bytes u k n ≡ None
  none_at u n h = closed (own_of (agent_of u k) n) h

  closed_rule : (u : State Text Own) (z : Sizes) (n size : ℕ) → is_closed_handle (own_of (agent_of u k) n) ≡ true
      → grow_handle_ruling in_bytes u z k n size ≡ Err refusal.InvalidStateError
  unfolding grow_handle_ruling ◌>>=◌
  closed_rule u z n size h = ap (λ o. (some_or o refusal.InvalidStateError) >>= (grown u z size)) (none_at u n h)

  closed-alike : (z y : Sizes) (n a b : ℕ) → is_closed_handle (own_of (agent_of s k) n) ≡ true
      → grow_handle_ruling in_bytes s z k n a ≡ grow_handle_ruling in_bytes t y k n b
  closed-alike z y n a b h = closed_rule s z n a h ∙ sym (closed_rule t y n b (sym (ap is_closed_handle (own-alike n)) ∙ h))

  ruling-alike : (o : Op) → is_local s k o ≡ true → ruling in_bytes s (sizes_of s k o) k o ≡ ruling in_bytes t (sizes_of t k o) k o
  unfolding ruling is_local
  ruling-alike (op.Values dir) h = refl
  ruling-alike (op.Resolve dir entry) h = refl
  ruling-alike (op.IsSameEntry entry to) h = refl
  ruling-alike (op.Slice n at len) h = refl
  ruling-alike (op.Write n bytes position) h = grow-alike n _ _ (ap (λ z. size_written z position bytes) (row-sizes n))
  ruling-alike (op.Seek n position) h = streams-alike n
  ruling-alike (op.Truncate n size) h = grow-alike n size size refl
  ruling-alike (op.Close n) h = streams-alike n
  ruling-alike (op.Abort n) h = streams-alike n
  ruling-alike (op.SyncRead n len at) h = handles-alike n
  ruling-alike (op.SyncWrite n bytes at) h = closed-alike _ _ n _ _ h
  ruling-alike (op.SyncTruncate n size) h = closed-alike _ _ n _ _ h
  ruling-alike (op.SyncGetSize n) h = handles-alike n
  ruling-alike (op.SyncFlush n) h = handles-alike n
  ruling-alike (op.SyncClose n) h = refl
  ruling-alike (op.Moment ms) h = refl
  ruling-alike (op.Unbound word) h = refl
  ruling-alike o h = cc

  answer-alike : (o : Op) → is_local s k o ≡ true → answer s (sizes_of s k o) k o ≡ answer t (sizes_of t k o) k o
  unfolding answer is_local
  answer-alike (op.Next n dir) h = cc
  answer-alike (op.GetFile at) h = cc
  answer-alike (op.Persist bucket) h = cc
  answer-alike (op.Persisted bucket) h = cc
  answer-alike op.Estimate h = cc
  answer-alike (op.Slice n at len) h = ap (λ r. reply.Read (window (snapshot_in r) at len)) (own-alike n)
  answer-alike (op.SyncRead n len at) h =
      ap (λ b. reply.Read (window b (start_of (sizes_of s k (op.SyncRead n len at)) at) len)) (handle-bytes n)
      ∙ ap (λ z. reply.Read (window (handle_bytes t (open_handle in_bytes t k n)) (start_of z at) len)) (row-sizes n)
  answer-alike (op.SyncGetSize n) h = ap (λ z. reply.Length z.size) (row-sizes n)
  answer-alike o h = refl

  changed-is : (u : State Text Own) (n : ℕ) (change : Own → Own) → IsNumber u k → ((r : Own) → handle_file u (change r) ≡ handle_file u r)
      → mine (with_changed u k n change) k ≡ with_rows (mine u k) (changed_rows (mine u k).rows n change (row_in (mine u k).rows n))
  changed-is u n change number alike =
      mine-changed u k n change number alike ∙ ap (λ o. with_rows (mine u k) (changed_rows (mine u k).rows n change o)) (own_of-row (agent_of u k) n)

  changed-alike : (n : ℕ) (f g : Own → Own) → IsNumber s k → IsNumber t k → f ≡ g
      → ((u : State Text Own) (r : Own) → handle_file u (f r) ≡ handle_file u r) → ((u : State Text Own) (r : Own) → handle_file u (g r) ≡ handle_file u r)
      → mine (with_changed s k n f) k ≡ mine (with_changed t k n g) k
  changed-alike n f g ns nt is fs gs =
      changed-is s n f ns (fs s)
      ∙ ap (λ m. with_rows m (changed_rows m.rows n f (row_in m.rows n))) same
      ∙ ap (λ c. with_rows (mine t k) (changed_rows (mine t k).rows n c (row_in (mine t k).rows n))) is
      ∙ sym (changed-is t n g nt (gs t))

  none_stream : (o : Option Own) → is_closed_stream o ≡ true → of_row (λ r. stream_in (outline_of r)) o ≡ None
  none_stream None h = refl
  none_stream (Some (own.Stream w)) h = cc
  none_stream (Some r) h = refl

  none_changed : (u : State Text Own) (n : ℕ) (f : Text → Text) (cursor size : ℕ) → open_handle in_bytes u k n ≡ None
      → mine (changes_file in_bytes u k n f cursor size (open_handle in_bytes u k n)) k ≡ mine u k
  unfolding changes_file
  none_changed u n f cursor size h = ap (λ w. mine (changes_file in_bytes u k n f cursor size w) k) h

  effect-alike : (o : Op) → is_local s k o ≡ true → IsNumber s k → IsNumber t k
      → mine (effect in_bytes s (sizes_of s k o) k o) k ≡ mine (effect in_bytes t (sizes_of t k o) k o) k
  unfolding effect is_local
  effect-alike (op.Values dir) h ns nt =
      let r = own.Iterator (record { dir = dir; given = [] }) in
      mine-adds s k r ns refl ∙ ap (λ m. with_rows m (m.rows ++ r ∷ [])) same ∙ sym (mine-adds t k r nt refl)
  effect-alike (op.Resolve dir entry) h ns nt = same
  effect-alike (op.IsSameEntry entry to) h ns nt = same
  effect-alike (op.Slice n at len) h ns nt = same
  effect-alike (op.Write n bytes position) h ns nt =
      changed-alike n _ _ ns nt
      (ap (λ z. λ r. written_row r (start_of z position) bytes (reserve_for (reserve_of (outline_of r)) (size_written z position bytes))) (row-sizes n))
      (λ u r. written-file u _ bytes _ r) (λ u r. written-file u _ bytes _ r)
  effect-alike (op.Seek n position) h ns nt =
      changed-alike n (λ r. sought_row r position) (λ r. sought_row r position) ns nt refl (λ u r. sought-file u position r) (λ u r. sought-file u position r)
  effect-alike (op.Truncate n size) h ns nt =
      changed-alike n (λ r. truncated_row r size (reserve_for (reserve_of (outline_of r)) size)) (λ r. truncated_row r size (reserve_for (reserve_of (outline_of r)) size)) ns nt refl
      (λ u r. truncated-file u size _ r) (λ u r. truncated-file u size _ r)
  effect-alike (op.Close n) h ns nt =
      let z = sizes_of s k (op.Close n) in
      let y = sizes_of t k (op.Close n) in
      ap (λ w. mine (closes_stream in_bytes s z k n w) k) (none_stream (own_of (agent_of s k) n) h)
      ∙ same
      ∙ sym (ap (λ w. mine (closes_stream in_bytes t y k n w) k) (none_stream (own_of (agent_of t k) n) (sym (ap is_closed_stream (own-alike n)) ∙ h)))
  effect-alike (op.Abort n) h ns nt =
      ap (λ w. mine (aborts_stream in_bytes s k n w) k) (none_stream (own_of (agent_of s k) n) h)
      ∙ same
      ∙ sym (ap (λ w. mine (aborts_stream in_bytes t k n w) k) (none_stream (own_of (agent_of t k) n) (sym (ap is_closed_stream (own-alike n)) ∙ h)))
  effect-alike (op.SyncRead n len at) h ns nt =
      changed-alike n _ _ ns nt (ap (λ z. λ r. moved_row r (cursor_after_read z len at) (reserve_of (outline_of r))) (row-sizes n))
      (λ u r. moved-file u _ _ r) (λ u r. moved-file u _ _ r)
  effect-alike (op.SyncWrite n bytes at) h ns nt =
      none_changed s n _ _ _ (none_at s n h) ∙ same ∙ sym (none_changed t n _ _ _ (none_at t n (sym (ap is_closed_handle (own-alike n)) ∙ h)))
  effect-alike (op.SyncTruncate n size) h ns nt =
      none_changed s n _ _ _ (none_at s n h) ∙ same ∙ sym (none_changed t n _ _ _ (none_at t n (sym (ap is_closed_handle (own-alike n)) ∙ h)))
  effect-alike (op.SyncGetSize n) h ns nt = same
  effect-alike (op.SyncFlush n) h ns nt =
      ap (λ w. mine (flushes in_bytes s (sizes_of s k (op.SyncFlush n)) k n w) k) (none_at s n h)
      ∙ same
      ∙ sym (ap (λ w. mine (flushes in_bytes t (sizes_of t k (op.SyncFlush n)) k n w) k) (none_at t n (sym (ap is_closed_handle (own-alike n)) ∙ h)))
  effect-alike (op.SyncClose n) h ns nt =
      ap (λ w. mine (closes_handle in_bytes s k n w) k) (none_at s n h)
      ∙ same
      ∙ sym (ap (λ w. mine (closes_handle in_bytes t k n w) k) (none_at t n (sym (ap is_closed_handle (own-alike n)) ∙ h)))
  effect-alike (op.Moment ms) h ns nt = mine-moment s k ms ns ∙ ap {A = Mine} (λ m. record m { moment = ms }) same ∙ sym (mine-moment t k ms nt)
  effect-alike (op.Unbound word) h ns nt = same
  effect-alike o h ns nt = cc

  refused-alike : (o : Op) → is_local s k o ≡ true → mine (refused s k o) k ≡ mine (refused t k o) k
  unfolding is_local
  refused-alike (op.Await tag) h = cc
  refused-alike o h = same

-- An outcome in two states.
abbrev IsAlike : ℕ → Outcome → Outcome → Type 0
IsAlike k a b = (a.answered ≡ b.answered) × (mine a.after k ≡ mine b.after k)

accepted-reply : (s : State Text Own) (k : ℕ) (o : Op) (told : Reply) → is_refusal told ≡ false → mine (after_reply s k o told) k ≡ mine (effect in_bytes s (sizes_of s k o) k o) k
accepted-reply s k o told h =
    ap (λ b. mine (elim b as (λ x. State Text Own) [ true ↦ refused s k o | false ↦ effect in_bytes s (sizes_of s k o) k o ]) k) h

outcome-alike : (s t : State Text Own) (k : ℕ) (o : Op) (c d : Option Text) (m : Ruled Need) → Asks m
    → answer s (sizes_of s k o) k o ≡ answer t (sizes_of t k o) k o
    → mine (effect in_bytes s (sizes_of s k o) k o) k ≡ mine (effect in_bytes t (sizes_of t k o) k o) k
    → mine (refused s k o) k ≡ mine (refused t k o) k
    → IsAlike k (outcome_of s k o (m >>= room_for in_bytes s c)) (outcome_of t k o (m >>= room_for in_bytes t d))
unfolding outcome_of ◌>>=◌
outcome-alike s t k o c d (Ok n) nothing told done left =
    let both : IsAlike k (outcome_of s k o (Ok [])) (outcome_of t k o (Ok [])) = (
      told,
      accepted-reply s k o _ (answer-accepted s (sizes_of s k o) k o) ∙ done ∙ sym (accepted-reply t k o _ (answer-accepted t (sizes_of t k o) k o)),
    ) in
    subst (λ x. IsAlike k (outcome_of s k o x) (outcome_of t k o (room_for in_bytes t d no_need))) (sym (room_for_nothing s c))
    (subst (λ x. IsAlike k (outcome_of s k o (Ok [])) (outcome_of t k o x)) (sym (room_for_nothing t d)) both)
outcome-alike s t k o c d (Err e) (refuses r) told done left = (refl, left)

pub step-alike : (s t : State Text Own) (k : ℕ) (o : Op) → IsTrue (agent_of s k).live → IsTrue (agent_of t k).live → mine s k ≡ mine t k → is_local s k o ≡ true
    → ((step s k o).answered ≡ (step t k o).answered) × (mine (step s k o).after k ≡ mine (step t k o).after k)
unfolding step judged
step-alike s t k o ls lt same local =
    let both = outcome-alike s t k o (agent_of s k).key (agent_of t k).key (ruling in_bytes s (sizes_of s k o) k o) (local_asks s k o local)
    (answer-alike s t k same o local)
    (effect-alike s t k same o local (number-of s k ls) (number-of t k lt))
    (refused-alike s t k same o local) in
    subst (λ m. IsAlike k (step s k o) (outcome_of t k o (m >>= room_for in_bytes t (agent_of t k).key))) (ruling-alike s t k same o local) both
