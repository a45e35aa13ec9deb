-- What a call leaves of the own row that it names.
use Rattle.std.proofs.Common.{◌≡◌, ℕ, zero, suc, ◌+◌, ◌-◌, ◌<◌, min, Bool, true, false, if◌then◌else◌, List, [], ◌∷◌, ◌++◌, length, option_map, slice_set, Option, Some, None, refl, sym, ap, subst, ◌∙◌, arith, IsTrue}
use Rattle.std.specs.Prelude.{slice_get}
use Rattle.opfs_base.specs.Places.{Place, place_of}
use Rattle.opfs_base.specs.Texts.{Text}
use Rattle.opfs_base.specs.declared.locator.Locator.{Locator}
use Rattle.opfs_hist.specs.declared.op.Mode.{Mode}
use Rattle.opfs_hist.specs.declared.op.Mode.TheVariants as mode
use Rattle.opfs_locks.specs.declared.Want.TheVariants as want
use Rattle.opfs_hist.specs.declared.op.Op.{Op}
use Rattle.opfs_hist.specs.declared.op.Op.TheVariants as op
use Rattle.opfs_hist.specs.declared.reply.Reply.{Reply}
use Rattle.opfs_machine.specs.declared.own.HandleOutline.{HandleOutline}
use Rattle.opfs_machine.specs.declared.own.HandleRow.{HandleRow}
use Rattle.opfs_machine.specs.declared.own.StreamRow.{StreamRow}
use Rattle.opfs_machine.specs.declared.own.Own.{Own}
use Rattle.opfs_machine.specs.declared.own.Own.TheVariants as own
use Rattle.opfs_machine.specs.declared.state.FileRow.{FileRow}
use Rattle.opfs_machine.specs.declared.state.Sizes.{Sizes}
use Rattle.opfs_machine.specs.declared.state.State.{State}
use Rattle.opfs_machine.specs.Agents.{agent_of, agent_in, own_of, with_own, adds_own, of_row, handle_in, stream_in, open_handle, open_stream}
use Rattle.opfs_machine.specs.Contents.{in_bytes, outline_of, written_row, truncated_row, moved_row}
use Rattle.opfs_machine.specs.Effects.{effect, refused, with_changed, with_written, with_lock, changes_file, closes_stream, aborts_stream, closes_handle, discards, flushes, opens_stream, moment_of, replaced, unlocked, flushed, undone, content_of}
use Rattle.opfs_machine.specs.Replies.{sizes_of, sizes_in, bytes_at, bytes_in}
use Rattle.opfs_machine.specs.Rows.{file_at, with_file}
use Rattle.opfs_machine.specs.Rulings.{start_of, size_written, reserve_for, want_of, first_reserve}
use Rattle.opfs_machine.specs.Steps.{is_refusal, changed_by, after_reply}
use Rattle.opfs_machine.specs.Sums.{reserve_of}
use Rattle.opfs_laws.proofs.Numbers.{IsNumber, number-of, agent-set}
use Rattle.opfs_laws.proofs.Spots.{file-changed}
use Rattle.opfs_splice.specs.Splicing.{splice, resize}

set-same : {X : Type 0} (xs : List X) (i : ℕ) (x y : X) → slice_get xs i ≡ Some x → slice_get (slice_set xs i y) i ≡ Some y
set-same [] i x y is = absurd cc
set-same (z ∷ xs) zero x y is = refl
set-same (z ∷ xs) (suc i) x y is = set-same xs i x y is

own-set : (s : State Text Own) (k n : ℕ) (old new : Own) → IsNumber s k → own_of (agent_of s k) n ≡ Some old → own_of (agent_of (with_own s k n new) k) n ≡ Some new
own-set s k zero old new number is = absurd cc
own-set s k (suc i) old new number is =
    let e : suc i - 1 ≡ i = omega arith in
    ap (λ a. own_of a (suc i)) (agent-set s k (record (agent_of s k) { own = slice_set (agent_of s k).own (suc i - 1) new }) number)
    ∙ ap (λ (j : ℕ). slice_get (slice_set (agent_of s k).own j new) i) e ∙ set-same (agent_of s k).own i old new is

pub own-changed : (s : State Text Own) (k n : ℕ) (r : Own) (change : Own → Own) → IsNumber s k → own_of (agent_of s k) n ≡ Some r → own_of (agent_of (with_changed s k n change) k) n ≡ Some (change r)
unfolding with_changed
own-changed s k n r change number is =
    ap (λ o. own_of (agent_of (elim o as (λ x. State Text Own) [ Some x ↦ with_own s k n (change x) | None ↦ s ]) k) n) is ∙ own-set s k n r (change r) number is

number-of-rows : (s t : State Text Own) (k : ℕ) → t.agents ≡ s.agents → IsNumber s k → IsNumber t k
number-of-rows s t k same number = record { index = number.index; is = number.is; within = subst (λ xs. number.index < length xs) (sym same) number.within }

module _ (s : State Text Own) (k : ℕ) (live : IsTrue (agent_of s k).live) (told : Reply) (done : is_refusal told ≡ false) where
  number : IsNumber s k
  number = number-of s k live

  after-is : (o : Op) → changed_by s k o told ≡ effect in_bytes s (sizes_of s k o) k o
  after-is o = ap (λ b. elim b as (λ x. State Text Own) [ true ↦ refused s k o | false ↦ effect in_bytes s (sizes_of s k o) k o ]) done

  abbrev own_after : Op → ℕ → Option Own
  own_after o n = own_of (agent_of (after_reply s k o told) k) n

  own-after : (o : Op) (n : ℕ) → own_after o n ≡ own_of (agent_of (effect in_bytes s (sizes_of s k o) k o) k) n
  own-after o n = ap (λ t. own_of (agent_of t k) n) (after-is o)

  pub wrote : (n : ℕ) (bytes : Text) (position : Option ℕ) (w : StreamRow) → own_of (agent_of s k) n ≡ Some (own.Stream w)
      → own_after (op.Write n bytes position) n
      ≡ Some (own.Stream (record w { buffer = splice w.buffer (start_of (sizes_in s (Some (own.Stream w))) position) bytes; offset = start_of (sizes_in s (Some (own.Stream w))) position + length bytes; reserve = reserve_for w.reserve (size_written (sizes_in s (Some (own.Stream w))) position bytes) }))
  unfolding effect
  wrote n bytes position w is =
      own-after (op.Write n bytes position) n
      ∙ own-changed s k n (own.Stream w) (λ r. written_row r (start_of (sizes_of s k (op.Write n bytes position)) position) bytes (reserve_for (reserve_of (outline_of r)) (size_written (sizes_of s k (op.Write n bytes position)) position bytes))) number is
      ∙ ap (λ (z : Sizes). Some (written_row (own.Stream w) (start_of z position) bytes (reserve_for w.reserve (size_written z position bytes)))) (ap (sizes_in s) is)

  pub truncated : (n size : ℕ) (w : StreamRow) → own_of (agent_of s k) n ≡ Some (own.Stream w)
      → own_after (op.Truncate n size) n ≡ Some (own.Stream (record w { buffer = resize w.buffer size; offset = min w.offset size; reserve = reserve_for w.reserve size }))
  unfolding effect
  truncated n size w is =
      own-after (op.Truncate n size) n ∙ own-changed s k n (own.Stream w) (λ r. truncated_row r size (reserve_for (reserve_of (outline_of r)) size)) number is

  abbrev altered : HandleRow → ℕ → ℕ → Own
  altered h cursor size = own.Handle (record h { cursor = cursor; reserve = reserve_for h.reserve size })

  file-altered : (n : ℕ) (h : HandleRow) (change : Text → Text) (cursor size : ℕ) → own_of (agent_of s k) n ≡ Some (own.Handle h)
      → own_of (agent_of (changes_file in_bytes s k n change cursor size (open_handle in_bytes s k n)) k) n ≡ Some (altered h cursor size)
  unfolding changes_file
  file-altered n h change cursor size is =
      let outline : HandleOutline = record { file = h.file; mode = h.mode; reserve = h.reserve } in
      let t = with_file s h.file (λ (f : FileRow Text). record f { present = change f.present; stamp = moment_of s k }) in
      ap (λ o. own_of (agent_of (changes_file in_bytes s k n change cursor size o) k) n) (ap (λ o. of_row (λ r. handle_in (outline_of r)) o) is)
      ∙ own-changed t k n (own.Handle h) (λ r. moved_row r cursor (reserve_for h.reserve size)) (number-of-rows s t k refl number) is

  pub sync-wrote : (n : ℕ) (bytes : Text) (at : Option ℕ) (h : HandleRow) → own_of (agent_of s k) n ≡ Some (own.Handle h)
      → own_after (op.SyncWrite n bytes at) n ≡ Some (altered h (start_of (sizes_in s (Some (own.Handle h))) at + length bytes) (size_written (sizes_in s (Some (own.Handle h))) at bytes))
  unfolding effect
  sync-wrote n bytes at h is =
      let z = sizes_of s k (op.SyncWrite n bytes at) in
      own-after (op.SyncWrite n bytes at) n
      ∙ file-altered n h (λ f. splice f (start_of z at) bytes) (start_of z at + length bytes) (size_written z at bytes) is
      ∙ ap (λ (y : Sizes). Some (altered h (start_of y at + length bytes) (size_written y at bytes))) (ap (sizes_in s) is)

  pub sync-truncated : (n size : ℕ) (h : HandleRow) → own_of (agent_of s k) n ≡ Some (own.Handle h)
      → own_after (op.SyncTruncate n size) n ≡ Some (altered h (min h.cursor size) size)
  unfolding effect
  sync-truncated n size h is =
      let z = sizes_of s k (op.SyncTruncate n size) in
      own-after (op.SyncTruncate n size) n
      ∙ file-altered n h (λ f. resize f size) (min z.position size) size is
      ∙ ap (λ (y : Sizes). Some (altered h (min y.position size) size)) (ap (sizes_in s) is)

  changed-bytes : (t : State Text Own) (n : ℕ) (g : Own → Own) (p : Place) → bytes_at (with_changed t k n g) p ≡ bytes_at t p
  unfolding with_changed
  changed-bytes t n g p =
      elim (own_of (agent_of t k) n) as (λ o. bytes_at (elim o as (λ x. State Text Own) [ Some x ↦ with_own t k n (g x) | None ↦ t ]) p ≡ bytes_at t p) [ Some x ↦ refl | None ↦ refl ]

  file-bytes : (n : ℕ) (h : HandleRow) (change : Text → Text) (cursor size : ℕ) (f : FileRow Text) → own_of (agent_of s k) n ≡ Some (own.Handle h) → file_at s h.file ≡ Some f
      → bytes_at (changes_file in_bytes s k n change cursor size (open_handle in_bytes s k n)) h.file ≡ change f.present
  unfolding changes_file
  file-bytes n h change cursor size f is there =
      let t = with_file s h.file (λ (x : FileRow Text). record x { present = change x.present; stamp = moment_of s k }) in
      ap (λ o. bytes_at (changes_file in_bytes s k n change cursor size o) h.file) (ap (λ o. of_row (λ r. handle_in (outline_of r)) o) is)
      ∙ changed-bytes t n (λ r. moved_row r cursor (reserve_for h.reserve size)) h.file
      ∙ ap bytes_in (file-changed s h.file (λ (x : FileRow Text). record x { present = change x.present; stamp = moment_of s k }) ∙ ap (option_map (λ (x : FileRow Text). record x { present = change x.present; stamp = moment_of s k })) there)

  pub sync-wrote-bytes : (n : ℕ) (bytes : Text) (at : Option ℕ) (h : HandleRow) (f : FileRow Text) → own_of (agent_of s k) n ≡ Some (own.Handle h) → file_at s h.file ≡ Some f
      → bytes_at (after_reply s k (op.SyncWrite n bytes at) told) h.file ≡ splice f.present (start_of (sizes_in s (Some (own.Handle h))) at) bytes
  unfolding effect
  sync-wrote-bytes n bytes at h f is there =
      let z = sizes_of s k (op.SyncWrite n bytes at) in
      ap (λ t. bytes_at t h.file) (after-is (op.SyncWrite n bytes at))
      ∙ file-bytes n h (λ x. splice x (start_of z at) bytes) (start_of z at + length bytes) (size_written z at bytes) f is there
      ∙ ap (λ (y : Sizes). splice f.present (start_of y at) bytes) (ap (sizes_in s) is)

  pub sync-truncated-bytes : (n size : ℕ) (h : HandleRow) (f : FileRow Text) → own_of (agent_of s k) n ≡ Some (own.Handle h) → file_at s h.file ≡ Some f
      → bytes_at (after_reply s k (op.SyncTruncate n size) told) h.file ≡ resize f.present size
  unfolding effect
  sync-truncated-bytes n size h f is there =
      let z = sizes_of s k (op.SyncTruncate n size) in
      ap (λ t. bytes_at t h.file) (after-is (op.SyncTruncate n size)) ∙ file-bytes n h (λ x. resize x size) (min z.position size) size f is there

  -- ---- rows that are closed, flushed and opened

  open_is : (n : ℕ) (w : StreamRow) → own_of (agent_of s k) n ≡ Some (own.Stream w) → open_stream in_bytes s k n ≡ Some (record { file = w.file; reserve = w.reserve })
  open_is n w is = ap (λ o. of_row (λ r. stream_in (outline_of r)) o) is

  handle_is : (n : ℕ) (h : HandleRow) → own_of (agent_of s k) n ≡ Some (own.Handle h) → open_handle in_bytes s k n ≡ Some (record { file = h.file; mode = h.mode; reserve = h.reserve })
  handle_is n h is = ap (λ o. of_row (λ r. handle_in (outline_of r)) o) is

  written-agents : (m : Mode) (p : Place) (change : FileRow Text → FileRow Text) → (with_written s m p change).agents ≡ s.agents
  written-agents mode.ReadWrite p change = refl
  written-agents mode.ReadOnly p change = refl

  -- another state with the same agents, and the row closed
  closed : (t : State Text Own) (n : ℕ) (old new : Own) → t.agents ≡ s.agents → own_of (agent_of s k) n ≡ Some old → own_of (agent_of (with_own t k n new) k) n ≡ Some new
  closed t n old new same is = own-set t k n old new (number-of-rows s t k same number) (ap (λ xs. own_of (agent_in xs k) n) same ∙ is)

  pub stream-closed : (n : ℕ) (w : StreamRow) → own_of (agent_of s k) n ≡ Some (own.Stream w) → own_after (op.Close n) n ≡ Some own.ClosedStream
  unfolding effect
  stream-closed n w is =
      let z = sizes_of s k (op.Close n) in
      own-after (op.Close n) n ∙ ap (λ o. own_of (agent_of (closes_stream in_bytes s z k n o) k) n) (open_is n w is)
      ∙ closed (with_file (with_file s w.file (replaced (content_of in_bytes (own_of (agent_of s k) n) z.size) (moment_of s k))) w.file unlocked) n (own.Stream w) own.ClosedStream refl is

  pub stream-aborted : (n : ℕ) (w : StreamRow) → own_of (agent_of s k) n ≡ Some (own.Stream w) → own_after (op.Abort n) n ≡ Some own.ClosedStream
  unfolding effect
  stream-aborted n w is =
      own-after (op.Abort n) n ∙ ap (λ o. own_of (agent_of (aborts_stream in_bytes s k n o) k) n) (open_is n w is) ∙ closed (with_file s w.file unlocked) n (own.Stream w) own.ClosedStream refl is

  pub handle-closed : (n : ℕ) (h : HandleRow) → own_of (agent_of s k) n ≡ Some (own.Handle h) → own_after (op.SyncClose n) n ≡ Some own.ClosedHandle
  unfolding effect
  handle-closed n h is =
      own-after (op.SyncClose n) n ∙ ap (λ o. own_of (agent_of (closes_handle in_bytes s k n o) k) n) (handle_is n h is)
      ∙ closed (with_file (with_written s h.mode h.file flushed) h.file unlocked) n (own.Handle h) own.ClosedHandle (written-agents h.mode h.file flushed) is

  pub handle-discarded : (n : ℕ) (h : HandleRow) → own_of (agent_of s k) n ≡ Some (own.Handle h) → own_after (op.Discard n) n ≡ Some own.ClosedHandle
  unfolding effect
  handle-discarded n h is =
      own-after (op.Discard n) n ∙ ap (λ o. own_of (agent_of (discards in_bytes s k n o) k) n) (handle_is n h is)
      ∙ closed (with_file (with_written s h.mode h.file undone) h.file unlocked) n (own.Handle h) own.ClosedHandle (written-agents h.mode h.file undone) is

  pub handle-flushed : (n : ℕ) (h : HandleRow) → own_of (agent_of s k) n ≡ Some (own.Handle h) → own_after (op.SyncFlush n) n ≡ Some (own.Handle (record h { reserve = 0 }))
  unfolding effect
  handle-flushed n h is =
      let z = sizes_of s k (op.SyncFlush n) in
      let t = with_written s h.mode h.file flushed in
      own-after (op.SyncFlush n) n ∙ ap (λ o. own_of (agent_of (flushes in_bytes s z k n o) k) n) (handle_is n h is)
      ∙ own-changed t k n (own.Handle h) (λ r. moved_row r z.position 0) (number-of-rows s t k (written-agents h.mode h.file flushed) number) (ap (λ xs. own_of (agent_in xs k) n) (written-agents h.mode h.file flushed) ∙ is)
      ∙ ap (λ (y : Sizes). Some (own.Handle (record h { cursor = y.position; reserve = 0 }))) (ap (sizes_in s) is)

  last-own : {X : Type 0} (xs : List X) (x : X) → slice_get (xs ++ x ∷ []) (length xs) ≡ Some x
  last-own [] x = refl
  last-own (y ∷ xs) x = last-own xs x

  added : (t : State Text Own) (new : Own) → t.agents ≡ s.agents → own_of (agent_of (adds_own t k new) k) (suc (length (agent_of s k).own)) ≡ Some new
  added t new same =
      ap (λ a. own_of a (suc (length (agent_of s k).own))) (agent-set t k (record (agent_of t k) { own = (agent_of t k).own ++ new ∷ [] }) (number-of-rows s t k same number))
      ∙ ap (λ xs. slice_get ((agent_in xs k).own ++ new ∷ []) (length (agent_of s k).own)) same ∙ last-own (agent_of s k).own new

  pub stream-opened : (at : Locator) (keep : Bool) (f : FileRow Text) → file_at s (place_of at) ≡ Some f
      → own_after (op.CreateWritable at keep) (suc (length (agent_of s k).own))
      ≡ Some (own.Stream (record { file = place_of at; buffer = if keep then f.present else []; offset = 0; reserve = first_reserve in_bytes s at keep }))
  unfolding effect
  stream-opened at keep f there =
      own-after (op.CreateWritable at keep) (suc (length (agent_of s k).own))
      ∙ ap (λ o. own_of (agent_of (opens_stream in_bytes s k (place_of at) (first_reserve in_bytes s at keep) keep o) k) (suc (length (agent_of s k).own))) there
      ∙ added (with_file s (place_of at) (with_lock want.Shared)) (own.Stream (record { file = place_of at; buffer = if keep then f.present else []; offset = 0; reserve = first_reserve in_bytes s at keep })) refl

  pub handle-opened : (at : Locator) (m : Mode) → own_after (op.CreateSyncAccessHandle at m) (suc (length (agent_of s k).own)) ≡ Some (own.Handle (record { file = place_of at; mode = m; cursor = 0; reserve = 0 }))
  unfolding effect
  handle-opened at m =
      own-after (op.CreateSyncAccessHandle at m) (suc (length (agent_of s k).own))
      ∙ added (with_file s (place_of at) (with_lock (want_of m))) (own.Handle (record { file = place_of at; mode = m; cursor = 0; reserve = 0 })) refl
