-- A call leaves the records of other agents.
use Rattle.std.proofs.Common.{◌≡◌, ◌≢◌, ℕ, ◌+◌, ◌-◌, ◌<◌, min, Bool, true, false, if◌then◌else◌, [], ◌∷◌, ◌++◌, length, slice_set, Option, Some, None, refl, sym, ap, ◌∙◌, subst}
use Rattle.opfs_base.specs.Texts.{Text}
use Rattle.opfs_base.specs.Places.{Place, place_of, child}
use Rattle.opfs_base.specs.Units.{unit_of}
use Rattle.opfs_base.specs.declared.locator.Kind.TheVariants as kind
use Rattle.opfs_hist.specs.declared.op.Mode.{Mode}
use Rattle.opfs_hist.specs.declared.op.Mode.TheVariants as mode
use Rattle.opfs_hist.specs.declared.op.Op.{Op}
use Rattle.opfs_hist.specs.declared.op.Op.TheVariants as op
use Rattle.opfs_hist.specs.declared.reply.Reply.{Reply}
use Rattle.opfs_locks.specs.declared.Want.TheVariants as want
use Rattle.opfs_machine.specs.declared.own.HandleOutline.{HandleOutline}
use Rattle.opfs_machine.specs.declared.own.StreamOutline.{StreamOutline}
use Rattle.opfs_machine.specs.declared.own.Own.{Own}
use Rattle.opfs_machine.specs.declared.own.Own.TheVariants as own
use Rattle.opfs_machine.specs.declared.state.Agent.{Agent}
use Rattle.opfs_machine.specs.declared.state.FileRow.{FileRow}
use Rattle.opfs_machine.specs.declared.state.Row.{Row}
use Rattle.opfs_machine.specs.declared.state.Row.TheVariants as row
use Rattle.opfs_machine.specs.declared.state.Sizes.{Sizes}
use Rattle.opfs_machine.specs.declared.state.State.{State}
use Rattle.opfs_machine.specs.Agents.{agent_of, agent_in, own_of, with_agent, with_own, adds_own, open_stream, open_handle, party_of}
use Rattle.opfs_machine.specs.Contents.{in_bytes, outline_of, written_row, truncated_row, sought_row, moved_row, advanced_row}
use Rattle.opfs_machine.specs.Effects.{effect, refused, made, opens_bucket, opens_stream, takes_snapshot, closes_stream, aborts_stream, changes_file, flushes, closes_handle, discards, persists, with_written, with_changed, with_lock, flushed, undone, unlocked, replaced, content_of, moment_of, new_row, cursor_after_read}
use Rattle.opfs_machine.specs.Replies.{sizes_of}
use Rattle.opfs_machine.specs.Rows.{file_at, with_file, with_row, without, row_at, children_of}
use Rattle.opfs_machine.specs.Rulings.{start_of, size_written, reserve_for, want_of, first_reserve}
use Rattle.opfs_machine.specs.Steps.{is_refusal, after_reply}
use Rattle.opfs_machine.specs.Sums.{reserve_of}
use Rattle.opfs_laws.proofs.Numbers.{IsNumber, agent-other}

module _ (s : State Text Own) (j k : ℕ) (number : IsNumber s j) (apart : k ≢ j) where
  there : (t : State Text Own) → t.agents ≡ s.agents → agent_of t k ≡ agent_of s k
  there t same = ap (λ xs. agent_in xs k) same

  number_in : (t : State Text Own) → t.agents ≡ s.agents → IsNumber t j
  number_in t same = record { index = number.index; is = number.is; within = subst (λ xs. number.index < length xs) (sym same) number.within }

  other-agent : (t : State Text Own) (a : Agent Own) → t.agents ≡ s.agents → agent_of (with_agent t j a) k ≡ agent_of s k
  other-agent t a same = agent-other t j k a (number_in t same) apart ∙ there t same

  other-own : (t : State Text Own) (n : ℕ) (r : Own) → t.agents ≡ s.agents → agent_of (with_own t j n r) k ≡ agent_of s k
  other-own t n r same = other-agent t (record (agent_of t j) { own = slice_set (agent_of t j).own (n - 1) r }) same

  other-adds : (t : State Text Own) (r : Own) → t.agents ≡ s.agents → agent_of (adds_own t j r) k ≡ agent_of s k
  other-adds t r same = other-agent t (record (agent_of t j) { own = (agent_of t j).own ++ r ∷ [] }) same

  abbrev changed_if : State Text Own → ℕ → (Own → Own) → Option Own → State Text Own
  changed_if t n change o = elim o [ Some r ↦ with_own t j n (change r) | None ↦ t ]

  other-changed : (t : State Text Own) (n : ℕ) (change : Own → Own) → t.agents ≡ s.agents → agent_of (with_changed t j n change) k ≡ agent_of s k
  unfolding with_changed
  other-changed t n change same =
      elim (own_of (agent_of t j) n) as (λ o. agent_of (changed_if t n change o) k ≡ agent_of s k) [
        | Some r ↦ other-own t n (change r) same
        | None ↦ there t same
      ]

  made-other : (p : Place) (r : Row Text) → agent_of (made s p r) k ≡ agent_of s k
  made-other p r =
      there (made s p r) (elim (row_at s p) as (λ o. (elim o as (λ x. State Text Own) [ Some old ↦ s | None ↦ with_row s p r ]).agents ≡ s.agents) [ Some old ↦ refl | None ↦ refl ])

  bucket-other : (bucket : Text) (o : Option Text) → agent_of (opens_bucket s bucket o) k ≡ agent_of s k
  bucket-other bucket None = refl
  bucket-other bucket (Some origin) = made-other (unit_of origin bucket, []) row.Directory

  persists-other : (bucket : Text) (grant : Bool) (o : Option Text) → agent_of (persists s bucket grant o) k ≡ agent_of s k
  persists-other bucket grant None = refl
  persists-other bucket true (Some origin) = there (persists s bucket true (Some origin)) refl
  persists-other bucket false (Some origin) = refl

  written-same : (m : Mode) (p : Place) (change : FileRow Text → FileRow Text) → (with_written s m p change).agents ≡ s.agents
  written-same mode.ReadWrite p change = refl
  written-same mode.ReadOnly p change = refl

  opens-other : (p : Place) (reserve : ℕ) (keep : Bool) (o : Option (FileRow Text)) → agent_of (opens_stream in_bytes s j p reserve keep o) k ≡ agent_of s k
  opens-other p reserve keep None = refl
  opens-other p reserve keep (Some f) = other-adds (with_file s p (with_lock want.Shared)) (in_bytes.stream p (if keep then f.present else in_bytes.empty) reserve) refl

  snaps-other : (o : Option (FileRow Text)) → agent_of (takes_snapshot in_bytes s j o) k ≡ agent_of s k
  snaps-other None = refl
  snaps-other (Some f) = other-adds s (own.Snapshot f.present) refl

  closes-other : (z : Sizes) (n : ℕ) (w : Option StreamOutline) → agent_of (closes_stream in_bytes s z j n w) k ≡ agent_of s k
  closes-other z n None = refl
  closes-other z n (Some w) =
      other-own (with_file (with_file s w.file (replaced (content_of in_bytes (own_of (agent_of s j) n) z.size) (moment_of s j))) w.file unlocked) n own.ClosedStream refl

  aborts-other : (n : ℕ) (w : Option StreamOutline) → agent_of (aborts_stream in_bytes s j n w) k ≡ agent_of s k
  aborts-other n None = refl
  aborts-other n (Some w) = other-own (with_file s w.file unlocked) n own.ClosedStream refl

  alters-other : (n : ℕ) (change : Text → Text) (cursor size : ℕ) (h : Option HandleOutline) → agent_of (changes_file in_bytes s j n change cursor size h) k ≡ agent_of s k
  unfolding changes_file
  alters-other n change cursor size None = refl
  alters-other n change cursor size (Some h) =
      other-changed (with_file s h.file (λ f. record f { present = change f.present; stamp = moment_of s j })) n (λ r. moved_row r cursor (reserve_for h.reserve size)) refl

  flushes-other : (z : Sizes) (n : ℕ) (h : Option HandleOutline) → agent_of (flushes in_bytes s z j n h) k ≡ agent_of s k
  flushes-other z n None = refl
  flushes-other z n (Some h) = other-changed (with_written s h.mode h.file flushed) n (λ r. moved_row r z.position 0) (written-same h.mode h.file flushed)

  shuts-other : (n : ℕ) (h : Option HandleOutline) → agent_of (closes_handle in_bytes s j n h) k ≡ agent_of s k
  shuts-other n None = refl
  shuts-other n (Some h) = other-own (with_file (with_written s h.mode h.file flushed) h.file unlocked) n own.ClosedHandle (written-same h.mode h.file flushed)

  discards-other : (n : ℕ) (h : Option HandleOutline) → agent_of (discards in_bytes s j n h) k ≡ agent_of s k
  discards-other n None = refl
  discards-other n (Some h) = other-own (with_file (with_written s h.mode h.file undone) h.file unlocked) n own.ClosedHandle (written-same h.mode h.file undone)

  effect-other : (z : Sizes) (o : Op) → agent_of (effect in_bytes s z j o) k ≡ agent_of s k
  unfolding effect
  effect-other z (op.GetDirectory bucket) = bucket-other bucket (agent_of s j).key
  effect-other z (op.GetDirectoryHandle dir name create) = made-other (child (place_of dir) name) row.Directory
  effect-other z (op.GetFileHandle dir name create) = made-other (child (place_of dir) name) (new_row in_bytes kind.File (moment_of s j))
  effect-other z (op.RemoveEntry dir name recursive) = there (without s (child (place_of dir) name)) refl
  effect-other z (op.Values dir) = other-adds s (in_bytes.iterator dir) refl
  effect-other z (op.Next n dir) = other-changed s n (λ r. advanced_row r (children_of s (place_of dir))) refl
  effect-other z (op.Resolve dir entry) = refl
  effect-other z (op.IsSameEntry entry to) = refl
  effect-other z (op.GetFile at) = snaps-other (file_at s (place_of at))
  effect-other z (op.Slice n at len) = refl
  effect-other z (op.CreateWritable at keep) = opens-other (place_of at) (first_reserve in_bytes s at keep) keep (file_at s (place_of at))
  effect-other z (op.Write n bytes position) = other-changed s n (λ r. written_row r (start_of z position) bytes (reserve_for (reserve_of (outline_of r)) (size_written z position bytes))) refl
  effect-other z (op.Seek n position) = other-changed s n (λ r. sought_row r position) refl
  effect-other z (op.Truncate n size) = other-changed s n (λ r. truncated_row r size (reserve_for (reserve_of (outline_of r)) size)) refl
  effect-other z (op.Close n) = closes-other z n (open_stream in_bytes s j n)
  effect-other z (op.Abort n) = aborts-other n (open_stream in_bytes s j n)
  effect-other z (op.CreateSyncAccessHandle at m) = other-adds (with_file s (place_of at) (with_lock (want_of m))) (in_bytes.handle (place_of at) m) refl
  effect-other z (op.SyncRead n len at) = other-changed s n (λ r. moved_row r (cursor_after_read z len at) (reserve_of (outline_of r))) refl
  effect-other z (op.SyncWrite n bytes at) = alters-other n (λ f. in_bytes.overwritten f (start_of z at) bytes) (start_of z at + length bytes) (size_written z at bytes) (open_handle in_bytes s j n)
  effect-other z (op.SyncTruncate n size) = alters-other n (λ f. in_bytes.cut f size) (min z.position size) size (open_handle in_bytes s j n)
  effect-other z (op.SyncGetSize n) = refl
  effect-other z (op.SyncFlush n) = flushes-other z n (open_handle in_bytes s j n)
  effect-other z (op.SyncClose n) = shuts-other n (open_handle in_bytes s j n)
  effect-other z (op.Persist bucket) = persists-other bucket (agent_of s j).grant (agent_of s j).key
  effect-other z (op.Persisted bucket) = refl
  effect-other z op.Estimate = refl
  effect-other z (op.Moment ms) = other-agent s (record (agent_of s j) { moment = ms }) refl
  effect-other z (op.Post tag) = there (record s { posted = s.posted ++ record { party = party_of s j; tag = tag } ∷ [] }) refl
  effect-other z (op.Await tag) = other-agent s (record (agent_of s j) { waits = None }) refl
  effect-other z (op.Wait tag) = other-agent s (record (agent_of s j) { waits = Some tag }) refl
  effect-other z (op.Discard n) = discards-other n (open_handle in_bytes s j n)
  effect-other z op.End = other-agent s (record (agent_of s j) { live = false; waits = None }) refl
  effect-other z (op.Unbound word) = refl
  effect-other z (op.Evict unit) = refl

  refused-other : (o : Op) → agent_of (refused s j o) k ≡ agent_of s k
  refused-other (op.Await tag) = other-agent s (record (agent_of s j) { waits = None }) refl
  refused-other o = refl

  pub reply-other : (o : Op) (told : Reply) → agent_of (after_reply s j o told) k ≡ agent_of s k
  reply-other o told =
      elim (is_refusal told) as (λ b. agent_of (elim b as (λ x. State Text Own) [ true ↦ refused s j o | false ↦ effect in_bytes s (sizes_of s j o) j o ]) k ≡ agent_of s k) [
        | true ↦ refused-other o
        | false ↦ effect-other (sizes_of s j o) o
      ]
