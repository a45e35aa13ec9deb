-- A call changes no agent but its own, no count, and no limit.
use Rattle.std.proofs.Common.{◌≡◌, ◌≢◌, ℕ, ◌+◌, ◌-◌, ◌<◌, min, zero, suc, Bool, true, false, if◌then◌else◌, List, [], ◌∷◌, ◌++◌, length, slice_set, Option, Some, None, refl, sym, ap, ◌∙◌, arith}
use Rattle.std.specs.Prelude.{slice_get}
use Rattle.std.proofs.lemmas.Option.{slice_get-get_or, unwrap_or-slice_get}
use Rattle.opfs_base.specs.Texts.{Text}
use Rattle.opfs_base.specs.Places.{Place, place_of, child}
use Rattle.opfs_base.specs.Units.{unit_of}
use Rattle.opfs_base.specs.declared.locator.Kind.TheVariants as kind
use Rattle.opfs_hist.specs.declared.op.Mode.{Mode}
use Rattle.opfs_hist.specs.declared.op.Mode.TheVariants as mode
use Rattle.opfs_hist.specs.declared.op.Op.{Op}
use Rattle.opfs_hist.specs.declared.op.Op.TheVariants as op
use Rattle.opfs_hist.specs.declared.reply.Reply.{Reply}
use Rattle.opfs_locks.specs.declared.Want.TheVariants as want
use Rattle.opfs_machine.specs.declared.own.HandleOutline.{HandleOutline}
use Rattle.opfs_machine.specs.declared.own.StreamOutline.{StreamOutline}
use Rattle.opfs_machine.specs.declared.own.Own.{Own}
use Rattle.opfs_machine.specs.declared.own.Own.TheVariants as own
use Rattle.opfs_machine.specs.declared.state.Agent.{Agent}
use Rattle.opfs_machine.specs.declared.state.FileRow.{FileRow}
use Rattle.opfs_machine.specs.declared.state.Row.{Row}
use Rattle.opfs_machine.specs.declared.state.Row.TheVariants as row
use Rattle.opfs_machine.specs.declared.state.Sizes.{Sizes}
use Rattle.opfs_machine.specs.declared.state.State.{State}
use Rattle.opfs_machine.specs.Agents.{agent_of, agent_in, own_of, nobody, with_agent, with_own, adds_own, open_stream, open_handle, party_of}
use Rattle.opfs_machine.specs.Contents.{in_bytes, outline_of, written_row, truncated_row, sought_row, moved_row, advanced_row}
use Rattle.opfs_machine.specs.Effects.{effect, refused, made, new_row, moment_of, opens_bucket, opens_stream, takes_snapshot, closes_stream, aborts_stream, changes_file, flushes, closes_handle, discards, persists, with_written, with_changed, with_lock, flushed, undone, unlocked, replaced, content_of, cursor_after_read}
use Rattle.opfs_machine.specs.Replies.{sizes_of}
use Rattle.opfs_machine.specs.Rows.{file_at, with_file, with_row, without, row_at, children_of}
use Rattle.opfs_machine.specs.Rulings.{start_of, size_written, reserve_for, want_of, first_reserve}
use Rattle.opfs_machine.specs.Steps.{is_refusal, changed_by}
use Rattle.opfs_machine.specs.Sums.{reserve_of}
use Rattle.opfs_laws.proofs.Numbers.{IsNumber, agent-other}

-- A state with the agents, counts and limits of another.
record Beside (s t : State Text Own) : Type 0 where
  agents : t.agents ≡ s.agents
  entries : t.entries ≡ s.entries
  used : t.used ≡ s.used
  limits : t.limits ≡ s.limits

-- The same, but for one agent.
pub record Acts (s : State Text Own) (k : ℕ) (t : State Text Own) : Type 0 where
  pub agent : Agent Own
  pub agents : t.agents ≡ slice_set s.agents (k - 1) agent
  pub entries : t.entries ≡ s.entries
  pub used : t.used ≡ s.used
  pub limits : t.limits ≡ s.limits

set-same : {X : Type 0} (xs : List X) (i : ℕ) (x : X) → slice_get xs i ≡ Some x → slice_set xs i x ≡ xs
set-same [] i x is = refl
set-same (y ∷ xs) zero x is = ap (λ z. z ∷ xs) (sym (one is))
  where
    one : {X : Type 0} {a b : X} → Some a ≡ Some b → a ≡ b
    one e = cc
set-same (y ∷ xs) (suc i) x is = ap (λ ys. y ∷ ys) (set-same xs i x is)

there-agent : (s : State Text Own) (k : ℕ) → IsNumber s k → slice_set s.agents (k - 1) (agent_of s k) ≡ s.agents
there-agent s zero h = absurd (omega (arith, h.is))
there-agent s (suc i) h =
    let at : suc i - 1 ≡ i = omega arith in
    let within : i < length s.agents = omega (arith, h.is, h.within) in
    ap (λ j. slice_set s.agents j (agent_of s (suc i))) at
    ∙ set-same s.agents i (agent_of s (suc i)) (slice_get-get_or s.agents i nobody within ∙ ap Some (sym (unwrap_or-slice_get s.agents i nobody)))

module _ (s : State Text Own) (k : ℕ) (number : IsNumber s k) where
  stays : (t : State Text Own) → Beside s t → Acts s k t
  stays t b = record { agent = agent_of s k; agents = b.agents ∙ sym (there-agent s k number); entries = b.entries; used = b.used; limits = b.limits }

  acts : (t : State Text Own) (a : Agent Own) → Beside s t → Acts s k (with_agent t k a)
  acts t a b = record { agent = a; agents = ap (λ xs. slice_set xs (k - 1) a) b.agents; entries = b.entries; used = b.used; limits = b.limits }

  abbrev sets : (t : State Text Own) (n : ℕ) (r : Own) → Beside s t → Acts s k (with_own t k n r)
  sets t n r b = acts t (record (agent_of t k) { own = slice_set (agent_of t k).own (n - 1) r }) b

  abbrev adds : (t : State Text Own) (r : Own) → Beside s t → Acts s k (adds_own t k r)
  adds t r b = acts t (record (agent_of t k) { own = (agent_of t k).own ++ r ∷ [] }) b

  plain : (t : State Text Own) → t.agents ≡ s.agents → t.entries ≡ s.entries → t.used ≡ s.used → t.limits ≡ s.limits → Beside s t
  plain t a e u l = record { agents = a; entries = e; used = u; limits = l }

  here : Beside s s
  here = plain s refl refl refl refl

  filed : (rows : List (Place × Row Text)) → Beside s (record s { rows = rows })
  filed rows = plain (record s { rows = rows }) refl refl refl refl

  changes : (t : State Text Own) (n : ℕ) (change : Own → Own) → Beside s t → Acts s k (with_changed t k n change)
  unfolding with_changed
  changes t n change b =
      elim (own_of (agent_of t k) n) as (λ o. Acts s k (elim o as (λ x. State Text Own) [ Some r ↦ with_own t k n (change r) | None ↦ t ])) [
        | Some r ↦ sets t n (change r) b
        | None ↦ stays t b
      ]

  makes : (p : Place) (r : Row Text) → Acts s k (made s p r)
  makes p r =
      elim (row_at s p) as (λ o. Acts s k (elim o as (λ x. State Text Own) [ Some old ↦ s | None ↦ with_row s p r ])) [
        | Some old ↦ stays s here
        | None ↦ stays (with_row s p r) (plain (with_row s p r) refl refl refl refl)
      ]

  opens-bucket : (bucket : Text) (o : Option Text) → Acts s k (opens_bucket s bucket o)
  opens-bucket bucket None = stays s here
  opens-bucket bucket (Some origin) = makes (unit_of origin bucket, []) row.Directory

  persists-on : (bucket : Text) (grant : Bool) (o : Option Text) → Beside s (persists s bucket grant o)
  persists-on bucket grant None = here
  persists-on bucket true (Some origin) = plain (persists s bucket true (Some origin)) refl refl refl refl
  persists-on bucket false (Some origin) = here

  written : (m : Mode) (p : Place) (change : FileRow Text → FileRow Text) → Beside s (with_written s m p change)
  written mode.ReadWrite p change = plain (with_file s p change) refl refl refl refl
  written mode.ReadOnly p change = here

  released : (m : Mode) (p : Place) (change : FileRow Text → FileRow Text) → Beside s (with_file (with_written s m p change) p unlocked)
  released mode.ReadWrite p change = plain (with_file (with_file s p change) p unlocked) refl refl refl refl
  released mode.ReadOnly p change = plain (with_file s p unlocked) refl refl refl refl

  opens : (p : Place) (reserve : ℕ) (keep : Bool) (o : Option (FileRow Text)) → Acts s k (opens_stream in_bytes s k p reserve keep o)
  opens p reserve keep None = stays s here
  opens p reserve keep (Some f) =
      let t = with_file s p (with_lock want.Shared) in
      adds t (in_bytes.stream p (if keep then f.present else in_bytes.empty) reserve) (plain t refl refl refl refl)

  snaps : (o : Option (FileRow Text)) → Acts s k (takes_snapshot in_bytes s k o)
  snaps None = stays s here
  snaps (Some f) = adds s (own.Snapshot f.present) here

  closes : (z : Sizes) (n : ℕ) (w : Option StreamOutline) → Acts s k (closes_stream in_bytes s z k n w)
  closes z n None = stays s here
  closes z n (Some w) =
      let t = with_file (with_file s w.file (replaced (content_of in_bytes (own_of (agent_of s k) n) z.size) (moment_of s k))) w.file unlocked in
      sets t n own.ClosedStream (plain t refl refl refl refl)

  aborts : (n : ℕ) (w : Option StreamOutline) → Acts s k (aborts_stream in_bytes s k n w)
  aborts n None = stays s here
  aborts n (Some w) = let t = with_file s w.file unlocked in sets t n own.ClosedStream (plain t refl refl refl refl)

  alters : (n : ℕ) (change : Text → Text) (cursor size : ℕ) (h : Option HandleOutline) → Acts s k (changes_file in_bytes s k n change cursor size h)
  unfolding changes_file
  alters n change cursor size None = stays s here
  alters n change cursor size (Some h) =
      let t = with_file s h.file (λ f. record f { present = change f.present; stamp = moment_of s k }) in
      changes t n (λ r. moved_row r cursor (reserve_for h.reserve size)) (plain t refl refl refl refl)

  flushing : (z : Sizes) (n : ℕ) (h : Option HandleOutline) → Acts s k (flushes in_bytes s z k n h)
  flushing z n None = stays s here
  flushing z n (Some h) = changes (with_written s h.mode h.file flushed) n (λ r. moved_row r z.position 0) (written h.mode h.file flushed)

  shuts : (n : ℕ) (h : Option HandleOutline) → Acts s k (closes_handle in_bytes s k n h)
  shuts n None = stays s here
  shuts n (Some h) = sets (with_file (with_written s h.mode h.file flushed) h.file unlocked) n own.ClosedHandle (released h.mode h.file flushed)

  drops : (n : ℕ) (h : Option HandleOutline) → Acts s k (discards in_bytes s k n h)
  drops n None = stays s here
  drops n (Some h) = sets (with_file (with_written s h.mode h.file undone) h.file unlocked) n own.ClosedHandle (released h.mode h.file undone)

  pub effect-acts : (z : Sizes) (o : Op) → Acts s k (effect in_bytes s z k o)
  unfolding effect
  effect-acts z (op.GetDirectory bucket) = opens-bucket bucket (agent_of s k).key
  effect-acts z (op.GetDirectoryHandle dir name create) = makes (child (place_of dir) name) row.Directory
  effect-acts z (op.GetFileHandle dir name create) = makes (child (place_of dir) name) (new_row in_bytes kind.File (moment_of s k))
  effect-acts z (op.RemoveEntry dir name recursive) = let t = without s (child (place_of dir) name) in stays t (plain t refl refl refl refl)
  effect-acts z (op.Values dir) = adds s (in_bytes.iterator dir) here
  effect-acts z (op.Next n dir) = changes s n (λ r. advanced_row r (children_of s (place_of dir))) here
  effect-acts z (op.Resolve dir entry) = stays s here
  effect-acts z (op.IsSameEntry entry to) = stays s here
  effect-acts z (op.GetFile at) = snaps (file_at s (place_of at))
  effect-acts z (op.Slice n at len) = stays s here
  effect-acts z (op.CreateWritable at keep) = opens (place_of at) (first_reserve in_bytes s at keep) keep (file_at s (place_of at))
  effect-acts z (op.Write n bytes position) = changes s n (λ r. written_row r (start_of z position) bytes (reserve_for (reserve_of (outline_of r)) (size_written z position bytes))) here
  effect-acts z (op.Seek n position) = changes s n (λ r. sought_row r position) here
  effect-acts z (op.Truncate n size) = changes s n (λ r. truncated_row r size (reserve_for (reserve_of (outline_of r)) size)) here
  effect-acts z (op.Close n) = closes z n (open_stream in_bytes s k n)
  effect-acts z (op.Abort n) = aborts n (open_stream in_bytes s k n)
  effect-acts z (op.CreateSyncAccessHandle at m) =
      let t = with_file s (place_of at) (with_lock (want_of m)) in adds t (in_bytes.handle (place_of at) m) (plain t refl refl refl refl)
  effect-acts z (op.SyncRead n len at) = changes s n (λ r. moved_row r (cursor_after_read z len at) (reserve_of (outline_of r))) here
  effect-acts z (op.SyncWrite n bytes at) = alters n (λ f. in_bytes.overwritten f (start_of z at) bytes) (start_of z at + length bytes) (size_written z at bytes) (open_handle in_bytes s k n)
  effect-acts z (op.SyncTruncate n size) = alters n (λ f. in_bytes.cut f size) (min z.position size) size (open_handle in_bytes s k n)
  effect-acts z (op.SyncGetSize n) = stays s here
  effect-acts z (op.SyncFlush n) = flushing z n (open_handle in_bytes s k n)
  effect-acts z (op.SyncClose n) = shuts n (open_handle in_bytes s k n)
  effect-acts z (op.Persist bucket) = stays (persists s bucket (agent_of s k).grant (agent_of s k).key) (persists-on bucket (agent_of s k).grant (agent_of s k).key)
  effect-acts z (op.Persisted bucket) = stays s here
  effect-acts z op.Estimate = stays s here
  effect-acts z (op.Moment ms) = acts s (record (agent_of s k) { moment = ms }) here
  effect-acts z (op.Post tag) =
      let t = record s { posted = s.posted ++ record { party = party_of s k; tag = tag } ∷ [] } in stays t (plain t refl refl refl refl)
  effect-acts z (op.Await tag) = acts s (record (agent_of s k) { waits = None }) here
  effect-acts z (op.Wait tag) = acts s (record (agent_of s k) { waits = Some tag }) here
  effect-acts z (op.Discard n) = drops n (open_handle in_bytes s k n)
  effect-acts z op.End = acts s (record (agent_of s k) { live = false; waits = None }) here
  effect-acts z (op.Unbound word) = stays s here
  effect-acts z (op.Evict unit) = stays s here

  refused-acts : (o : Op) → Acts s k (refused s k o)
  refused-acts (op.Await tag) = acts s (record (agent_of s k) { waits = None }) here
  refused-acts o = stays s here

  pub changed-acts : (o : Op) (told : Reply) → Acts s k (changed_by s k o told)
  changed-acts o told =
      elim (is_refusal told) as (λ b. Acts s k (elim b as (λ x. State Text Own) [ true ↦ refused s k o | false ↦ effect in_bytes s (sizes_of s k o) k o ])) [
        | true ↦ refused-acts o
        | false ↦ effect-acts (sizes_of s k o) o
      ]

  -- Another agent is as it was.
  pub acts-other : (t : State Text Own) (j : ℕ) → Acts s k t → j ≢ k → agent_of t j ≡ agent_of s j
  acts-other t j h apart = ap (λ xs. agent_in xs j) h.agents ∙ agent-other s k j h.agent number apart
