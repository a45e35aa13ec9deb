-- What a call changes is the same in the other form.
use Rattle.std.proofs.Common.{◌≡◌, ℕ, ◌+◌, ◌-◌, min, Bool, true, false, if◌then◌else◌, List, [], ◌∷◌, ◌++◌, length, map, slice_set, Option, Some, None, option_map, refl, sym, ap, ◌∙◌}
use Rattle.std.specs.FinMap.Entries.{put, by_order}
use Rattle.std.specs.Ordering.{is_eq}
use Rattle.std.specs.declared.cmp.Ordering.TheVariants.{Less, Equal, Greater}
use Rattle.opfs_base.specs.Texts.{Text}
use Rattle.opfs_base.specs.Places.{Place, place_cmp, place_of, child}
use Rattle.opfs_base.specs.Units.{unit_of}
use Rattle.opfs_base.specs.declared.locator.Kind.{Kind}
use Rattle.opfs_base.specs.declared.locator.Kind.TheVariants as kind
use Rattle.opfs_hist.specs.declared.op.Mode.{Mode}
use Rattle.opfs_hist.specs.declared.op.Mode.TheVariants as mode
use Rattle.opfs_hist.specs.declared.op.Op.{Op}
use Rattle.opfs_hist.specs.declared.op.Op.TheVariants as op
use Rattle.opfs_locks.specs.Taking.{open_lock}
use Rattle.opfs_locks.specs.declared.Want.TheVariants as want
use Rattle.opfs_machine.specs.declared.own.HandleOutline.{HandleOutline}
use Rattle.opfs_machine.specs.declared.own.StreamOutline.{StreamOutline}
use Rattle.opfs_machine.specs.declared.state.Agent.{Agent}
use Rattle.opfs_machine.specs.declared.state.FileRow.{FileRow}
use Rattle.opfs_machine.specs.declared.state.Row.{Row}
use Rattle.opfs_machine.specs.declared.state.Row.TheVariants as row
use Rattle.opfs_machine.specs.declared.state.Sizes.{Sizes}
use Rattle.opfs_machine.specs.declared.state.State.{State}
use Rattle.opfs_machine.specs.Agents.{agent_of, own_of, with_agent, with_own, adds_own, open_stream, open_handle, used_now, counted, party_with}
use Rattle.opfs_machine.specs.Contents.{Contents}
use Rattle.opfs_machine.specs.Effects.{effect, refused, made, new_row, moment_of, opens_bucket, opens_stream, takes_snapshot, closes_stream, aborts_stream, changes_file, flushes, closes_handle, discards, persists, with_written, with_changed, with_waiting, with_lock, flushed, unlocked, undone, replaced, content_of, cursor_after_read}
use Rattle.opfs_machine.specs.Rows.{Rows, row_at, with_row, file_at, with_file, change_at, changed_row, children_of}
use Rattle.opfs_machine.specs.Rulings.{start_of, size_written, reserve_for, want_of, first_reserve}
use Rattle.opfs_machine.specs.Sums.{reserve_of}
use Rattle.opfs_laws.specs.Lengths.Outlines.{on_file, on_row, on_entry, on_agent, on_state}
use Rattle.opfs_laws.proofs.lengths.Lists.{map-set, map-joined}
use Rattle.opfs_laws.proofs.lengths.Readers.{Fits, agent-on, key-on, row-at-on, row-on, file-on, children-on, stream-on, handle-on}
use Rattle.opfs_laws.proofs.lengths.SameRoom.{without-on}
use Rattle.opfs_laws.proofs.lengths.SameRulings.{reserve-same}

-- The same small change in both forms.
module _ {F R G Q : Type 0} (f : F → G) (g : R → Q) where
  abbrev on : State F R → State G Q
  on s = on_state f g s

  abbrev with_rows : State F R → Rows G → State G Q
  with_rows s rows = record (on s) { rows = rows }

  -- Two changes of a file that are the same in both forms.
  abbrev Goes : (FileRow G → FileRow G) → (FileRow F → FileRow F) → Type 0
  Goes after before = (x : FileRow F) → after (on_file f x) ≡ on_file f (before x)

  abbrev change_by : (FileRow G → FileRow G) → Place × Row G → Rows G → Rows G → Bool → Rows G
  change_by change e es more b = elim b [ true ↦ (e.0, changed_row change e.1) ∷ es | false ↦ e ∷ more ]

  abbrev changed_here : (FileRow F → FileRow F) → Place × Row F → Rows F → Rows F → Bool → Rows F
  changed_here change e es more b = elim b [ true ↦ (e.0, changed_row change e.1) ∷ es | false ↦ e ∷ more ]

  row-changed : (after : FileRow G → FileRow G) (before : FileRow F → FileRow F) → Goes after before → (r : Row F) → changed_row after (on_row f r) ≡ on_row f (changed_row before r)
  row-changed after before goes row.Directory = refl
  row-changed after before goes (row.File x) = ap row.File (goes x)

  change-on : (after : FileRow G → FileRow G) (before : FileRow F → FileRow F) → Goes after before → (p : Place) (es : Rows F)
      → change_at p after (map (on_entry f) es) ≡ map (on_entry f) (change_at p before es)
  change-on after before goes p [] = refl
  change-on after before goes p (e ∷ es) =
      elim (is_eq (place_cmp p e.0)) as (λ b. change_by after (on_entry f e) (map (on_entry f) es) (change_at p after (map (on_entry f) es)) b ≡ map (on_entry f) (changed_here before e es (change_at p before es) b)) [
        | true ↦ ap (λ (r : Row G). (e.0, r) ∷ map (on_entry f) es) (row-changed after before goes e.1)
        | false ↦ ap (λ xs. on_entry f e ∷ xs) (change-on after before goes p es)
      ]

  pub with_file-on : (s : State F R) (p : Place) (after : FileRow G → FileRow G) (before : FileRow F → FileRow F) → Goes after before
      → with_file (on s) p after ≡ on (with_file s p before)
  with_file-on s p after before goes = ap (with_rows s) (change-on after before goes p s.rows)

  put-on : (p : Place) (r : Row F) (es : Rows F) → put place_cmp p (on_row f r) (map (on_entry f) es) ≡ map (on_entry f) (put place_cmp p r es)
  put-on p r [] = refl
  put-on p r (e ∷ es) =
      elim (place_cmp p e.0) as (λ o. by_order o ((p, on_row f r) ∷ on_entry f e ∷ map (on_entry f) es) ((e.0, on_row f r) ∷ map (on_entry f) es) (on_entry f e ∷ put place_cmp p (on_row f r) (map (on_entry f) es))
      ≡ map (on_entry f) (by_order o ((p, r) ∷ e ∷ es) ((e.0, r) ∷ es) (e ∷ put place_cmp p r es))) [
        | Less ↦ refl
        | Equal ↦ refl
        | Greater ↦ ap (λ xs. on_entry f e ∷ xs) (put-on p r es)
      ]

  abbrev made_by : State G Q → State G Q → Option (Row G) → State G Q
  made_by s new o = elim o [ Some old ↦ s | None ↦ new ]

  pub made-on : (s : State F R) (p : Place) (r : Row F) → made (on s) p (on_row f r) ≡ on (made s p r)
  made-on s p r =
      ap (made_by (on s) (with_row (on s) p (on_row f r))) (row-on f g s p)
      ∙ (elim (row_at s p) as (λ o. made_by (on s) (with_row (on s) p (on_row f r)) (option_map (on_row f) o) ≡ on (elim o as (λ x. State F R) [ Some old ↦ s | None ↦ with_row s p r ])) [
        | Some old ↦ refl
        | None ↦ ap (with_rows s) (put-on p r s.rows)
      ])

  pub agents-on : (s : State F R) (k : ℕ) (a : Agent R) → with_agent (on s) k (on_agent g a) ≡ on (with_agent s k a)
  agents-on s k a = ap (λ (agents : List (Agent Q)). record (on s) { agents = agents }) (map-set (on_agent g) s.agents (k - 1) a)

  -- A change of the agent itself.
  pub acts-on : (s : State F R) (k : ℕ) (after : Agent Q → Agent Q) (before : Agent R → Agent R) → ((a : Agent R) → after (on_agent g a) ≡ on_agent g (before a))
      → with_agent (on s) k (after (agent_of (on s) k)) ≡ on (with_agent s k (before (agent_of s k)))
  acts-on s k after before goes = ap (λ a. with_agent (on s) k a) (ap after (agent-on f g s k) ∙ goes (agent_of s k)) ∙ agents-on s k (before (agent_of s k))

  pub sets-on : (s : State F R) (k n : ℕ) (r : R) → with_own (on s) k n (g r) ≡ on (with_own s k n r)
  sets-on s k n r =
      acts-on s k (λ a. record a { own = slice_set a.own (n - 1) (g r) }) (λ a. record a { own = slice_set a.own (n - 1) r })
      (λ a. ap (λ (own : List Q). record (on_agent g a) { own = own }) (map-set g a.own (n - 1) r))

  pub adds-on : (s : State F R) (k : ℕ) (r : R) → adds_own (on s) k (g r) ≡ on (adds_own s k r)
  adds-on s k r =
      acts-on s k (λ a. record a { own = a.own ++ g r ∷ [] }) (λ a. record a { own = a.own ++ r ∷ [] })
      (λ a. ap (λ (own : List Q). record (on_agent g a) { own = own }) (sym (map-joined g a.own (r ∷ []))))

  abbrev changed_if : State G Q → ℕ → ℕ → (Q → Q) → Option Q → State G Q
  changed_if s k n h o = elim o [ Some r ↦ with_own s k n (h r) | None ↦ s ]

  pub changes-on : (s : State F R) (k n : ℕ) (after : Q → Q) (before : R → R) → ((r : R) → after (g r) ≡ g (before r))
      → with_changed (on s) k n after ≡ on (with_changed s k n before)
  unfolding with_changed
  changes-on s k n after before goes =
      ap (changed_if (on s) k n after) (row-at-on f g s k n)
      ∙ (elim (own_of (agent_of s k) n) as (λ o. changed_if (on s) k n after (option_map g o) ≡ on (elim o as (λ x. State F R) [ Some r ↦ with_own s k n (before r) | None ↦ s ])) [
        | Some r ↦ ap (with_own (on s) k n) (goes r) ∙ sets-on s k n (before r)
        | None ↦ refl
      ])

  moment-on : (s : State F R) (k : ℕ) → moment_of (on s) k ≡ moment_of s k
  moment-on s k = ap (λ a. a.moment) (agent-on f g s k)

  abbrev written_by : State G Q → Place → (FileRow G → FileRow G) → Bool → State G Q
  written_by s p change b = if b then with_file s p change else s

  pub writes-on : (s : State F R) (m : Mode) (p : Place) (after : FileRow G → FileRow G) (before : FileRow F → FileRow F) → Goes after before
      → with_written (on s) m p after ≡ on (with_written s m p before)
  writes-on s mode.ReadWrite p after before goes = with_file-on s p after before goes
  writes-on s mode.ReadOnly p after before goes = refl

  pub counted-on : (s : State F R) (k : ℕ) → counted (on s) k ≡ on (counted s k)
  counted-on s k = ap (λ key. record (on s) { entries = s.entries + 1; used = used_now s key }) (key-on f g s k)

  waits-on : (s : State F R) (k : ℕ) (tag : Option Text) → with_waiting (on s) k tag ≡ on (with_waiting s k tag)
  waits-on s k tag = acts-on s k (λ a. record a { waits = tag }) (λ a. record a { waits = tag }) (λ a. refl)

  pub refused-on : (s : State F R) (k : ℕ) (o : Op) → refused (on s) k o ≡ on (refused s k o)
  refused-on s k (op.Await tag) = waits-on s k None
  refused-on s k o = refl

  unlocks-on : (s : State F R) (p : Place) → with_file (on s) p unlocked ≡ on (with_file s p unlocked)
  unlocks-on s p = with_file-on s p unlocked unlocked (λ x. refl)

  bucket-on : (s : State F R) (bucket : Text) (o : Option Text) → opens_bucket (on s) bucket o ≡ on (opens_bucket s bucket o)
  bucket-on s bucket None = refl
  bucket-on s bucket (Some origin) = made-on s (unit_of origin bucket, []) row.Directory

  persists-on : (s : State F R) (bucket : Text) (grant : Bool) (o : Option Text) → persists (on s) bucket grant o ≡ on (persists s bucket grant o)
  persists-on s bucket grant None = refl
  persists-on s bucket true (Some origin) = refl
  persists-on s bucket false (Some origin) = refl

-- What each call changes.
module _ {F R G Q : Type 0} (c : Contents F R) (d : Contents G Q) (f : F → G) (g : R → Q) (fits : Fits c d f g) (s : State F R) (k : ℕ) where
  abbrev other : State G Q
  other = on_state f g s

  new-on : (kd : Kind) (stamp : ℕ) → new_row d kd stamp ≡ on_row f (new_row c kd stamp)
  new-on kind.File stamp = ap (λ x. row.File (record { present = x; stamp = stamp; lock = open_lock; durable = x; durable_stamp = stamp })) fits.empty
  new-on kind.Directory stamp = refl

  files-made : (p : Place) → made other p (new_row d kind.File (moment_of other k)) ≡ on_state f g (made s p (new_row c kind.File (moment_of s k)))
  files-made p =
      ap (made other p) (ap (new_row d kind.File) (moment-on f g s k) ∙ new-on kind.File (moment_of s k)) ∙ made-on f g s p (new_row c kind.File (moment_of s k))

  abbrev first_content : Bool → F → F
  first_content keep x = if keep then x else c.empty

  content-on : (keep : Bool) (x : F) → (if keep then f x else d.empty) ≡ f (first_content keep x)
  content-on true x = refl
  content-on false x = fits.empty

  opens-on : (p : Place) (reserve : ℕ) (keep : Bool) (o : Option (FileRow F)) → opens_stream d other k p reserve keep (option_map (on_file f) o) ≡ on_state f g (opens_stream c s k p reserve keep o)
  opens-on p reserve keep None = refl
  opens-on p reserve keep (Some x) =
      (λ i. adds_own (with_file-on f g s p (with_lock want.Shared) (with_lock want.Shared) (λ y. refl) i) k (row i))
      ∙ adds-on f g (with_file s p (with_lock want.Shared)) k (c.stream p (first_content keep x.present) reserve)
    where
      row : d.stream p (if keep then f x.present else d.empty) reserve ≡ g (c.stream p (first_content keep x.present) reserve)
      row = ap (λ y. d.stream p y reserve) (content-on keep x.present) ∙ fits.stream p (first_content keep x.present) reserve

  snaps-on : (o : Option (FileRow F)) → takes_snapshot d other k (option_map (on_file f) o) ≡ on_state f g (takes_snapshot c s k o)
  snaps-on None = refl
  snaps-on (Some x) = ap (adds_own other k) (fits.snapshot x.present) ∙ adds-on f g s k (c.snapshot x.present)

  -- What a stream stores: asked where it is closed.
  abbrev Stores : ℕ → ℕ → Type 0
  Stores n size = content_of d (option_map g (own_of (agent_of s k) n)) size ≡ f (content_of c (own_of (agent_of s k) n) size)

  closes-on : (z : Sizes) (n : ℕ) (w : Option StreamOutline) → ((x : StreamOutline) → w ≡ Some x → Stores n z.size)
      → closes_stream d other z k n w ≡ on_state f g (closes_stream c s z k n w)
  closes-on z n None stores = refl
  closes-on z n (Some w) stores =
      let stored = content_of c (own_of (agent_of s k) n) z.size in
      let content : content_of d (own_of (agent_of other k) n) z.size ≡ f stored = ap (λ o. content_of d o z.size) (row-at-on f g s k n) ∙ stores w refl in
      let first = with_file-on f g s w.file (replaced (f stored) (moment_of s k)) (replaced stored (moment_of s k)) (λ x. refl) in
      let t = with_file s w.file (replaced stored (moment_of s k)) in
      (λ i. with_own (with_file (with_file other w.file (replaced (content i) (moment-on f g s k i))) w.file unlocked) k n (fits.closed_stream i))
      ∙ ap (λ u. with_own (with_file u w.file unlocked) k n (g c.closed_stream)) first
      ∙ ap (λ u. with_own u k n (g c.closed_stream)) (unlocks-on f g t w.file)
      ∙ sets-on f g (with_file t w.file unlocked) k n c.closed_stream

  aborts-on : (n : ℕ) (w : Option StreamOutline) → aborts_stream d other k n w ≡ on_state f g (aborts_stream c s k n w)
  aborts-on n None = refl
  aborts-on n (Some w) =
      (λ i. with_own (unlocks-on f g s w.file i) k n (fits.closed_stream i)) ∙ sets-on f g (with_file s w.file unlocked) k n c.closed_stream

  alters-on : (n : ℕ) (after : G → G) (before : F → F) → ((x : F) → after (f x) ≡ f (before x)) → (cursor size : ℕ) (h : Option HandleOutline)
      → changes_file d other k n after cursor size h ≡ on_state f g (changes_file c s k n before cursor size h)
  unfolding changes_file
  alters-on n after before goes cursor size None = refl
  alters-on n after before goes cursor size (Some h) =
      let change = λ (x : FileRow F). record x { present = before x.present; stamp = moment_of s k } in
      let moves = λ (r : R). c.moved r cursor (reserve_for h.reserve size) in
      ap (λ m. with_changed (with_file other h.file (λ x. record x { present = after x.present; stamp = m })) k n (λ r. d.moved r cursor (reserve_for h.reserve size))) (moment-on f g s k)
      ∙ ap (λ u. with_changed u k n (λ r. d.moved r cursor (reserve_for h.reserve size)))
      (with_file-on f g s h.file (λ x. record x { present = after x.present; stamp = moment_of s k }) change (λ x. ap (λ y. record (on_file f x) { present = y; stamp = moment_of s k }) (goes x.present)))
      ∙ changes-on f g (with_file s h.file change) k n (λ r. d.moved r cursor (reserve_for h.reserve size)) moves (λ r. fits.moved r cursor (reserve_for h.reserve size))

  flushes-on : (z : Sizes) (n : ℕ) (h : Option HandleOutline) → flushes d other z k n h ≡ on_state f g (flushes c s z k n h)
  flushes-on z n None = refl
  flushes-on z n (Some h) =
      ap (λ u. with_changed u k n (λ r. d.moved r z.position 0)) (writes-on f g s h.mode h.file flushed flushed (λ x. refl))
      ∙ changes-on f g (with_written s h.mode h.file flushed) k n (λ r. d.moved r z.position 0) (λ r. c.moved r z.position 0) (λ r. fits.moved r z.position 0)

  ends-on : (n : ℕ) (h : HandleOutline) (after : FileRow G → FileRow G) (before : FileRow F → FileRow F) → Goes f g after before
      → with_own (with_file (with_written other h.mode h.file after) h.file unlocked) k n d.closed_handle
      ≡ on_state f g (with_own (with_file (with_written s h.mode h.file before) h.file unlocked) k n c.closed_handle)
  ends-on n h after before goes =
      let u = with_written s h.mode h.file before in
      (λ i. with_own (with_file (writes-on f g s h.mode h.file after before goes i) h.file unlocked) k n (fits.closed_handle i))
      ∙ ap (λ t. with_own t k n (g c.closed_handle)) (unlocks-on f g u h.file)
      ∙ sets-on f g (with_file u h.file unlocked) k n c.closed_handle

  shuts-on : (n : ℕ) (h : Option HandleOutline) → closes_handle d other k n h ≡ on_state f g (closes_handle c s k n h)
  shuts-on n None = refl
  shuts-on n (Some h) = ends-on n h flushed flushed (λ x. refl)

  discards-on : (n : ℕ) (h : Option HandleOutline) → discards d other k n h ≡ on_state f g (discards c s k n h)
  discards-on n None = refl
  discards-on n (Some h) = ends-on n h undone undone (λ x. refl)

  reserved : (r : R) → reserve_of (d.outline (g r)) ≡ reserve_of (c.outline r)
  reserved r = ap reserve_of (fits.outline r)

  pub effect-on : (z : Sizes) (o : Op) → ((n : ℕ) → o ≡ op.Close n → (x : StreamOutline) → open_stream c s k n ≡ Some x → Stores n z.size)
      → effect d other z k o ≡ on_state f g (effect c s z k o)
  unfolding effect
  effect-on z (op.GetDirectory bucket) stores = ap (opens_bucket other bucket) (key-on f g s k) ∙ bucket-on f g s bucket (agent_of s k).key
  effect-on z (op.GetDirectoryHandle dir name create) stores = made-on f g s (child (place_of dir) name) row.Directory
  effect-on z (op.GetFileHandle dir name create) stores = files-made (child (place_of dir) name)
  effect-on z (op.RemoveEntry dir name recursive) stores = without-on f g s (child (place_of dir) name)
  effect-on z (op.Values dir) stores = ap (adds_own other k) (fits.iterator dir) ∙ adds-on f g s k (c.iterator dir)
  effect-on z (op.Next n dir) stores =
      ap (λ names. with_changed other k n (λ r. d.advanced r names)) (children-on f g s (place_of dir))
      ∙ changes-on f g s k n (λ r. d.advanced r (children_of s (place_of dir))) (λ r. c.advanced r (children_of s (place_of dir))) (λ r. fits.advanced r (children_of s (place_of dir)))
  effect-on z (op.Resolve dir entry) stores = refl
  effect-on z (op.IsSameEntry entry to) stores = refl
  effect-on z (op.GetFile at) stores = ap (takes_snapshot d other k) (file-on f g s (place_of at)) ∙ snaps-on (file_at s (place_of at))
  effect-on z (op.Slice n at len) stores = refl
  effect-on z (op.CreateWritable at keep) stores =
      (λ i. opens_stream d other k (place_of at) (reserve-same c d f g fits s k at keep i) keep (file-on f g s (place_of at) i))
      ∙ opens-on (place_of at) (first_reserve c s at keep) keep (file_at s (place_of at))
  effect-on z (op.Write n bytes position) stores =
      let size = size_written z position bytes in
      changes-on f g s k n (λ r. d.written r (start_of z position) bytes (reserve_for (reserve_of (d.outline r)) size))
      (λ r. c.written r (start_of z position) bytes (reserve_for (reserve_of (c.outline r)) size))
      (λ r. ap (λ m. d.written (g r) (start_of z position) bytes (reserve_for m size)) (reserved r) ∙ fits.written r (start_of z position) bytes (reserve_for (reserve_of (c.outline r)) size))
  effect-on z (op.Seek n position) stores = changes-on f g s k n (λ r. d.sought r position) (λ r. c.sought r position) (λ r. fits.sought r position)
  effect-on z (op.Truncate n size) stores =
      changes-on f g s k n (λ r. d.truncated r size (reserve_for (reserve_of (d.outline r)) size)) (λ r. c.truncated r size (reserve_for (reserve_of (c.outline r)) size))
      (λ r. ap (λ m. d.truncated (g r) size (reserve_for m size)) (reserved r) ∙ fits.truncated r size (reserve_for (reserve_of (c.outline r)) size))
  effect-on z (op.Close n) stores = ap (closes_stream d other z k n) (stream-on c d f g fits s k n) ∙ closes-on z n (open_stream c s k n) (stores n refl)
  effect-on z (op.Abort n) stores = ap (aborts_stream d other k n) (stream-on c d f g fits s k n) ∙ aborts-on n (open_stream c s k n)
  effect-on z (op.CreateSyncAccessHandle at m) stores =
      (λ i. adds_own (with_file-on f g s (place_of at) (with_lock (want_of m)) (with_lock (want_of m)) (λ x. refl) i) k (fits.handle (place_of at) m i))
      ∙ adds-on f g (with_file s (place_of at) (with_lock (want_of m))) k (c.handle (place_of at) m)
  effect-on z (op.SyncRead n len at) stores =
      changes-on f g s k n (λ r. d.moved r (cursor_after_read z len at) (reserve_of (d.outline r))) (λ r. c.moved r (cursor_after_read z len at) (reserve_of (c.outline r)))
      (λ r. ap (d.moved (g r) (cursor_after_read z len at)) (reserved r) ∙ fits.moved r (cursor_after_read z len at) (reserve_of (c.outline r)))
  effect-on z (op.SyncWrite n bytes at) stores =
      ap (changes_file d other k n (λ x. d.overwritten x (start_of z at) bytes) (start_of z at + length bytes) (size_written z at bytes)) (handle-on c d f g fits s k n)
      ∙ alters-on n (λ x. d.overwritten x (start_of z at) bytes) (λ x. c.overwritten x (start_of z at) bytes) (λ x. fits.overwritten x (start_of z at) bytes) (start_of z at + length bytes) (size_written z at bytes) (open_handle c s k n)
  effect-on z (op.SyncTruncate n size) stores =
      ap (changes_file d other k n (λ x. d.cut x size) (min z.position size) size) (handle-on c d f g fits s k n)
      ∙ alters-on n (λ x. d.cut x size) (λ x. c.cut x size) (λ x. fits.cut x size) (min z.position size) size (open_handle c s k n)
  effect-on z (op.SyncGetSize n) stores = refl
  effect-on z (op.SyncFlush n) stores = ap (flushes d other z k n) (handle-on c d f g fits s k n) ∙ flushes-on z n (open_handle c s k n)
  effect-on z (op.SyncClose n) stores = ap (closes_handle d other k n) (handle-on c d f g fits s k n) ∙ shuts-on n (open_handle c s k n)
  effect-on z (op.Persist bucket) stores =
      (λ i. persists other bucket (agent-on f g s k i).grant (agent-on f g s k i).key) ∙ persists-on f g s bucket (agent_of s k).grant (agent_of s k).key
  effect-on z (op.Persisted bucket) stores = refl
  effect-on z op.Estimate stores = refl
  effect-on z (op.Moment ms) stores = acts-on f g s k (λ a. record a { moment = ms }) (λ a. record a { moment = ms }) (λ a. refl)
  effect-on z (op.Post tag) stores = ap (λ o. record other { posted = s.posted ++ record { party = party_with o k; tag = tag } ∷ [] }) (key-on f g s k)
  effect-on z (op.Await tag) stores = waits-on f g s k None
  effect-on z (op.Wait tag) stores = waits-on f g s k (Some tag)
  effect-on z (op.Discard n) stores = ap (discards d other k n) (handle-on c d f g fits s k n) ∙ discards-on n (open_handle c s k n)
  effect-on z op.End stores = acts-on f g s k (λ a. record a { live = false; waits = None }) (λ a. record a { live = false; waits = None }) (λ a. refl)
  effect-on z (op.Unbound word) stores = refl
  effect-on z (op.Evict unit) stores = refl
