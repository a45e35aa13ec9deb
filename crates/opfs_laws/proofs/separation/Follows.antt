-- Two states side by side: what a call of one agent changes in both.
use Rattle.std.proofs.Common.{◌≡◌, ◌-◌, ◌+◌, min, ℕ, Bool, true, false, if◌then◌else◌, [], ◌∷◌, ◌++◌, length, slice_set, Option, Some, None, refl, sym, ap, ◌∙◌, subst}
use Rattle.std.specs.Ordering.{nat_cmp}
use Rattle.std.specs.Cmp.Lexicographic.{slice_cmp}
use Rattle.std.specs.Cmp.{first_so}
use Rattle.opfs_base.specs.Blocks.{blocks}
use Rattle.opfs_base.specs.Texts.{Text}
use Rattle.opfs_base.specs.Places.{Place, place_of, child}
use Rattle.opfs_base.specs.Units.{unit_of}
use Rattle.opfs_base.specs.declared.locator.Kind.TheVariants as kind
use Rattle.opfs_base.specs.declared.locator.Locator.{Locator}
use Rattle.opfs_hist.specs.declared.op.Mode.{Mode}
use Rattle.opfs_hist.specs.declared.op.Op.{Op}
use Rattle.opfs_hist.specs.declared.op.Op.TheVariants as op
use Rattle.opfs_locks.specs.declared.Want.TheVariants as want
use Rattle.opfs_machine.specs.declared.own.HandleOutline.{HandleOutline}
use Rattle.opfs_machine.specs.declared.own.StreamOutline.{StreamOutline}
use Rattle.opfs_machine.specs.declared.own.Own.{Own}
use Rattle.opfs_machine.specs.declared.own.Own.TheVariants as own
use Rattle.opfs_machine.specs.declared.state.Agent.{Agent}
use Rattle.opfs_machine.specs.declared.state.FileRow.{FileRow}
use Rattle.opfs_machine.specs.declared.state.Row.{Row}
use Rattle.opfs_machine.specs.declared.state.Row.TheVariants as row
use Rattle.opfs_machine.specs.declared.state.Sizes.{Sizes}
use Rattle.opfs_machine.specs.declared.state.State.{State}
use Rattle.opfs_machine.specs.Agents.{agent_of, own_of, with_agent, with_own, adds_own, open_stream, open_handle, stream_in, handle_in, of_row, party_with}
use Rattle.opfs_machine.specs.Contents.{in_bytes, outline_of, written_row, truncated_row, sought_row, moved_row, advanced_row}
use Rattle.opfs_machine.specs.Effects.{effect, refused, made, new_row, moment_of, opens_bucket, opens_stream, takes_snapshot, closes_stream, aborts_stream, changes_file, flushes, closes_handle, discards, persists, with_written, with_changed, with_lock, flushed, unlocked, undone, replaced, content_of, cursor_after_read}
use Rattle.opfs_machine.specs.Histories.{may_enter, is_own}
use Rattle.opfs_machine.specs.Ordered.{insert_by}
use Rattle.opfs_machine.specs.Rows.{row_at, with_row, file_of, file_at, with_file, without, children_of}
use Rattle.opfs_machine.specs.Rulings.{start_of, size_written, reserve_for, want_of, is_read_write, size_in}
use Rattle.opfs_machine.specs.Sums.{reserve_of}
use Rattle.opfs_machine.specs.Victims.{is_callers}
use Rattle.opfs_laws.proofs.OwnFiles.{OwnFiles, HasOwnFile, callers-own}
use Rattle.opfs_laws.proofs.OwnKept.{keeps-row}

abbrev pub Pair : Type 1
Pair = State Text Own → State Text Own → Type 0

-- A relation between two states that each small change of an agent with this key and number keeps.
pub record Follows (key : Option Text) (k : ℕ) (Q : Pair) : Type 0 where
  pub agent : (s t : State Text Own) → Q s t → agent_of s k ≡ agent_of t k
  pub keyed : (s t : State Text Own) → Q s t → (agent_of s k).key ≡ key
  pub rows : (s t : State Text Own) (place : Place) → is_callers key place.0 ≡ true → Q s t → row_at s place ≡ row_at t place
  pub children : (s t : State Text Own) (dir : Place) → is_callers key dir.0 ≡ true → Q s t → children_of s dir ≡ children_of t dir
  pub put : (s t : State Text Own) (place : Place) (r : Row Text) → is_callers key place.0 ≡ true → Q s t → Q (with_row s place r) (with_row t place r)
  pub alter : (s t : State Text Own) (place : Place) (change : FileRow Text → FileRow Text) → is_callers key place.0 ≡ true → Q s t → Q (with_file s place change) (with_file t place change)
  pub remove : (s t : State Text Own) (place : Place) → is_callers key place.0 ≡ true → Q s t → Q (without s place) (without t place)
  pub act : (s t : State Text Own) (a : Agent Own) → a.key ≡ key → Q s t → Q (with_agent s k a) (with_agent t k a)
  pub mode : (s t : State Text Own) (unit : Text) → is_callers key unit ≡ true → Q s t
      → Q (record s { persistent = insert_by (slice_cmp nat_cmp) unit s.persistent }) (record t { persistent = insert_by (slice_cmp nat_cmp) unit t.persistent })
  pub post : (s t : State Text Own) (tag : Text) → Q s t
      → Q (record s { posted = s.posted ++ record { party = party_with key k; tag = tag } ∷ [] }) (record t { posted = t.posted ++ record { party = party_with key k; tag = tag } ∷ [] })

-- A key whose units are its own: it has no `#`.
abbrev pub IsPlain : Option Text → Type 0
IsPlain key = (origin bucket : Text) → key ≡ Some origin → is_callers key (unit_of origin bucket) ≡ true

same_key : (a b : Option Text) (unit : Text) → a ≡ b → is_callers a unit ≡ true → is_callers b unit ≡ true
same_key a b unit same is = ap (λ key. is_callers key unit) (sym same) ∙ is

-- The file of an open stream is the agent's own.
stream-file : (key : Option Text) (r : Option Own) (w : StreamOutline) → ((x : Own) → r ≡ Some x → HasOwnFile key x) → of_row (λ x. stream_in (outline_of x)) r ≡ Some w → is_callers key w.file.0 ≡ true
stream-file key None w all is = cc
stream-file key (Some (own.Stream x)) w all is = ap (λ (f : Option StreamOutline). elim f [ Some y ↦ is_callers key y.file.0 | None ↦ true ]) (sym is) ∙ all (own.Stream x) refl
stream-file key (Some r) w all is = cc

handle-file : (key : Option Text) (r : Option Own) (h : HandleOutline) → ((x : Own) → r ≡ Some x → HasOwnFile key x) → of_row (λ x. handle_in (outline_of x)) r ≡ Some h → is_callers key h.file.0 ≡ true
handle-file key None h all is = cc
handle-file key (Some (own.Handle x)) h all is = ap (λ (f : Option HandleOutline). elim f [ Some y ↦ is_callers key y.file.0 | None ↦ true ]) (sym is) ∙ all (own.Handle x) refl
handle-file key (Some r) h all is = cc

pub open-stream-file : (s : State Text Own) (k n : ℕ) (w : StreamOutline) → OwnFiles s → open_stream in_bytes s k n ≡ Some w → is_callers (agent_of s k).key w.file.0 ≡ true
open-stream-file s k n w files is = stream-file (agent_of s k).key (own_of (agent_of s k) n) w (λ x here. keeps-row HasOwnFile s k n x files here) is

pub open-handle-file : (s : State Text Own) (k n : ℕ) (h : HandleOutline) → OwnFiles s → open_handle in_bytes s k n ≡ Some h → is_callers (agent_of s k).key h.file.0 ≡ true
open-handle-file s k n h files is = handle-file (agent_of s k).key (own_of (agent_of s k) n) h (λ x here. keeps-row HasOwnFile s k n x files here) is

module _ (key : Option Text) (k : ℕ) (Q : Pair) (f : Follows key k Q) where
  file-at : (s t : State Text Own) (place : Place) → is_callers key place.0 ≡ true → Q s t → file_at s place ≡ file_at t place
  file-at s t place is q = ap file_of (f.rows s t place is q)

  own-at : (s t : State Text Own) (at : Locator) → is_own s k at ≡ true → Q s t → is_callers key at.key ≡ true
  own-at s t at is q = same_key (agent_of s k).key key at.key (f.keyed s t q) (sym (callers-own (agent_of s k).key at) ∙ is)

  -- An agent that changes by what it was.
  acts : (s t : State Text Own) (change : Agent Own → Agent Own) → ((a : Agent Own) → (change a).key ≡ a.key) → Q s t
      → Q (with_agent s k (change (agent_of s k))) (with_agent t k (change (agent_of t k)))
  acts s t change keeps q =
      subst (λ a. Q (with_agent s k (change (agent_of s k))) (with_agent t k (change a))) (f.agent s t q)
      (f.act s t (change (agent_of s k)) (keeps (agent_of s k) ∙ f.keyed s t q) q)

  sets : (s t : State Text Own) (n : ℕ) (r : Own) → Q s t → Q (with_own s k n r) (with_own t k n r)
  sets s t n r q = acts s t (λ a. record a { own = slice_set a.own (n - 1) r }) (λ a. refl) q

  adds : (s t : State Text Own) (r : Own) → Q s t → Q (adds_own s k r) (adds_own t k r)
  adds s t r q = acts s t (λ a. record a { own = a.own ++ r ∷ [] }) (λ a. refl) q

  abbrev changed_by : State Text Own → ℕ → (Own → Own) → Option Own → State Text Own
  changed_by s n change r = elim r [ Some x ↦ with_own s k n (change x) | None ↦ s ]

  changes : (s t : State Text Own) (n : ℕ) (change : Own → Own) → Q s t → Q (with_changed s k n change) (with_changed t k n change)
  unfolding with_changed
  changes s t n change q =
      subst (λ r. Q (changed_by s n change (own_of (agent_of s k) n)) (changed_by t n change r)) (ap (λ a. own_of a n) (f.agent s t q))
      (elim (own_of (agent_of s k) n) as (λ r. Q (changed_by s n change r) (changed_by t n change r)) [ Some x ↦ sets s t n (change x) q | None ↦ q ])

  abbrev made_by : State Text Own → Place → Row Text → Option (Row Text) → State Text Own
  made_by s place r old = elim old [ Some x ↦ s | None ↦ with_row s place r ]

  makes : (s t : State Text Own) (place : Place) (r : Row Text) → is_callers key place.0 ≡ true → Q s t → Q (made s place r) (made t place r)
  makes s t place r is q =
      subst (λ old. Q (made_by s place r (row_at s place)) (made_by t place r old)) (f.rows s t place is q)
      (elim (row_at s place) as (λ old. Q (made_by s place r old) (made_by t place r old)) [ Some x ↦ q | None ↦ f.put s t place r is q ])

  bucket : IsPlain key → (s t : State Text Own) (name : Text) (o : Option Text) → o ≡ key → Q s t → Q (opens_bucket s name o) (opens_bucket t name o)
  bucket plain s t name None is q = q
  bucket plain s t name (Some origin) is q = makes s t (unit_of origin name, []) row.Directory (plain origin name (sym is)) q

  snapshot : (s t : State Text Own) (file : Option (FileRow Text)) → Q s t → Q (takes_snapshot in_bytes s k file) (takes_snapshot in_bytes t k file)
  snapshot s t None q = q
  snapshot s t (Some x) q = adds s t (own.Snapshot x.present) q

  stream : (s t : State Text Own) (place : Place) (reserve : ℕ) (keep : Bool) (file : Option (FileRow Text)) → is_callers key place.0 ≡ true → Q s t
      → Q (opens_stream in_bytes s k place reserve keep file) (opens_stream in_bytes t k place reserve keep file)
  stream s t place reserve keep None is q = q
  stream s t place reserve keep (Some x) is q =
      adds (with_file s place (with_lock want.Shared)) (with_file t place (with_lock want.Shared)) _ (f.alter s t place (with_lock want.Shared) is q)

  abbrev first_by : Bool → Option (FileRow Text) → ℕ
  first_by keep file = if keep then blocks (size_in in_bytes file) else 0

  opens : (s t : State Text Own) (at : Locator) (keep : Bool) → is_own s k at ≡ true → Q s t
      → Q (effect in_bytes s (record { size = 0; position = 0 }) k (op.CreateWritable at keep)) (effect in_bytes t (record { size = 0; position = 0 }) k (op.CreateWritable at keep))
  unfolding effect
  opens s t at keep is q =
      let here = own-at s t at is q in
      subst (λ file. Q (opens_stream in_bytes s k (place_of at) (first_by keep (file_at s (place_of at))) keep (file_at s (place_of at))) (opens_stream in_bytes t k (place_of at) (first_by keep file) keep file))
      (file-at s t (place_of at) here q)
      (stream s t (place_of at) (first_by keep (file_at s (place_of at))) keep (file_at s (place_of at)) here q)

  -- What the close of a stream does, by the agent that it reads.
  abbrev closed_by : State Text Own → Sizes → ℕ → Agent Own → Option StreamOutline → State Text Own
  closed_by s z n a None = s
  closed_by s z n a (Some w) =
      with_own (with_file (with_file s w.file (replaced (content_of in_bytes (own_of a n) z.size) a.moment)) w.file unlocked) k n own.ClosedStream

  closed-is : (s : State Text Own) (z : Sizes) (n : ℕ) (w : Option StreamOutline) → closes_stream in_bytes s z k n w ≡ closed_by s z n (agent_of s k) w
  closed-is s z n None = refl
  closed-is s z n (Some w) = refl

  abbrev stream_of : ℕ → Agent Own → Option StreamOutline
  stream_of n a = of_row (λ r. stream_in (outline_of r)) (own_of a n)

  abbrev handle_of : ℕ → Agent Own → Option HandleOutline
  handle_of n a = of_row (λ r. handle_in (outline_of r)) (own_of a n)

  close-one : (s t : State Text Own) (z : Sizes) (n : ℕ) (a : Agent Own) (w : Option StreamOutline) → ((x : StreamOutline) → w ≡ Some x → is_callers key x.file.0 ≡ true) → Q s t
      → Q (closed_by s z n a w) (closed_by t z n a w)
  close-one s t z n a None is q = q
  close-one s t z n a (Some w) is q =
      let change = replaced (content_of in_bytes (own_of a n) z.size) a.moment in
      sets (with_file (with_file s w.file change) w.file unlocked) (with_file (with_file t w.file change) w.file unlocked) n own.ClosedStream
      (f.alter (with_file s w.file change) (with_file t w.file change) w.file unlocked (is w refl) (f.alter s t w.file change (is w refl) q))

  stream-own : (s t : State Text Own) (n : ℕ) → OwnFiles s → Q s t → (x : StreamOutline) → open_stream in_bytes s k n ≡ Some x → is_callers key x.file.0 ≡ true
  stream-own s t n files q x is = same_key (agent_of s k).key key x.file.0 (f.keyed s t q) (open-stream-file s k n x files is)

  handle-own : (s t : State Text Own) (n : ℕ) → OwnFiles s → Q s t → (x : HandleOutline) → open_handle in_bytes s k n ≡ Some x → is_callers key x.file.0 ≡ true
  handle-own s t n files q x is = same_key (agent_of s k).key key x.file.0 (f.keyed s t q) (open-handle-file s k n x files is)

  closes : (s t : State Text Own) (z : Sizes) (n : ℕ) → OwnFiles s → Q s t
      → Q (closes_stream in_bytes s z k n (open_stream in_bytes s k n)) (closes_stream in_bytes t z k n (open_stream in_bytes t k n))
  closes s t z n files q =
      subst (Q (closes_stream in_bytes s z k n (open_stream in_bytes s k n)))
      (ap (λ a. closed_by t z n a (stream_of n a)) (f.agent s t q) ∙ sym (closed-is t z n (open_stream in_bytes t k n)))
      (subst (λ x. Q x (closed_by t z n (agent_of s k) (open_stream in_bytes s k n))) (sym (closed-is s z n (open_stream in_bytes s k n)))
      (close-one s t z n (agent_of s k) (open_stream in_bytes s k n) (stream-own s t n files q) q))

  abort-one : (s t : State Text Own) (n : ℕ) (w : Option StreamOutline) → ((x : StreamOutline) → w ≡ Some x → is_callers key x.file.0 ≡ true) → Q s t
      → Q (aborts_stream in_bytes s k n w) (aborts_stream in_bytes t k n w)
  abort-one s t n None is q = q
  abort-one s t n (Some w) is q =
      sets (with_file s w.file unlocked) (with_file t w.file unlocked) n own.ClosedStream (f.alter s t w.file unlocked (is w refl) q)

  aborts : (s t : State Text Own) (n : ℕ) → OwnFiles s → Q s t
      → Q (aborts_stream in_bytes s k n (open_stream in_bytes s k n)) (aborts_stream in_bytes t k n (open_stream in_bytes t k n))
  aborts s t n files q =
      subst (λ a. Q (aborts_stream in_bytes s k n (open_stream in_bytes s k n)) (aborts_stream in_bytes t k n (stream_of n a))) (f.agent s t q)
      (abort-one s t n (open_stream in_bytes s k n) (stream-own s t n files q) q)

  abbrev written_by : Bool → State Text Own → Place → (FileRow Text → FileRow Text) → State Text Own
  written_by b s file change = if b then with_file s file change else s

  writes : (s t : State Text Own) (m : Mode) (file : Place) (change : FileRow Text → FileRow Text) → is_callers key file.0 ≡ true → Q s t
      → Q (with_written s m file change) (with_written t m file change)
  writes s t m file change is q =
      elim (is_read_write m) as (λ b. Q (written_by b s file change) (written_by b t file change)) [ true ↦ f.alter s t file change is q | false ↦ q ]

  -- What a write of an access handle does, at a moment.
  abbrev grown_by : State Text Own → ℕ → (Text → Text) → ℕ → ℕ → ℕ → Option HandleOutline → State Text Own
  grown_by s n change cursor size moment None = s
  grown_by s n change cursor size moment (Some h) =
      with_changed (with_file s h.file (λ x. record x { present = change x.present; stamp = moment })) k n (λ r. moved_row r cursor (reserve_for h.reserve size))

  grown-is : (s : State Text Own) (n : ℕ) (change : Text → Text) (cursor size : ℕ) (h : Option HandleOutline)
      → changes_file in_bytes s k n change cursor size h ≡ grown_by s n change cursor size (agent_of s k).moment h
  unfolding changes_file
  grown-is s n change cursor size None = refl
  grown-is s n change cursor size (Some h) = refl

  grow-one : (s t : State Text Own) (n : ℕ) (change : Text → Text) (cursor size moment : ℕ) (h : Option HandleOutline)
      → ((x : HandleOutline) → h ≡ Some x → is_callers key x.file.0 ≡ true) → Q s t
      → Q (grown_by s n change cursor size moment h) (grown_by t n change cursor size moment h)
  grow-one s t n change cursor size moment None is q = q
  grow-one s t n change cursor size moment (Some h) is q =
      let alter = λ (x : FileRow Text). record x { present = change x.present; stamp = moment } in
      changes (with_file s h.file alter) (with_file t h.file alter) n (λ r. moved_row r cursor (reserve_for h.reserve size)) (f.alter s t h.file alter (is h refl) q)

  grows : (s t : State Text Own) (n : ℕ) (change : Text → Text) (cursor size : ℕ) → OwnFiles s → Q s t
      → Q (changes_file in_bytes s k n change cursor size (open_handle in_bytes s k n)) (changes_file in_bytes t k n change cursor size (open_handle in_bytes t k n))
  grows s t n change cursor size files q =
      subst (Q (changes_file in_bytes s k n change cursor size (open_handle in_bytes s k n)))
      (ap (λ a. grown_by t n change cursor size a.moment (handle_of n a)) (f.agent s t q) ∙ sym (grown-is t n change cursor size (open_handle in_bytes t k n)))
      (subst (λ x. Q x (grown_by t n change cursor size (agent_of s k).moment (open_handle in_bytes s k n))) (sym (grown-is s n change cursor size (open_handle in_bytes s k n)))
      (grow-one s t n change cursor size (agent_of s k).moment (open_handle in_bytes s k n) (handle-own s t n files q) q))

  flush-one : (s t : State Text Own) (z : Sizes) (n : ℕ) (h : Option HandleOutline) → ((x : HandleOutline) → h ≡ Some x → is_callers key x.file.0 ≡ true) → Q s t
      → Q (flushes in_bytes s z k n h) (flushes in_bytes t z k n h)
  flush-one s t z n None is q = q
  flush-one s t z n (Some h) is q =
      changes (with_written s h.mode h.file flushed) (with_written t h.mode h.file flushed) n (λ r. moved_row r z.position 0) (writes s t h.mode h.file flushed (is h refl) q)

  flushing : (s t : State Text Own) (z : Sizes) (n : ℕ) → OwnFiles s → Q s t
      → Q (flushes in_bytes s z k n (open_handle in_bytes s k n)) (flushes in_bytes t z k n (open_handle in_bytes t k n))
  flushing s t z n files q =
      subst (λ a. Q (flushes in_bytes s z k n (open_handle in_bytes s k n)) (flushes in_bytes t z k n (handle_of n a))) (f.agent s t q)
      (flush-one s t z n (open_handle in_bytes s k n) (handle-own s t n files q) q)

  shut-one : (s t : State Text Own) (n : ℕ) (h : Option HandleOutline) → ((x : HandleOutline) → h ≡ Some x → is_callers key x.file.0 ≡ true) → Q s t
      → Q (closes_handle in_bytes s k n h) (closes_handle in_bytes t k n h)
  shut-one s t n None is q = q
  shut-one s t n (Some h) is q =
      let u = with_written s h.mode h.file flushed in
      let v = with_written t h.mode h.file flushed in
      sets (with_file u h.file unlocked) (with_file v h.file unlocked) n own.ClosedHandle
      (f.alter u v h.file unlocked (is h refl) (writes s t h.mode h.file flushed (is h refl) q))

  shuts : (s t : State Text Own) (n : ℕ) → OwnFiles s → Q s t
      → Q (closes_handle in_bytes s k n (open_handle in_bytes s k n)) (closes_handle in_bytes t k n (open_handle in_bytes t k n))
  shuts s t n files q =
      subst (λ a. Q (closes_handle in_bytes s k n (open_handle in_bytes s k n)) (closes_handle in_bytes t k n (handle_of n a))) (f.agent s t q)
      (shut-one s t n (open_handle in_bytes s k n) (handle-own s t n files q) q)

  discard-one : (s t : State Text Own) (n : ℕ) (h : Option HandleOutline) → ((x : HandleOutline) → h ≡ Some x → is_callers key x.file.0 ≡ true) → Q s t
      → Q (discards in_bytes s k n h) (discards in_bytes t k n h)
  discard-one s t n None is q = q
  discard-one s t n (Some h) is q =
      let u = with_written s h.mode h.file undone in
      let v = with_written t h.mode h.file undone in
      sets (with_file u h.file unlocked) (with_file v h.file unlocked) n own.ClosedHandle
      (f.alter u v h.file unlocked (is h refl) (writes s t h.mode h.file undone (is h refl) q))

  discarding : (s t : State Text Own) (n : ℕ) → OwnFiles s → Q s t
      → Q (discards in_bytes s k n (open_handle in_bytes s k n)) (discards in_bytes t k n (open_handle in_bytes t k n))
  discarding s t n files q =
      subst (λ a. Q (discards in_bytes s k n (open_handle in_bytes s k n)) (discards in_bytes t k n (handle_of n a))) (f.agent s t q)
      (discard-one s t n (open_handle in_bytes s k n) (handle-own s t n files q) q)

  persist-one : IsPlain key → (s t : State Text Own) (name : Text) (grant : Bool) (o : Option Text) → o ≡ key → Q s t → Q (persists s name grant o) (persists t name grant o)
  persist-one plain s t name grant None is q = q
  persist-one plain s t name true (Some origin) is q = f.mode s t (unit_of origin name) (plain origin name (sym is)) q
  persist-one plain s t name false (Some origin) is q = q

  waits : (s t : State Text Own) (tag : Option Text) → Q s t
      → Q (with_agent s k (record (agent_of s k) { waits = tag })) (with_agent t k (record (agent_of t k) { waits = tag }))
  waits s t tag q = acts s t (λ a. record a { waits = tag }) (λ a. refl) q

  abbrev posts : State Text Own → Text → Option Text → State Text Own
  posts s tag o = record s { posted = s.posted ++ record { party = party_with o k; tag = tag } ∷ [] }

  -- An agent's call that is not refused.
  pub effect-follows : IsPlain key → (s t : State Text Own) (z : Sizes) (o : Op) → may_enter s k o ≡ true → OwnFiles s → Q s t
      → Q (effect in_bytes s z k o) (effect in_bytes t z k o)
  unfolding effect may_enter
  effect-follows plain s t z (op.GetDirectory name) may files q =
      subst (λ a. Q (opens_bucket s name (agent_of s k).key) (opens_bucket t name a.key)) (f.agent s t q) (bucket plain s t name (agent_of s k).key (f.keyed s t q) q)
  effect-follows plain s t z (op.GetDirectoryHandle dir name create) may files q =
      makes s t (child (place_of dir) name) row.Directory (own-at s t dir may q) q
  effect-follows plain s t z (op.GetFileHandle dir name create) may files q =
      subst (λ a. Q (made s (child (place_of dir) name) (new_row in_bytes kind.File (moment_of s k))) (made t (child (place_of dir) name) (new_row in_bytes kind.File a.moment))) (f.agent s t q)
      (makes s t (child (place_of dir) name) (new_row in_bytes kind.File (moment_of s k)) (own-at s t dir may q) q)
  effect-follows plain s t z (op.RemoveEntry dir name recursive) may files q = f.remove s t (child (place_of dir) name) (own-at s t dir may q) q
  effect-follows plain s t z (op.Values dir) may files q = adds s t (own.Iterator (record { dir = dir; given = [] })) q
  effect-follows plain s t z (op.Next n dir) may files q =
      subst (λ names. Q (with_changed s k n (λ r. advanced_row r (children_of s (place_of dir)))) (with_changed t k n (λ r. advanced_row r names)))
      (f.children s t (place_of dir) (own-at s t dir (first_so _ _ may) q) q)
      (changes s t n (λ r. advanced_row r (children_of s (place_of dir))) q)
  effect-follows plain s t z (op.GetFile at) may files q =
      subst (λ file. Q (takes_snapshot in_bytes s k (file_at s (place_of at))) (takes_snapshot in_bytes t k file)) (file-at s t (place_of at) (own-at s t at may q) q)
      (snapshot s t (file_at s (place_of at)) q)
  effect-follows plain s t z (op.CreateWritable at keep) may files q = opens s t at keep may q
  effect-follows plain s t z (op.Write n bytes position) may files q =
      changes s t n (λ r. written_row r (start_of z position) bytes (reserve_for (reserve_of (outline_of r)) (size_written z position bytes))) q
  effect-follows plain s t z (op.Seek n position) may files q = changes s t n (λ r. sought_row r position) q
  effect-follows plain s t z (op.Truncate n size) may files q = changes s t n (λ r. truncated_row r size (reserve_for (reserve_of (outline_of r)) size)) q
  effect-follows plain s t z (op.Close n) may files q = closes s t z n files q
  effect-follows plain s t z (op.Abort n) may files q = aborts s t n files q
  effect-follows plain s t z (op.CreateSyncAccessHandle at m) may files q =
      adds (with_file s (place_of at) (with_lock (want_of m))) (with_file t (place_of at) (with_lock (want_of m)))
      (own.Handle (record { file = place_of at; mode = m; cursor = 0; reserve = 0 }))
      (f.alter s t (place_of at) (with_lock (want_of m)) (own-at s t at may q) q)
  effect-follows plain s t z (op.SyncRead n len at) may files q = changes s t n (λ r. moved_row r (cursor_after_read z len at) (reserve_of (outline_of r))) q
  effect-follows plain s t z (op.SyncWrite n bytes at) may files q =
      grows s t n (λ x. in_bytes.overwritten x (start_of z at) bytes) (start_of z at + length bytes) (size_written z at bytes) files q
  effect-follows plain s t z (op.SyncTruncate n size) may files q = grows s t n (λ x. in_bytes.cut x size) (min z.position size) size files q
  effect-follows plain s t z (op.SyncFlush n) may files q = flushing s t z n files q
  effect-follows plain s t z (op.SyncClose n) may files q = shuts s t n files q
  effect-follows plain s t z (op.Persist name) may files q =
      subst (λ a. Q (persists s name (agent_of s k).grant (agent_of s k).key) (persists t name a.grant a.key)) (f.agent s t q)
      (persist-one plain s t name (agent_of s k).grant (agent_of s k).key (f.keyed s t q) q)
  effect-follows plain s t z (op.Moment ms) may files q = acts s t (λ a. record a { moment = ms }) (λ a. refl) q
  effect-follows plain s t z (op.Post tag) may files q =
      let left : key ≡ (agent_of s k).key = sym (f.keyed s t q) in
      let right : key ≡ (agent_of t k).key = left ∙ ap (λ a. a.key) (f.agent s t q) in
      subst (λ o. Q (posts s tag o) (posts t tag (agent_of t k).key)) left (subst (λ o. Q (posts s tag key) (posts t tag o)) right (f.post s t tag q))
  effect-follows plain s t z (op.Await tag) may files q = waits s t None q
  effect-follows plain s t z (op.Wait tag) may files q = waits s t (Some tag) q
  effect-follows plain s t z (op.Discard n) may files q = discarding s t n files q
  effect-follows plain s t z op.End may files q = acts s t (λ a. record a { live = false; waits = None }) (λ a. refl) q
  effect-follows plain s t z (op.Resolve dir entry) may files q = q
  effect-follows plain s t z (op.IsSameEntry entry to) may files q = q
  effect-follows plain s t z (op.Slice n at len) may files q = q
  effect-follows plain s t z (op.SyncGetSize n) may files q = q
  effect-follows plain s t z (op.Persisted name) may files q = q
  effect-follows plain s t z op.Estimate may files q = q
  effect-follows plain s t z (op.Unbound word) may files q = q
  effect-follows plain s t z (op.Evict unit) may files q = q

  pub refused-follows : (s t : State Text Own) (o : Op) → Q s t → Q (refused s k o) (refused t k o)
  refused-follows s t (op.Await tag) q = waits s t None q
  refused-follows s t o q = q
