-- An open access handle was open before, on the same file.
use Rattle.std.proofs.Common.{◌≡◌, ◌⊎◌, ℕ, ◌+◌, ◌-◌, ◌<◌, min, zero, suc, Bool, true, false, if◌then◌else◌, List, [], ◌∷◌, ◌++◌, length, slice_set, Option, Some, None, refl, sym, ap, ◌∙◌, subst, inl, inr, arith}
use Rattle.std.specs.Prelude.{slice_get}
use Rattle.std.proofs.lemmas.Option.{slice_get_within}
use Rattle.opfs_base.specs.Places.{Place, place_of, child}
use Rattle.opfs_base.specs.Texts.{Text}
use Rattle.opfs_base.specs.Units.{unit_of}
use Rattle.opfs_base.specs.declared.locator.Kind.TheVariants as kind
use Rattle.opfs_hist.specs.declared.entry.Entry.{Entry}
use Rattle.opfs_hist.specs.declared.op.Mode.{Mode}
use Rattle.opfs_hist.specs.declared.op.Mode.TheVariants as mode
use Rattle.opfs_hist.specs.declared.op.Op.{Op}
use Rattle.opfs_hist.specs.declared.op.Op.TheVariants as op
use Rattle.opfs_hist.specs.declared.reply.Reply.{Reply}
use Rattle.opfs_locks.specs.declared.Want.TheVariants as want
use Rattle.opfs_machine.specs.declared.own.HandleOutline.{HandleOutline}
use Rattle.opfs_machine.specs.declared.own.HandleRow.{HandleRow}
use Rattle.opfs_machine.specs.declared.own.StreamOutline.{StreamOutline}
use Rattle.opfs_machine.specs.declared.own.Own.{Own}
use Rattle.opfs_machine.specs.declared.own.Own.TheVariants as own
use Rattle.opfs_machine.specs.declared.state.Agent.{Agent}
use Rattle.opfs_machine.specs.declared.state.FileRow.{FileRow}
use Rattle.opfs_machine.specs.declared.state.Row.{Row}
use Rattle.opfs_machine.specs.declared.state.Row.TheVariants as row
use Rattle.opfs_machine.specs.declared.state.Sizes.{Sizes}
use Rattle.opfs_machine.specs.declared.state.State.{State}
use Rattle.opfs_machine.specs.Agents.{agent_of, agent_in, own_of, of_row, with_agent, with_own, adds_own, open_stream, open_handle, party_of}
use Rattle.opfs_machine.specs.Contents.{in_bytes, outline_of, written_row, truncated_row, sought_row, moved_row, advanced_row}
use Rattle.opfs_machine.specs.Effects.{effect, refused, made, new_row, moment_of, opens_bucket, opens_stream, takes_snapshot, closes_stream, aborts_stream, changes_file, flushes, closes_handle, discards, persists, with_written, with_changed, with_lock, flushed, undone, unlocked, replaced, content_of, cursor_after_read}
use Rattle.opfs_machine.specs.Histories.{evicted_by, after_op, after_entry}
use Rattle.opfs_machine.specs.Replies.{sizes_of}
use Rattle.opfs_machine.specs.Rows.{file_at, with_file, with_row, without, row_at, children_of}
use Rattle.opfs_machine.specs.Rulings.{start_of, size_written, reserve_for, want_of, first_reserve}
use Rattle.opfs_machine.specs.Steps.{after_reply, is_refusal}
use Rattle.opfs_machine.specs.Sums.{reserve_of}
use Rattle.opfs_laws.proofs.Numbers.{IsNumber, agent-set}
use Rattle.opfs_laws.proofs.OwnSums.{agent-get}

-- The file of an own row that is an open access handle.
abbrev pub file_held : Own → Option Place
file_held (own.Handle h) = Some h.file
file_held r = None

abbrev pub held : State Text Own → ℕ → ℕ → Option Place
held s k n = of_row file_held (own_of (agent_of s k) n)

no-place : (p : Place) → ◌≡◌ {A = Option Place} None (Some p) → ⊥
no-place p e = cc

one-place : (p q : Place) → ◌≡◌ {A = Option Place} (Some p) (Some q) → p ≡ q
one-place p q e = cc

pub held-row : (o : Option Own) (p : Place) → of_row file_held o ≡ Some p → (h : HandleRow) × (o ≡ Some (own.Handle h)) × (h.file ≡ p)
held-row (Some (own.Handle h)) p is = (h, refl, one-place h.file p is)
held-row None p is = absurd (no-place p is)
held-row (Some (own.Stream w)) p is = absurd (no-place p is)
held-row (Some own.ClosedStream) p is = absurd (no-place p is)
held-row (Some own.ClosedHandle) p is = absurd (no-place p is)
held-row (Some (own.Snapshot bytes)) p is = absurd (no-place p is)
held-row (Some (own.Iterator i)) p is = absurd (no-place p is)

-- A row stays there, and is an access handle on a file only if it was one.
abbrev pub Follows : Option Own → Option Own → Type 0
Follows None after = Unit {0}
Follows (Some r) None = ⊥
Follows (Some r) (Some x) = (file_held x ≡ file_held r) ⊎ (file_held x ≡ None)

pub follows-self : (x : Option Own) → Follows x x
follows-self None = tt
follows-self (Some r) = inl refl

pub follows-there : (x y : Option Own) (r : Own) → x ≡ Some r → Follows x y → (q : Own) × (y ≡ Some q)
follows-there None y r is h = absurd (none_some is)
  where
    none_some : ◌≡◌ {A = Option Own} None (Some r) → ⊥
    none_some e = cc
follows-there (Some z) None r is h = absurd h
follows-there (Some z) (Some q) r is h = (q, refl)

pub follows-held : (x y : Option Own) (r : Own) (p : Place) → x ≡ Some r → Follows x y → of_row file_held y ≡ Some p → of_row file_held x ≡ Some p
follows-held None y r p is h after = absurd (none_some is)
  where
    none_some : ◌≡◌ {A = Option Own} None (Some r) → ⊥
    none_some e = cc
follows-held (Some z) None r p is h after = absurd h
follows-held (Some z) (Some q) r p is (inl same) after = sym same ∙ after
follows-held (Some z) (Some q) r p is (inr none) after = absurd (no-place p (sym none ∙ after))

-- ---- rows that are changed or added

some-own : (x y : Own) → Some x ≡ Some y → x ≡ y
some-own x y e = cc

-- What may be set in a row's place: what is no access handle, or one on the same file.
abbrev May : Option Own → Own → Type 0
May old new = (file_held new ≡ None) ⊎ ((r : Own) × (old ≡ Some r) × (file_held new ≡ file_held r))

may-set : (z y : Own) → May (Some z) y → Follows (Some z) (Some y)
may-set z y (inl none) = inr none
may-set z y (inr old) = inl (old.2 ∙ ap file_held (sym (some-own z old.0 old.1)))

set-follows : (xs : List Own) (i j : ℕ) (y : Own) → May (slice_get xs i) y → Follows (slice_get xs j) (slice_get (slice_set xs i y) j)
set-follows [] i j y may = tt
set-follows (z ∷ zs) zero zero y may = may-set z y may
set-follows (z ∷ zs) zero (suc j) y may = follows-self (slice_get zs j)
set-follows (z ∷ zs) (suc i) zero y may = inl refl
set-follows (z ∷ zs) (suc i) (suc j) y may = set-follows zs i j y may

add-follows : (xs : List Own) (j : ℕ) (y : Own) → Follows (slice_get xs j) (slice_get (xs ++ y ∷ []) j)
add-follows [] j y = tt
add-follows (x ∷ xs) zero y = inl refl
add-follows (x ∷ xs) (suc j) y = add-follows xs j y

less_one : (i : ℕ) → suc i - 1 ≡ i
less_one i = omega arith

own-set : (a : Agent Own) (m n : ℕ) (y : Own) → May (own_of a m) y → Follows (own_of a n) (own_of (record a { own = slice_set a.own (m - 1) y }) n)
own-set a m zero y may = tt
own-set a (suc m) (suc n) y may = set-follows a.own (suc m - 1) n y (subst (λ i. May (slice_get a.own i) y) (sym (less_one m)) may)
own-set a zero (suc n) y (inl none) = set-follows a.own (zero - 1) n y (inl none)
own-set a zero (suc n) y (inr old) = absurd (none_some old.1)
  where
    none_some : ◌≡◌ {A = Option Own} None (Some old.0) → ⊥
    none_some e = cc

own-add : (a : Agent Own) (n : ℕ) (y : Own) → Follows (own_of a n) (own_of (record a { own = a.own ++ y ∷ [] }) n)
own-add a zero y = tt
own-add a (suc n) y = add-follows a.own n y

written-same : (position : ℕ) (bytes : Text) (reserve : ℕ) (r : Own) → file_held (written_row r position bytes reserve) ≡ file_held r
written-same position bytes reserve (own.Stream w) = refl
written-same position bytes reserve r = refl

truncated-same : (size reserve : ℕ) (r : Own) → file_held (truncated_row r size reserve) ≡ file_held r
truncated-same size reserve (own.Stream w) = refl
truncated-same size reserve r = refl

sought-same : (offset : ℕ) (r : Own) → file_held (sought_row r offset) ≡ file_held r
sought-same offset (own.Stream w) = refl
sought-same offset r = refl

moved-same : (cursor reserve : ℕ) (r : Own) → file_held (moved_row r cursor reserve) ≡ file_held r
moved-same cursor reserve (own.Handle h) = refl
moved-same cursor reserve r = refl

advanced-same : (names : List Text) (r : Own) → file_held (advanced_row r names) ≡ file_held r
advanced-same names (own.Iterator i) = refl
advanced-same names r = refl

-- ---- the effects of an agent's calls on one of its rows

module _ (s : State Text Own) (k n : ℕ) (number : IsNumber s k) where
  abbrev a : Agent Own
  a = agent_of s k

  abbrev F : State Text Own → Type 0
  F t = Follows (own_of (agent_of s k) n) (own_of (agent_of t k) n)

  number-in : (t : State Text Own) → t.agents ≡ s.agents → IsNumber t k
  number-in t same = record { index = number.index; is = number.is; within = subst (λ (xs : List (Agent Own)). number.index < length xs) (sym same) number.within }

  there : (t : State Text Own) → t.agents ≡ s.agents → agent_of t k ≡ a
  there t same = ap (λ xs. agent_in xs k) same

  f-same : (t : State Text Own) → t.agents ≡ s.agents → F t
  f-same t same = subst (λ (x : Agent Own). Follows (own_of a n) (own_of x n)) (sym (there t same)) (follows-self (own_of a n))

  f-agent : (t : State Text Own) (b : Agent Own) → t.agents ≡ s.agents → Follows (own_of a n) (own_of b n) → F (with_agent t k b)
  f-agent t b same h = subst (λ (x : Agent Own). Follows (own_of a n) (own_of x n)) (sym (agent-set t k b (number-in t same))) h

  f-sets : (t : State Text Own) (m : ℕ) (new : Own) → t.agents ≡ s.agents → May (own_of a m) new → F (with_own t k m new)
  f-sets t m new same may =
      f-agent t (record (agent_of t k) { own = slice_set (agent_of t k).own (m - 1) new }) same
      (subst (λ (x : Agent Own). Follows (own_of a n) (own_of (record x { own = slice_set x.own (m - 1) new }) n)) (sym (there t same)) (own-set a m n new may))

  f-adds : (t : State Text Own) (new : Own) → t.agents ≡ s.agents → F (adds_own t k new)
  f-adds t new same =
      f-agent t (record (agent_of t k) { own = (agent_of t k).own ++ new ∷ [] }) same
      (subst (λ (x : Agent Own). Follows (own_of a n) (own_of (record x { own = x.own ++ new ∷ [] }) n)) (sym (there t same)) (own-add a n new))

  f-own : (b : Agent Own) → b.own ≡ a.own → F (with_agent s k b)
  f-own b same = f-agent s b refl (by n)
    where
      by : (j : ℕ) → Follows (own_of a j) (own_of b j)
      by zero = tt
      by (suc j) = subst (λ (xs : List Own). Follows (slice_get a.own j) (slice_get xs j)) (sym same) (follows-self (slice_get a.own j))

  abbrev changed_if : State Text Own → ℕ → (Own → Own) → Option Own → State Text Own
  changed_if t m change o = elim o [ Some r ↦ with_own t k m (change r) | None ↦ t ]

  f-changed : (t : State Text Own) (m : ℕ) (change : Own → Own) → t.agents ≡ s.agents → ((r : Own) → file_held (change r) ≡ file_held r) → F (with_changed t k m change)
  unfolding with_changed
  f-changed t m change same keeps =
      subst (λ o. F (changed_if t m change o)) (sym (ap (λ (b : Agent Own). own_of b m) (there t same)))
      (elim (own_of a m) as (λ o. own_of a m ≡ o → F (changed_if t m change o)) [
        | Some r ↦ λ is. f-sets t m (change r) same (inr (r, is, keeps r))
        | None ↦ λ is. f-same t same
      ] refl)

  made-agents : (p : Place) (r : Row Text) → (made s p r).agents ≡ s.agents
  made-agents p r =
      elim (row_at s p) as (λ o. (elim o as (λ x. State Text Own) [ Some old ↦ s | None ↦ with_row s p r ]).agents ≡ s.agents) [ Some old ↦ refl | None ↦ refl ]

  bucket-agents : (bucket : Text) (o : Option Text) → (opens_bucket s bucket o).agents ≡ s.agents
  bucket-agents bucket None = refl
  bucket-agents bucket (Some origin) = made-agents (unit_of origin bucket, []) row.Directory

  persists-agents : (bucket : Text) (grant : Bool) (o : Option Text) → (persists s bucket grant o).agents ≡ s.agents
  persists-agents bucket grant None = refl
  persists-agents bucket true (Some origin) = refl
  persists-agents bucket false (Some origin) = refl

  written-agents : (m : Mode) (p : Place) (change : FileRow Text → FileRow Text) → (with_written s m p change).agents ≡ s.agents
  written-agents mode.ReadWrite p change = refl
  written-agents mode.ReadOnly p change = refl

  f-stream : (p : Place) (reserve : ℕ) (keep : Bool) (o : Option (FileRow Text)) → F (opens_stream in_bytes s k p reserve keep o)
  f-stream p reserve keep None = f-same s refl
  f-stream p reserve keep (Some f) = f-adds (with_file s p (with_lock want.Shared)) (in_bytes.stream p (if keep then f.present else in_bytes.empty) reserve) refl

  f-snapshot : (o : Option (FileRow Text)) → F (takes_snapshot in_bytes s k o)
  f-snapshot None = f-same s refl
  f-snapshot (Some f) = f-adds s (own.Snapshot f.present) refl

  f-closes : (z : Sizes) (m : ℕ) (w : Option StreamOutline) → F (closes_stream in_bytes s z k m w)
  f-closes z m None = f-same s refl
  f-closes z m (Some w) = f-sets (with_file (with_file s w.file (replaced (content_of in_bytes (own_of a m) z.size) (moment_of s k))) w.file unlocked) m own.ClosedStream refl (inl refl)

  f-aborts : (m : ℕ) (w : Option StreamOutline) → F (aborts_stream in_bytes s k m w)
  f-aborts m None = f-same s refl
  f-aborts m (Some w) = f-sets (with_file s w.file unlocked) m own.ClosedStream refl (inl refl)

  f-alters : (m : ℕ) (change : Text → Text) (cursor size : ℕ) (h : Option HandleOutline) → F (changes_file in_bytes s k m change cursor size h)
  unfolding changes_file
  f-alters m change cursor size None = f-same s refl
  f-alters m change cursor size (Some h) =
      f-changed (with_file s h.file (λ f. record f { present = change f.present; stamp = moment_of s k })) m (λ r. moved_row r cursor (reserve_for h.reserve size)) refl (λ r. moved-same cursor (reserve_for h.reserve size) r)

  f-flushes : (z : Sizes) (m : ℕ) (h : Option HandleOutline) → F (flushes in_bytes s z k m h)
  f-flushes z m None = f-same s refl
  f-flushes z m (Some h) = f-changed (with_written s h.mode h.file flushed) m (λ r. moved_row r z.position 0) (written-agents h.mode h.file flushed) (λ r. moved-same z.position 0 r)

  f-shuts : (m : ℕ) (h : Option HandleOutline) → F (closes_handle in_bytes s k m h)
  f-shuts m None = f-same s refl
  f-shuts m (Some h) = f-sets (with_file (with_written s h.mode h.file flushed) h.file unlocked) m own.ClosedHandle (written-agents h.mode h.file flushed) (inl refl)

  f-discards : (m : ℕ) (h : Option HandleOutline) → F (discards in_bytes s k m h)
  f-discards m None = f-same s refl
  f-discards m (Some h) = f-sets (with_file (with_written s h.mode h.file undone) h.file unlocked) m own.ClosedHandle (written-agents h.mode h.file undone) (inl refl)

  effect-follows : (z : Sizes) (o : Op) → F (effect in_bytes s z k o)
  unfolding effect
  effect-follows z (op.GetDirectory bucket) = f-same (opens_bucket s bucket a.key) (bucket-agents bucket a.key)
  effect-follows z (op.GetDirectoryHandle dir name create) = f-same (made s (child (place_of dir) name) row.Directory) (made-agents (child (place_of dir) name) row.Directory)
  effect-follows z (op.GetFileHandle dir name create) = f-same (made s (child (place_of dir) name) (new_row in_bytes kind.File (moment_of s k))) (made-agents (child (place_of dir) name) (new_row in_bytes kind.File (moment_of s k)))
  effect-follows z (op.RemoveEntry dir name recursive) = f-same (without s (child (place_of dir) name)) refl
  effect-follows z (op.Values dir) = f-adds s (in_bytes.iterator dir) refl
  effect-follows z (op.Next m dir) = f-changed s m (λ r. advanced_row r (children_of s (place_of dir))) refl (λ r. advanced-same (children_of s (place_of dir)) r)
  effect-follows z (op.GetFile at) = f-snapshot (file_at s (place_of at))
  effect-follows z (op.CreateWritable at keep) = f-stream (place_of at) (first_reserve in_bytes s at keep) keep (file_at s (place_of at))
  effect-follows z (op.Write m bytes position) =
      f-changed s m (λ r. written_row r (start_of z position) bytes (reserve_for (reserve_of (outline_of r)) (size_written z position bytes))) refl
      (λ r. written-same (start_of z position) bytes (reserve_for (reserve_of (outline_of r)) (size_written z position bytes)) r)
  effect-follows z (op.Seek m position) = f-changed s m (λ r. sought_row r position) refl (λ r. sought-same position r)
  effect-follows z (op.Truncate m size) =
      f-changed s m (λ r. truncated_row r size (reserve_for (reserve_of (outline_of r)) size)) refl (λ r. truncated-same size (reserve_for (reserve_of (outline_of r)) size) r)
  effect-follows z (op.Close m) = f-closes z m (open_stream in_bytes s k m)
  effect-follows z (op.Abort m) = f-aborts m (open_stream in_bytes s k m)
  effect-follows z (op.CreateSyncAccessHandle at m) = f-adds (with_file s (place_of at) (with_lock (want_of m))) (in_bytes.handle (place_of at) m) refl
  effect-follows z (op.SyncRead m len at) =
      f-changed s m (λ r. moved_row r (cursor_after_read z len at) (reserve_of (outline_of r))) refl (λ r. moved-same (cursor_after_read z len at) (reserve_of (outline_of r)) r)
  effect-follows z (op.SyncWrite m bytes at) =
      f-alters m (λ f. in_bytes.overwritten f (start_of z at) bytes) (start_of z at + length bytes) (size_written z at bytes) (open_handle in_bytes s k m)
  effect-follows z (op.SyncTruncate m size) = f-alters m (λ f. in_bytes.cut f size) (min z.position size) size (open_handle in_bytes s k m)
  effect-follows z (op.SyncFlush m) = f-flushes z m (open_handle in_bytes s k m)
  effect-follows z (op.SyncClose m) = f-shuts m (open_handle in_bytes s k m)
  effect-follows z (op.Persist bucket) = f-same (persists s bucket a.grant a.key) (persists-agents bucket a.grant a.key)
  effect-follows z (op.Moment ms) = f-own (record a { moment = ms }) refl
  effect-follows z (op.Post tag) = f-same (record s { posted = s.posted ++ record { party = party_of s k; tag = tag } ∷ [] }) refl
  effect-follows z (op.Await tag) = f-own (record a { waits = None }) refl
  effect-follows z (op.Wait tag) = f-own (record a { waits = Some tag }) refl
  effect-follows z (op.Discard m) = f-discards m (open_handle in_bytes s k m)
  effect-follows z op.End = f-own (record a { live = false; waits = None }) refl
  effect-follows z o = f-same s refl

  refused-follows : (o : Op) → F (refused s k o)
  refused-follows (op.Await tag) = f-own (record a { waits = None }) refl
  refused-follows o = f-same s refl

  reply-follows : (o : Op) (told : Reply) → F (after_reply s k o told)
  reply-follows o told =
      elim (is_refusal told) as (λ b. F (elim b as (λ x. State Text Own) [ true ↦ refused s k o | false ↦ effect in_bytes s (sizes_of s k o) k o ])) [
        | true ↦ refused-follows o
        | false ↦ effect-follows (sizes_of s k o) o
      ]

number-there : (s : State Text Own) (k n : ℕ) (r : Own) → own_of (agent_of s k) n ≡ Some r → IsNumber s k
number-there s zero zero r is = cc
number-there s zero (suc n) r is = cc
number-there s (suc i) n r is = record { index = i; is = refl; within = slice_get_within s.agents i (agent_of s (suc i)) (agent-get s i n r is) }

-- An entry of the row's agent.
pub entry-follows : (s : State Text Own) (e : Entry) (n : ℕ) (r : Own) → own_of (agent_of s e.agent) n ≡ Some r → Follows (own_of (agent_of s e.agent) n) (own_of (agent_of (after_entry s e) e.agent) n)
entry-follows s e n r is =
    elim (evicted_by e.op) as (λ told. Follows (own_of (agent_of s e.agent) n) (own_of (agent_of (after_op s e told) e.agent) n)) [
      | Some unit ↦ follows-self (own_of (agent_of s e.agent) n)
      | None ↦ reply-follows s e.agent n (number-there s e.agent n r is) e.op e.reply
    ]
