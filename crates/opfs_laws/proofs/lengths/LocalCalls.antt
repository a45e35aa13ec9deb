-- A local call changes nothing that the shared store knows, but for iterators and clocks.
use Rattle.std.proofs.Common.{◌≡◌, ℕ, ◌+◌, ◌-◌, ◌≤◌, max, min, nat_le, zero, suc, true, List, slice_set, length, Option, Some, None, option_map, unwrap_or, refl, sym, ap, ◌∙◌, arith}
use Rattle.std.proofs.lemmas.Bool.Decides.{nat_tests}
use Rattle.std.specs.Prelude.{slice_get}
use Rattle.opfs_base.specs.Blocks.{blocks}
use Rattle.opfs_base.specs.Texts.{Text}
use Rattle.opfs_hist.specs.declared.op.Op.{Op}
use Rattle.opfs_hist.specs.declared.op.Op.TheVariants as op
use Rattle.opfs_machine.specs.declared.own.Outline.{Outline}
use Rattle.opfs_machine.specs.declared.own.Outline.TheVariants as outline
use Rattle.opfs_machine.specs.declared.own.Own.{Own}
use Rattle.opfs_machine.specs.declared.own.Own.TheVariants as own
use Rattle.opfs_machine.specs.declared.state.Agent.{Agent}
use Rattle.opfs_machine.specs.declared.state.State.{State}
use Rattle.opfs_machine.specs.Agents.{agent_of, agent_in, own_of, nobody, with_agent, with_own, open_stream, open_handle, stream_in, handle_in, of_row}
use Rattle.opfs_machine.specs.Contents.{in_bytes, in_lengths, outline_of, stream_with, handle_with}
use Rattle.opfs_machine.specs.Effects.{effect, with_changed, changes_file, closes_stream, aborts_stream, flushes, closes_handle}
use Rattle.opfs_machine.specs.OwnRows.{is_local, fits_stream, is_closed_stream, is_closed_handle}
use Rattle.opfs_machine.specs.Replies.{sizes_of}
use Rattle.opfs_machine.specs.Rulings.{reserve_for, start_of, size_written}
use Rattle.opfs_machine.specs.Sums.{reserve_of}
use Rattle.opfs_laws.specs.Lengths.Outlines.{in_lengths_of, local_change}
use Rattle.opfs_laws.proofs.lengths.Instance.{lengths-fit}
use Rattle.opfs_laws.proofs.lengths.Lists.{set-same}
use Rattle.opfs_laws.proofs.lengths.Readers.{row-at-on, stream-on, handle-on}

less_one : (i : ℕ) → suc i - 1 ≡ i
less_one i = omega arith

module _ {R : Type 0} where
  agent-there : (agents : List (Agent R)) (i n : ℕ) (r : R) → own_of (agent_in agents (suc i)) n ≡ Some r → slice_get agents i ≡ Some (agent_in agents (suc i))
  agent-there agents i n r is =
      elim (slice_get agents i) as (λ o. own_of (unwrap_or o nobody) n ≡ Some r → o ≡ Some (unwrap_or o nobody)) [
        | Some a ↦ λ h. refl
        | None ↦ λ h. absurd (nobody_none n h)
      ] is
    where
      nobody_none : (m : ℕ) → own_of {R = R} nobody m ≡ Some r → ⊥
      nobody_none zero h = cc
      nobody_none (suc m) h = cc

  -- A row that is set to what it is.
  own-same : {F : Type 0} (s : State F R) (k n : ℕ) (r : R) → own_of (agent_of s k) n ≡ Some r → with_own s k n r ≡ s
  own-same s zero zero r is = cc
  own-same s zero (suc n) r is = cc
  own-same s (suc i) zero r is = cc
  own-same s (suc i) (suc n) r is =
      let a = agent_of s (suc i) in
      let rows : slice_set a.own (suc n - 1) r ≡ a.own = ap (λ j. slice_set a.own j r) (less_one n) ∙ set-same a.own n r is in
      let agents : slice_set s.agents (suc i - 1) a ≡ s.agents = ap (λ j. slice_set s.agents j a) (less_one i) ∙ set-same s.agents i a (agent-there s.agents i (suc n) r is) in
      ap (λ (own : List R). with_agent s (suc i) (record a { own = own })) rows ∙ ap (λ (agents : List (Agent R)). record s { agents = agents }) agents

-- A row is changed to what it is.
module _ (s : State Text Own) (k n : ℕ) where
  abbrev known : State ℕ Outline
  known = in_lengths_of s

  abbrev row : Option Own
  row = own_of (agent_of s k) n

  abbrev changed_if : (Outline → Outline) → Option Outline → State ℕ Outline
  changed_if h o = elim o [ Some r ↦ with_own known k n (h r) | None ↦ known ]

  stays-known : (h : Outline → Outline) → ((y : Own) → row ≡ Some y → h (outline_of y) ≡ outline_of y) → with_changed known k n h ≡ known
  unfolding with_changed
  stays-known h stays =
      let is : own_of (agent_of known k) n ≡ option_map outline_of row = row-at-on length outline_of s k n in
      ap (changed_if h) is
      ∙ (elim row as (λ o. row ≡ o → own_of (agent_of known k) n ≡ option_map outline_of o → changed_if h (option_map outline_of o) ≡ known) [
        | Some y ↦ λ here there. ap (with_own known k n) (stays y here) ∙ own-same known k n (outline_of y) there
        | None ↦ λ here there. refl
      ] refl is)

  closed-stream : (o : Option Own) → is_closed_stream o ≡ true → of_row (λ r. stream_in (outline_of r)) o ≡ None
  closed-stream None is = refl
  closed-stream (Some own.ClosedStream) is = refl
  closed-stream (Some (own.Stream w)) is = cc
  closed-stream (Some (own.Handle h)) is = cc
  closed-stream (Some own.ClosedHandle) is = cc
  closed-stream (Some (own.Snapshot bytes)) is = cc
  closed-stream (Some (own.Iterator i)) is = cc

  closed-handle : (o : Option Own) → is_closed_handle o ≡ true → of_row (λ r. handle_in (outline_of r)) o ≡ None
  closed-handle None is = refl
  closed-handle (Some own.ClosedHandle) is = refl
  closed-handle (Some own.ClosedStream) is = cc
  closed-handle (Some (own.Stream w)) is = cc
  closed-handle (Some (own.Handle h)) is = cc
  closed-handle (Some (own.Snapshot bytes)) is = cc
  closed-handle (Some (own.Iterator i)) is = cc

  no-stream : is_closed_stream row ≡ true → open_stream in_lengths known k n ≡ None
  no-stream is = stream-on in_bytes in_lengths length outline_of lengths-fit s k n ∙ closed-stream row is

  no-handle : is_closed_handle row ≡ true → open_handle in_lengths known k n ≡ None
  no-handle is = handle-on in_bytes in_lengths length outline_of lengths-fit s k n ∙ closed-handle row is

greatest : (a b : ℕ) → nat_le b a ≡ true → max a b ≡ a
greatest a b h = let within : b ≤ a = grind (arith, nat_tests) in omega (arith, within)

-- A stream that is closed, or whose reserve fits a size, keeps its reserve.
fits-stays : (y : Own) (size : ℕ) → fits_stream (Some y) size ≡ true → stream_with (outline_of y) (reserve_for (reserve_of (outline_of y)) size) ≡ outline_of y
fits-stays (own.Stream w) size h = ap (λ n. outline.Stream (record { file = w.file; reserve = n })) (greatest w.reserve (blocks size) h)
fits-stays own.ClosedStream size h = refl
fits-stays (own.Handle x) size h = refl
fits-stays own.ClosedHandle size h = refl
fits-stays (own.Snapshot bytes) size h = refl
fits-stays (own.Iterator i) size h = refl

moves-stays : (r : Outline) → handle_with r (reserve_of r) ≡ r
moves-stays (outline.Stream w) = refl
moves-stays outline.ClosedStream = refl
moves-stays (outline.Handle h) = refl
moves-stays outline.ClosedHandle = refl
moves-stays outline.Snapshot = refl
moves-stays outline.Iterator = refl

pub local-known : (s : State Text Own) (k : ℕ) (o : Op) → is_local s k o ≡ true → effect in_lengths (in_lengths_of s) (sizes_of s k o) k o ≡ local_change (in_lengths_of s) k o
unfolding effect is_local changes_file
local-known s k (op.Values dir) h = refl
local-known s k (op.Resolve dir entry) h = refl
local-known s k (op.IsSameEntry entry to) h = refl
local-known s k (op.Slice n at len) h = refl
local-known s k (op.Write n bytes position) h =
    stays-known s k n (λ r. stream_with r (reserve_for (reserve_of r) (size_written (sizes_of s k (op.Write n bytes position)) position bytes)))
    (λ y is. fits-stays y (size_written (sizes_of s k (op.Write n bytes position)) position bytes)
    (ap (λ x. fits_stream x (size_written (sizes_of s k (op.Write n bytes position)) position bytes)) (sym is) ∙ h))
local-known s k (op.Seek n position) h = stays-known s k n (λ r. r) (λ y is. refl)
local-known s k (op.Truncate n size) h =
    stays-known s k n (λ r. stream_with r (reserve_for (reserve_of r) size)) (λ y is. fits-stays y size (ap (λ x. fits_stream x size) (sym is) ∙ h))
local-known s k (op.Close n) h = ap (closes_stream in_lengths (in_lengths_of s) (sizes_of s k (op.Close n)) k n) (no-stream s k n h)
local-known s k (op.Abort n) h = ap (aborts_stream in_lengths (in_lengths_of s) k n) (no-stream s k n h)
local-known s k (op.SyncRead n len at) h = stays-known s k n (λ r. handle_with r (reserve_of r)) (λ y is. moves-stays (outline_of y))
local-known s k (op.SyncWrite n bytes at) h =
    let z = sizes_of s k (op.SyncWrite n bytes at) in
    ap (changes_file in_lengths (in_lengths_of s) k n (λ x. in_lengths.overwritten x (start_of z at) bytes) (start_of z at + length bytes) (size_written z at bytes)) (no-handle s k n h)
local-known s k (op.SyncTruncate n size) h =
    let z = sizes_of s k (op.SyncTruncate n size) in
    ap (changes_file in_lengths (in_lengths_of s) k n (λ x. in_lengths.cut x size) (min z.position size) size) (no-handle s k n h)
local-known s k (op.SyncGetSize n) h = refl
local-known s k (op.SyncFlush n) h = ap (flushes in_lengths (in_lengths_of s) (sizes_of s k (op.SyncFlush n)) k n) (no-handle s k n h)
local-known s k (op.SyncClose n) h = ap (closes_handle in_lengths (in_lengths_of s) k n) (no-handle s k n h)
local-known s k (op.Moment ms) h = refl
local-known s k (op.Unbound word) h = refl
local-known s k (op.GetDirectory bucket) h = cc
local-known s k (op.GetDirectoryHandle dir name create) h = cc
local-known s k (op.GetFileHandle dir name create) h = cc
local-known s k (op.RemoveEntry dir name recursive) h = cc
local-known s k (op.Next n dir) h = cc
local-known s k (op.GetFile at) h = cc
local-known s k (op.CreateWritable at keep) h = cc
local-known s k (op.CreateSyncAccessHandle at m) h = cc
local-known s k (op.Persist bucket) h = cc
local-known s k (op.Persisted bucket) h = refl
local-known s k op.Estimate h = refl
local-known s k (op.Post tag) h = cc
local-known s k (op.Await tag) h = cc
local-known s k (op.Wait tag) h = cc
local-known s k (op.Discard n) h = cc
local-known s k op.End h = cc
local-known s k (op.Evict unit) h = refl
