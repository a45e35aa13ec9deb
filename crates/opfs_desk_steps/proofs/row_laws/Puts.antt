-- Room for the blocks of a row's pages.
use Rattle.std.proofs.Common.{◌≡◌, ℕ, ◌+◌, ◌-◌, ◌≤◌, ◌||◌, nat_le, Bool, true, false, [], ◌∷◌, length, sum_by, Option, Some, None, Ok, refl, sym, ap, ◌∙◌, arith}
use Rattle.std.proofs.lemmas.Bool.{false≢true, le-leb}
use Rattle.std.proofs.lemmas.List.{length-append}
use Rattle.std.proofs.lemmas.List.Sums.{sum_by-cons}
use Rattle.std.specs.List.{AllByRecursion}
use Rattle.opfs_base.specs.Blocks.{blocks}
use Rattle.opfs_blocks.specs.Sets.{blocks_of}
use Rattle.opfs_state_rows.proofs.changes.Told.{grown-told, written-told}
use Rattle.opfs_state_rows.specs.Changes.Allowed.{MayApply}
use Rattle.opfs_hist.specs.declared.op.Op.{Op}
use Rattle.opfs_hist.specs.declared.op.Op.TheVariants as op
use Rattle.opfs_laws.specs.Lengths.Kept.{Kept}
use Rattle.opfs_machine.specs.declared.own.HandleOutline.{HandleOutline}
use Rattle.opfs_machine.specs.declared.own.Outline.{Outline}
use Rattle.opfs_machine.specs.declared.own.Outline.TheVariants as outline
use Rattle.opfs_machine.specs.declared.own.StreamOutline.{StreamOutline}
use Rattle.opfs_machine.specs.declared.state.Need.{Need}
use Rattle.opfs_machine.specs.declared.state.Sizes.{Sizes}
use Rattle.opfs_machine.specs.Agents.{agent_of, own_of, of_row, stream_in, handle_in}
use Rattle.opfs_machine.specs.Contents.{in_lengths}
use Rattle.opfs_machine.specs.Replies.{row_named}
use Rattle.opfs_machine.specs.Rulings.{ruling, grow_stream_ruling, grow_handle_ruling, reserve_for, size_written}
use Rattle.opfs_machine.specs.Sums.{reserve_of, pool, fits_pool, durable_blocks}
use Rattle.opfs_books.proofs.openings.Counted.{length-blocks, blocks-append}
use Rattle.opfs_records.specs.Replay.Built.{IsSoundRow, named, all_extents}
use Rattle.opfs_records.specs.Checkpoint.Written.{stored_row, stored_rows}
use Rattle.opfs_space.specs.Room.{Machine}
use Rattle.opfs_state_rows.specs.Standing.Seen.{line_of, lines_of}
use Rattle.opfs_tree.specs.declared.row.Row.{Row}
use Rattle.opfs_tree.specs.declared.row.Row.TheVariants as row
use Rattle.opfs_tree.specs.Rows.{Rows as Tree, extents_of}
use Rattle.opfs_desk_steps.specs.RowLaws.Puts.{puts_row, size_put, HasRoomForRow, PutsHaveRoom, TreesNameStoredBlocks}

-- ---- the own row

stream-own : (o : Option Outline) (w : StreamOutline) → of_row (λ r. stream_in r) o ≡ Some w → o ≡ Some (outline.Stream w)
stream-own None w is = absurd (none_some is)
  where
    none_some : ◌≡◌ {A = Option StreamOutline} None (Some w) → ⊥
    none_some e = cc
stream-own (Some (outline.Stream v)) w is = ap (λ (x : StreamOutline). Some (outline.Stream x)) (one is)
  where
    one : {a b : StreamOutline} → ◌≡◌ {A = Option StreamOutline} (Some a) (Some b) → a ≡ b
    one e = cc
stream-own (Some outline.ClosedStream) w is = cc
stream-own (Some (outline.Handle h)) w is = cc
stream-own (Some outline.ClosedHandle) w is = cc
stream-own (Some outline.Snapshot) w is = cc
stream-own (Some outline.Iterator) w is = cc

handle-own : (o : Option Outline) (h : HandleOutline) → of_row (λ r. handle_in r) o ≡ Some h → o ≡ Some (outline.Handle h)
handle-own None h is = absurd (none_some is)
  where
    none_some : ◌≡◌ {A = Option HandleOutline} None (Some h) → ⊥
    none_some e = cc
handle-own (Some (outline.Handle x)) h is = ap (λ (y : HandleOutline). Some (outline.Handle y)) (one is)
  where
    one : {a b : HandleOutline} → ◌≡◌ {A = Option HandleOutline} (Some a) (Some b) → a ≡ b
    one e = cc
handle-own (Some outline.ClosedStream) h is = cc
handle-own (Some (outline.Stream w)) h is = cc
handle-own (Some outline.ClosedHandle) h is = cc
handle-own (Some outline.Snapshot) h is = cc
handle-own (Some outline.Iterator) h is = cc

-- ---- the pool

fits : (m : Machine) (need : ℕ) → pool in_lengths m + need ≤ m.limits.blocks → fits_pool in_lengths m need ≡ true
fits m need room = later (nat_le need 0) (nat_le (pool in_lengths m + need) m.limits.blocks) (le-leb (pool in_lengths m + need) m.limits.blocks room)
  where
    later : (a b : Bool) → b ≡ true → (a || b) ≡ true
    later true b is = refl
    later false b is = is

module _ (m : Machine) (z : Sizes) (k : ℕ) (kept : Kept m) where
  room-of : (o : Op) (may : MayApply m z k o) (own : Outline) (size : ℕ) → own_of (agent_of m k) (row_named o) ≡ Some own → may.need.pool ≡ reserve_for (reserve_of own) size - reserve_of own → size_put z o ≡ size
      → HasRoomForRow m z k o
  room-of o may own size there needs is = record {
    reserve = reserve_for (reserve_of own) size;
    need = may.need.pool;
    room = record {
      own = own;
      there = there;
      within = kept.pool;
      fits = fits m may.need.pool may.pool;
      grows = omega arith;
      needed = omega (arith, needs);
    };
    within = omega (arith, ap blocks is);
  }

  of_stream : (o : Op) (may : MayApply m z k o) (n size : ℕ) → row_named o ≡ n → size_put z o ≡ size → grow_stream_ruling in_lengths m k n size ≡ Ok may.need → HasRoomForRow m z k o
  of_stream o may n size named put ruled =
      let told = grown-told m k n size may.need ruled in
      room-of o may (outline.Stream told.0) size (ap (λ (i : ℕ). own_of (agent_of m k) i) named ∙ stream-own (own_of (agent_of m k) n) told.0 told.1) (ap (λ (x : Need). x.pool) told.2) put

  of_handle : (o : Op) (may : MayApply m z k o) (n size : ℕ) → row_named o ≡ n → size_put z o ≡ size → grow_handle_ruling in_lengths m z k n size ≡ Ok may.need → HasRoomForRow m z k o
  of_handle o may n size named put ruled =
      let told = written-told m z k n size may.need ruled in
      room-of o may (outline.Handle told.0) size (ap (λ (i : ℕ). own_of (agent_of m k) i) named ∙ handle-own (own_of (agent_of m k) n) told.0 told.1) told.2 put

  abbrev Roomy : Op → Type 0
  Roomy o = MayApply m z k o → puts_row o ≡ true → HasRoomForRow m z k o

  none : (o : Op) → puts_row o ≡ false → Roomy o
  none o other may puts = absurd (false≢true (sym other ∙ puts))

  pub by-op : (o : Op) → Roomy o
  unfolding ruling
  by-op (op.Write n bytes position) may puts = of_stream (op.Write n bytes position) may n (size_written z position bytes) refl refl may.ruled
  by-op (op.Truncate n size) may puts = of_stream (op.Truncate n size) may n size refl refl may.ruled
  by-op (op.SyncWrite n bytes at) may puts = of_handle (op.SyncWrite n bytes at) may n (size_written z at bytes) refl refl may.ruled
  by-op (op.SyncTruncate n size) may puts = of_handle (op.SyncTruncate n size) may n size refl refl may.ruled
  by-op (op.GetDirectory bucket) may puts = none (op.GetDirectory bucket) refl may puts
  by-op (op.GetDirectoryHandle dir name create) may puts = none (op.GetDirectoryHandle dir name create) refl may puts
  by-op (op.GetFileHandle dir name create) may puts = none (op.GetFileHandle dir name create) refl may puts
  by-op (op.RemoveEntry dir name recursive) may puts = none (op.RemoveEntry dir name recursive) refl may puts
  by-op (op.Values dir) may puts = none (op.Values dir) refl may puts
  by-op (op.Next n dir) may puts = none (op.Next n dir) refl may puts
  by-op (op.Resolve dir entry) may puts = none (op.Resolve dir entry) refl may puts
  by-op (op.IsSameEntry entry other) may puts = none (op.IsSameEntry entry other) refl may puts
  by-op (op.GetFile at) may puts = none (op.GetFile at) refl may puts
  by-op (op.Slice n at len) may puts = none (op.Slice n at len) refl may puts
  by-op (op.CreateWritable at keep) may puts = none (op.CreateWritable at keep) refl may puts
  by-op (op.Seek n position) may puts = none (op.Seek n position) refl may puts
  by-op (op.Close n) may puts = none (op.Close n) refl may puts
  by-op (op.Abort n) may puts = none (op.Abort n) refl may puts
  by-op (op.CreateSyncAccessHandle at mode) may puts = none (op.CreateSyncAccessHandle at mode) refl may puts
  by-op (op.SyncRead n len at) may puts = none (op.SyncRead n len at) refl may puts
  by-op (op.SyncGetSize n) may puts = none (op.SyncGetSize n) refl may puts
  by-op (op.SyncFlush n) may puts = none (op.SyncFlush n) refl may puts
  by-op (op.SyncClose n) may puts = none (op.SyncClose n) refl may puts
  by-op (op.Persist bucket) may puts = none (op.Persist bucket) refl may puts
  by-op (op.Persisted bucket) may puts = none (op.Persisted bucket) refl may puts
  by-op op.Estimate may puts = none op.Estimate refl may puts
  by-op (op.Moment ms) may puts = none (op.Moment ms) refl may puts
  by-op (op.Post tag) may puts = none (op.Post tag) refl may puts
  by-op (op.Await tag) may puts = none (op.Await tag) refl may puts
  by-op (op.Wait tag) may puts = none (op.Wait tag) refl may puts
  by-op (op.Discard n) may puts = none (op.Discard n) refl may puts
  by-op op.End may puts = none op.End refl may puts
  by-op (op.Unbound word) may puts = none (op.Unbound word) refl may puts
  by-op (op.Evict unit) may puts = none (op.Evict unit) refl may puts

pub puts-have-room : PutsHaveRoom
puts-have-room m z k o kept may puts = by-op m z k kept o may puts

-- ---- blocks of the tree

row-named-of : (size : ℕ) (r : Row) → IsSoundRow size (stored_row r) → length (blocks_of (extents_of r)) ≡ durable_blocks in_lengths (line_of r)
row-named-of size row.Dir sound = refl
row-named-of size (row.File f) sound = length-blocks f.extents ∙ sound.whole

rows-named-of : (size : ℕ) (t : Tree) → AllByRecursion (λ e. IsSoundRow size e.1) (stored_rows t) → length (named t) ≡ sum_by (λ e. durable_blocks in_lengths e.1) (lines_of t)
rows-named-of size [] sound = refl
rows-named-of size (e ∷ es) sound =
    ap length (blocks-append (extents_of e.1) (all_extents es)) ∙ (length-append (blocks_of (extents_of e.1)) (named es)
    ∙ omega (arith, row-named-of size e.1 sound.0, rows-named-of size es sound.1, sum_by-cons (λ x. durable_blocks in_lengths x.1) (e.0, line_of e.1) (lines_of es)))

pub trees-name : TreesNameStoredBlocks
trees-name m t size lines sound = rows-named-of size t sound.files ∙ ap (sum_by (λ e. durable_blocks in_lengths e.1)) lines
