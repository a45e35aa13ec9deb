-- What each call leaves of the own row that it names or makes, where it is not refused. This project's own.
use Rattle.std.specs.Prelude.{◌≡◌, ℕ, suc, ◌+◌, min, false, if◌then◌else◌, Bool, [], length, Option, Some, IsTrue}
use Rattle.opfs_base.specs.Places.{place_of}
use Rattle.opfs_base.specs.Texts.{Text}
use Rattle.opfs_base.specs.declared.locator.Locator.{Locator}
use Rattle.opfs_hist.specs.declared.op.Mode.{Mode}
use Rattle.opfs_hist.specs.declared.op.Op.{Op}
use Rattle.opfs_hist.specs.declared.op.Op.TheVariants as op
use Rattle.opfs_hist.specs.declared.reply.Reply.{Reply}
use Rattle.opfs_machine.specs.declared.own.HandleRow.{HandleRow}
use Rattle.opfs_machine.specs.declared.own.StreamRow.{StreamRow}
use Rattle.opfs_machine.specs.declared.own.Own.{Own}
use Rattle.opfs_machine.specs.declared.own.Own.TheVariants as own
use Rattle.opfs_machine.specs.declared.state.FileRow.{FileRow}
use Rattle.opfs_machine.specs.declared.state.State.{State}
use Rattle.opfs_machine.specs.Agents.{agent_of, own_of}
use Rattle.opfs_machine.specs.Contents.{in_bytes}
use Rattle.opfs_machine.specs.Replies.{sizes_in, bytes_at}
use Rattle.opfs_machine.specs.Rows.{file_at}
use Rattle.opfs_machine.specs.Rulings.{start_of, size_written, reserve_for, first_reserve}
use Rattle.opfs_machine.specs.Steps.{is_refusal, after_reply}
use Rattle.opfs_splice.specs.Splicing.{splice, resize}

abbrev pub own_after : State Text Own → ℕ → Reply → Op → ℕ → Option Own
own_after s k told called n = own_of (agent_of (after_reply s k called told) k) n

abbrev pub stream_at : State Text Own → ℕ → ℕ → StreamRow → Type 0
stream_at s k n w = own_of (agent_of s k) n ≡ Some (own.Stream w)

abbrev pub handle_at : State Text Own → ℕ → ℕ → HandleRow → Type 0
handle_at s k n h = own_of (agent_of s k) n ≡ Some (own.Handle h)

-- A live agent's call was not refused.
pub record IsDone (s : State Text Own) (k : ℕ) (told : Reply) : Type 0 where
  pub live : IsTrue (agent_of s k).live
  pub done : is_refusal told ≡ false

pub record CallsChangeTheirRow : Type 0 where
  pub wrote : (s : State Text Own) (k : ℕ) (told : Reply) (n : ℕ) (bytes : Text) (position : Option ℕ) (w : StreamRow) → IsDone s k told → stream_at s k n w
      → own_after s k told (op.Write n bytes position) n
      ≡ Some (own.Stream (record w { buffer = splice w.buffer (start_of (sizes_in s (Some (own.Stream w))) position) bytes; offset = start_of (sizes_in s (Some (own.Stream w))) position + length bytes; reserve = reserve_for w.reserve (size_written (sizes_in s (Some (own.Stream w))) position bytes) }))
  pub truncated : (s : State Text Own) (k : ℕ) (told : Reply) (n size : ℕ) (w : StreamRow) → IsDone s k told → stream_at s k n w
      → own_after s k told (op.Truncate n size) n ≡ Some (own.Stream (record w { buffer = resize w.buffer size; offset = min w.offset size; reserve = reserve_for w.reserve size }))
  pub sync_wrote : (s : State Text Own) (k : ℕ) (told : Reply) (n : ℕ) (bytes : Text) (at : Option ℕ) (h : HandleRow) → IsDone s k told → handle_at s k n h
      → own_after s k told (op.SyncWrite n bytes at) n
      ≡ Some (own.Handle (record h { cursor = start_of (sizes_in s (Some (own.Handle h))) at + length bytes; reserve = reserve_for h.reserve (size_written (sizes_in s (Some (own.Handle h))) at bytes) }))
  pub sync_wrote_bytes : (s : State Text Own) (k : ℕ) (told : Reply) (n : ℕ) (bytes : Text) (at : Option ℕ) (h : HandleRow) (f : FileRow Text) → IsDone s k told → handle_at s k n h → file_at s h.file ≡ Some f
      → bytes_at (after_reply s k (op.SyncWrite n bytes at) told) h.file ≡ splice f.present (start_of (sizes_in s (Some (own.Handle h))) at) bytes
  pub sync_truncated : (s : State Text Own) (k : ℕ) (told : Reply) (n size : ℕ) (h : HandleRow) → IsDone s k told → handle_at s k n h
      → own_after s k told (op.SyncTruncate n size) n ≡ Some (own.Handle (record h { cursor = min h.cursor size; reserve = reserve_for h.reserve size }))
  pub sync_truncated_bytes : (s : State Text Own) (k : ℕ) (told : Reply) (n size : ℕ) (h : HandleRow) (f : FileRow Text) → IsDone s k told → handle_at s k n h → file_at s h.file ≡ Some f
      → bytes_at (after_reply s k (op.SyncTruncate n size) told) h.file ≡ resize f.present size
  pub closed : (s : State Text Own) (k : ℕ) (told : Reply) (n : ℕ) (w : StreamRow) → IsDone s k told → stream_at s k n w → own_after s k told (op.Close n) n ≡ Some own.ClosedStream
  pub aborted : (s : State Text Own) (k : ℕ) (told : Reply) (n : ℕ) (w : StreamRow) → IsDone s k told → stream_at s k n w → own_after s k told (op.Abort n) n ≡ Some own.ClosedStream
  pub sync_closed : (s : State Text Own) (k : ℕ) (told : Reply) (n : ℕ) (h : HandleRow) → IsDone s k told → handle_at s k n h → own_after s k told (op.SyncClose n) n ≡ Some own.ClosedHandle
  pub discarded : (s : State Text Own) (k : ℕ) (told : Reply) (n : ℕ) (h : HandleRow) → IsDone s k told → handle_at s k n h → own_after s k told (op.Discard n) n ≡ Some own.ClosedHandle
  pub flushed : (s : State Text Own) (k : ℕ) (told : Reply) (n : ℕ) (h : HandleRow) → IsDone s k told → handle_at s k n h → own_after s k told (op.SyncFlush n) n ≡ Some (own.Handle (record h { reserve = 0 }))
  pub opened : (s : State Text Own) (k : ℕ) (told : Reply) (at : Locator) (keep : Bool) (f : FileRow Text) → IsDone s k told → file_at s (place_of at) ≡ Some f
      → own_after s k told (op.CreateWritable at keep) (suc (length (agent_of s k).own))
      ≡ Some (own.Stream (record { file = place_of at; buffer = if keep then f.present else []; offset = 0; reserve = first_reserve in_bytes s at keep }))
  pub sync_opened : (s : State Text Own) (k : ℕ) (told : Reply) (at : Locator) (m : Mode) → IsDone s k told
      → own_after s k told (op.CreateSyncAccessHandle at m) (suc (length (agent_of s k).own)) ≡ Some (own.Handle (record { file = place_of at; mode = m; cursor = 0; reserve = 0 }))
