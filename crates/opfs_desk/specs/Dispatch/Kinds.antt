-- Which kind of call a call is, by its word and by what is there before its agent's pending calls. This project's own.
use Rattle.std.specs.Prelude.{◌≡◌, ℕ, Bool, true, is_some}
use Rattle.opfs_desk.specs.declared.dispatch.kinds.CallKind.{CallKind}
use Rattle.opfs_desk.specs.declared.dispatch.kinds.CallKind.TheVariants as kind
use Rattle.opfs_desk_contents.specs.Words.{flushes_nothing, stores_row}
use Rattle.opfs_desk_entries.specs.Releases.Leaving.{leaves_row}
use Rattle.opfs_desk_entries.specs.Buckets.Estimating.{is_estimate}
use Rattle.opfs_desk_entries.specs.Buckets.Granting.{gives_mode}
use Rattle.opfs_desk_entries.specs.KeptBack.Keeping.{keeps_back}
use Rattle.opfs_desk_entries.specs.Answers.Next.{is_next}
use Rattle.opfs_desk_entries.specs.Answers.Telling.{TellsOnly, is_done, is_of_mode}
use Rattle.opfs_desk_bytes.specs.Reading.Words.{gets_file, reads_row}
use Rattle.opfs_desk_steps.specs.RowLaws.Opens.{opens_row}
use Rattle.opfs_desk_steps.specs.RowLaws.Puts.{puts_row}
use Rattle.opfs_hist.specs.declared.op.Op.{Op}
use Rattle.opfs_hist.specs.declared.op.Op.TheVariants as op
use Rattle.opfs_machine.specs.Agents.{open_handle}
use Rattle.opfs_machine.specs.Contents.{in_lengths}
use Rattle.opfs_state_rows.specs.Standing.Seen.{Machine}

-- The access handle that a call flushes or closes is open.
abbrev pub has_handle : Machine → ℕ → Op → Bool
has_handle m k (op.SyncFlush n) = is_some (open_handle in_lengths m k n)
has_handle m k (op.SyncClose n) = is_some (open_handle in_lengths m k n)
has_handle m k o = true

-- A call is of the kind that its function asks for.
abbrev pub IsOfKind : CallKind → Machine → ℕ → Op → Type 0
IsOfKind kind.Told m k o = (is_done o ≡ true) × TellsOnly m k o
IsOfKind kind.Persisted m k o = (is_of_mode o ≡ true) × TellsOnly m k o
IsOfKind kind.Given m k o = gives_mode m k o ≡ true
IsOfKind kind.Next m k o = is_next o ≡ true
IsOfKind kind.Estimate m k o = is_estimate o ≡ true
IsOfKind kind.Kept m k o = keeps_back m k o ≡ true
IsOfKind kind.GetFile m k o = gets_file o ≡ true
IsOfKind kind.Opened m k o = opens_row o ≡ true
IsOfKind kind.Put m k o = puts_row o ≡ true
IsOfKind kind.SyncRead m k o = reads_row o ≡ true
IsOfKind kind.Stored m k o = stores_row m k o ≡ true
IsOfKind kind.Idle m k o = flushes_nothing m k o ≡ true
IsOfKind kind.Left m k o = leaves_row m k o ≡ true
