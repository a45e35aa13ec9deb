-- Open rows whose files are there. This project's own.
use Rattle.std.specs.Prelude.{◌≡◌, ℕ, true, Some, IsSome, is_some}
use Rattle.opfs_machine.specs.declared.own.HandleOutline.{HandleOutline}
use Rattle.opfs_machine.specs.declared.own.StreamOutline.{StreamOutline}
use Rattle.opfs_machine.specs.Rows.{row_at}
use Rattle.opfs_register.specs.Slots.{stream_at, handle_at}
use Rattle.opfs_state_rows.specs.Standing.Seen.{Machine}

-- The own row at a place is an open stream, or an open access handle, and something is where its file stands.
pub record IsStreamAt (m : Machine) (at n : ℕ) : Type 0 where
  pub stream : IsSome (stream_at m.agents at n)
  pub there : (w : StreamOutline) → stream_at m.agents at n ≡ Some w → is_some (row_at m w.file) ≡ true

pub record IsHandleAt (m : Machine) (at n : ℕ) : Type 0 where
  pub handle : IsSome (handle_at m.agents at n)
  pub there : (h : HandleOutline) → handle_at m.agents at n ≡ Some h → is_some (row_at m h.file) ≡ true
