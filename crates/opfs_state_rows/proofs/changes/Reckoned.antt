-- How the usage and the pool go on through the small changes.
use Rattle.std.proofs.Common.{◌≡◌, ℕ, suc, ◌+◌, ◌-◌, ◌*◌, ◌<◌, ◌≤◌, ◌^◌, Bool, true, false, cond, Option, Some, None, refl, sym, ap, ◌∙◌, subst, arith}
use Rattle.opfs_base.specs.Blocks.{blocks}
use Rattle.opfs_base.specs.Places.{Place}
use Rattle.opfs_base.specs.Texts.{Text}
use Rattle.opfs_base.specs.Units.{origin_of}
use Rattle.opfs_machine.specs.declared.own.HandleOutline.{HandleOutline}
use Rattle.opfs_machine.specs.declared.own.Outline.{Outline}
use Rattle.opfs_machine.specs.declared.own.Outline.TheVariants as outline
use Rattle.opfs_machine.specs.declared.own.StreamOutline.{StreamOutline}
use Rattle.opfs_machine.specs.declared.state.FileRow.{FileRow}
use Rattle.opfs_machine.specs.Agents.{with_own}
use Rattle.opfs_machine.specs.Contents.{in_lengths}
use Rattle.opfs_machine.specs.Rows.{file_at, with_file}
use Rattle.opfs_machine.specs.Sums.{usage, pool, charge}
use Rattle.opfs_register.specs.Slots.{slot_in, stream_at, handle_at}
use Rattle.opfs_state_rows.proofs.standing.AgentMoves.{own-slots}
use Rattle.opfs_state_rows.proofs.standing.Counted.{usage-is, pool-is, charge-is}
use Rattle.opfs_state_rows.proofs.standing.FileMoves.{amounts_of, file-moves}
use Rattle.opfs_state_rows.proofs.standing.OpenHandles.{slot-is-handle}
use Rattle.opfs_state_rows.proofs.standing.Reserved.{slot-is-stream}
use Rattle.opfs_state_rows.proofs.standing.SlotMoves.{IsRowOf, slot-moves, stream-row, handle-row, closed-stream-row, closed-handle-row}
use Rattle.opfs_state_rows.proofs.standing.Units.{unit_itself}
use Rattle.opfs_state_rows.specs.Standing.Moves.{Amounts, Moves, kept_amounts}
use Rattle.opfs_state_rows.specs.Standing.Seen.{Machine, with_slot_at}
use Rattle.opfs_state_rows.specs.Standing.Sums.{of_origin, anywhere}

-- A change of one unit, in the words of the machine.
pub record Reckons (m new : Machine) (unit : Text) (less more : Amounts) : Type 0 where
  pub usage : usage in_lengths new (origin_of unit) + less.usage ≡ usage in_lengths m (origin_of unit) + more.usage
  pub pool : pool in_lengths new + less.blocks ≡ pool in_lengths m + more.blocks
  pub limits : new.limits ≡ m.limits

whole : (unit : Text) (k : ℕ) → cond (of_origin (origin_of unit) unit) k 0 ≡ k
whole unit k = ap (λ t. cond t k 0) (unit_itself (origin_of unit) (origin_of unit) refl)

pub reckoned : (m new : Machine) (unit : Text) (less more : Amounts) → Moves m new unit less more → Reckons m new unit less more
reckoned m new unit less more moves = record {
  usage = omega (arith, usage-is new (origin_of unit), usage-is m (origin_of unit), moves.usage (of_origin (origin_of unit)), whole unit less.usage, whole unit more.usage);
  pool = omega (arith, pool-is new, pool-is m, moves.blocks anywhere);
  limits = moves.limits;
}

pub file-reckons : (m : Machine) (place : Place) (change : FileRow ℕ → FileRow ℕ) (f : FileRow ℕ) → file_at m place ≡ Some f
    → Reckons m (with_file m place change) place.0 (amounts_of f) (amounts_of (change f))
file-reckons m place change f found = reckoned m (with_file m place change) place.0 (amounts_of f) (amounts_of (change f)) (file-moves m place change f found)

pub slot-reckons : (m : Machine) (at n : ℕ) (unit : Text) (old new : Outline) → slot_in m.agents at n ≡ Some old → IsRowOf unit old → IsRowOf unit new
    → Reckons m (with_own m (suc at) (suc n) new) unit (kept_amounts old) (kept_amounts new)
slot-reckons m at n unit old new is was now =
    subst (λ (x : Machine). Reckons m x unit (kept_amounts old) (kept_amounts new)) (own-slots m at n new)
    (reckoned m (with_slot_at m at n new) unit (kept_amounts old) (kept_amounts new) (slot-moves m at n unit old new is was now))

pub closed-reckons : (m : Machine) (at n : ℕ) (w : StreamOutline) → stream_at m.agents at n ≡ Some w
    → Reckons m (with_own m (suc at) (suc n) outline.ClosedStream) w.file.0 (record { usage = w.reserve; blocks = w.reserve; charge = 0 }) (record { usage = 0; blocks = 0; charge = 0 })
closed-reckons m at n w is = slot-reckons m at n w.file.0 (outline.Stream w) outline.ClosedStream (slot-is-stream m.agents at n w is) (stream-row w) (closed-stream-row w.file.0)

pub handle-reckons : (m : Machine) (at n : ℕ) (h : HandleOutline) (new : Outline) → handle_at m.agents at n ≡ Some h → IsRowOf h.file.0 new
    → Reckons m (with_own m (suc at) (suc n) new) h.file.0 (record { usage = 0; blocks = h.reserve; charge = 0 }) (kept_amounts new)
handle-reckons m at n h new is now = slot-reckons m at n h.file.0 (outline.Handle h) new (slot-is-handle m.agents at n h is) (handle-row h) now
