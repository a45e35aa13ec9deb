-- What every state that a legal history reaches keeps. This project's own.
use Rattle.std.specs.Ordering.{nat_cmp, is_lt}
use Rattle.std.specs.Cmp.Lexicographic.{slice_cmp}
use Rattle.std.specs.Prelude.{Bool, true, ◌&&◌, [], ◌∷◌, ◌≡◌, ℕ, ◌+◌, ◌≤◌, List, length, Some, IsTrue}
use Rattle.std.specs.FinMap.Entries.{find, is_sorted}
use Rattle.opfs_base.specs.Blocks.{blocks}
use Rattle.opfs_base.specs.Places.{Place, place_cmp, child}
use Rattle.opfs_base.specs.Texts.{Text}
use Rattle.opfs_hist.specs.declared.entry.Entry.{Entry}
use Rattle.opfs_hist.specs.declared.op.Mode.TheVariants.{ReadOnly}
use Rattle.opfs_locks.specs.declared.Want.{Want}
use Rattle.opfs_machine.specs.declared.own.HandleRow.{HandleRow}
use Rattle.opfs_machine.specs.declared.own.StreamRow.{StreamRow}
use Rattle.opfs_machine.specs.declared.own.Own.{Own}
use Rattle.opfs_machine.specs.declared.own.Own.TheVariants as own
use Rattle.opfs_machine.specs.declared.state.FileRow.{FileRow}
use Rattle.opfs_machine.specs.declared.state.Row.{Row}
use Rattle.opfs_machine.specs.declared.state.Row.TheVariants as row
use Rattle.opfs_machine.specs.declared.state.State.{State}
use Rattle.opfs_machine.specs.Agents.{agent_of, own_of}
use Rattle.opfs_machine.specs.Contents.{in_bytes}
use Rattle.opfs_machine.specs.Histories.{Legal, state_after}
use Rattle.opfs_machine.specs.Openings.{Opening, begun}
use Rattle.opfs_machine.specs.Rows.{Rows, file_at}
use Rattle.opfs_machine.specs.Sums.{pool, charge}
use Rattle.opfs_laws.specs.Covered.{AreCovered}
use Rattle.opfs_laws.specs.Holders.{hold_of, AreLocksOfHolders}

-- The rows stand in the order of their places, one at each.
abbrev pub IsInOrder : {F : Type 0} → Rows F → Type 0
IsInOrder rows = IsTrue (is_sorted place_cmp rows)

-- What stands below a root stands in a directory.
abbrev pub IsClosed : {F : Type 0} → Rows F → Type 0
IsClosed {F} rows = (dir : Place) (name : Text) (r : Row F) → find place_cmp (child dir name) rows ≡ Some r → find place_cmp dir rows ≡ Some row.Directory

-- The texts stand in order, each once.
abbrev pub is_below : Text → List Text → Bool
is_below x [] = true
is_below x (y ∷ ys) = is_lt (slice_cmp nat_cmp x y) && is_below x ys

abbrev pub is_rising : List Text → Bool
is_rising [] = true
is_rising (x ∷ xs) = is_below x xs && is_rising xs

-- What is kept of the state: its rows are a map in order and closed under parents; each lock tells its holders; the
-- file of each open row is there; a stream's reserve covers its buffer; an access handle that may not write keeps none;
-- and a file's bytes and time stamp are stored for good, or an access handle that may write it keeps blocks enough for
-- them.
-- The pool is within the data blocks, and the charge with a record of no changes within the area.
pub record IsWhole (s : State Text Own) : Type 0 where
  pub order : IsInOrder s.rows
  pub parents : IsClosed s.rows
  pub locks : AreLocksOfHolders s
  pub files : (k n : ℕ) (r : Own) (place : Place) (w : Want) → own_of (agent_of s k) n ≡ Some r → hold_of r ≡ Some (place, w)
      → (f : FileRow Text) × (file_at s place ≡ Some f)
  pub buffers : (k n : ℕ) (w : StreamRow) → own_of (agent_of s k) n ≡ Some (own.Stream w) → blocks (length w.buffer) ≤ w.reserve
  pub readers : (k n : ℕ) (h : HandleRow) → own_of (agent_of s k) n ≡ Some (own.Handle h) → h.mode ≡ ReadOnly → h.reserve ≡ 0
  pub covered : AreCovered s
  pub modes : IsTrue (is_rising s.persistent)
  pub pool : pool in_bytes s ≤ s.limits.blocks
  pub area : charge in_bytes s + 7 ≤ s.limits.area

-- An opening whose rows are in order and closed under parents, whose persistent units are in order, and which fits.
pub record IsWholeOpening (o : Opening) : Type 0 where
  pub order : IsInOrder (begun o).rows
  pub parents : IsClosed (begun o).rows
  pub modes : IsTrue (is_rising (begun o).persistent)
  pub pool : pool in_bytes (begun o) ≤ o.limits.blocks
  pub area : charge in_bytes (begun o) + 7 ≤ o.limits.area

abbrev pub WhatEveryReachedStateKeeps : Type 0
WhatEveryReachedStateKeeps = (o : Opening) (h : List Entry) → IsWholeOpening o → Legal o h → IsWhole (state_after o h)
