-- Bytes told in lengths, and own rows in outlines.
use Rattle.std.proofs.Common.{◌≡◌, ℕ, length, List, Some, None, option_map, Option, refl, sym, subst}
use Rattle.opfs_base.specs.Texts.{Text}
use Rattle.opfs_hist.specs.declared.op.Op.{Op}
use Rattle.opfs_hist.specs.declared.op.Op.TheVariants as op
use Rattle.opfs_machine.specs.declared.own.Own.{Own}
use Rattle.opfs_machine.specs.declared.own.Own.TheVariants as own
use Rattle.opfs_machine.specs.declared.own.StreamOutline.{StreamOutline}
use Rattle.opfs_machine.specs.declared.state.State.{State}
use Rattle.opfs_machine.specs.Agents.{agent_of, own_of, open_stream, stream_in, of_row}
use Rattle.opfs_machine.specs.Contents.{in_bytes, in_lengths, outline_of, stream_with, handle_with, written_row, truncated_row, sought_row, moved_row, advanced_row}
use Rattle.opfs_machine.specs.Effects.{effect, content_of}
use Rattle.opfs_machine.specs.Replies.{sizes_of, sizes_in}
use Rattle.opfs_laws.proofs.Splices.{length-splice, length-resize}
use Rattle.opfs_laws.specs.Lengths.Outlines.{in_lengths_of}
use Rattle.opfs_laws.proofs.lengths.Readers.{Fits}
use Rattle.opfs_laws.proofs.lengths.SameEffects.{effect-on}

written-fits : (r : Own) (position : ℕ) (new : Text) (reserve : ℕ) → stream_with (outline_of r) reserve ≡ outline_of (written_row r position new reserve)
written-fits (own.Stream w) position new reserve = refl
written-fits own.ClosedStream position new reserve = refl
written-fits (own.Handle h) position new reserve = refl
written-fits own.ClosedHandle position new reserve = refl
written-fits (own.Snapshot bytes) position new reserve = refl
written-fits (own.Iterator i) position new reserve = refl

truncated-fits : (r : Own) (size reserve : ℕ) → stream_with (outline_of r) reserve ≡ outline_of (truncated_row r size reserve)
truncated-fits (own.Stream w) size reserve = refl
truncated-fits own.ClosedStream size reserve = refl
truncated-fits (own.Handle h) size reserve = refl
truncated-fits own.ClosedHandle size reserve = refl
truncated-fits (own.Snapshot bytes) size reserve = refl
truncated-fits (own.Iterator i) size reserve = refl

sought-fits : (r : Own) (offset : ℕ) → outline_of r ≡ outline_of (sought_row r offset)
sought-fits (own.Stream w) offset = refl
sought-fits r offset = refl

moved-fits : (r : Own) (cursor reserve : ℕ) → handle_with (outline_of r) reserve ≡ outline_of (moved_row r cursor reserve)
moved-fits (own.Stream w) cursor reserve = refl
moved-fits own.ClosedStream cursor reserve = refl
moved-fits (own.Handle h) cursor reserve = refl
moved-fits own.ClosedHandle cursor reserve = refl
moved-fits (own.Snapshot bytes) cursor reserve = refl
moved-fits (own.Iterator i) cursor reserve = refl

advanced-fits : (r : Own) (names : List Text) → outline_of r ≡ outline_of (advanced_row r names)
advanced-fits (own.Iterator i) names = refl
advanced-fits r names = refl

pub lengths-fit : Fits in_bytes in_lengths length outline_of
lengths-fit = record {
  empty = refl;
  size = λ x. refl;
  overwritten = λ x position new. sym (length-splice x position new);
  cut = λ x size. sym (length-resize x size);
  outline = λ r. refl;
  stream = λ file x reserve. refl;
  written = written-fits;
  truncated = truncated-fits;
  sought = sought-fits;
  closed_stream = refl;
  handle = λ file mode. refl;
  moved = moved-fits;
  closed_handle = refl;
  snapshot = λ x. refl;
  iterator = λ dir. refl;
  advanced = advanced-fits;
}

-- A stream that is open stores as many bytes as its size says.
stores : (s : State Text Own) (o : Option Own) (x : StreamOutline) → of_row (λ r. stream_in (outline_of r)) o ≡ Some x
    → content_of in_lengths (option_map outline_of o) (sizes_in s o).size ≡ length (content_of in_bytes o (sizes_in s o).size)
stores s None x is = refl
stores s (Some (own.Stream w)) x is = refl
stores s (Some own.ClosedStream) x is = refl
stores s (Some (own.Handle h)) x is = cc
stores s (Some own.ClosedHandle) x is = refl
stores s (Some (own.Snapshot bytes)) x is = refl
stores s (Some (own.Iterator i)) x is = refl

stores-named : (s : State Text Own) (k : ℕ) (o : Op) (n : ℕ) → o ≡ op.Close n → (x : StreamOutline) → open_stream in_bytes s k n ≡ Some x
    → content_of in_lengths (option_map outline_of (own_of (agent_of s k) n)) (sizes_of s k o).size ≡ length (content_of in_bytes (own_of (agent_of s k) n) (sizes_of s k o).size)
stores-named s k o n is x opened =
    subst (λ p. content_of in_lengths (option_map outline_of (own_of (agent_of s k) n)) (sizes_of s k p).size ≡ length (content_of in_bytes (own_of (agent_of s k) n) (sizes_of s k p).size))
    (sym is) (stores s (own_of (agent_of s k) n) x opened)

pub same_effect : (s : State Text Own) (k : ℕ) (o : Op) → effect in_lengths (in_lengths_of s) (sizes_of s k o) k o ≡ in_lengths_of (effect in_bytes s (sizes_of s k o) k o)
same_effect s k o = effect-on in_bytes in_lengths length outline_of lengths-fit s k (sizes_of s k o) o (stores-named s k o)
