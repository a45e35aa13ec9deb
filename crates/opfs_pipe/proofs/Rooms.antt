-- That there is room for the entries of a pipe.
use Rattle.std.proofs.Common.{◌≡◌, ℕ, ◌+◌, ◌≤◌, List, length, ap, ◌∙◌, arith}
use Rattle.std.proofs.lemmas.List.{length-append}
use Rattle.opfs_base.specs.Texts.{Text}
use Rattle.opfs_turns.specs.Asking.Rows.{SnapshotSeen, StreamSeen}
use Rattle.opfs_turns.specs.Agents.{AgentSeen}
use Rattle.opfs_turns.specs.Calls.{HasRoom}
use Rattle.opfs_pipe.specs.Sides.{Drained, Filled}
use Rattle.opfs_pipe.proofs.Lists.{cut-few}

abbrev pub IsFew : {O : Type 0} → AgentSeen O → ℕ → Type 0
IsFew a most = (a.rows ≤ 60000000) × (a.entries ≤ most)

module _ {O : Type 0} (tells : Type 0) where
  -- The reader, for one slice more.
  pub fill-room : (a b : AgentSeen O) (x : SnapshotSeen) (at place end : ℕ) (old new : List Text) (next : ℕ) → Filled tells a b x at place end old new next → IsFew a (59000000 + length old) → end ≤ at + 268435456 → HasRoom b
  fill-room a b x at place end old new next f few small =
      let count : length new ≡ length old + length f.pieces = ap length f.grown ∙ length-append old f.pieces in
      let most = cut-few x.bytes at next end new f.cut small in
      record { rows = omega (arith, f.sliced.goes.rows, few.0); entries = omega (arith, f.sliced.goes.entries, few.1, count, most) }

  -- The writer, for one write more.
  pub drain-room : (a b : AgentSeen O) (x y : StreamSeen) (got gotten : List Text) (d : Drained tells a b x y got gotten) (most : ℕ) → IsFew a most → most + length d.pieces ≤ 60000000 → HasRoom b
  drain-room a b x y got gotten d most few small = record { rows = omega (arith, d.written.goes.rows, few.0); entries = omega (arith, d.written.goes.entries, few.1, small) }
