-- A range of bytes in pieces. This project's own.
use Rattle.std.specs.Prelude.{◌≡◌, ℕ, ◌+◌, ◌*◌, ◌<◌, ◌≤◌, List, [], ◌∷◌, length, None}
use Rattle.std.specs.List.{AllByRecursion, concat}
use Rattle.opfs_base.specs.Texts.{Text}
use Rattle.opfs_hist.specs.declared.op.Op.{Op}
use Rattle.opfs_hist.specs.declared.op.Op.TheVariants as op
use Rattle.opfs_hist.specs.declared.reply.Reply.{Reply}
use Rattle.opfs_hist.specs.declared.reply.Reply.TheVariants as reply
use Rattle.opfs_splice.specs.Splicing.{window}

-- All pieces are of a page but for the last one, which may be shorter and has some bytes.
abbrev pub ArePages : List Text → Type 0
ArePages [] = Unit {0}
ArePages (piece ∷ []) = (0 < length piece) × (length piece ≤ 4096)
ArePages (piece ∷ (next ∷ pieces)) = (length piece ≡ 4096) × ArePages (next ∷ pieces)

-- A piece of a page.
abbrev pub IsPage : Text → Type 0
IsPage piece = length piece ≡ 4096

-- From a place on, up to the next one, bytes are cut into pieces, in order. All are of a page, but for the last at the end.
pub record IsCut (bytes : Text) (at next end : ℕ) (pieces : List Text) : Type 0 where
  pub whole : concat pieces ≡ window bytes at (length (concat pieces))
  pub place : next ≡ at + length (concat pieces)
  pub within : next ≤ end
  pub few : 4096 * length pieces ≤ length (concat pieces) + 4095
  pub full : next < end → 4096 * length pieces ≡ length (concat pieces)
  pub whole_pages : next < end → AllByRecursion IsPage pieces
  pub pages : ArePages pieces

-- The slices of a snapshot's row that give these pieces, one behind the other from a place on.
abbrev pub slices_of : ℕ → ℕ → List Text → List (Op × Reply)
slices_of row at [] = []
slices_of row at (piece ∷ pieces) = (op.Slice row at (length piece), reply.Read piece) ∷ slices_of row (at + length piece) pieces

-- A write of a piece at a stream's offset, that was done.
abbrev pub write_of : ℕ → Text → Op × Reply
write_of row piece = (op.Write row piece None, reply.Done)
