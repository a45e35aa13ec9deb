-- How long spliced and cut bytes are.
use Rattle.std.proofs.Common.{◌≡◌, ℕ, ◌+◌, max, length, arith, length-append, length-drop}
use Rattle.std.proofs.lemmas.List.{length-take, length-replicate}
use Rattle.opfs_base.specs.Texts.{Text}
use Rattle.opfs_splice.specs.Splicing.{splice, resize}

pub length-splice : (old : Text) (position : ℕ) (new : Text) → length (splice old position new) ≡ max (length old) (position + length new)
length-splice old position new =
    simp (length-append, length-drop, length-take, length-replicate) (omega arith)

pub length-resize : (old : Text) (size : ℕ) → length (resize old size) ≡ size
length-resize old size = simp (length-append, length-take, length-replicate) (omega arith)
