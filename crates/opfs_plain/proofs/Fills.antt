-- A byte that is written so often that it passes the end.
use Rattle.std.proofs.Common.{◌≡◌, ℕ, ◌+◌, ◌-◌, ◌≤◌, [], ◌++◌, length, take, drop, sym, ap, ◌∙◌, arith, append_assoc, append-nil}
use Rattle.std.specs.Prelude.{replicate}
use Rattle.std.proofs.lemmas.List.{replicate-append-replicate, length-replicate, drop_all}
use Rattle.opfs_base.specs.Texts.{Text}
use Rattle.opfs_splice.specs.Splicing.{splice}

-- What is written up to the end and then behind it is written at once.
pub fill_beyond : (old : Text) (position count byte : ℕ) → position ≤ length old → length old - position ≤ count
    → splice old position (replicate (length old - position) byte) ++ replicate (count - (length old - position)) byte
    ≡ splice old position (replicate count byte)
fill_beyond old position count byte within beyond =
    let room = length old - position in
    let front = take position (old ++ replicate (position - length old) 0) in
    let first : drop (position + length (replicate room byte)) old ≡ [] =
    drop_all (position + length (replicate room byte)) old (omega (arith, within, length-replicate room byte)) in
    let second : drop (position + length (replicate count byte)) old ≡ [] =
    drop_all (position + length (replicate count byte)) old (omega (arith, within, beyond, length-replicate count byte)) in
    let whole : room + (count - room) ≡ count = omega (arith, beyond) in
    ap (λ d. ((front ++ replicate room byte) ++ d) ++ replicate (count - room) byte) first
    ∙ ap (λ t. t ++ replicate (count - room) byte) (append-nil (front ++ replicate room byte))
    ∙ append_assoc front (replicate room byte) (replicate (count - room) byte)
    ∙ ap (λ r. front ++ r) (replicate-append-replicate room (count - room) byte ∙ ap (λ n. replicate n byte) whole)
    ∙ sym (append-nil (front ++ replicate count byte))
    ∙ ap (λ d. (front ++ replicate count byte) ++ d) (sym second)
