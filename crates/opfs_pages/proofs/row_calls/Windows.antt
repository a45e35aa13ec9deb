-- Bytes from a position on, as many as there are.
use Rattle.std.proofs.Common.{◌≡◌, ℕ, ◌-◌, ◌<◌, min, List, length, drop, get_or, sym, ap, ◌∙◌, arith}
use Rattle.std.proofs.lemmas.Grind.{same_number_lists}
use Rattle.std.proofs.lemmas.List.{length-take, length-drop, get_or-take}
use Rattle.opfs_splice.specs.Splicing.{window}

pub window-cut : (b : List ℕ) (at len start count : ℕ) → start ≡ min at (length b) → count ≡ min len (length b - start) → window b start count ≡ window b at len
window-cut b at len start count start_is count_is =
    same_number_lists (window b start count) (window b at len) (omega (arith, length-take count (drop start b), length-drop start b, length-take len (drop at b), length-drop at b, start_is, count_is))
    (λ i within.
    let size : length (window b start count) ≡ count = length-take count (drop start b) ∙ omega (arith, length-drop start b, count_is, start_is) in
    let below : i < count = omega (arith, size) in
    let same : start ≡ at = omega (arith, below, start_is, count_is) in
    let small : i < len = omega (arith, below, count_is) in
    get_or-take count (drop start b) i 0 below ∙ ap (λ (n : ℕ). get_or (drop n b) i 0) same ∙ sym (get_or-take len (drop at b) i 0 small))
