-- A page of which a put writes each byte.
use Rattle.std.proofs.Common.{◌≡◌, ℕ, ◌+◌, ◌*◌, ◌<◌, ◌≤◌, ◌++◌, List, length, replicate, slice_index, sym, ap, ◌∙◌, inl, inr, arith}
use Rattle.std.proofs.lemmas.Bool.{cases_lt}
use Rattle.std.proofs.lemmas.List.{get_or_past, get_or-append_right, length-replicate}
use Rattle.opfs_pages.specs.Copies.{IsPageOf}
use Rattle.opfs_pages.specs.Stages.{changed}
use Rattle.opfs_splice.specs.Splicing.{splice, resize}
use Rattle.opfs_work.proofs.Laws.{splice_inside, length-resize, resize_at}

-- Whatever was there, the row has the same bytes in it.
covered-byte : (one other given : List ℕ) (at size place : ℕ) → (place < size → (at ≤ place) × (place < at + length given)) → slice_index (changed one at given size) place ≡ slice_index (changed other at given size) place
covered-byte one other given at size place covered = elim (cases_lt place size) [
  | inl inside ↦
      let both = covered inside in
      resize_at (splice one at given) size place inside ∙ splice_inside one at given place both.0 both.1
      ∙ sym (resize_at (splice other at given) size place inside ∙ splice_inside other at given place both.0 both.1)
  | inr past ↦
      get_or_past (resize (splice one at given) size) place 0 (omega (arith, length-resize (splice one at given) size, past))
      ∙ sym (get_or_past (resize (splice other at given) size) place 0 (omega (arith, length-resize (splice other at given) size, past)))
]

pub covered-page : (bytes old new given : List ℕ) (page at size : ℕ) → length old ≡ 4096 → ((row : List ℕ) → IsPageOf row page old → IsPageOf (changed row at given size) page new)
    → ((place : ℕ) → 4096 * page ≤ place → place < 4096 * page + 4096 → place < size → (at ≤ place) × (place < at + length given)) → IsPageOf (changed bytes at given size) page new
covered-page bytes old new given page at size whole changes covered =
    let row : List ℕ = replicate (4096 * page) 0 ++ old in
    let is : IsPageOf row page old = record {
      size = whole;
      at = λ k below. sym (get_or-append_right (replicate (4096 * page) 0) old (4096 * page) (4096 * page + k) 0 (length-replicate {A = ℕ} (4096 * page) 0) (omega arith) ∙ ap (λ (n : ℕ). slice_index old n) (omega arith));
    } in
    let after = changes row is in
    record { size = after.size; at = λ k below. after.at k below ∙ covered-byte row bytes given at size (4096 * page + k) (covered (4096 * page + k) (omega arith) (omega (arith, below))) }
