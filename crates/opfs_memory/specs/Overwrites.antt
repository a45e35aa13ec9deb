-- A write in place.
use Rattle.std.specs.Prelude.{◌≡◌, ℕ, ◌+◌, ◌-◌, ◌<◌, ◌≤◌, ◌⊎◌, List, ◌++◌, length, take, drop, slice_index, refl}
use Rattle.std.proofs.Common.{◌∙◌, ap, inl, inr, arith}
use Rattle.std.proofs.lemmas.List.{length-append, length-take-le, length-drop, drop_at, take_at, get_or_append_left, get_or-take, get_or-append_right, get_or-drop}
use Rattle.opfs_outside.specs.Bytes.{window}
use Rattle.opfs_outside.specs.Windows.{window_is}
use Rattle.opfs_memory.specs.Disks.{Overwritten}

module _ (at : ℕ) (xs ys : List ℕ) (fits : at + length ys ≤ length xs) where
  abbrev written_over : List ℕ
  written_over = take at xs ++ (ys ++ drop (length ys) (drop at xs))

  front : length (take at xs) ≡ at
  front = length-take-le at xs (omega arith)

  length-written_over : length written_over ≡ length xs
  length-written_over = omega (arith, length-append (take at xs) (ys ++ drop (length ys) (drop at xs)), length-append ys (drop (length ys) (drop at xs)), front, length-drop (length ys) (drop at xs), length-drop at xs)

  window-written_over : window written_over at (length ys) ≡ ys
  window-written_over = rw (window_is written_over at (length ys) (omega (arith, length-written_over)), drop_at (take at xs) (ys ++ drop (length ys) (drop at xs)) at front) (take_at ys (drop (length ys) (drop at xs)) (length ys) refl)

  same-written_over : (i : ℕ) → (i < at) ⊎ (at + length ys ≤ i) → slice_index written_over i ≡ slice_index xs i
  same-written_over i (inl below) = get_or_append_left (take at xs) (ys ++ drop (length ys) (drop at xs)) 0 i (omega (arith, front)) ∙ get_or-take at xs i 0 below
  same-written_over i (inr past) =
      let e : at + (length ys + ((i - at) - length ys)) ≡ i = omega arith in
      get_or-append_right (take at xs) (ys ++ drop (length ys) (drop at xs)) at i 0 front (omega arith)
      ∙ get_or-append_right ys (drop (length ys) (drop at xs)) (length ys) (i - at) 0 refl (omega arith)
      ∙ get_or-drop (length ys) (drop at xs) ((i - at) - length ys) 0
      ∙ get_or-drop at xs (length ys + ((i - at) - length ys)) 0
      ∙ ap (λ k. slice_index xs k) e

  pub is_overwritten : (k : ℕ) (zs : List ℕ) → k ≡ length ys → zs ≡ ys → Overwritten at ys xs (take at xs ++ (zs ++ drop k (drop at xs)))
  is_overwritten k zs e f = rw (e, f) (record { size = length-written_over; written = window-written_over; elsewhere = same-written_over })

-- a copy of a part is a window
pub is_window : (at n k : ℕ) (xs ys zs : List ℕ) → at + n ≤ length ys → xs ≡ ys → k ≡ n → length zs ≡ n → zs ≡ take k (drop at xs) → zs ≡ window ys at (length zs)
is_window at n k xs ys zs fits e f g h = rw g (rw (window_is ys at n fits, ← e, ← f) h)
