-- Bytes that stand for more, with zeros behind them.
use Rattle.std.proofs.Common.{◌≡◌, ◌⊎◌, ℕ, ◌+◌, ◌-◌, ◌<◌, ◌≤◌, List, ◌++◌, append_assoc, length, length-append, replicate, inl, inr, refl, sym, ap, ◌∙◌, arith}
use Rattle.std.specs.Prelude.{slice_index}
use Rattle.std.proofs.lemmas.List.{get_or_append_left, get_or-append_right, length-replicate, replicate-append-replicate}
use Rattle.opfs_outside.specs.Bytes.{Beside, window}
use Rattle.opfs_outside.specs.Windows.{same_window}
use Rattle.opfs_memory.specs.Disks.{Overwritten}
use Rattle.opfs_memory.specs.Lengthened.{with_zeros}

pub length-with_zeros : (len : ℕ) (b : List ℕ) → length b ≤ len → length (with_zeros len b) ≡ len
length-with_zeros len b fits = omega (arith, fits, length-append b (replicate (len - length b) 0), length-replicate {A = ℕ} (len - length b) 0)

-- a window of the bytes themselves
window-of : (len : ℕ) (b : List ℕ) (at n : ℕ) → at + n ≤ length b → window (with_zeros len b) at n ≡ window b at n
window-of len b at n inside = same_window (with_zeros len b) b at n (λ k below. get_or_append_left b (replicate (len - length b) 0) 0 (at + k) (omega (arith, inside, below)))

module _ (len : ℕ) (b now : List ℕ) (fits : length b ≤ len) (seen : with_zeros len b ≡ now) (at n : ℕ) (inside : at + n ≤ length now) (more : List ℕ) (items : more ≡ with_zeros (at + n) b) where
  size : length now ≡ len
  size = ap length (sym seen) ∙ length-with_zeros len b fits

  long : length more ≡ length b + ((at + n) - length b)
  long = ap length items ∙ length-append b (replicate ((at + n) - length b) 0) ∙ ap (λ m. length b + m) (length-replicate ((at + n) - length b) 0)

  -- they stand for the same
  pub stays : with_zeros len more ≡ now
  stays =
      ap (λ xs. xs ++ replicate (len - length more) 0) items
      ∙ append_assoc b (replicate ((at + n) - length b) 0) (replicate (len - length more) 0)
      ∙ ap (λ xs. b ++ xs) (replicate-append-replicate ((at + n) - length b) (len - length more) 0)
      ∙ ap (λ m. b ++ replicate m 0) (omega (arith, long, size, fits, inside))
      ∙ seen

  pub reaches : at + n ≤ length more
  reaches = omega (arith, long)

  pub fits-still : length more ≤ len
  fits-still = omega (arith, long, size, fits, inside)

  -- what is read of them
  pub read-out : (zs : List ℕ) → length zs ≡ n → zs ≡ window more at (length zs) → zs ≡ window now at (length zs)
  read-out zs count is =
      is ∙ sym (window-of len more at (length zs) (omega (arith, reaches, count))) ∙ ap (λ c. window c at (length zs)) stays

  -- what is written into them
  module _ (bytes after : List ℕ) (count : length bytes ≡ n) (is : Overwritten at bytes more after) where
    below-or : (i m : ℕ) → (i < m) ⊎ (m ≤ i)
    below-or i m = search (arith)

    pub write-in : Overwritten at bytes now (with_zeros len after)
    write-in = record {
      size = length-with_zeros len after (omega (arith, is.size, fits-still)) ∙ sym size;
      written = window-of len after at (length bytes) (omega (arith, reaches, count, is.size)) ∙ is.written;
      elsewhere = λ i out. elsewhere i out (below-or i (length more));
    }
      where
        elsewhere : (i : ℕ) → Beside at (length bytes) i → (i < length more) ⊎ (length more ≤ i) → slice_index (with_zeros len after) i ≡ slice_index now i
        elsewhere i out (inl below) =
            get_or_append_left after (replicate (len - length after) 0) 0 i (omega (arith, is.size, below))
            ∙ is.elsewhere i out
            ∙ sym (get_or_append_left more (replicate (len - length more) 0) 0 i below)
            ∙ ap (λ c. slice_index c i) stays
        elsewhere i out (inr past) =
            get_or-append_right after (replicate (len - length after) 0) (length after) i 0 refl (omega (arith, is.size, past))
            ∙ ap (λ m. slice_index (replicate (len - m) 0) (i - m)) is.size
            ∙ sym (get_or-append_right more (replicate (len - length more) 0) (length more) i 0 refl past)
            ∙ ap (λ c. slice_index c i) stays
