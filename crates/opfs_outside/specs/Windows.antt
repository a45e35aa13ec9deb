-- What holds of windows of bytes.
use Rattle.std.specs.Prelude.{◌≡◌, ℕ, zero, suc, ◌+◌, ◌<◌, ◌≤◌, List, ◌∷◌, ◌++◌, length, take, drop, slice_index, refl}
use Rattle.std.proofs.Common.{ap, arith, add-zero}
use Rattle.std.proofs.lemmas.List.{drop_more}
use Rattle.opfs_outside.specs.Bytes.{window}

pub length-window : (c : List ℕ) (at n : ℕ) → length (window c at n) ≡ n
length-window c at zero = refl
length-window c at (suc n) = ap suc (length-window c (at + 1) n)

-- the same bytes at these places make the same window
pub same_window : (c d : List ℕ) (at n : ℕ) → ((k : ℕ) → k < n → slice_index c (at + k) ≡ slice_index d (at + k)) → window c at n ≡ window d at n
same_window c d at zero same = refl
same_window c d at (suc n) same =
    let first : slice_index c at ≡ slice_index d at = rw (← add-zero at) (same 0 (omega arith)) in
    let rest : window c (at + 1) n ≡ window d (at + 1) n = same_window c d (at + 1) n (λ k h. let e : at + 1 + k ≡ at + (k + 1) = omega arith in rw e (same (k + 1) (omega arith))) in
    λ i. first i ∷ rest i

pub slice_index-window : (c : List ℕ) (at n k : ℕ) → k < n → slice_index (window c at n) k ≡ slice_index c (at + k)
slice_index-window c at zero k h = absurd (omega arith)
slice_index-window c at (suc n) zero h = rw add-zero refl
slice_index-window c at (suc n) (suc k) h = let e : at + 1 + k ≡ at + suc k = omega arith in rw (slice_index-window c (at + 1) n k (omega arith), e) refl

-- one window after another
pub window-append : (c : List ℕ) (at m n : ℕ) → window c at (m + n) ≡ window c at m ++ window c (at + m) n
window-append c at zero n = let e : zero + n ≡ n = omega arith in rw (e, add-zero) refl
window-append c at (suc m) n =
    let e : suc m + n ≡ suc (m + n) = omega arith in
    let f : at + 1 + m ≡ at + suc m = omega arith in
    rw e (let rest = window-append c (at + 1) m n in rw (rest, f) refl)

-- a window is a part of the list
pub window_is : (c : List ℕ) (at n : ℕ) → at + n ≤ length c → window c at n ≡ take n (drop at c)
window_is c at zero h = refl
window_is c at (suc n) h =
    let e = drop_more c at 0 (omega arith) in
    rw (e, window_is c (at + 1) n (omega arith)) refl
