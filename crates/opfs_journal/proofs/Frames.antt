-- What is written behind a gate is read there.
use Rattle.std.proofs.Common.{◌≡◌, ℕ, suc, ◌+◌, ◌*◌, ◌^◌, ◌<◌, List, [], ◌∷◌, ◌++◌, length, refl, sym, ◌∙◌, ap, arith, add-zero}
use Rattle.std.specs.Prelude.{slice_index, ◌==◌}
use Rattle.std.specs.Int.{w32, to_le_bytes, from_le_bytes}
use Rattle.std.proofs.lemmas.Nat.{from_le_bytes-to_le_bytes_4}
use Rattle.std.proofs.lemmas.List.{length-append, ext_get_or, get_or_append_left, get_or_at}
use Rattle.opfs_outside.specs.Bytes.{window}
use Rattle.opfs_outside.specs.Windows.{slice_index-window, length-window}
use Rattle.opfs_journal.specs.Format.{number_at, framed}
use Rattle.opfs_journal.specs.Standing.{IsFramed}

pub number_of : (bytes : List ℕ) → from_le_bytes w32 bytes ≡ slice_index bytes 0 + 256 * slice_index bytes 1 + 65536 * slice_index bytes 2 + 16777216 * slice_index bytes 3
number_of bytes = omega arith

pub length-framed : (b : List ℕ) → length (framed b) ≡ length b + 5
length-framed b = omega (arith, length-append (to_le_bytes w32 (length b) ++ b) (0 ∷ []), length-append (to_le_bytes w32 (length b)) b)

module _ (c : List ℕ) (gate : ℕ) (b : List ℕ) (small : length b < 2 ^ 32) (written : window c (gate + 1) (length (framed b)) ≡ framed b) where
  at : (k : ℕ) → k < length b + 5 → slice_index c (gate + 1 + k) ≡ slice_index (framed b) k
  at k h = sym (slice_index-window c (gate + 1) (length (framed b)) k (omega (arith, length-framed b))) ∙ ap (λ w. slice_index w k) written

  number_is : number_at c (gate + 1) ≡ length b
  number_is =
      let e0 : slice_index c (gate + 1) ≡ slice_index (to_le_bytes w32 (length b)) 0 = rw (← add-zero (gate + 1)) (at 0 (omega arith)) in
      let e1 = at 1 (omega arith) in
      let e2 = at 2 (omega arith) in
      let e3 = at 3 (omega arith) in
      (λ i. e0 i + 256 * e1 i + 65536 * e2 i + 16777216 * e3 i) ∙ sym (number_of (to_le_bytes w32 (length b))) ∙ from_le_bytes-to_le_bytes_4 (length b) small

  behind : (k : ℕ) → k < length b + 1 → slice_index c (gate + 5 + k) ≡ slice_index (b ++ 0 ∷ []) k
  behind k h =
      let e : gate + 5 + k ≡ gate + 1 + (k + 4) = omega arith in
      let f : k + 4 ≡ suc (suc (suc (suc k))) = omega arith in
      rw e (at (k + 4) (omega arith) ∙ ap (λ j. slice_index (framed b) j) f)

  pub is_framed : IsFramed c gate b
  is_framed = record {
    size = number_is;
    bytes = ext_get_or 0 (window c (gate + 5) (length b)) b (length-window c (gate + 5) (length b)) (λ k h.
        let k_in : k < length b = omega (arith, length-window c (gate + 5) (length b)) in
        slice_index-window c (gate + 5) (length b) k k_in ∙ behind k (omega (arith, k_in)) ∙ get_or_append_left b (0 ∷ []) 0 k k_in);
    shut = ap (λ x. x == 165) (behind (length b) (omega arith) ∙ get_or_at b 0 [] 0 (length b) refl);
  }
