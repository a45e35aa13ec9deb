-- How many blocks are free, where each used one is in a list.
use Rattle.std.proofs.Common.{◌≡◌, ℕ, zero, suc, ◌+◌, ◌-◌, ◌<◌, ◌≤◌, ◌||◌, nat_eq, Bool, true, false, List, [], ◌∷◌, ◌++◌, length, take, get_or, refl, ap, ◌∙◌, inl, inr, arith}
use Rattle.std.specs.Set.{is_member}
use Rattle.std.specs.List.{AllByRecursion, IsDistinct}
use Rattle.std.proofs.lemmas.Cmp.{nat_eq_equiv}
use Rattle.std.proofs.lemmas.Bool.{cases_eq, eqb-true}
use Rattle.std.proofs.lemmas.List.{length-append}
use Rattle.std.proofs.lemmas.Map.Made.{length-le_from_is_member}
use Rattle.opfs_blocks.specs.Sets.{Used, is_used, free_from, free_blocks}
use Rattle.opfs_records.specs.Replay.Built.{has_block}
use Rattle.opfs_space.specs.Spaces.{IsCovered}

-- the used blocks, in order
abbrev used_from : ℕ → Used → List ℕ
used_from n [] = []
used_from n (true ∷ used) = n ∷ used_from (n + 1) used
used_from n (false ∷ used) = used_from (n + 1) used

all_counted : (n : ℕ) (used : Used) → length (free_from n used) + length (used_from n used) ≡ length used
all_counted n [] = refl
all_counted n (true ∷ used) = omega (arith, all_counted (n + 1) used)
all_counted n (false ∷ used) = omega (arith, all_counted (n + 1) used)

not_true : (t : Bool) → (t ≡ true → ⊥) → t ≡ false
not_true true never = absurd (never refl)
not_true false never = refl

all_above : (m n : ℕ) (used : Used) → m < n → AllByRecursion (λ y. nat_eq m y ≡ false) (used_from n used)
all_above m n [] less = tt
all_above m n (true ∷ used) less = (not_true (nat_eq m n) (λ same. omega (arith, eqb-true m n same)), all_above m (n + 1) used (omega arith))
all_above m n (false ∷ used) less = all_above m (n + 1) used (omega arith)

used_once : (n : ℕ) (used : Used) → IsDistinct nat_eq (used_from n used)
unfolding IsDistinct
used_once n [] = tt
used_once n (true ∷ used) = (all_above n (n + 1) used (omega arith), used_once (n + 1) used)
used_once n (false ∷ used) = used_once (n + 1) used

either : (a b : Bool) → (a || b) ≡ true → a ≡ false → b ≡ true
either true b is first = absurd cc
either false b is first = is

record IsUsedAt (n q : ℕ) (used : Used) : Type 0 where
  above : n ≤ q
  below : q < n + length used
  used_is : get_or used (q - n) true ≡ true

later : (n q : ℕ) (t : Bool) (used : Used) → IsUsedAt (n + 1) q used → IsUsedAt n q (t ∷ used)
later n q t used is =
    let e : q - n ≡ suc (q - (n + 1)) = omega (arith, is.above) in
    record { above = omega (arith, is.above); below = omega (arith, is.below); used_is = ap (λ (k : ℕ). get_or (t ∷ used) k true) e ∙ is.used_is }

member_used : (n q : ℕ) (used : Used) → is_member nat_eq (used_from n used) q ≡ true → IsUsedAt n q used
member_used n q [] is = absurd cc
member_used n q (true ∷ used) is = elim (cases_eq q n) [
  | inl here ↦
      let e : q - n ≡ 0 = omega arith in
      record { above = omega arith; below = omega arith; used_is = ap (λ (k : ℕ). get_or (true ∷ used) k true) e }
  | inr apart ↦ later n q true used (member_used (n + 1) q used (either (nat_eq q n) (is_member nat_eq (used_from (n + 1) used) q) is (not_true (nat_eq q n) (λ same. apart (eqb-true q n same)))))
]
member_used n q (false ∷ used) is = later n q false used (member_used (n + 1) q used is)

-- where each used block is in a list, the others are free
pub covered : (used : Used) (list : List ℕ) → ((b : ℕ) → b < length used → is_used used b ≡ true → has_block list b ≡ true) → length used ≤ length (free_blocks used) + length list
covered used list all =
    let count : length (used_from 0 used) ≤ length list =
    length-le_from_is_member nat_eq_equiv (used_from 0 used) list (used_once 0 used) (λ q member. let at = member_used 0 q used member in let e : q ≡ q - 0 = omega arith in all q (omega (arith, at.below)) (ap (λ (k : ℕ). get_or used k true) e ∙ at.used_is)) in
    omega (arith, count, all_counted 0 used)

pub enough : (used : Used) (files others mine moves : List ℕ) (reserve : ℕ) → IsCovered used files others mine moves reserve → length moves ≤ length (free_blocks used)
enough used files others mine moves reserve is =
    omega (arith, covered used (files ++ others ++ mine) is.all, is.room, is.fits, length-append (files ++ others) mine, length-append files others)

-- free blocks are below the size
free_below : (n size : ℕ) (used : Used) → n + length used ≤ size → AllByRecursion (λ b. b < size) (free_from n used)
free_below n size [] fits = tt
free_below n size (true ∷ used) fits = free_below (n + 1) size used (omega arith)
free_below n size (false ∷ used) fits = (omega arith, free_below (n + 1) size used (omega arith))

all_taken : (size n : ℕ) (xs : List ℕ) → AllByRecursion (λ b. b < size) xs → AllByRecursion (λ b. b < size) (take n xs)
all_taken size zero xs all = tt
all_taken size (suc n) [] all = tt
all_taken size (suc n) (x ∷ xs) all = (all.0, all_taken size n xs all.1)

pub taken_below : (used : Used) (n size : ℕ) → length used ≡ size → AllByRecursion (λ b. b < size) (take n (free_blocks used))
taken_below used n size is = all_taken size n (free_blocks used) (free_below 0 size used (omega arith))
