-- The bits of words as flags of blocks.
use Rattle.std.proofs.Common.{◌≡◌, ℕ, zero, suc, ◌+◌, ◌-◌, ◌*◌, ◌/◌, ◌%◌, ◌^◌, ◌<◌, ◌≤◌, ◌≢◌, Bool, true, false, eqb, List, [], ◌++◌, length, get_or, set, take, replicate, refl, sym, ap, ◌∙◌, inl, inr, arith}
use Rattle.std.specs.Int.{w64, bit_at, trailing_ones}
use Rattle.std.proofs.lemmas.Bool.{cases_eq, cases_lt, eq-eqb}
use Rattle.std.proofs.lemmas.List.{ext_get_or, get_or-set_same, get_or-set_other, length-set, length-replicate, get_or-replicate, set_past}
use Rattle.std.proofs.lemmas.List.FromFn.{length-map-range_with_len, get_or-map-range_with_len}
use Rattle.std.proofs.lemmas.Nat.{shr-shr, shr_le}
use Rattle.std.proofs.lemmas.Nat.Bits.{bit_at_ones, bit_at-trailing_ones, bit_at-zero}
use Rattle.opfs_blocks.specs.Words.{bit_of, flags_of}

-- a block's bit, by its word and place
pub bit_of-at : (words : List ℕ) (k q r : ℕ) → k ≡ q * 64 + r → r < 64 → bit_of words k ≡ eqb (bit_at (get_or words q 0) r) 1
unfolding bit_of
bit_of-at words k q r e lt =
    let q-is : k / 64 ≡ q = omega arith in
    let r-is : k % 64 ≡ r = omega arith in
    rw (q-is, r-is) refl

pub length-flags : (words : List ℕ) (size : ℕ) → length (flags_of words size) ≡ size
unfolding flags_of
length-flags words size = length-map-range_with_len (bit_of words) 0 size

pub flag_at : (words : List ℕ) (size k : ℕ) (d : Bool) → k < size → get_or (flags_of words size) k d ≡ bit_of words k
unfolding flags_of
flag_at words size k d lt = get_or-map-range_with_len (bit_of words) 0 size k k d lt (omega arith)

-- one bit changes
pub flags-set : (old new : List ℕ) (size block : ℕ) (flag : Bool) → block < size → bit_of new block ≡ flag
    → ((k : ℕ) → (k ≡ block → ⊥) → bit_of new k ≡ bit_of old k) → flags_of new size ≡ set (flags_of old size) block flag
flags-set old new size block flag lt same other =
    ext_get_or true (flags_of new size) (set (flags_of old size) block flag)
    (length-flags new size ∙ sym (length-set (flags_of old size) block flag ∙ length-flags old size))
    (λ k in'. let below : k < size = omega (arith, length-flags new size) in
    let within : block < length (flags_of old size) = omega (arith, length-flags old size) in
    flag_at new size k true below
    ∙ elim (cases_eq k block) [
      | inl e ↦ ap (bit_of new) e ∙ same ∙ sym (ap (λ (j : ℕ). get_or (set (flags_of old size) block flag) j true) e ∙ get_or-set_same (flags_of old size) block flag true within)
      | inr ne ↦ other k ne ∙ sym (get_or-set_other (flags_of old size) block k flag true ne ∙ flag_at old size k true below)
    ])

zeros_at : (n i nought : ℕ) → nought ≡ 0 → get_or (replicate n nought) i 0 ≡ 0
zeros_at zero i nought e = refl
zeros_at (suc n) zero nought e = e
zeros_at (suc n) (suc i) nought e = zeros_at n i nought e

bit_of-none : (n k : ℕ) → bit_of (replicate n 0) k ≡ false
unfolding bit_of
bit_of-none n k = ap (λ (w : ℕ). eqb (bit_at w (k % 64)) 1) (zeros_at n (k / 64) 0 refl) ∙ ap (λ (b : ℕ). eqb b 1) (bit_at-zero (k % 64))

pub flags-none : (n size : ℕ) → flags_of (replicate n 0) size ≡ replicate size false
flags-none n size =
    ext_get_or true (flags_of (replicate n 0) size) (replicate size false)
    (length-flags (replicate n 0) size ∙ sym (length-replicate size false))
    (λ k in'. let below : k < size = omega (arith, length-flags (replicate n 0) size) in
    flag_at (replicate n 0) size k true below ∙ bit_of-none n k ∙ sym (get_or-replicate size k false true below))

-- what `trailing_ones` says, for every word
ones_at : (n i : ℕ) → n < 2 ^ 64 → i < 64 → i < trailing_ones w64 n → bit_at n i ≡ 1
ones_at n i fits lt below =
    elim (cases_eq n (2 ^ 64 - 1)) [
      | inl e ↦ rw e (bit_at_ones 64 i lt)
      | inr ne ↦ (bit_at-trailing_ones w64 n (omega arith)).2 i below
    ]

all_ones : (n : ℕ) → n ≡ 2 ^ 64 - 1 → trailing_ones w64 n ≡ 64
unfolding lib.Count.count_trailing_zeros
all_ones n e = ap (trailing_ones w64) e

zero_after : (n : ℕ) → n < 2 ^ 64 → trailing_ones w64 n < 64 → bit_at n (trailing_ones w64 n) ≡ 0
zero_after n fits below =
    elim (cases_eq n (2 ^ 64 - 1)) [
      | inl e ↦ absurd (omega (arith, all_ones n e))
      | inr ne ↦ (bit_at-trailing_ones w64 n (omega arith)).1
    ]

bit_at-shr : (n s i : ℕ) → bit_at (n / 2 ^ s) i ≡ bit_at n (s + i)
bit_at-shr n s i = ap (λ (x : ℕ). x % 2) (shr-shr n s i)

pub ones_pass : (words : List ℕ) (block k : ℕ) → get_or words (block / 64) 0 < 2 ^ 64 → block ≤ k → k < block + trailing_ones w64 (get_or words (block / 64) 0 / 2 ^ (block % 64)) → k < block + (64 - block % 64) → bit_of words k ≡ true
ones_pass words block k fits from below inside =
    let word : ℕ = get_or words (block / 64) 0 in
    let s : ℕ = block % 64 in
    let i : ℕ = k - block in
    let one : bit_at (word / 2 ^ s) i ≡ 1 = ones_at (word / 2 ^ s) i (omega (arith, shr_le word s)) (omega arith) (omega arith) in
    bit_of-at words k (block / 64) (s + i) (omega arith) (omega arith) ∙ eq-eqb _ _ (sym (bit_at-shr word s i) ∙ one)

pub ones_end : (words : List ℕ) (block : ℕ) → get_or words (block / 64) 0 < 2 ^ 64 → trailing_ones w64 (get_or words (block / 64) 0 / 2 ^ (block % 64)) < 64 - block % 64
    → bit_of words (block + trailing_ones w64 (get_or words (block / 64) 0 / 2 ^ (block % 64))) ≡ false
ones_end words block fits inside =
    let word : ℕ = get_or words (block / 64) 0 in
    let s : ℕ = block % 64 in
    let i : ℕ = trailing_ones w64 (word / 2 ^ s) in
    let nought : bit_at (word / 2 ^ s) i ≡ 0 = zero_after (word / 2 ^ s) (omega (arith, shr_le word s)) (omega arith) in
    bit_of-at words (block + i) (block / 64) (s + i) (omega arith) (omega arith) ∙ ap (λ (b : ℕ). eqb b 1) (sym (bit_at-shr word s i) ∙ nought)

-- a word written back with one bit changed
pub set_same : (words : List ℕ) (block word bit : ℕ) → block / 64 < length words → bit_at word (block % 64) ≡ bit → bit_of (set words (block / 64) word) block ≡ eqb bit 1
unfolding bit_of
set_same words block word bit within is = rw (get_or-set_same words (block / 64) word 0 within, is) refl

set_here : (words : List ℕ) (block k word : ℕ) → (k ≡ block → ⊥) → ((i : ℕ) → i < 64 → i ≢ block % 64 → bit_at word i ≡ bit_at (get_or words (block / 64) 0) i)
    → k / 64 ≡ block / 64 → eqb (bit_at (get_or (set words (block / 64) word) (block / 64) 0) (k % 64)) 1 ≡ eqb (bit_at (get_or words (block / 64) 0) (k % 64)) 1
set_here words block k word ne keeps e =
    elim (cases_lt (block / 64) (length words)) [
      | inl within ↦ rw (get_or-set_same words (block / 64) word 0 within) (ap (λ (b : ℕ). eqb b 1) (keeps (k % 64) (omega arith) (λ same. ne (omega arith))))
      | inr past ↦ rw (set_past words (block / 64) word past) refl
    ]

pub set_other : (words : List ℕ) (block k word : ℕ) → (k ≡ block → ⊥) → ((i : ℕ) → i < 64 → i ≢ block % 64 → bit_at word i ≡ bit_at (get_or words (block / 64) 0) i)
    → bit_of (set words (block / 64) word) k ≡ bit_of words k
unfolding bit_of
set_other words block k word ne keeps =
    elim (cases_eq (k / 64) (block / 64)) [
      | inl e ↦ rw e (set_here words block k word ne keeps e)
      | inr apart ↦ ap (λ (w : ℕ). eqb (bit_at w (k % 64)) 1) (get_or-set_other words (block / 64) (k / 64) word 0 apart)
    ]

-- a map of bits as the list that its callers see
pub size_is : (words : List ℕ) (size : ℕ) (flags : List Bool) → flags_of words size ≡ flags → size ≡ length flags
size_is words size flags e = sym (length-flags words size) ∙ ap length e

pub flag_seen : (words : List ℕ) (size : ℕ) (flags : List Bool) (same : List ℕ) (k : ℕ) → flags_of words size ≡ flags → same ≡ words → k < size → get_or flags k true ≡ bit_of same k
flag_seen words size flags same k e same-is lt =
    ap (λ (fs : List Bool). get_or fs k true) (sym e) ∙ flag_at words size k true lt ∙ ap (λ (w : List ℕ). bit_of w k) (sym same-is)

pub flags_seen : (words : List ℕ) (size : ℕ) (flags : List Bool) (before after : List ℕ) (block : ℕ) (flag : Bool) → flags_of words size ≡ flags → before ≡ words → block < size → bit_of after block ≡ flag
    → ((k : ℕ) → (k ≡ block → ⊥) → bit_of after k ≡ bit_of before k) → flags_of after size ≡ set flags block flag
flags_seen words size flags before after block flag e same-is lt same other =
    flags-set words after size block flag lt same (λ k ne. other k ne ∙ ap (λ (w : List ℕ). bit_of w k) same-is) ∙ ap (λ (fs : List Bool). set fs block flag) e

nothing : (n m nought : ℕ) → m ≡ n → take n [] ++ replicate m nought ≡ replicate n nought
nothing zero m nought e = rw e refl
nothing (suc n) m nought e = rw e refl

-- words that were made of nothing
pub made : (items before : List ℕ) (n len size : ℕ) → items ≡ take n before ++ replicate (n - len) 0 → before ≡ [] → len ≡ 0 → flags_of items size ≡ replicate size false
made items before n len size e none nought =
    let zeros : items ≡ replicate n 0 = e ∙ ap (λ (xs : List ℕ). take n xs ++ replicate (n - len) 0) none ∙ nothing n (n - len) 0 (omega arith) in
    ap (λ (xs : List ℕ). flags_of xs size) zeros ∙ flags-none n size

-- words that were all cleared
pub cleared : (words : List ℕ) (size : ℕ) (flags : List Bool) (n : ℕ) (after : List ℕ) → flags_of words size ≡ flags → after ≡ replicate n 0 → flags_of after size ≡ replicate (length flags) false
cleared words size flags n after e zeros =
    ap (λ (xs : List ℕ). flags_of xs size) zeros ∙ flags-none n size ∙ ap (λ (k : ℕ). replicate k false) (size_is words size flags e)
