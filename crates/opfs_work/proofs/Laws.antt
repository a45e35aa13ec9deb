-- Lists that are told by position, and what splice, resize and window say of them.
use Rattle.std.proofs.Common.{◌≡◌, ℕ, ◌+◌, ◌-◌, ◌≤◌, ◌<◌, min, max, List, [], ◌++◌, map, length, get_or, take, drop, replicate, slice_index, refl, sym, ap, ◌∙◌, inl, inr, arith, length-append}
use Rattle.std.specs.List.{range_with_len}
use Rattle.std.proofs.lemmas.Bool.{cases_lt}
use Rattle.std.proofs.lemmas.Grind.{same_number_lists}
use Rattle.std.proofs.lemmas.List.{get_or-take, get_or-drop, length-take, length-drop, get_or_append_left, get_or-append_right, get_or-replicate, length-replicate, get_or_past}
use Rattle.std.proofs.lemmas.List.FromFn.{length-map-range_with_len, get_or-map-range_with_len}
use Rattle.opfs_splice.specs.Splicing.{splice, resize, window}

abbrev nought : ℕ
nought = 0

zeros_at : (n i : ℕ) → get_or (replicate n nought) i 0 ≡ 0
zeros_at n i =
    elim (cases_lt i n) [
      | inl below ↦ get_or-replicate n i nought 0 below
      | inr past ↦ get_or_past (replicate n nought) i 0 (omega (arith, length-replicate n nought))
    ]

told : (f : ℕ → ℕ) (n i : ℕ) → i < n → get_or (map f (range_with_len 0 n)) i 0 ≡ f i
told f n i below = get_or-map-range_with_len f 0 n i i 0 below (omega arith)

-- bytes with zeros behind
padded_at : (xs : List ℕ) (n i : ℕ) → get_or (xs ++ replicate n nought) i 0 ≡ get_or xs i 0
padded_at xs n i =
    elim (cases_lt i (length xs)) [
      | inl below ↦ get_or_append_left xs (replicate n nought) 0 i below
      | inr past ↦ get_or-append_right xs (replicate n nought) (length xs) i 0 refl past ∙ zeros_at n (i - length xs) ∙ sym (get_or_past xs i 0 past)
    ]

-- ---- splice

length-front : (old : List ℕ) (at : ℕ) → length (take at (old ++ replicate (at - length old) nought)) ≡ at
length-front old at =
    let whole = length-append old (replicate (at - length old) nought) in
    omega (arith, length-take at (old ++ replicate (at - length old) nought), length-replicate (at - length old) nought)

pub length-splice : (old : List ℕ) (at : ℕ) (new : List ℕ) → length (splice old at new) ≡ max (length old) (at + length new)
length-splice old at new =
    let front = take at (old ++ replicate (at - length old) nought) in
    let one = length-append front new in
    let two = length-append (front ++ new) (drop (at + length new) old) in
    let behind = length-drop (at + length new) old in
    omega (arith, length-front old at)

pub splice_before : (old : List ℕ) (at : ℕ) (new : List ℕ) (i : ℕ) → i < at → get_or (splice old at new) i 0 ≡ get_or old i 0
splice_before old at new i below =
    let front = take at (old ++ replicate (at - length old) nought) in
    let one = length-append front new in
    get_or_append_left (front ++ new) (drop (at + length new) old) 0 i (omega (arith, length-front old at))
    ∙ get_or_append_left front new 0 i (omega (arith, length-front old at))
    ∙ get_or-take at (old ++ replicate (at - length old) nought) i 0 below ∙ padded_at old (at - length old) i

pub splice_inside : (old : List ℕ) (at : ℕ) (new : List ℕ) (i : ℕ) → at ≤ i → i < at + length new → get_or (splice old at new) i 0 ≡ get_or new (i - at) 0
splice_inside old at new i from below =
    let front = take at (old ++ replicate (at - length old) nought) in
    let one = length-append front new in
    get_or_append_left (front ++ new) (drop (at + length new) old) 0 i (omega (arith, length-front old at))
    ∙ get_or-append_right front new at i 0 (length-front old at) from

back : (a b i : ℕ) → a ≤ i → a ≡ b → b + (i - a) ≡ i
back a b i le is = omega arith

pub splice_behind : (old : List ℕ) (at : ℕ) (new : List ℕ) (i : ℕ) → at + length new ≤ i → get_or (splice old at new) i 0 ≡ get_or old i 0
splice_behind old at new i past =
    let front = take at (old ++ replicate (at - length old) nought) in
    let one = length-append front new in
    get_or-append_right (front ++ new) (drop (at + length new) old) (at + length new) i 0 (omega (arith, length-front old at)) past
    ∙ get_or-drop (at + length new) old (i - (at + length new)) 0 ∙ ap (λ (k : ℕ). get_or old k 0) (back (at + length new) (at + length new) i past refl)

pub splice_nothing : (new : List ℕ) → splice [] 0 new ≡ new
splice_nothing new =
    same_number_lists (splice [] 0 new) new (omega (arith, length-splice [] 0 new)) (λ i within. splice_inside [] 0 new i (omega arith) (omega (arith, length-splice [] 0 new)) ∙ ap (λ (k : ℕ). get_or new k 0) (omega arith))

-- bytes that are told by position are the splice of others that are
pub told_splice : (f g : ℕ → ℕ) (n m at : ℕ) (new : List ℕ) → m ≡ max n (at + length new)
    → ((i : ℕ) → at ≤ i → i < at + length new → g i ≡ slice_index new (i - at))
    → ((i : ℕ) → i < at → i < n → g i ≡ f i)
    → ((i : ℕ) → i < at → n ≤ i → g i ≡ 0)
    → ((i : ℕ) → at + length new ≤ i → i < n → g i ≡ f i)
    → map g (range_with_len 0 m) ≡ splice (map f (range_with_len 0 n)) at new
told_splice f g n m at new size inside before gap behind =
    let old = map f (range_with_len 0 n) in
    let old_length : length old ≡ n = length-map-range_with_len f 0 n in
    let all = length-splice old at new in
    same_number_lists (map g (range_with_len 0 m)) (splice old at new) (omega (arith, length-map-range_with_len g 0 m))
    (λ i within.
    let below : i < m = omega (arith, length-map-range_with_len g 0 m) in
    told g m i below
    ∙ elim (cases_lt i at) [
      | inl early ↦
          elim (cases_lt i n) [
            | inl there ↦ before i early there ∙ sym (splice_before old at new i early ∙ told f n i there)
            | inr past ↦ gap i early past ∙ sym (splice_before old at new i early ∙ get_or_past old i 0 (omega arith))
          ]
      | inr from ↦
          elim (cases_lt i (at + length new)) [
            | inl here ↦ inside i from here ∙ sym (splice_inside old at new i from here)
            | inr past ↦ behind i past (omega arith) ∙ sym (splice_behind old at new i past ∙ told f n i (omega arith))
          ]
    ])

-- ---- resize

pub length-resize : (old : List ℕ) (size : ℕ) → length (resize old size) ≡ size
length-resize old size =
    omega (arith, length-append (take size old) (replicate (size - length old) nought), length-take size old, length-replicate (size - length old) nought)

pub resize_at : (old : List ℕ) (size i : ℕ) → i < size → get_or (resize old size) i 0 ≡ get_or old i 0
resize_at old size i below = padded_at (take size old) (size - length old) i ∙ get_or-take size old i 0 below

pub told_resize : (f g : ℕ → ℕ) (n m : ℕ) → ((i : ℕ) → i < m → i < n → g i ≡ f i) → ((i : ℕ) → i < m → n ≤ i → g i ≡ 0)
    → map g (range_with_len 0 m) ≡ resize (map f (range_with_len 0 n)) m
told_resize f g n m same gap =
    let old = map f (range_with_len 0 n) in
    let old_length : length old ≡ n = length-map-range_with_len f 0 n in
    same_number_lists (map g (range_with_len 0 m)) (resize old m) (length-map-range_with_len g 0 m ∙ sym (length-resize old m))
    (λ i within.
    let below : i < m = omega (arith, length-map-range_with_len g 0 m) in
    told g m i below
    ∙ elim (cases_lt i n) [
      | inl there ↦ same i below there ∙ sym (resize_at old m i below ∙ told f n i there)
      | inr past ↦ gap i below past ∙ sym (resize_at old m i below ∙ get_or_past old i 0 (omega arith))
    ])

-- ---- window

shift : (start from n i count len : ℕ) → from ≡ min start n → count ≡ min len (n - from) → i < count → start + i ≡ from + i
shift start from n i count len from_is count_is below = omega arith

pub told_window : (f g : ℕ → ℕ) (n start len from count : ℕ) → from ≡ min start n → count ≡ min len (n - from) → ((i : ℕ) → from ≤ i → i < from + count → g i ≡ f i)
    → map g (range_with_len from count) ≡ window (map f (range_with_len 0 n)) start len
told_window f g n start len from count from_is count_is same =
    let old = map f (range_with_len 0 n) in
    let old_length : length old ≡ n = length-map-range_with_len f 0 n in
    let part = length-take len (drop start old) in
    let rest = length-drop start old in
    let whole = length-map-range_with_len g from count in
    same_number_lists (map g (range_with_len from count)) (window old start len) (omega arith)
    (λ i within.
    let below : i < count = omega arith in
    get_or-map-range_with_len g from count i (from + i) 0 below refl ∙ same (from + i) (omega arith) (omega arith)
    ∙ sym (get_or-take len (drop start old) i 0 (omega arith) ∙ get_or-drop start old i 0 ∙ told f n (start + i) (omega arith) ∙ ap f (shift start from n i count len from_is count_is below)))
