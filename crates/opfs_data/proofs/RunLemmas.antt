-- Bytes over runs, one run after another.
use Rattle.std.proofs.Common.{◌≡◌, ℕ, zero, suc, ◌+◌, ◌-◌, ◌/◌, ◌<◌, ◌≤◌, min, List, [], ◌∷◌, ◌++◌, length, get_or, take, drop, refl, sym, ap, ◌∙◌, inl, inr, append_assoc, arith}
use Rattle.std.specs.List.{flat_map, AllByRecursion}
use Rattle.std.proofs.lemmas.Bool.{cases_lt}
use Rattle.std.proofs.lemmas.List.{append-nil, take_at, take-append-le, take-append-drop, length-drop, length-take-le}
use Rattle.std.proofs.lemmas.List.Edits.{length-paste}
use Rattle.std.proofs.lemmas.Slice.{put_mid-paste}
use Rattle.std.proofs.Math.Seq.{take-append-add}
use borrow.Rule.Slice.PartMut.{put_mid}
use Rattle.opfs_base.specs.declared.extents.Extent.{Extent}
use Rattle.opfs_outside.specs.Bytes.{Same, window, Beside}
use Rattle.opfs_outside.specs.Windows.{length-window, same_window, window-append}
use Rattle.opfs_data.specs.Places.{run_room, run_place, run_bytes, bytes_of, Aside, HasBlock, HaveBlock, AreApart}

-- what holds of all holds of the one at a place
pub all_at : {X : Type 0} (P : X → Type 0) (xs : List X) (i : ℕ) (d : X) → i < length xs → AllByRecursion P xs → P (get_or xs i d)
all_at P [] i d h all = absurd (omega arith)
all_at P (x ∷ xs) zero d h all = all.0
all_at P (x ∷ xs) (suc i) d h all = all_at P xs i d (omega arith) all.1

-- the first part of a window
pub take-window : (c : List ℕ) (at n len : ℕ) → len ≤ n → take len (window c at n) ≡ window c at len
take-window c at n len h =
    let e : len + (n - len) ≡ n = omega arith in
    ap (λ (k : ℕ). take len (window c at k)) (sym e)
    ∙ ap (λ (xs : List ℕ). take len xs) (window-append c at len (n - len))
    ∙ take_at (window c at len) (window c (at + len) (n - len)) len (length-window c at len)

-- the bytes of the first run, and those of the others
pub next_bytes : (c : List ℕ) (base : ℕ) (e : Extent) (es : List Extent) (n len : ℕ) → n ≡ min (run_room e) len
    → bytes_of c base (e ∷ es) len ≡ window c (run_place base e) n ++ bytes_of c base es (len - n)
next_bytes c base e es n len is =
    let here = window c (run_place base e) (run_room e) in
    let rest = flat_map (run_bytes c base) es in
    let size : length here ≡ run_room e = length-window c (run_place base e) (run_room e) in
    elim (cases_lt len (run_room e)) [
      | inl less ↦
          let n_is : n ≡ len = omega arith in
          let none : len - n ≡ 0 = omega arith in
          rw (n_is, take-append-le len here rest (omega (arith, size)), take-window c (run_place base e) (run_room e) len (omega arith))
          (let z : len - len ≡ 0 = omega arith in rw z (sym (append-nil (window c (run_place base e) len))))
      | inr all ↦
          let n_is : n ≡ run_room e = omega arith in
          let sum : length here + (len - run_room e) ≡ len = omega (arith, size) in
          rw n_is (ap (λ (k : ℕ). take k (here ++ rest)) (sym sum) ∙ take-append-add here rest (len - run_room e))
    ]

-- how far a read has come
pub read_more : (c : List ℕ) (base : ℕ) (e : Extent) (es whole : List Extent) (n from len : ℕ) (into into' here : List ℕ)
    → n ≡ min (run_room e) (len - from)
    → here ≡ window c (run_place base e) n
    → take (from + n) into' ≡ take from into ++ here
    → take from into ++ bytes_of c base (e ∷ es) (len - from) ≡ bytes_of c base whole len
    → take (from + n) into' ++ bytes_of c base es (len - (from + n)) ≡ bytes_of c base whole len
read_more c base e es whole n from len into into' here is here_is taken so_far =
    let left : len - (from + n) ≡ (len - from) - n = omega arith in
    ap (λ (xs : List ℕ). xs ++ bytes_of c base es (len - (from + n))) taken
    ∙ ap (λ (k : ℕ). (take from into ++ here) ++ bytes_of c base es k) left
    ∙ append_assoc (take from into) here (bytes_of c base es ((len - from) - n))
    ∙ ap (λ (xs : List ℕ). take from into ++ (xs ++ bytes_of c base es ((len - from) - n))) here_is
    ∙ ap (λ (xs : List ℕ). take from into ++ xs) (sym (next_bytes c base e es n (len - from) is))
    ∙ so_far

-- a byte of a run is aside of a run that shares no block with it
aside_one : (base : ℕ) (e f : Extent) (i : ℕ) → ((block : ℕ) → HasBlock e block → HasBlock f block → ⊥)
    → run_place base e ≤ i → i < run_place base e + run_room e → Beside (run_place base f) (run_room f) i
aside_one base e f i apart from to = elim (cases_lt i (run_place base f)) [
  | inl before ↦ inl before
  | inr behind ↦ elim (cases_lt i (run_place base f + run_room f)) [
    | inl within ↦ absurd (apart ((i - base) / 4096) (omega arith, omega arith) (omega arith, omega arith))
    | inr past ↦ inr past
  ]
]

pub aside_all : (base : ℕ) (e : Extent) (es : List Extent) (i : ℕ) → ((block : ℕ) → HasBlock e block → HaveBlock es block → ⊥)
    → run_place base e ≤ i → i < run_place base e + run_room e → Aside base es i
aside_all base e [] i apart from to = tt
aside_all base e (f ∷ es) i apart from to =
    (aside_one base e f i (λ b has. λ there. apart b has (inl there)) from to, aside_all base e es i (λ b has. λ there. apart b has (inr there)) from to)

-- how far a write has come: whatever the later runs get, what is there makes the whole
pub written_more : (base : ℕ) (e : Extent) (es : List Extent) (c c' rest here more : List ℕ) (n : ℕ) (P : List ℕ → Type 0)
    → n ≡ min (run_room e) (length rest) → here ≡ take n rest → more ≡ drop n rest
    → AreApart (e ∷ es)
    → window c' (run_place base e) n ≡ here
    → Same (Beside (run_place base e) n) c' c
    → ((d : List ℕ) → Same (Aside base (e ∷ es)) d c → bytes_of d base (e ∷ es) (length rest) ≡ rest → P d)
    → (d : List ℕ) → Same (Aside base es) d c' → bytes_of d base es (length more) ≡ more → P d
written_more base e es c c' rest here more n P is here_is more_is apart put elsewhere before d same full =
    let at = run_place base e in
    let small : n ≤ run_room e = omega arith in
    let later : Same (Aside base (e ∷ es)) d c = λ i aside. same i aside.1 ∙ elsewhere i (elim aside.0 as (λ _. Beside at n i) [ inl before ↦ inl before | inr past ↦ inr (omega arith) ]) in
    let stays : window d at n ≡ window c' at n = same_window d c' at n (λ k lt. same (at + k) (aside_all base e es (at + k) apart.0 (omega arith) (omega arith))) in
    let left : length rest - n ≡ length more = sym (ap length more_is ∙ length-drop n rest) in
    before d later (
    next_bytes d base e es n (length rest) is
    ∙ ap (λ (xs : List ℕ). xs ++ bytes_of d base es (length rest - n)) (stays ∙ put ∙ here_is)
    ∙ ap (λ (k : ℕ). take n rest ++ bytes_of d base es k) left
    ∙ ap (λ (xs : List ℕ). take n rest ++ xs) (full ∙ more_is)
    ∙ take-append-drop n rest
    )

-- a part of a slice with other bytes of the same number
pub length_put : (a k : ℕ) (xs ys : List ℕ) → a + k ≤ length xs → length ys ≡ k → length (put_mid a k xs ys) ≡ length xs
length_put a k xs ys fits size = ap length (put_mid-paste a k xs ys ys k refl refl (sym size)) ∙ length-paste xs a ys k fits (omega arith)

pub length_part : (a k : ℕ) (xs : List ℕ) → a + k ≤ length xs → length (take k (drop a xs)) ≡ k
length_part a k xs fits = length-take-le k (drop a xs) (omega (arith, length-drop a xs))
