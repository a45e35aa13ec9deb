-- The blocks of all other rows' pages, xs many xs are kept for these rows.
use Rattle.std.proofs.Common.{◌≡◌, ℕ, zero, suc, ◌+◌, ◌<◌, ◌≤◌, ◌++◌, ◌||◌, ◌&&◌, nat_eq, cond, Bool, true, false, Option, Some, List, [], ◌∷◌, length, map, slice_get, unwrap_or, refl, sym, ap, subst, ◌∙◌, inl, inr, arith}
use Rattle.std.specs.List.{range_with_len, sum_by, flat_map}
use Rattle.std.proofs.lemmas.Bool.{cases_eq, eqb-true, eq-eqb}
use Rattle.std.proofs.lemmas.List.{length-append}
use Rattle.std.proofs.lemmas.List.FromFn.{length-map-range_with_len}
use Rattle.std.proofs.lemmas.List.Sums.{sum_by-append, sum_by-cons}
use Rattle.opfs_data.specs.Rows.{Rows, page_at, IsOther}
use Rattle.opfs_machine.specs.Agents.{nobody, agent_in, own_of}
use Rattle.opfs_machine.specs.Sums.{reserve_of}
use Rattle.opfs_machine.specs.declared.own.Outline.{Outline}
use Rattle.opfs_machine.specs.declared.own.Outline.TheVariants as outline
use Rattle.opfs_machine.specs.declared.state.Agent.{Agent}
use Rattle.opfs_records.specs.Replay.Built.{has_block}
use Rattle.opfs_space.specs.Holders.{HasPage}

-- ---- lists of blocks

pub member_left : (xs ys : List ℕ) (b : ℕ) → has_block xs b ≡ true → has_block (xs ++ ys) b ≡ true
member_left [] ys b is = absurd cc
member_left (x ∷ xs) ys b is = later (nat_eq b x) (has_block xs b) (has_block (xs ++ ys) b) (member_left xs ys b) is where
  later : (s t u : Bool) → (t ≡ true → u ≡ true) → (s || t) ≡ true → (s || u) ≡ true
  later true t u f is = refl
  later false t u f is = f is

pub member_right : (xs ys : List ℕ) (b : ℕ) → has_block ys b ≡ true → has_block (xs ++ ys) b ≡ true
member_right [] ys b is = is
member_right (x ∷ xs) ys b is = either_true (nat_eq b x) (has_block (xs ++ ys) b) (member_right xs ys b is) where
  either_true : (s t : Bool) → t ≡ true → (s || t) ≡ true
  either_true true t is = refl
  either_true false t is = is

-- a number of a range, and what is made of it
pub in_range : (f : ℕ → ℕ) (a n i b : ℕ) → a ≤ i → i < a + n → f i ≡ b → has_block (map f (range_with_len a n)) b ≡ true
in_range f a zero i b ge lt is = absurd (omega arith)
in_range f a (suc n) i b ge lt is = elim (cases_eq i a) [
  | inl here ↦ ap (λ (s : Bool). s || has_block (map f (range_with_len (a + 1) n)) b) (eq-eqb b (f a) (sym is ∙ ap f here))
  | inr later ↦ either_true (nat_eq b (f a)) (has_block (map f (range_with_len (a + 1) n)) b) (in_range f (a + 1) n i b (omega arith) (omega arith) is)
] where
  either_true : (s t : Bool) → t ≡ true → (s || t) ≡ true
  either_true true t h = refl
  either_true false t h = h

-- ---- the blocks of a row's pages

-- a page's block, or 0
abbrev pub block_at : Rows → ℕ → ℕ → ℕ → ℕ
block_at swap k n i = unwrap_or (page_at k n i swap).block 0

abbrev row_blocks : Rows → ℕ → ℕ → Outline → List ℕ
row_blocks swap k n r = map (block_at swap k n) (range_with_len 0 (reserve_of r))

row_has : (swap : Rows) (k n : ℕ) (r : Outline) (i b : ℕ) → i < reserve_of r → HasPage swap k n i b → has_block (row_blocks swap k n r) b ≡ true
row_has swap k n r i b lt has = in_range (block_at swap k n) 0 (reserve_of r) i b (omega arith) (omega arith) (ap (λ (o : Option ℕ). unwrap_or o 0) has)

row_count : (swap : Rows) (k n : ℕ) (r : Outline) → length (row_blocks swap k n r) ≡ reserve_of r
row_count swap k n r = length-map-range_with_len (block_at swap k n) 0 (reserve_of r)

-- ---- those of an agent's rows from a number on, and of the agents from a number on, but for one row

module _ (swap : Rows) (agent row : ℕ) where
  abbrev is_it : ℕ → ℕ → Bool
  is_it k n = nat_eq k agent && nat_eq n row

  abbrev own_blocks : ℕ → ℕ → List Outline → List ℕ
  own_blocks k n [] = []
  own_blocks k n (r ∷ rs) = cond (is_it k n) [] (row_blocks swap k n r) ++ own_blocks k (n + 1) rs

  abbrev pub all_blocks : ℕ → List (Agent Outline) → List ℕ
  all_blocks k [] = []
  all_blocks k (a ∷ more) = own_blocks k 1 a.own ++ all_blocks (k + 1) more

  both_true : (s t : Bool) → (s && t) ≡ true → (s ≡ true) × (t ≡ true)
  both_true true t is = (refl, is)
  both_true false t is = absurd cc

  it_is : (k n : ℕ) → is_it k n ≡ true → (k ≡ agent) × (n ≡ row)
  it_is k n is = let p = both_true (nat_eq k agent) (nat_eq n row) is in (eqb-true k agent p.0, eqb-true n row p.1)

  not_it : (k n : ℕ) → IsOther agent row k n → is_it k n ≡ false
  not_it k n other = by_test (is_it k n) refl where
    by_test : (t : Bool) → is_it k n ≡ t → is_it k n ≡ false
    by_test true is = absurd (other (it_is k n is))
    by_test false is = is

  it_self : is_it agent row ≡ true
  it_self = ap (λ s. s && nat_eq row row) (eq-eqb agent agent refl) ∙ eq-eqb row row refl

  -- what is kept for a row that may be there
  abbrev kept : Option Outline → ℕ
  kept o = reserve_of (unwrap_or o outline.ClosedStream)

  own_has : (rs : List Outline) (k n d m i b : ℕ) → m ≡ n + d → IsOther agent row k m → i < kept (slice_get rs d) → HasPage swap k m i b → has_block (own_blocks k n rs) b ≡ true
  own_has [] k n d m i b is other lt has = absurd (omega arith)
  own_has (r ∷ rs) k n zero m i b is other lt has =
      let same : m ≡ n = omega (arith, is) in
      let out : is_it k n ≡ false = not_it k n (λ q. other (q.0, same ∙ q.1)) in
      let here : has_block (row_blocks swap k n r) b ≡ true = row_has swap k n r i b lt (subst (λ (x : ℕ). HasPage swap k x i b) same has) in
      member_left (cond (is_it k n) [] (row_blocks swap k n r)) (own_blocks k (n + 1) rs) b (ap (λ (s : Bool). has_block (cond s [] (row_blocks swap k n r)) b) out ∙ here)
  own_has (r ∷ rs) k n (suc d) m i b is other lt has =
      member_right (cond (is_it k n) [] (row_blocks swap k n r)) (own_blocks k (n + 1) rs) b (own_has rs k (n + 1) d m i b (omega (arith, is)) other lt has)

  -- the row of a number of an agent of a list
  agent_has : (a : Agent Outline) (k m i b : ℕ) → IsOther agent row k m → i < kept (own_of a m) → HasPage swap k m i b → has_block (own_blocks k 1 a.own) b ≡ true
  agent_has a k zero i b other lt has = absurd (omega arith)
  agent_has a k (suc m) i b other lt has = own_has a.own k 1 m (suc m) i b (omega arith) other lt has

  none_kept : (m : ℕ) → kept (own_of (nobody {R = Outline}) m) ≡ 0
  none_kept zero = refl
  none_kept (suc m) = refl

  all_has : (xs : List (Agent Outline)) (k d l m i b : ℕ) → l ≡ k + d → IsOther agent row l m → i < kept (own_of (unwrap_or (slice_get xs d) nobody) m) → HasPage swap l m i b → has_block (all_blocks k xs) b ≡ true
  all_has [] k d l m i b is other lt has = absurd (omega (arith, lt, none_kept m))
  all_has (a ∷ xs) k zero l m i b is other lt has =
      let same : l ≡ k = omega (arith, is) in
      member_left (own_blocks k 1 a.own) (all_blocks (k + 1) xs) b (agent_has a k m i b (λ q. other (same ∙ q.0, q.1)) lt (subst (λ (x : ℕ). HasPage swap x m i b) same has))
  all_has (a ∷ xs) k (suc d) l m i b is other lt has =
      member_right (own_blocks k 1 a.own) (all_blocks (k + 1) xs) b (all_has xs (k + 1) d l m i b (omega (arith, is)) other lt has)

  -- each page of another row that is below what is kept for it has its block in the list
  pub others_have : (xs : List (Agent Outline)) (l m i b : ℕ) → IsOther agent row l m → i < kept (own_of (agent_in xs l) m) → HasPage swap l m i b → has_block (all_blocks 1 xs) b ≡ true
  others_have xs zero m i b other lt has = absurd (omega (arith, lt, none_kept m))
  others_have xs (suc l) m i b other lt has = all_has xs 1 l (suc l) m i b (omega arith) other lt has

  -- ---- how many they are

  part_less : (s : Bool) (k n : ℕ) (r : Outline) → length (cond s [] (row_blocks swap k n r)) ≤ reserve_of r
  part_less true k n r = omega arith
  part_less false k n r = omega (arith, row_count swap k n r)

  own_less : (rs : List Outline) (k n : ℕ) → length (own_blocks k n rs) ≤ sum_by reserve_of rs
  own_less [] k n = omega arith
  own_less (r ∷ rs) k n =
      omega (arith, sum_by-cons reserve_of r rs, own_less rs k (n + 1), part_less (is_it k n) k n r, length-append (cond (is_it k n) [] (row_blocks swap k n r)) (own_blocks k (n + 1) rs))

  own_fewer : (rs : List Outline) (k n d : ℕ) (x : Outline) → k ≡ agent → row ≡ n + d → slice_get rs d ≡ Some x → length (own_blocks k n rs) + reserve_of x ≤ sum_by reserve_of rs
  own_fewer [] k n d x here is found = absurd cc
  own_fewer (r ∷ rs) k n zero x here is found =
      let same : r ≡ x = cc in
      let it : is_it k n ≡ true = ap (λ (y : ℕ). is_it y n) here ∙ (ap (λ (y : ℕ). is_it agent y) (let e : n ≡ row = omega (arith, is) in e) ∙ it_self) in
      let nothing : length (cond (is_it k n) [] (row_blocks swap k n r)) ≡ 0 = ap (λ (s : Bool). length (cond s [] (row_blocks swap k n r))) it in
      omega (arith, sum_by-cons reserve_of r rs, own_less rs k (n + 1), nothing, ap reserve_of same, length-append (cond (is_it k n) [] (row_blocks swap k n r)) (own_blocks k (n + 1) rs))
  own_fewer (r ∷ rs) k n (suc d) x here is found =
      omega (arith, sum_by-cons reserve_of r rs, own_fewer rs k (n + 1) d x here (omega (arith, is)) found, part_less (is_it k n) k n r, length-append (cond (is_it k n) [] (row_blocks swap k n r)) (own_blocks k (n + 1) rs))

  abbrev rows_of : List (Agent Outline) → List Outline
  rows_of xs = flat_map (λ a. a.own) xs

  all_less : (xs : List (Agent Outline)) (k : ℕ) → length (all_blocks k xs) ≤ sum_by reserve_of (rows_of xs)
  all_less [] k = omega arith
  all_less (a ∷ xs) k =
      omega (arith, sum_by-append reserve_of a.own (rows_of xs), own_less a.own k 1, all_less xs (k + 1), length-append (own_blocks k 1 a.own) (all_blocks (k + 1) xs))

  all_fewer : (xs : List (Agent Outline)) (k d e : ℕ) (x : Outline) → agent ≡ k + d → row ≡ 1 + e → slice_get (unwrap_or (slice_get xs d) nobody).own e ≡ Some x
      → length (all_blocks k xs) + reserve_of x ≤ sum_by reserve_of (rows_of xs)
  all_fewer [] k d e x here is found = absurd cc
  all_fewer (a ∷ xs) k zero e x here is found =
      omega (arith, sum_by-append reserve_of a.own (rows_of xs), own_fewer a.own k 1 e x (omega (arith, here)) is found, all_less xs (k + 1), length-append (own_blocks k 1 a.own) (all_blocks (k + 1) xs))
  all_fewer (a ∷ xs) k (suc d) e x here is found =
      omega (arith, sum_by-append reserve_of a.own (rows_of xs), own_less a.own k 1, all_fewer xs (k + 1) d e x (omega (arith, here)) is found, length-append (own_blocks k 1 a.own) (all_blocks (k + 1) xs))

fewer_at : (swap : Rows) (xs : List (Agent Outline)) (k n : ℕ) (x : Outline) → own_of (agent_in xs k) n ≡ Some x → length (all_blocks swap k n 1 xs) + reserve_of x ≤ sum_by reserve_of (flat_map (λ a. a.own) xs)
fewer_at swap xs zero zero x found = absurd cc
fewer_at swap xs zero (suc n) x found = absurd cc
fewer_at swap xs (suc k) zero x found = absurd cc
fewer_at swap xs (suc k) (suc n) x found = all_fewer swap (suc k) (suc n) xs 1 k n x (omega arith) (omega arith) found

pub others_fewer : (swap : Rows) (xs : List (Agent Outline)) (k n : ℕ) (x : Outline) → own_of (agent_in xs k) n ≡ Some x → length (all_blocks swap k n 1 xs) + reserve_of x ≤ sum_by reserve_of (flat_map (λ a. a.own) xs)
others_fewer = fewer_at
