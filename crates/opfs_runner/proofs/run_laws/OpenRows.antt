-- The rows that are open, as one more is made or one is closed.
use Rattle.std.proofs.Common.{◌≡◌, ◌≢◌, ℕ, zero, suc, ◌+◌, ◌-◌, ◌<◌, ◌==◌, true, false, not, cond, List, [], ◌∷◌, ◌++◌, length, filter, map, slice_set, Some, refl, sym, ap, ◌∙◌, arith}
use Rattle.std.specs.Prelude.{slice_get}
use Rattle.std.proofs.lemmas.Bool.{eq-eqb, eqb-true}
use Rattle.opfs_script_run.specs.declared.runs.hand.Open.{Open}
use Rattle.opfs_script_run.specs.declared.runs.hand.Open.TheVariants as opened
use Rattle.opfs_script_run.specs.Runs.Running.{is_row}
use Rattle.opfs_runner.specs.RunLaws.Kinds.{RowKind, stream, closed_stream, handle, closed_handle, snapshot, iterator, taken, gone, sort_of, sort_at, open_rows}

-- One more, behind so many.
pub open-append : (n m : ℕ) (kinds more : List RowKind) → m ≡ n + length kinds → open_rows n (kinds ++ more) ≡ open_rows n kinds ++ open_rows m more
open-append n m [] more is = ap (λ j. open_rows j more) (omega (arith, is))
open-append n m (stream ∷ kinds) more is = ap (λ os. opened.Stream n ∷ os) (open-append (n + 1) m kinds more (omega (arith, is)))
open-append n m (handle ∷ kinds) more is = ap (λ os. opened.Handle n ∷ os) (open-append (n + 1) m kinds more (omega (arith, is)))
open-append n m (closed_stream ∷ kinds) more is = open-append (n + 1) m kinds more (omega (arith, is))
open-append n m (closed_handle ∷ kinds) more is = open-append (n + 1) m kinds more (omega (arith, is))
open-append n m (snapshot ∷ kinds) more is = open-append (n + 1) m kinds more (omega (arith, is))
open-append n m (iterator dir ∷ kinds) more is = open-append (n + 1) m kinds more (omega (arith, is))
open-append n m (taken ∷ kinds) more is = open-append (n + 1) m kinds more (omega (arith, is))
open-append n m (gone ∷ kinds) more is = open-append (n + 1) m kinds more (omega (arith, is))

-- ---- a row is closed

other : (a b : ℕ) → a ≢ b → (a == b) ≡ false
other a b apart = elim (a == b) as (λ t. (a == b) ≡ t → t ≡ false) [ true ↦ λ is. absurd (apart (eqb-true a b is)) | false ↦ λ is. refl ] refl

keeps : (n : ℕ) (o : Open) (os new : List Open) → is_row n o ≡ false → filter (λ x. not (is_row n x)) os ≡ new → filter (λ x. not (is_row n x)) (o ∷ os) ≡ o ∷ new
keeps n o os new apart rest = ap (λ t. cond (not t) (o ∷ filter (λ x. not (is_row n x)) os) (filter (λ x. not (is_row n x)) os)) apart ∙ ap (λ xs. o ∷ xs) rest

drops : (n : ℕ) (o : Open) (os new : List Open) → is_row n o ≡ true → filter (λ x. not (is_row n x)) os ≡ new → filter (λ x. not (is_row n x)) (o ∷ os) ≡ new
drops n o os new same rest = ap (λ t. cond (not t) (o ∷ filter (λ x. not (is_row n x)) os) (filter (λ x. not (is_row n x)) os)) same ∙ rest

later : (n m : ℕ) (kinds : List RowKind) → n < m → filter (λ o. not (is_row n o)) (open_rows m kinds) ≡ open_rows m kinds
later n m [] less = refl
later n m (stream ∷ kinds) less = keeps n (opened.Stream m) (open_rows (m + 1) kinds) (open_rows (m + 1) kinds) (other n m (λ e. omega (arith, e, less))) (later n (m + 1) kinds (omega (arith, less)))
later n m (handle ∷ kinds) less = keeps n (opened.Handle m) (open_rows (m + 1) kinds) (open_rows (m + 1) kinds) (other n m (λ e. omega (arith, e, less))) (later n (m + 1) kinds (omega (arith, less)))
later n m (closed_stream ∷ kinds) less = later n (m + 1) kinds (omega (arith, less))
later n m (closed_handle ∷ kinds) less = later n (m + 1) kinds (omega (arith, less))
later n m (snapshot ∷ kinds) less = later n (m + 1) kinds (omega (arith, less))
later n m (iterator dir ∷ kinds) less = later n (m + 1) kinds (omega (arith, less))
later n m (taken ∷ kinds) less = later n (m + 1) kinds (omega (arith, less))
later n m (gone ∷ kinds) less = later n (m + 1) kinds (omega (arith, less))

-- The row that is closed is no longer among them.
first : (n m : ℕ) (k : RowKind) (kinds : List RowKind) → n ≡ m → filter (λ o. not (is_row n o)) (open_rows m (k ∷ kinds)) ≡ open_rows (m + 1) kinds
first n m stream kinds is = drops n (opened.Stream m) (open_rows (m + 1) kinds) (open_rows (m + 1) kinds) (eq-eqb n m is) (later n (m + 1) kinds (omega (arith, is)))
first n m handle kinds is = drops n (opened.Handle m) (open_rows (m + 1) kinds) (open_rows (m + 1) kinds) (eq-eqb n m is) (later n (m + 1) kinds (omega (arith, is)))
first n m closed_stream kinds is = later n (m + 1) kinds (omega (arith, is))
first n m closed_handle kinds is = later n (m + 1) kinds (omega (arith, is))
first n m snapshot kinds is = later n (m + 1) kinds (omega (arith, is))
first n m (iterator dir) kinds is = later n (m + 1) kinds (omega (arith, is))
first n m taken kinds is = later n (m + 1) kinds (omega (arith, is))
first n m gone kinds is = later n (m + 1) kinds (omega (arith, is))

module _ (c : RowKind) (shut : (m : ℕ) (kinds : List RowKind) → open_rows m (c ∷ kinds) ≡ open_rows (m + 1) kinds) where
  close-at : (n m i : ℕ) (kinds : List RowKind) → n ≡ m + i → open_rows m (slice_set kinds i c) ≡ filter (λ o. not (is_row n o)) (open_rows m kinds)
  close-at n m i [] is = refl
  close-at n m zero (k ∷ kinds) is = shut m kinds ∙ sym (first n m k kinds (omega (arith, is)))
  close-at n m (suc i) (stream ∷ kinds) is =
      ap (λ os. opened.Stream m ∷ os) (close-at n (m + 1) i kinds (omega (arith, is)))
      ∙ sym (keeps n (opened.Stream m) (open_rows (m + 1) kinds) (filter (λ o. not (is_row n o)) (open_rows (m + 1) kinds)) (other n m (λ e. omega (arith, e, is))) refl)
  close-at n m (suc i) (handle ∷ kinds) is =
      ap (λ os. opened.Handle m ∷ os) (close-at n (m + 1) i kinds (omega (arith, is)))
      ∙ sym (keeps n (opened.Handle m) (open_rows (m + 1) kinds) (filter (λ o. not (is_row n o)) (open_rows (m + 1) kinds)) (other n m (λ e. omega (arith, e, is))) refl)
  close-at n m (suc i) (closed_stream ∷ kinds) is = close-at n (m + 1) i kinds (omega (arith, is))
  close-at n m (suc i) (closed_handle ∷ kinds) is = close-at n (m + 1) i kinds (omega (arith, is))
  close-at n m (suc i) (snapshot ∷ kinds) is = close-at n (m + 1) i kinds (omega (arith, is))
  close-at n m (suc i) (iterator dir ∷ kinds) is = close-at n (m + 1) i kinds (omega (arith, is))
  close-at n m (suc i) (taken ∷ kinds) is = close-at n (m + 1) i kinds (omega (arith, is))
  close-at n m (suc i) (gone ∷ kinds) is = close-at n (m + 1) i kinds (omega (arith, is))

  closed : (n : ℕ) (kinds : List RowKind) (k : RowKind) → sort_at kinds n ≡ Some k → open_rows 1 (slice_set kinds (n - 1) c) ≡ filter (λ o. not (is_row n o)) (open_rows 1 kinds)
  closed zero kinds k is = absurd cc
  closed (suc i) kinds k is = close-at (suc i) 1 (suc i - 1) kinds (omega arith)

pub stream-closed : (n : ℕ) (kinds : List RowKind) (k : RowKind) → sort_at kinds n ≡ Some k → open_rows 1 (slice_set kinds (n - 1) closed_stream) ≡ filter (λ o. not (is_row n o)) (open_rows 1 kinds)
stream-closed n kinds k is = closed closed_stream (λ m ks. refl) n kinds k is

pub handle-closed : (n : ℕ) (kinds : List RowKind) (k : RowKind) → sort_at kinds n ≡ Some k → open_rows 1 (slice_set kinds (n - 1) closed_handle) ≡ filter (λ o. not (is_row n o)) (open_rows 1 kinds)
handle-closed n kinds k is = closed closed_handle (λ m ks. refl) n kinds k is

-- ---- a snapshot goes

only-snapshot : (k : RowKind) (n : ℕ) (kinds : List RowKind) → Some (sort_of k) ≡ Some snapshot → open_rows n (k ∷ kinds) ≡ open_rows (n + 1) kinds
only-snapshot snapshot n kinds is = refl
only-snapshot k n kinds is = absurd cc

gone-at : (m i : ℕ) (kinds : List RowKind) → slice_get (map sort_of kinds) i ≡ Some snapshot → open_rows m (slice_set kinds i gone) ≡ open_rows m kinds
gone-at m i [] is = refl
gone-at m zero (k ∷ kinds) is = sym (only-snapshot k m kinds is)
gone-at m (suc i) (stream ∷ kinds) is = ap (λ os. opened.Stream m ∷ os) (gone-at (m + 1) i kinds is)
gone-at m (suc i) (handle ∷ kinds) is = ap (λ os. opened.Handle m ∷ os) (gone-at (m + 1) i kinds is)
gone-at m (suc i) (closed_stream ∷ kinds) is = gone-at (m + 1) i kinds is
gone-at m (suc i) (closed_handle ∷ kinds) is = gone-at (m + 1) i kinds is
gone-at m (suc i) (snapshot ∷ kinds) is = gone-at (m + 1) i kinds is
gone-at m (suc i) (iterator dir ∷ kinds) is = gone-at (m + 1) i kinds is
gone-at m (suc i) (taken ∷ kinds) is = gone-at (m + 1) i kinds is
gone-at m (suc i) (gone ∷ kinds) is = gone-at (m + 1) i kinds is

-- The rows that are open stay.
pub snapshot-gone : (n : ℕ) (kinds : List RowKind) → sort_at kinds n ≡ Some snapshot → open_rows 1 (slice_set kinds (n - 1) gone) ≡ open_rows 1 kinds
snapshot-gone zero kinds is = absurd cc
snapshot-gone (suc i) kinds is =
    let at : suc i - 1 ≡ i = omega arith in
    ap (λ j. open_rows 1 (slice_set kinds j gone)) at ∙ gone-at 1 i kinds is
