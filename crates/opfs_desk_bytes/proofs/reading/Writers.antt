-- The access handle that may write a file.
use Rattle.std.proofs.Common.{◌≡◌, ℕ, ◌≤◌, zero, suc, Bool, true, false, cond, ◌&&◌, ◌||◌, List, [], ◌∷◌, flat_map, length, sum_by, Option, Some, option_map, is_some, refl, sym, ap, ◌∙◌, arith}
use Rattle.std.proofs.lemmas.Bool.{and_parts, false≢true}
use Rattle.std.proofs.lemmas.List.Sums.{sum_by-append, sum_by-cons}
use Rattle.std.proofs.lemmas.Map.Lookups.{exact_pairs, exact_unsigned}
use Rattle.std.specs.BTreeMap.{is_at}
use Rattle.std.specs.Ordering.{eq_by_cmp, is_eq, nat_cmp}
use Rattle.std.specs.Prelude.{slice_get, unwrap_or}
use Rattle.std.specs.declared.cmp.Ordering.{Ordering}
use Rattle.std.specs.declared.cmp.Ordering.TheVariants.{Less, Equal, Greater}
use Rattle.opfs_base.specs.Places.{Place, place_cmp}
use Rattle.opfs_base.specs.Texts.{Text, same_text, same_texts}
use Rattle.opfs_data.specs.Rows.{Rows, row_cmp, row_of}
use Rattle.opfs_desk_bytes.specs.Reading.Files.{has_writer, is_writer, may_write, writes_file}
use Rattle.opfs_hist.specs.declared.op.Mode.{Mode}
use Rattle.opfs_hist.specs.declared.op.Mode.TheVariants as mode
use Rattle.opfs_laws.proofs.Spots.{exact_places}
use Rattle.opfs_laws.specs.Holders.{counts, hold_of, holders, same_want}
use Rattle.opfs_laws.proofs.lengths.Readers.{row-at-on}
use Rattle.opfs_laws.specs.Lengths.Outlines.{in_lengths_of}
use Rattle.opfs_locks.specs.declared.Want.TheVariants as want
use Rattle.opfs_machine.specs.declared.own.HandleRow.{HandleRow}
use Rattle.opfs_machine.specs.declared.own.Outline.{Outline}
use Rattle.opfs_machine.specs.declared.own.Own.{Own}
use Rattle.opfs_machine.specs.declared.own.Own.TheVariants as own
use Rattle.opfs_machine.specs.declared.state.Agent.{Agent}
use Rattle.opfs_machine.specs.declared.state.State.{State}
use Rattle.opfs_machine.specs.Agents.{agent_of, handle_in, nobody, of_row, own_of}
use Rattle.opfs_machine.specs.Contents.{in_lengths, outline_of}
use Rattle.opfs_machine.specs.Rulings.{want_of}
use Rattle.opfs_state_rows.specs.Standing.Seen.{Machine}
use Rattle.opfs_state_rows.proofs.standing.Units.{same_unit, unit_itself}

-- ---- places

texts-same : (a b : List Text) → same_texts a b ≡ true → a ≡ b
texts-same [] [] is = refl
texts-same [] (y ∷ ys) is = absurd (false≢true is)
texts-same (x ∷ xs) [] is = absurd (false≢true is)
texts-same (x ∷ xs) (y ∷ ys) is = let both = and_parts (same_text x y) (same_texts xs ys) is in λ i. same_unit x y both.0 i ∷ texts-same xs ys both.1 i

texts-itself : (a : List Text) → same_texts a a ≡ true
texts-itself [] = refl
texts-itself (x ∷ xs) = λ i. unit_itself x x refl i && texts-itself xs i

equal : (o : Ordering) → is_eq o ≡ true → o ≡ Equal
equal Less is = absurd (false≢true is)
equal Equal is = refl
equal Greater is = absurd (false≢true is)

-- ---- a row that holds the lock

some-own : {R : Type 0} (f : R → ℕ) (xs : List R) → 1 ≤ sum_by f xs → (j : ℕ) × (r : R) × (slice_get xs j ≡ Some r) × (1 ≤ f r)
some-own f [] has = absurd (omega (arith, has))
some-own {R} f (x ∷ xs) has =
    let whole = sum_by-cons f x xs in
    elim (f x) as (λ n. f x ≡ n → (j : ℕ) × (r : R) × (slice_get (x ∷ xs) j ≡ Some r) × (1 ≤ f r)) [
      | zero ↦ λ is. let rest = some-own f xs (omega (arith, has, whole, is)) in (suc rest.0, rest.1, rest.2, rest.3)
      | suc n ↦ λ is. (zero, x, refl, omega (arith, is))
    ] refl

some-agent : {R : Type 0} (f : R → ℕ) (agents : List (Agent R)) → 1 ≤ sum_by f (flat_map (λ a. a.own) agents) → (i : ℕ) × (a : Agent R) × (slice_get agents i ≡ Some a) × (1 ≤ sum_by f a.own)
some-agent f [] has = absurd (omega (arith, has))
some-agent {R} f (a ∷ agents) has =
    let whole = sum_by-append f a.own (flat_map (λ (b : Agent R). b.own) agents) in
    elim (sum_by f a.own) as (λ n. sum_by f a.own ≡ n → (i : ℕ) × (b : Agent R) × (slice_get (a ∷ agents) i ≡ Some b) × (1 ≤ sum_by f b.own)) [
      | zero ↦ λ is. let rest = some-agent f agents (omega (arith, has, whole, is)) in (suc rest.0, rest.1, rest.2, rest.3)
      | suc n ↦ λ is. (zero, a, refl, omega (arith, is))
    ] refl

counted-one : (a b : Bool) → 1 ≤ cond (a && b) 1 0 → (a ≡ true) × (b ≡ true)
counted-one true true has = (refl, refl)
counted-one true false has = absurd (omega (arith, has))
counted-one false b has = absurd (omega (arith, has))

writes-mode : (m : Mode) → same_want want.Exclusive (want_of m) ≡ true → m ≡ mode.ReadWrite
writes-mode mode.ReadWrite is = refl
writes-mode mode.ReadOnly is = absurd (false≢true is)

held-by : (place : Place) (r : Own) → 1 ≤ counts place want.Exclusive (hold_of r) → (y : HandleRow) × (r ≡ own.Handle y) × (y.file ≡ place) × (y.mode ≡ mode.ReadWrite)
held-by place (own.Stream w) has = absurd (false≢true (counted-one (eq_by_cmp place_cmp place w.file) false has).1)
held-by place (own.Handle h) has =
    let both = counted-one (eq_by_cmp place_cmp place h.file) (same_want want.Exclusive (want_of h.mode)) has in
    (h, refl, sym (exact_places place h.file (equal (place_cmp place h.file) both.0)), writes-mode h.mode both.1)
held-by place r has = absurd (omega (arith, has))

-- An open access handle on the file that may write it.
pub record IsOpenWriter (s : State Text Own) (place : Place) (k n : ℕ) : Type 0 where
  pub handle : HandleRow
  pub there : own_of (agent_of s k) n ≡ Some (own.Handle handle)
  pub file : handle.file ≡ place

pub record HasOpenWriter (s : State Text Own) (place : Place) : Type 0 where
  pub agent : ℕ
  pub row : ℕ
  pub writer : IsOpenWriter s place agent row
  pub mode_is : writer.handle.mode ≡ mode.ReadWrite

pub writer-there : (s : State Text Own) (place : Place) → 1 ≤ holders s place want.Exclusive → HasOpenWriter s place
writer-there s place has =
    let a = some-agent (λ (r : Own). counts place want.Exclusive (hold_of r)) s.agents has in
    let r = some-own (λ (x : Own). counts place want.Exclusive (hold_of x)) a.1.own a.3 in
    let y = held-by place r.1 r.3 in
    record {
      agent = suc a.0;
      row = suc r.0;
      writer = record {
        handle = y.0;
        there = ap (λ (o : Option (Agent Own)). slice_get (unwrap_or o nobody).own r.0) a.2 ∙ r.2 ∙ ap Some y.1;
        file = y.2;
      };
      mode_is = y.3;
    }

-- ---- the same, as the shared store knows it

writes-itself : (y : HandleRow) (place : Place) → y.file ≡ place → y.mode ≡ mode.ReadWrite → (may_write y.mode && (same_text y.file.0 place.0 && same_texts y.file.1 place.1)) ≡ true
writes-itself y place file is =
    ap (λ (m : Mode). may_write m && (same_text y.file.0 place.0 && same_texts y.file.1 place.1)) is
    ∙ (ap (λ (p : Place). same_text p.0 place.0 && same_texts p.1 place.1) file ∙ (λ i. unit_itself place.0 place.0 refl i && texts-itself place.1 i))

pub writer-known : (s : State Text Own) (place : Place) (w : HasOpenWriter s place) → is_writer (in_lengths_of s) place (w.agent, w.row) ≡ true
writer-known s place w =
    ap (λ (x : Option Outline). writes_file place (of_row (λ r. handle_in (in_lengths.outline r)) x)) (row-at-on length outline_of s w.agent w.row ∙ ap (option_map outline_of) w.writer.there)
    ∙ writes-itself w.writer.handle place w.writer.file w.mode_is

back : (place : Place) (o : Option Own) → writes_file place (of_row (λ r. handle_in (in_lengths.outline r)) (option_map outline_of o)) ≡ true → (y : HandleRow) × (o ≡ Some (own.Handle y)) × (y.file ≡ place)
back place (Some (own.Handle y)) is =
    let parts = and_parts (may_write y.mode) (same_text y.file.0 place.0 && same_texts y.file.1 place.1) is in
    let both = and_parts (same_text y.file.0 place.0) (same_texts y.file.1 place.1) parts.1 in
    (y, refl, λ i. (same_unit y.file.0 place.0 both.0 i, texts-same y.file.1 place.1 both.1 i))
back place o is = absurd (false≢true is)

pub writer-own : (s : State Text Own) (place : Place) (k n : ℕ) → is_writer (in_lengths_of s) place (k, n) ≡ true → IsOpenWriter s place k n
writer-own s place k n is =
    let y = back place (own_of (agent_of s k) n) (sym (ap (λ (x : Option Outline). writes_file place (of_row (λ r. handle_in (in_lengths.outline r)) x)) (row-at-on length outline_of s k n)) ∙ is) in
    record { handle = y.0; there = y.1; file = y.2 }

-- ---- and among the rows that have pages

left-of : (a b : Bool) → a ≡ true → (a || b) ≡ true
left-of true b is = refl
left-of false b is = absurd (false≢true is)

right-of : (a b : Bool) → b ≡ true → (a || b) ≡ true
right-of true b is = refl
right-of false b is = is

pub has-found : (m : Machine) (place : Place) (swap : Rows) (k n : ℕ) → is_writer m place (k, n) ≡ true → is_some (row_of k n swap) ≡ true → has_writer m place swap ≡ true
has-found m place [] k n is has = absurd (false≢true has)
has-found m place (e ∷ es) k n is has =
    elim (is_at (row_cmp (k, n)) e.0) as (λ b. is_at (row_cmp (k, n)) e.0 ≡ b → is_some (cond b (Some e.1) (row_of k n es)) ≡ true → (is_writer m place e.0 || has_writer m place es) ≡ true) [
      | true ↦ λ at some.
          let key : (k, n) ≡ e.0 = exact_pairs nat_cmp nat_cmp exact_unsigned exact_unsigned (k, n) e.0 (equal (row_cmp (k, n) e.0) at) in
          left-of (is_writer m place e.0) (has_writer m place es) (ap (is_writer m place) (sym key) ∙ is)
      | false ↦ λ at some. right-of (is_writer m place e.0) (has_writer m place es) (has-found m place es k n is some)
    ] refl has
