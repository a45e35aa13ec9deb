-- A seat draws the number of its pass.
use Rattle.std.proofs.Common.{◌≡◌, ◌≢◌, ℕ, ◌+◌, ◌<◌, ◌≤◌, Bool, List, set, sym, refl, ap, ◌∙◌, arith, get_or, eq-eqb}
use Rattle.std.specs.Prelude.{Option, Some, None, IsSome, nat_eq}
use mathlib.Core.Option.{some, none}
use mathlib.Core.Logic.{dite}
use native.Mathlib.Decide.{ℕ_discrete}
use prog.Atomic.{either}
use lib.ListN.{get_elem?}
use Rattle.atomic_table.specs.Table.{State, step, keeps, stepped, Allows}
use Rattle.opfs_hall.specs.declared.board.View.{View}
use Rattle.opfs_hall.specs.Turns.{one_at, one_if_some, has_ticket, has_number, has_next, is_in, ticket_is, names, Fits, Kept, Held, numbered}
use Rattle.opfs_hall.proofs.Sums.{each_set, sum_by-set_at, two_at_most_all, counts_same, counts_other}
use Rattle.opfs_hall.proofs.Owned.{owned-prefix}
use Rattle.opfs_hall.proofs.Keeping.{fits_with, same_home}
use Rattle.opfs_hall.proofs.Views.{IfSome_at, IfSome_none, IfSome_zero, same_value}

module _ {X O E : Type 0} (opening : X → O) (entries : X → List E) (owner : E → ℕ) (goes : X → X → Type 0) (most : ℕ) (begun : O) where
  abbrev Rule : State (Option X) (View O E X) → Type 0
  Rule = Kept opening entries owner goes most begun

  module _ (id : ℕ) (m : Held X O E) (k : ℕ) (o : O) (next : m.0.next ≡ Some k) (number : m.0.number ≡ None) (no_ticket : m.0.ticket ≡ None)
      (opens : m.0.opening ≡ Some o) (few : k ≤ m.0.agents) (s : State (Option X) (View O E X)) (kept : Rule s) (at : get_elem? s.views id ≡ some m.0) where
    abbrev seated : View O E X
    seated = record m.0 { number = Some k; next = Some (k + 1) }

    -- the seat's number is the next one
    is_next : k ≡ kept.n
    is_next = IfSome_at m.0.next (λ j. j ≡ kept.n) k next (kept.each id m.0 at).next

    word : get_or s.words 2 0 ≡ k
    word = ap (λ (ws : List ℕ). get_or ws 2 0) kept.words ∙ sym is_next

    mine : Fits owner goes most begun kept.served kept.drawn (k + 1) kept.value kept.log seated
    mine = let before = kept.each id m.0 at in record {
      opened = before.opened;
      begins = before.begins;
      goes_on = before.goes_on;
      own = λ real. let none_yet = kept.undrawn k (omega (arith, is_next)) real in none_yet ∙ sym (owned-prefix owner k m.0.base kept.log before.begins none_yet);
      ended = before.ended;
      waits = IfSome_none m.0.ticket (λ t. (kept.served ≤ t) × (t < kept.drawn) × IsSome seated.number) no_ticket;
      inside = before.inside;
      next = refl;
    }

    -- no other seat may draw a number
    another : (j : ℕ) (v : View O E X) → j ≢ id → get_elem? s.views j ≡ some v → Fits owner goes most begun kept.served kept.drawn (k + 1) kept.value kept.log v
    another j v other at' = let before = kept.each j v at' in let had : has_next m.0 ≡ 1 = ap one_if_some next in
        fits_with v v.ticket v.next before before.waits (λ h. (before.inside h).0)
        (IfSome_zero v.next (λ n. n ≡ k + 1) (omega (arith, had, kept.single, two_at_most_all has_next s.views id j m.0 v other at at')))

    draws : Rule (stepped s 2 (either (nat_eq (get_or s.words 2 0) k) (k + 1) (get_or s.words 2 0)) id m.1 seated keeps)
    draws = let unnumbered : has_number m.0 ≡ 0 = ap one_if_some number in let had : has_next m.0 ≡ 1 = ap one_if_some next in record {
      served = kept.served;
      drawn = kept.drawn;
      n = k + 1;
      value = kept.value;
      log = kept.log;
      logged = kept.logged;
      small = kept.small;
      words = ap (λ (b : Bool). set s.words 2 (either b (k + 1) (get_or s.words 2 0))) (eq-eqb (get_or s.words 2 0) k word) ∙ ap (λ (ws : List ℕ). set ws 2 (k + 1)) kept.words;
      few = let most_is = (IfSome_at m.0.opening (λ x. (x ≡ begun) × (m.0.agents ≡ most)) o opens (kept.each id m.0 at).opened).1 in omega arith;
      line = omega (arith, kept.line, sum_by-set_at has_ticket s.views id m.0 seated at);
      seated = omega (arith, is_next, unnumbered, kept.seated, sum_by-set_at has_number s.views id m.0 seated at);
      single = omega (arith, had, kept.single, sum_by-set_at has_next s.views id m.0 seated at);
      one_each = λ t. omega (arith, kept.one_each t, sum_by-set_at (ticket_is t) s.views id m.0 seated at);
      once = λ j. let unnamed : one_at j m.0.number ≡ 0 = ap (one_at j) number in let sum = sum_by-set_at (names j) s.views id m.0 seated at in dite (ℕ_discrete k j)
          (λ same. omega (arith, counts_same k j same, kept.below j (omega (arith, is_next, same))))
          (λ other. omega (arith, counts_other k j other, kept.once j));
      below = λ j late. let unnamed : one_at j m.0.number ≡ 0 = ap (one_at j) number in
          omega (arith, counts_other k j (λ same. absurd (omega arith)), kept.below j (omega (arith, is_next)), sum_by-set_at (names j) s.views id m.0 seated at);
      undrawn = λ j late. kept.undrawn j (omega (arith, is_next));
      home = same_home kept (set s.views id seated) (omega (arith, sum_by-set_at is_in s.views id m.0 seated at));
      there = kept.there;
      each = each_set (Fits owner goes most begun kept.served kept.drawn (k + 1) kept.value kept.log) s.views id seated mine another;
    }

  pub numbers_kept : (slots id : ℕ) (m : Held X O E) (k : ℕ) (o : O) → m.0.next ≡ Some k → m.0.number ≡ None → m.0.ticket ≡ None → m.0.opening ≡ Some o → k ≤ m.0.agents
      → Allows Rule slots id m 2 (λ n. either (nat_eq n k) (k + 1) n) (numbered (step slots 2 k (k + 1) none) m)
  numbers_kept slots id m k o next number no_ticket opens few s kept deep at small = (
    seated id m k o next number no_ticket opens few s kept at,
    keeps,
    tt,
    draws id m k o next number no_ticket opens few s kept at,
    λ k' next'. let same : k ≡ k' = same_value m.0.next k k' next next' in
        (word id m k o next number no_ticket opens few s kept at ∙ same, λ i. (record m.0 { number = Some (same i); next = Some (same i + 1) }, m.1)),
  )
