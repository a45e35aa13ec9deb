-- A pass draws its ticket.
use Rattle.std.proofs.Common.{◌≡◌, ℕ, ◌+◌, ◌%◌, ◌^◌, ◌<◌, ◌≤◌, List, [], ◌∷◌, set, sym, refl, ap, ◌∙◌, arith, get_or}
use Rattle.std.specs.Prelude.{Some, None, IsSome}
use mathlib.Core.Option.{none}
use mathlib.Core.Logic.{dite}
use native.Mathlib.Decide.{ℕ_discrete}
use Rattle.atomic_table.specs.Table.{step, keeps, Allows}
use Rattle.opfs_hall.specs.declared.board.View.{View}
use Rattle.opfs_hall.specs.Turns.{one_at, one_if_some, has_ticket, has_number, has_next, is_in, ticket_is, names, Fits, Kept, Held, ticketed}
use Rattle.opfs_hall.proofs.Sums.{each_set, sum_by-set_at}
use Rattle.opfs_hall.proofs.Keeping.{fits_with, same_home}
use Rattle.opfs_hall.proofs.Views.{IfSome_with, modulo, one_at-other, one_at_most, not_drawn}

module _ {X O E : Type 0} (opening : X → O) (entries : X → List E) (owner : E → ℕ) (goes : X → X → Type 0) (most : ℕ) (begun : O) where
  pub draws_kept : (slots id : ℕ) (m : Held X O E) → m.0.ticket ≡ None → IsSome m.0.number → m.1 ≡ []
      → Allows (Kept opening entries owner goes most begun) slots id m 1 (λ n. (n + 1) % 2 ^ 64) (ticketed (step slots 1 1 0 none) m)
  draws_kept slots id m no_ticket numbered empty s kept deep at small =
      let w : View O E X = record m.0 { ticket = Some kept.drawn } in
      let mine = kept.each id m.0 at in
      let free : has_ticket m.0 ≡ 0 = ap one_if_some no_ticket in (
        w,
        keeps,
        tt,
        record {
          served = kept.served;
          drawn = kept.drawn + 1;
          n = kept.n;
          value = kept.value;
          log = kept.log;
          logged = kept.logged;
          small = kept.small;
          words = ap (λ (ws : List ℕ). set ws 1 ((get_or ws 1 0 + 1) % 2 ^ 64)) kept.words ∙ (λ i. kept.served % 2 ^ 64 ∷ modulo kept.drawn i ∷ kept.n ∷ []);
          few = kept.few;
          line = omega (arith, kept.line, free, sum_by-set_at has_ticket s.views id m.0 w at);
          seated = omega (arith, kept.seated, sum_by-set_at has_number s.views id m.0 w at);
          single = omega (arith, kept.single, sum_by-set_at has_next s.views id m.0 w at);
          one_each = λ t. let sum = sum_by-set_at (ticket_is t) s.views id m.0 w at in let before : ticket_is t m.0 ≡ 0 = ap (one_at t) no_ticket in
              dite (ℕ_discrete kept.drawn t)
              (λ e. let fresh = not_drawn opening entries owner goes most begun s kept t (omega (arith, e)) in let one = one_at_most t kept.drawn in omega arith)
              (λ other. let zero_is = one_at-other (Some kept.drawn) kept.drawn t refl other in omega (arith, kept.one_each t));
          once = λ k. omega (arith, kept.once k, sum_by-set_at (names k) s.views id m.0 w at);
          below = λ k late. omega (arith, kept.below k late, sum_by-set_at (names k) s.views id m.0 w at);
          undrawn = kept.undrawn;
          home = same_home kept (set s.views id w) (omega (arith, sum_by-set_at is_in s.views id m.0 w at));
          there = kept.there;
          each = each_set (Fits owner goes most begun kept.served (kept.drawn + 1) kept.n kept.value kept.log) s.views id w
              (fits_with m.0 (Some kept.drawn) m.0.next mine (omega (arith, kept.line), omega arith, numbered) (λ h. let has = (mine.inside h).0 in absurd cc) mine.next)
              (λ j v other at'. let one = kept.each j v at' in fits_with v v.ticket v.next one
              (IfSome_with v.ticket (λ t. (kept.served ≤ t) × (t < kept.drawn) × IsSome v.number) (λ t. (kept.served ≤ t) × (t < kept.drawn + 1) × IsSome v.number)
              (λ t is h. (h.0, omega (arith, h.1), h.2)) one.waits)
              (λ h. (one.inside h).0) one.next);
        },
        (kept.drawn, refl, sym (ap (λ (ws : List ℕ). get_or ws 1 0) kept.words)),
      )
