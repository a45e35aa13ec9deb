-- The pass that has the turn hands it on.
use Rattle.std.proofs.Common.{◌≡◌, ◌≢◌, ℕ, suc, ◌+◌, ◌%◌, ◌^◌, ◌<◌, ◌≤◌, true, false, List, [], ◌∷◌, set, sym, refl, ap, ◌∙◌, subst, arith, get_or}
use Rattle.std.specs.Prelude.{Option, Some, None, IsSome, unwrap_or, sum_by}
use mathlib.Core.Option.{some, none}
use lib.ListN.{get_elem?}
use Rattle.atomic_table.specs.Table.{State, step, gives, put_back, rest, stepped, Allows}
use Rattle.opfs_hall.specs.declared.board.View.{View}
use Rattle.opfs_hall.specs.History.{Adds, IsPrefix}
use Rattle.opfs_hall.specs.Turns.{one_if_some, has_ticket, has_number, has_next, is_in, ticket_is, names, SameOwn, Fits, Home, Kept, Held, handed_on}
use Rattle.opfs_hall.proofs.Sums.{each_set, sum_by-set_at}
use Rattle.opfs_hall.proofs.Owned.{prefix_refl, prefix_trans, owned-adds, ended_stays, not_named}
use Rattle.opfs_hall.proofs.Views.{home_or, modulo, IfSome_at, IfSome_all, IfSome_with, one_at-same, is_in-of, other_ticket, one_in, others_out, number_drawn, ended_without, named_once}

-- the value in the slot that was taken last
abbrev value_or : {X : Type 0} → X → List (ℕ × Option X) → X
value_or d [] = d
value_or d (x ∷ xs) = unwrap_or x.1 d

module _ {X O E : Type 0} (opening : X → O) (entries : X → List E) (owner : E → ℕ) (goes : X → X → Type 0) (stays : (x : X) → goes x x) (lasts : (x y z : X) → goes x y → goes y z → goes x z) (steps : X → X → Type 0) (onto : (x y : X) → steps x y → IsPrefix (entries x) (entries y) → goes x y) (most : ℕ) (begun : O) where
  abbrev Rule : State (Option X) (View O E X) → Type 0
  Rule = Kept opening entries owner goes most begun

  module _ (id : ℕ) (m : Held X O E) (y : X) (k : ℕ) (inside : m.0.inside ≡ true) (holds : m.1 ≡ (0, Some y) ∷ []) (opens : m.0.opening ≡ Some (opening y))
      (number : m.0.number ≡ Some k) (adds : Adds owner k m.0.base (entries y)) (onward : (x : X) × (m.0.last ≡ Some x) × steps x y) (s : State (Option X) (View O E X)) (kept : Rule s)
      (at : get_elem? s.views id ≡ some m.0) where
    abbrev rests : View O E X
    rests = record m.0 { inside = false; ticket = None; base = entries y; last = Some y }

    -- the list grows from what it was at the last hand-over
    grows : Adds owner k kept.log (entries y)
    grows = subst (λ (base : List E). Adds owner k base (entries y)) ((kept.each id m.0 at).inside inside).1 adds

    -- the value goes on from what it was then
    onwards : goes kept.value y
    onwards = onto kept.value y (subst (λ (x : X). steps x y) (ap (λ (z : Option X). unwrap_or z kept.value) (sym onward.1 ∙ ((kept.each id m.0 at).inside inside).2)) onward.2)
        (subst (λ (list : List E). IsPrefix list (entries y)) (sym kept.logged) (grows.0, grows.1))

    served : m.0.ticket ≡ Some kept.served
    served = ((kept.each id m.0 at).inside inside).0

    mine : Fits owner goes most begun (suc kept.served) kept.drawn kept.n y (entries y) rests
    mine = let before = kept.each id m.0 at in record {
      opened = before.opened;
      begins = prefix_refl (entries y);
      goes_on = stays y;
      own = IfSome_all m.0.number (λ j. SameOwn owner j (entries y) (entries y)) (λ j is real. refl);
      ended = λ i d short. let p = before.ended i d short in
          (p.0, ended_stays owner k kept.log (entries y) _ grows (ended_without opening entries owner goes most begun s kept id m.0 at k number i d short) p.0 p.1);
      waits = tt;
      inside = λ h. absurd cc;
      next = before.next;
    }

    another : (j : ℕ) (v : View O E X) → j ≢ id → get_elem? s.views j ≡ some v → Fits owner goes most begun (suc kept.served) kept.drawn kept.n y (entries y) v
    another j v other at' = let before = kept.each j v at' in
        let unnamed : names k v ≡ 0 = named_once opening entries owner goes most begun s kept id m.0 at k j v other at' number in record {
          opened = before.opened;
          begins = prefix_trans v.base kept.log (entries y) before.begins (grows.0, grows.1);
          goes_on = IfSome_with v.last (λ x. goes x kept.value) (λ x. goes x y) (λ x is h. lasts x kept.value y h onwards) before.goes_on;
          own = IfSome_with v.number (λ a. SameOwn owner a kept.log v.base) (λ a. SameOwn owner a (entries y) v.base)
              (λ a is same real. owned-adds owner a k kept.log (entries y) grows
              (λ e. let one = one_at-same v.number k (is ∙ ap (λ (z : ℕ). Some z) e) in absurd (omega arith)) real ∙ same real) before.own;
          ended = λ i d short. let p = before.ended i d short in
              (p.0, ended_stays owner k kept.log (entries y) _ grows (not_named k v.ended (omega (arith, unnamed)) i d short) p.0 p.1);
          waits = IfSome_with v.ticket (λ t. (kept.served ≤ t) × (t < kept.drawn) × IsSome v.number) (λ t. (suc kept.served ≤ t) × (t < kept.drawn) × IsSome v.number)
              (λ t is h. let not_served : t ≢ kept.served = λ e. other_ticket opening entries owner goes most begun s kept id m.0 at kept.served j v other at' served (is ∙ ap (λ (z : ℕ). Some z) e) in
              (omega (arith, h.0), h.1, h.2)) before.waits;
          inside = λ h. absurd (others_out opening entries owner goes most begun s kept id m.0 at j v other at' inside h);
          next = before.next;
        }

    hands : Rule (stepped s 0 ((get_or s.words 0 0 + 1) % 2 ^ 64) id m.1 rests gives)
    hands = let had : has_ticket m.0 ≡ 1 = ap one_if_some served in let one : sum_by is_in s.views ≡ 1 = one_in opening entries owner goes most begun s kept id m.0 at inside in record {
      served = suc kept.served;
      drawn = kept.drawn;
      n = kept.n;
      value = y;
      log = entries y;
      logged = refl;
      small = kept.small;
      words = ap (λ (ws : List ℕ). set ws 0 ((get_or ws 0 0 + 1) % 2 ^ 64)) kept.words
          ∙ (λ i. (modulo kept.served ∙ next) i ∷ kept.drawn % 2 ^ 64 ∷ kept.n ∷ []);
      few = kept.few;
      line = omega (arith, kept.line, had, sum_by-set_at has_ticket s.views id m.0 rests at);
      seated = omega (arith, kept.seated, sum_by-set_at has_number s.views id m.0 rests at);
      single = omega (arith, kept.single, sum_by-set_at has_next s.views id m.0 rests at);
      one_each = λ t. omega (arith, kept.one_each t, sum_by-set_at (ticket_is t) s.views id m.0 rests at);
      once = λ j. omega (arith, kept.once j, sum_by-set_at (names j) s.views id m.0 rests at);
      below = λ j late. omega (arith, kept.below j late, sum_by-set_at (names j) s.views id m.0 rests at);
      undrawn = λ j late real. let drawn = number_drawn opening entries owner goes most begun s kept id m.0 at k number in
          owned-adds owner j k kept.log (entries y) grows (λ e. absurd (omega arith)) real ∙ kept.undrawn j late real;
      home = let none_in : sum_by is_in (set s.views id rests) ≡ 0 = omega (arith, one, is_in-of m.0 true inside, sum_by-set_at is_in s.views id m.0 rests at) in
          let away : s.homes ≡ none ∷ [] = subst (λ (count : ℕ). Home opening entries begun kept.log count s.homes) one kept.home in
          subst (λ (count : ℕ). Home opening entries begun (entries y) count (put_back s.homes m.1)) (sym none_in)
          (y, λ i. put_back (away i) (holds i), (IfSome_at m.0.opening (λ o. (o ≡ begun) × (m.0.agents ≡ most)) (opening y) opens (kept.each id m.0 at).opened).0, refl);
      there = λ x at'. let away : s.homes ≡ none ∷ [] = subst (λ (count : ℕ). Home opening entries begun kept.log count s.homes) one kept.home in
          ap (home_or y) (sym at' ∙ (λ i. put_back (away i) (holds i)));
      each = each_set (Fits owner goes most begun (suc kept.served) kept.drawn kept.n y (entries y)) s.views id rests mine another;
    } where
      next : (kept.served + 1) % 2 ^ 64 ≡ suc kept.served % 2 ^ 64
      next = omega arith

  pub hands_on_kept : (slots id : ℕ) (m : Held X O E) (y : X) (k : ℕ) → m.0.inside ≡ true → m.1 ≡ (0, Some y) ∷ [] → m.0.opening ≡ Some (opening y)
      → m.0.number ≡ Some k → Adds owner k m.0.base (entries y) → (x : X) × (m.0.last ≡ Some x) × steps x y
      → Allows Rule slots id m 0 (λ n. (n + 1) % 2 ^ 64) (handed_on entries (step slots 0 1 0 none) m)
  hands_on_kept slots id m y k inside holds opens number adds onward s kept deep at small = (
    rests id m y k inside holds opens number adds onward s kept at,
    gives,
    tt,
    hands id m y k inside holds opens number adds onward s kept at,
    λ y' holds'. let same : y ≡ y' = ap (value_or y) (sym holds ∙ holds') in λ i. (record m.0 { inside = false; ticket = None; base = entries (same i); last = Some (same i) }, rest (holds i)),
  )
