-- A pass looks at the ticket that is served, and takes the turn where it is its own.
use Rattle.std.proofs.Common.{◌≡◌, ℕ, ◌%◌, ◌^◌, true, false, List, [], ◌∷◌, set, sym, refl, ap, ◌∙◌, subst, arith, get_or}
use Rattle.std.specs.Prelude.{Option, Some, IfSome, sum_by}
use mathlib.Core.Option.{some, none, some-ne-none}
use mathlib.Core.Option as maybe
use mathlib.Core.Logic.{dite}
use native.Mathlib.Decide.{ℕ_discrete}
use lib.ListN.{get_elem?}
use Rattle.atomic_table.specs.Table.{State, step, keeps, takes, stepped, Allows}
use Rattle.atomic_table.proofs.Lists.{set_again}
use Rattle.opfs_hall.specs.declared.board.View.{View}
use Rattle.opfs_hall.specs.History.{IsPrefix, GrowsByOthers}
use Rattle.opfs_hall.specs.Turns.{is_in, SameOwn, Home, Kept, Held, Entered, looked}
use Rattle.opfs_hall.proofs.Sums.{each_set, sum_by-set_at}
use Rattle.opfs_hall.proofs.Owned.{prefix_refl, grows_by_others}
use Rattle.opfs_hall.proofs.Keeping.{Fit, kept_with}
use Rattle.opfs_hall.proofs.Views.{first_home, IfSome_with, same_value, is_in-of, other_ticket, served_is, nobody_in}

module _ {X O E : Type 0} (opening : X → O) (entries : X → List E) (owner : E → ℕ) (goes : X → X → Type 0) (still : (x : X) → goes x x) (most : ℕ) (begun : O) where
  abbrev Rule : State (Option X) (View O E X) → Type 0
  Rule = Kept opening entries owner goes most begun

  module _ (id : ℕ) (m : Held X O E) (t : ℕ) (has : m.0.ticket ≡ Some t) (out : m.0.inside ≡ false) (empty : m.1 ≡ [])
      (s : State (Option X) (View O E X)) (kept : Rule s) (at : get_elem? s.views id ≡ some m.0) where
    same_words : set s.words 0 (get_or s.words 0 0) ≡ s.words
    same_words = ap (λ (ws : List ℕ). set ws 0 (get_or ws 0 0)) kept.words ∙ sym kept.words

    -- another ticket is served: nothing changes
    stays : Rule (stepped s 0 (get_or s.words 0 0) id m.1 m.0 keeps)
    stays = let views : set s.views id m.0 ≡ s.views = set_again s.views id m.0 at in
        subst Rule (λ i. record { words = sym same_words i; homes = s.homes; views = sym views i }) kept

    module _ (served : kept.served ≡ t) where
      -- the pass has the ticket that is served, so no one is in
      none_in : sum_by is_in s.views ≡ 0
      none_in = nobody_in opening entries owner goes most begun s kept id m.0 at out (λ j u other at' inside.
          other_ticket opening entries owner goes most begun s kept id m.0 at kept.served j u other at' (has ∙ ap (λ (z : ℕ). Some z) (sym served)) ((kept.each j u at').inside inside).0)

      at_home : Home opening entries begun kept.log 0 s.homes
      at_home = subst (λ (inside : ℕ). Home opening entries begun kept.log inside s.homes) none_in kept.home

      is_there : at_home.0 ≡ kept.value
      is_there = kept.there at_home.0 at_home.1

      abbrev within : View O E X
      within = record m.0 { inside = true; base = entries at_home.0; last = Some at_home.0 }

      enters : Rule (stepped s 0 (get_or s.words 0 0) id m.1 within (takes 0 (Some at_home.0)))
      enters = let mine = kept.each id m.0 at in let log_is : entries at_home.0 ≡ kept.log = at_home.3 in
          let away : set s.homes 0 none ≡ none ∷ [] = ap (λ (hs : List (maybe.Option (Option X))). set hs 0 none) at_home.1 in
          let one : sum_by is_in (set s.views id within) ≡ 1 = omega (arith, none_in, is_in-of m.0 false out, sum_by-set_at is_in s.views id m.0 within at) in
          kept_with kept (stepped s 0 (get_or s.words 0 0) id m.1 within (takes 0 (Some at_home.0))) (λ f. f within) (λ f. f m.0)
          (λ f. sum_by-set_at f s.views id m.0 within at)
          record { line = refl; seated = omega arith; single = omega arith; one_each = λ k. omega arith; once = λ k. omega arith }
          same_words
          (subst (λ (inside : ℕ). Home opening entries begun kept.log inside (set s.homes 0 none)) (sym one) away)
          (λ x at'. absurd (some-ne-none (Some x) (ap first_home (sym at' ∙ away))))
          (each_set (Fit kept) s.views id within
          record {
            opened = mine.opened;
            begins = subst (λ (base : List E). IsPrefix base kept.log) (sym log_is) (prefix_refl kept.log);
            goes_on = subst (λ (z : X). goes at_home.0 z) is_there (still at_home.0);
            own = subst (λ (base : List E). IfSome m.0.number (λ k. SameOwn owner k kept.log base)) (sym log_is)
                (IfSome_with m.0.number (λ k. SameOwn owner k kept.log m.0.base) (λ k. SameOwn owner k kept.log kept.log) (λ k is same real. refl) mine.own);
            ended = mine.ended;
            waits = mine.waits;
            inside = λ h. (has ∙ ap (λ (z : ℕ). Some z) (sym served), log_is, ap (λ (z : X). Some z) is_there);
            next = mine.next;
          }
          (λ j v other. kept.each j v))

      entered : Entered opening entries owner goes m (within, (0, Some at_home.0) ∷ m.1)
      entered = let mine = kept.each id m.0 at in let log_is : entries at_home.0 ≡ kept.log = at_home.3 in (
        at_home.0,
        refl,
        IfSome_with m.0.opening (λ o. (o ≡ begun) × (m.0.agents ≡ most)) (λ o. opening at_home.0 ≡ o) (λ o is h. at_home.2 ∙ sym h.0) mine.opened,
        subst (λ (list : List E). IfSome m.0.number (λ k. GrowsByOthers owner k m.0.base list)) (sym log_is)
            (IfSome_with m.0.number (λ k. SameOwn owner k kept.log m.0.base) (λ k. GrowsByOthers owner k m.0.base kept.log)
            (λ k is same. grows_by_others owner k m.0.base kept.log mine.begins same) mine.own),
        IfSome_with m.0.last (λ y. goes y kept.value) (λ y. goes y at_home.0) (λ y is h. subst (λ (z : X). goes y z) (sym is_there) h) mine.goes_on,
      )

  pub looks_kept : (slots id : ℕ) (m : Held X O E) (t : ℕ) → m.0.ticket ≡ Some t → m.0.inside ≡ false → m.1 ≡ []
      → Allows Rule slots id m 0 (λ n. n) (looked opening entries owner goes (step slots 0 0 0 none) m)
  looks_kept slots id m t has out empty s kept deep at small =
      let word : get_or s.words 0 0 ≡ kept.served % 2 ^ 64 = ap (λ (ws : List ℕ). get_or ws 0 0) kept.words in
      dite (ℕ_discrete (get_or s.words 0 0) (t % 2 ^ 64))
      (λ e. let served : kept.served ≡ t = served_is opening entries owner goes most begun s kept id m.0 at t has (sym word ∙ e) in
      let home = at_home id m t has out empty s kept at served in (
        within id m t has out empty s kept at served,
        takes 0 (Some home.0),
        ap (λ (hs : List (maybe.Option (Option X))). get_elem? hs 0) home.1,
        enters id m t has out empty s kept at served,
        λ t' has'. (λ _. entered id m t has out empty s kept at served, λ miss. absurd (miss (e ∙ ap (λ (z : ℕ). z % 2 ^ 64) (same_value m.0.ticket t t' has has')))),
      ))
      (λ miss. (
        m.0,
        keeps,
        tt,
        stays id m t has out empty s kept at,
        λ t' has'. (λ e. absurd (miss (e ∙ ap (λ (z : ℕ). z % 2 ^ 64) (same_value m.0.ticket t' t has' has))), λ _. refl),
      ))
