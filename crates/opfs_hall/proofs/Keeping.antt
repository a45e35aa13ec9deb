-- The rule is kept where views change and count no more than before.
use Rattle.std.proofs.Common.{◌≡◌, ◌≢◌, ℕ, ◌+◌, ◌<◌, ◌≤◌, true, List, [], ◌∷◌, ◌++◌, set, sym, refl, ◌∙◌, subst, ⊎_elim, arith}
use Rattle.std.specs.Prelude.{Option, Some, IfSome, IsSome, sum_by}
use Rattle.std.proofs.lemmas.List.Elements.{All-nil}
use mathlib.Core.Option.{some}
use lib.ListN.{get_elem?}
use Rattle.atomic_table.specs.Table.{State}
use Rattle.atomic_table.proofs.Lists.{at_snoc, set_else}
use Rattle.opfs_hall.specs.declared.board.View.{View}
use Rattle.opfs_hall.specs.History.{IsPrefix, HasEnded}
use Rattle.opfs_hall.specs.Turns.{has_ticket, has_number, has_next, is_in, ticket_is, names, split_right, spent_view, Fits, Home, Kept}
use Rattle.opfs_hall.proofs.Sums.{each_set, sum_by-set_at, sum_by-snoc}

module _ {X O E : Type 0} where
  -- What a few views add to each sum of the rule is no more than it was, and the same to that of tickets
  pub record NoMore (now was : (View O E X → ℕ) → ℕ) : Type 0 where
    pub line : now has_ticket ≡ was has_ticket
    pub seated : now has_number ≤ was has_number
    pub single : now has_next ≤ was has_next
    pub one_each : (t : ℕ) → now (ticket_is t) ≤ was (ticket_is t)
    pub once : (k : ℕ) → now (names k) ≤ was (names k)

module _ {X O E : Type 0} {owner : E → ℕ} {goes : X → X → Type 0} {most : ℕ} {begun : O} {served drawn n : ℕ} {value : X} {log : List E} where
  -- a view with another ticket and another number to draw, where others are drawn next
  pub fits_with : {drawn' n' : ℕ} (v : View O E X) (ticket next : Option ℕ) → Fits owner goes most begun served drawn n value log v
      → IfSome ticket (λ t. (served ≤ t) × (t < drawn') × IsSome v.number) → (v.inside ≡ true → ticket ≡ Some served) → IfSome next (λ k. k ≡ n')
      → Fits owner goes most begun served drawn' n' value log (record v { ticket = ticket; next = next })
  fits_with v ticket next fits waits inside is_next = record {
    opened = fits.opened;
    begins = fits.begins;
    goes_on = fits.goes_on;
    own = fits.own;
    ended = fits.ended;
    waits = waits;
    inside = λ h. let was = fits.inside h in (inside h, was.1, was.2);
    next = is_next;
  }

  -- a view of a seat that is no pass
  pub fits_bare : (v : View O E X) → IfSome v.opening (λ o. (o ≡ begun) × (v.agents ≡ most)) → IsPrefix v.base log → IfSome v.last (λ x. goes x value)
      → IfSome v.next (λ k. k ≡ n) → Fits owner goes most begun served drawn n value log (split_right v)
  fits_bare v opened begins goes_on next = record {
    opened = opened;
    begins = begins;
    goes_on = goes_on;
    own = tt;
    ended = All-nil (λ p. (p.0 ≢ 0) × HasEnded owner log p);
    waits = tt;
    inside = λ h. absurd cc;
    next = next;
  }

module _ {X O E : Type 0} {opening : X → O} {entries : X → List E} {owner : E → ℕ} {goes : X → X → Type 0} {most : ℕ} {begun : O}
    {s : State (Option X) (View O E X)} (kept : Kept opening entries owner goes most begun s) where
  abbrev pub Fit : View O E X → Type 0
  Fit = Fits owner goes most begun kept.served kept.drawn kept.n kept.value kept.log

  -- where as many are in, the slot may stay
  pub same_home : (after : List (View O E X)) → sum_by is_in s.views ≡ sum_by is_in after → Home opening entries begun kept.log (sum_by is_in after) s.homes
  same_home after same = subst (λ (inside : ℕ). Home opening entries begun kept.log inside s.homes) same kept.home

  -- views that count `now` came in the place of those that counted `was`
  pub kept_with : (s' : State (Option X) (View O E X)) (now was : (View O E X → ℕ) → ℕ) → ((f : View O E X → ℕ) → sum_by f s'.views + was f ≡ sum_by f s.views + now f)
      → NoMore now was → s'.words ≡ s.words → Home opening entries begun kept.log (sum_by is_in s'.views) s'.homes → ((x : X) → s'.homes ≡ some (Some x) ∷ [] → x ≡ kept.value)
      → ((j : ℕ) (v : View O E X) → get_elem? s'.views j ≡ some v → Fit v) → Kept opening entries owner goes most begun s'
  kept_with s' now was sums less words home there each = record {
    served = kept.served;
    drawn = kept.drawn;
    n = kept.n;
    value = kept.value;
    log = kept.log;
    logged = kept.logged;
    small = kept.small;
    words = words ∙ kept.words;
    few = kept.few;
    line = omega (arith, kept.line, sums has_ticket, less.line);
    seated = omega (arith, kept.seated, sums has_number, less.seated);
    single = omega (arith, kept.single, sums has_next, less.single);
    one_each = λ t. omega (arith, kept.one_each t, sums (ticket_is t), less.one_each t);
    once = λ k. omega (arith, kept.once k, sums (names k), less.once k);
    below = λ k late. omega (arith, kept.below k late, sums (names k), less.once k);
    undrawn = kept.undrawn;
    home = home;
    there = there;
    each = each;
  }

  -- the same where nothing but views changes
  kept_by : (after : List (View O E X)) (now was : (View O E X → ℕ) → ℕ) → ((f : View O E X → ℕ) → sum_by f after + was f ≡ sum_by f s.views + now f)
      → NoMore now was → now is_in ≡ was is_in → ((j : ℕ) (v : View O E X) → get_elem? after j ≡ some v → Fit v)
      → Kept opening entries owner goes most begun record { words = s.words; homes = s.homes; views = after }
  kept_by after now was sums less inside = kept_with record { words = s.words; homes = s.homes; views = after } now was sums less refl
      (same_home after (omega (arith, sums is_in, inside))) kept.there

  -- a view is split in two
  pub kept_split : (id : ℕ) (v left right : View O E X) → get_elem? s.views id ≡ some v → NoMore (λ f. f left + f right) (λ f. f v) → is_in left + is_in right ≡ is_in v
      → Fit left → Fit right → Kept opening entries owner goes most begun record { words = s.words; homes = s.homes; views = set s.views id left ++ right ∷ [] }
  kept_split id v left right at less inside first second = kept_by (set s.views id left ++ right ∷ []) (λ f. f left + f right) (λ f. f v)
      (λ f. omega (arith, sum_by-snoc f (set s.views id left) right, sum_by-set_at f s.views id v left at)) less inside
      (λ j u at'. ⊎_elim (each_set Fit s.views id left first (λ i w other. kept.each i w) j u) (λ is. subst Fit is second) (at_snoc (set s.views id left) right u j at'))

  -- a view takes in another one, which is spent
  pub kept_join : (id : ℕ) (v : View O E X) (other : ℕ) (u both : View O E X) → get_elem? s.views id ≡ some v → ¬ (other ≡ id) → get_elem? (set s.views id both) other ≡ some u
      → NoMore (λ f. f both + f spent_view) (λ f. f v + f u) → is_in both ≡ is_in v + is_in u → (Fit v → Fit u → Fit both)
      → Kept opening entries owner goes most begun record { words = s.words; homes = s.homes; views = set (set s.views id both) other spent_view }
  kept_join id v other u both at apart at' less inside fits = kept_by (set (set s.views id both) other spent_view) (λ f. f both + f spent_view) (λ f. f v + f u)
      (λ f. omega (arith, sum_by-set_at f s.views id v both at, sum_by-set_at f (set s.views id both) other u spent_view at')) less (omega (arith, inside))
      (each_set Fit (set s.views id both) other spent_view (fits_bare spent_view tt (kept.log, refl) tt tt)
      (λ j w not_other. each_set Fit s.views id both (fits (kept.each id v at) (kept.each other u (sym (set_else s.views id other both apart) ∙ at'))) (λ i x not_id. kept.each i x) j w))
