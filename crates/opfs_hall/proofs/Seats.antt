-- Seats are split and joined.
use Rattle.std.proofs.Common.{◌≡◌, ◌≢◌, ℕ, zero, suc, ◌+◌, false, cond, List, [], ◌∷◌, ◌++◌, length, sym, refl, ap, ◌∙◌, subst, arith, length-append}
use Rattle.std.specs.Prelude.{Option, Some, None, IfSome, unwrap_or, nat_eq, slice_get}
use Rattle.std.proofs.lemmas.List.Elements.{All-cons, All-append}
use Rattle.std.proofs.lemmas.List.Sums.{sum_by-cons, sum_by-append}
use Rattle.std.proofs.lemmas.Bool.{false≢true}
use mathlib.Core.Logic.{dite}
use native.Mathlib.Decide.{ℕ_discrete}
use Rattle.atomic_table.specs.Table.{State, Splits, Joins}
use Rattle.opfs_hall.specs.declared.board.View.{View}
use Rattle.opfs_hall.specs.History.{HasEnded, IsPrefix}
use Rattle.opfs_hall.specs.Seen.{HallSeen, PassSeen, new_pass, AreNew}
use Rattle.opfs_hall.specs.Turns.{one_at, one_if_some, has_ticket, is_in, names, split_left, split_right, shadow, learned, followed, joined_view, spent_view, SameOwn, Fits, Kept}
use Rattle.opfs_hall.proofs.Keeping.{fits_with, fits_bare, kept_split, kept_join}
use Rattle.opfs_hall.proofs.Views.{IfSome_at, is_in-of}

module _ {A : Type 0} where
  slice_get-longer : (xs ys : List A) (k : ℕ) (a : A) → slice_get xs k ≡ Some a → slice_get (xs ++ ys) k ≡ Some a
  slice_get-longer [] ys k a at = absurd cc
  slice_get-longer (x ∷ xs) ys zero a at = at
  slice_get-longer (x ∷ xs) ys (suc k) a at = slice_get-longer xs ys k a at

  slice_get-last : (xs : List A) (a : A) (n : ℕ) → length xs ≡ n → slice_get (xs ++ a ∷ []) n ≡ Some a
  slice_get-last [] a zero is = refl
  slice_get-last [] a (suc n) is = absurd (omega arith)
  slice_get-last (x ∷ xs) a zero is = absurd (omega arith)
  slice_get-last (x ∷ xs) a (suc n) is = slice_get-last xs a n (omega arith)

module _ {X O E : Type 0} (opening : X → O) (entries : X → List E) (owner : E → ℕ) (goes : X → X → Type 0) (most : ℕ) (begun : O) where
  abbrev Rule : State (Option X) (View O E X) → Type 0
  Rule = Kept opening entries owner goes most begun

  pub splits_kept : (id : ℕ) (v : View O E X) → Splits Rule id v (split_left v) (split_right v)
  splits_kept id v s kept at = let fits = kept.each id v at in kept_split kept id v (split_left v) (split_right v) at
      record { line = omega arith; seated = omega arith; single = omega arith; one_each = λ t. omega arith; once = λ k. omega arith }
      (omega arith)
      (fits_with v v.ticket None fits fits.waits (λ h. (fits.inside h).0) tt)
      (fits_bare v fits.opened fits.begins fits.goes_on fits.next)

  pub shadows_kept : (id : ℕ) (v : View O E X) → Splits Rule id v v (shadow v)
  shadows_kept id v s kept at = let fits = kept.each id v at in kept_split kept id v v (shadow v) at
      record { line = omega arith; seated = omega arith; single = omega arith; one_each = λ t. omega arith; once = λ k. omega arith }
      (omega arith)
      fits
      (fits_bare (split_left v) fits.opened fits.begins fits.goes_on tt)

  -- a view takes this base and this last value of a seat that is no pass
  takes_kept : (base : View O E X → List E) (last : View O E X → Option X) (id : ℕ) (v : View O E X) (other : ℕ) (u x : View O E X) → u ≡ shadow x → v.inside ≡ false
      → ((served drawn n : ℕ) (value : X) (log : List E) → Fits owner goes most begun served drawn n value log v → Fits owner goes most begun served drawn n value log (shadow x)
      → IsPrefix (base (shadow x)) log × IfSome (last (shadow x)) (λ y. goes y value) × IfSome v.number (λ k. SameOwn owner k log (base (shadow x))))
      → Joins Rule id v other u (record v { base = base u; last = last u }) spent_view
  takes_kept base last id v other u x is out fits = subst (λ (z : View O E X). Joins Rule id v other z (record v { base = base z; last = last z }) spent_view) (sym is)
      (λ s kept at apart at'. kept_join kept id v other (shadow x) (record v { base = base (shadow x); last = last (shadow x) }) at apart at'
      record { line = omega arith; seated = omega arith; single = omega arith; one_each = λ t. omega arith; once = λ k. omega arith }
      (omega arith)
      (λ mine theirs. let taken = fits kept.served kept.drawn kept.n kept.value kept.log mine theirs in record {
        opened = mine.opened;
        begins = taken.0;
        goes_on = taken.1;
        own = taken.2;
        ended = mine.ended;
        waits = mine.waits;
        inside = λ h. absurd (false≢true (sym out ∙ h));
        next = mine.next;
      }))

  pub learns_kept : (id : ℕ) (v : View O E X) (other : ℕ) (u x : View O E X) → u ≡ shadow x → v.number ≡ Some 0 → v.inside ≡ false → Joins Rule id v other u (learned v u) spent_view
  learns_kept id v other u x is owned_by out = takes_kept (λ z. z.base) (λ z. v.last) id v other u x is out
      (λ served drawn n value log mine theirs. (theirs.begins, mine.goes_on, subst (λ (n : Option ℕ). IfSome n (λ k. SameOwn owner k log x.base)) (sym owned_by) (λ real. absurd (real refl))))

  pub follows_kept : (id : ℕ) (v : View O E X) (other : ℕ) (u x : View O E X) → u ≡ shadow x → v.inside ≡ false → Joins Rule id v other u (followed v u) spent_view
  follows_kept id v other u x is out = takes_kept (λ z. v.base) (λ z. z.last) id v other u x is out (λ served drawn n value log mine theirs. (mine.begins, theirs.goes_on, mine.own))

  module _ (u : View O E X) (k : ℕ) (number : u.number ≡ Some k) where
    is_number : unwrap_or u.number 0 ≡ k
    is_number = ap (λ (z : Option ℕ). unwrap_or z 0) number

    -- the taker names what both named
    names-joined : (v : View O E X) (j : ℕ) → names j (joined_view v u) ≡ names j v + names j u
    names-joined v j = let test : ℕ × List E → ℕ = λ p. cond (nat_eq p.0 j) 1 0 in let pair : ℕ × List E = (unwrap_or u.number 0, u.base) in
        let own : test pair ≡ one_at j u.number = ap (λ (z : ℕ). cond {A = ℕ} (nat_eq z j) 1 0) is_number ∙ ap (one_at j) (sym number) in
        omega (arith, own, sum_by-append test v.ended (pair ∷ u.ended), sum_by-cons test pair u.ended)

  pub joins_kept : (id : ℕ) (v : View O E X) (other : ℕ) (u : View O E X) (k : ℕ) → u.number ≡ Some k → k ≢ 0 → u.ticket ≡ None → u.inside ≡ false
      → Joins Rule id v other u (joined_view v u) spent_view
  joins_kept id v other u k number real no_ticket out s kept at apart at' =
      let unticketed : has_ticket u ≡ 0 = ap one_if_some no_ticket in let outside : is_in u ≡ 0 = is_in-of u false out in
      kept_join kept id v other u (joined_view v u) at apart at'
      record { line = omega (arith, unticketed); seated = omega arith; single = omega arith; one_each = λ t. omega arith; once = λ j. omega (arith, names-joined u k number v j) }
      (omega (arith, outside))
      (λ mine theirs. let Good : ℕ × List E → Type 0 = λ p. (p.0 ≢ 0) × HasEnded owner kept.log p in
      let pair : Good (unwrap_or u.number 0, u.base) = subst (λ (j : ℕ). Good (j, u.base)) (sym (is_number u k number))
      (real, (theirs.begins, IfSome_at u.number (λ j. SameOwn owner j kept.log u.base) k number theirs.own real)) in record {
        opened = mine.opened;
        begins = mine.begins;
        goes_on = mine.goes_on;
        own = mine.own;
        ended = All-append Good v.ended ((unwrap_or u.number 0, u.base) ∷ u.ended) mine.ended (All-cons Good (unwrap_or u.number 0, u.base) u.ended pair theirs.ended);
        waits = mine.waits;
        inside = mine.inside;
        next = mine.next;
      })

-- one more new pass
module _ {O E : Type 0} where
  pub AreNew-push : (hall : HallSeen O) (n : ℕ) (passes : List (PassSeen O E)) → AreNew hall n passes → AreNew hall (n + 1) (passes ++ new_pass hall n [] ∷ [])
  AreNew-push hall n passes new = (
    length-append passes (new_pass hall n [] ∷ []) ∙ omega (arith, new.0),
    λ k below. dite (ℕ_discrete k n)
        (λ is. subst (λ (j : ℕ). slice_get (passes ++ new_pass hall n [] ∷ []) j ≡ Some (new_pass hall j [])) (sym is) (slice_get-last passes (new_pass hall n []) n new.0))
        (λ other. slice_get-longer passes (new_pass hall n [] ∷ []) k (new_pass hall k []) (new.1 k (omega arith))),
  )
