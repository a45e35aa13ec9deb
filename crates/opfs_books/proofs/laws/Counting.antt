-- Counts of faults, of calls and of evictions, as the history goes on.
use Rattle.std.proofs.Common.{◌≡◌, ◌⊎◌, inl, inr, ℕ, ◌+◌, ◌-◌, ◌^◌, ◌≤◌, Bool, true, false, cond, List, [], ◌∷◌, ◌++◌, length, filter, refl, sym, ap, ◌∙◌, subst, arith}
use Rattle.std.specs.List.{count_by}
use Rattle.std.proofs.lemmas.List.{length-append}
use Rattle.std.proofs.lemmas.List.Elements.{filter-append}
use Rattle.std.proofs.lemmas.List.Sums.{length-filter}
use Rattle.opfs_hist.specs.Faults.{is_disk_fault, disk_faults}
use Rattle.opfs_hist.specs.declared.entry.Entry.{Entry}
use Rattle.opfs_outside.specs.Faults.{Rose, RoseBy}
use Rattle.opfs_books.specs.Laws.Books.{AreCounted}

abbrev pub one_if : Bool → ℕ
one_if t = cond t 1 0

module _ {X : Type 0} (p : X → Bool) where
  pub count-append : (xs ys : List X) → count_by p (xs ++ ys) ≡ count_by p xs + count_by p ys
  count-append xs ys =
      sym (length-filter p (xs ++ ys)) ∙ ap length (filter-append p xs ys) ∙ length-append (filter p xs) (filter p ys) ∙ (λ i. length-filter p xs i + length-filter p ys i)

  pub count-one : (x : X) → count_by p (x ∷ []) ≡ one_if (p x)
  count-one x = let n = one_if (p x) in omega arith

  pub count-more : (xs : List X) (x : X) → count_by p (xs ++ x ∷ []) ≡ count_by p xs + one_if (p x)
  count-more xs x = count-append xs (x ∷ []) ∙ ap (λ n. count_by p xs + n) (count-one x)

  pub count-cons : (x : X) (xs : List X) → count_by p (x ∷ xs) ≡ one_if (p x) + count_by p xs
  count-cons x xs = count-append (x ∷ []) xs ∙ ap (λ n. n + count_by p xs) (count-one x)

pub one_true : (t : Bool) → t ≡ true → one_if t ≡ 1
one_true true h = refl
one_true false h = absurd cc

pub one_false : (t : Bool) → t ≡ false → one_if t ≡ 0
one_false true h = absurd cc
one_false false h = refl

-- ---- rises of a count

pub rose-later : (a b c : ℕ) → c ≤ 2 ^ 64 - 1 → Rose a b → b ≤ c → Rose a c
rose-later a b c most (inl less) le = inl (omega (arith, less, le))
rose-later a b c most (inr end) le = inr (omega (arith, end, le, most))

pub rose-before : (a b c : ℕ) → a ≤ b → Rose b c → Rose a c
rose-before a b c le (inl less) = inl (omega (arith, less, le))
rose-before a b c le (inr end) = inr end

pub rose-by-later : (n a b c : ℕ) → c ≤ 2 ^ 64 - 1 → RoseBy n a b → b ≤ c → RoseBy n a c
rose-by-later n a b c most (inl less) le = inl (omega (arith, less, le))
rose-by-later n a b c most (inr end) le = inr (omega (arith, end, le, most))

pub rose-once-more : (n a b c : ℕ) → c ≤ 2 ^ 64 - 1 → RoseBy n a b → b ≤ c → Rose b c → RoseBy (n + 1) a c
rose-once-more n a b c most (inl less) le (inl more) = inl (omega (arith, less, more))
rose-once-more n a b c most (inl less) le (inr end) = inr end
rose-once-more n a b c most (inr end) le rose = inr (omega (arith, end, le, most))

-- ---- the counts of a history

pub counted-later : (begun now later : ℕ) (h : List Entry) (d e : Bool) → later ≤ 2 ^ 64 - 1 → AreCounted begun now h d → now ≤ later → (e ≡ true → (d ≡ true) ⊎ Rose now later) → AreCounted begun later h e
counted-later begun now later h d e most are le raised = record {
  faults = rose-by-later (disk_faults h) begun now later most are.faults le;
  fewer = omega (arith, are.fewer, le);
  raised = λ is. elim (raised is) [
    | inl was ↦ rose-later begun now later most (are.raised was) le
    | inr rose ↦ rose-before begun now later are.fewer rose
  ];
}

pub counted-more : (begun now : ℕ) (h new : List Entry) (d : Bool) → AreCounted begun now h d → RoseBy (disk_faults new) begun now → AreCounted begun now new d
counted-more begun now h new d are faults = record { faults = faults; fewer = are.fewer; raised = are.raised }

pub faults-more : (h : List Entry) (e : Entry) → disk_faults (h ++ e ∷ []) ≡ disk_faults h + one_if (is_disk_fault e.reply)
faults-more h e = count-more (λ x. is_disk_fault x.reply) h e

-- An entry that is no fault needs no rise; one that is needs one more.
pub counted-entry : (begun now : ℕ) (h : List Entry) (e : Entry) (d : Bool) → AreCounted begun now h d → (is_disk_fault e.reply ≡ true → RoseBy (disk_faults h + 1) begun now) → AreCounted begun now (h ++ e ∷ []) d
counted-entry begun now h e d are fault =
    counted-more begun now h (h ++ e ∷ []) d are
    (elim (is_disk_fault e.reply) as (λ b. is_disk_fault e.reply ≡ b → RoseBy (disk_faults (h ++ e ∷ [])) begun now) [
      | true ↦ λ is. subst (λ n. RoseBy n begun now) (sym (faults-more h e ∙ ap (λ n. disk_faults h + n) (one_true (is_disk_fault e.reply) is))) (fault is)
      | false ↦ λ is.
          let none : disk_faults (h ++ e ∷ []) ≡ disk_faults h = omega (arith, faults-more h e, one_false (is_disk_fault e.reply) is) in
          subst (λ n. RoseBy n begun now) (sym none) are.faults
    ] refl)
