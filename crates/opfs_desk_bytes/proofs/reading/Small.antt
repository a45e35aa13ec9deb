-- A file has no more blocks than there are in the pool.
use Rattle.std.proofs.Common.{◌≡◌, ℕ, ◌^◌, ◌<◌, ◌≤◌, Bool, true, false, cond, [], ◌∷◌, filter, sum_by, Option, Some, None, refl, sym, subst, arith}
use Rattle.std.proofs.lemmas.List.Sums.{sum_by-cons}
use Rattle.std.specs.FinMap.Entries.{find}
use Rattle.std.specs.Ordering.{eq_by_cmp}
use Rattle.opfs_base.specs.Blocks.{blocks}
use Rattle.opfs_base.specs.Places.{Place, place_cmp}
use Rattle.opfs_base.specs.Texts.{same_text}
use Rattle.opfs_base.specs.Units.{origin_of}
use Rattle.opfs_laws.proofs.Spots.{same_place}
use Rattle.opfs_laws.specs.Lengths.Kept.{Kept}
use Rattle.opfs_machine.specs.declared.state.FileRow.{FileRow as File}
use Rattle.opfs_machine.specs.declared.state.Row.{Row}
use Rattle.opfs_machine.specs.declared.state.Row.TheVariants as row
use Rattle.opfs_machine.specs.Contents.{in_lengths}
use Rattle.opfs_machine.specs.Rows.{Rows, file_at, file_of, row_at}
use Rattle.opfs_machine.specs.Sums.{present_blocks}
use Rattle.opfs_state_rows.proofs.standing.Units.{unit_itself}
use Rattle.opfs_state_rows.specs.Standing.Seen.{Machine}

-- A row that passes a test counts in the sum of those that do.
module _ (g : Place × Row ℕ → ℕ) (test : Place × Row ℕ → Bool) where
  first-counts : (e : Place × Row ℕ) (es : Rows ℕ) → test e ≡ true → g e ≤ sum_by g (filter test (e ∷ es))
  first-counts e es passes =
      let whole = sum_by-cons g e (filter test es) in
      subst (λ (b : Bool). g e ≤ sum_by g (cond b (e ∷ filter test es) (filter test es))) (sym passes) (omega (arith, whole))

  more-counts : (e : Place × Row ℕ) (es : Rows ℕ) → sum_by g (filter test es) ≤ sum_by g (filter test (e ∷ es))
  more-counts e es =
      elim (test e) as (λ b. sum_by g (filter test es) ≤ sum_by g (cond b (e ∷ filter test es) (filter test es))) [
        | true ↦ let whole = sum_by-cons g e (filter test es) in omega (arith, whole)
        | false ↦ omega arith
      ]

  found-counts : (p : Place) (r : Row ℕ) (rows : Rows ℕ) → find place_cmp p rows ≡ Some r → test (p, r) ≡ true → g (p, r) ≤ sum_by g (filter test rows)
  found-counts p r [] is passes = absurd (none_some is)
    where
      none_some : ◌≡◌ {A = Option (Row ℕ)} None (Some r) → ⊥
      none_some h = cc
  found-counts p r (e ∷ es) is passes =
      elim (eq_by_cmp place_cmp p e.0) as (λ b. eq_by_cmp place_cmp p e.0 ≡ b → cond b (Some e.1) (find place_cmp p es) ≡ Some r → g (p, r) ≤ sum_by g (filter test (e ∷ es))) [
        | true ↦ λ at found.
            let same : (p, r) ≡ e = λ i. (same_place p e.0 at i, one (sym found) i) in
            subst (λ (x : Place × Row ℕ). g x ≤ sum_by g (filter test (e ∷ es))) (sym same) (first-counts e es (subst (λ (x : Place × Row ℕ). test x ≡ true) same passes))
        | false ↦ λ at found. let rest = found-counts p r es found passes in let more = more-counts e es in omega (arith, rest, more)
      ] refl is
    where
      one : {a b : Row ℕ} → ◌≡◌ {A = Option (Row ℕ)} (Some a) (Some b) → a ≡ b
      one h = cc

row-of : (o : Option (Row ℕ)) (x : File ℕ) → file_of o ≡ Some x → o ≡ Some (row.File x)
row-of None x is = cc
row-of (Some row.Directory) x is = cc
row-of (Some (row.File y)) x is = cc

pub few-blocks : (m : Machine) → Kept m → (place : Place) (x : File ℕ) → file_at m place ≡ Some x → blocks x.present ≤ m.limits.blocks
few-blocks m kept place x there =
    let origin = origin_of place.0 in
    let counts =
    found-counts (λ e. present_blocks in_lengths e.1) (λ e. same_text origin (origin_of e.0.0)) place (row.File x) m.rows (row-of (row_at m place) x there) (unit_itself origin origin refl) in
    omega (arith, counts, kept.usage origin, kept.pool)

pub few-bytes : (n : ℕ) → blocks n ≤ 65536 → n < 2 ^ 63
few-bytes n few = grind (arith, few)
