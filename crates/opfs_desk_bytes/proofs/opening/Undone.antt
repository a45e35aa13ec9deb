-- A row that was opened and dropped again leaves the pages as they were.
use Rattle.std.proofs.Common.{◌≡◌, ℕ, ◌+◌, None, refl, sym, ◌∙◌, subst, inl, inr, arith}
use Rattle.opfs_data.specs.Rows.{Rows, row_of, row_at, kept_in, kept_count, OthersStay}
use Rattle.opfs_pages.proofs.history_laws.Begun.{other-or}
use Rattle.opfs_space.specs.Spaces.{SpaceSeen}
use Rattle.opfs_desk_bytes.specs.Opening.Alike.{AreAlike}

module _ (p q r : Rows) (agent row : ℕ) (absent : row_of agent row p ≡ None) (opened : OthersStay agent row p q) (dropped : OthersStay agent row q r) (gone : row_of agent row r ≡ None) where
  same-rows : (k n : ℕ) → row_of k n r ≡ row_of k n p
  same-rows k n = elim (other-or agent row k n) [
    | inl apart ↦ dropped k n apart ∙ opened k n apart
    | inr is ↦
        subst (λ (x : ℕ). row_of k x r ≡ row_of k x p) (sym is.1)
        (subst (λ (x : ℕ). row_of x row r ≡ row_of x row p) (sym is.0) (gone ∙ sym absent))
  ]

  pub undone : (space : SpaceSeen) (base : ℕ) → kept_count q ≡ kept_count p → kept_count r + kept_in (row_at agent row q) ≡ kept_count q
      → AreAlike (record { swap = p; space = space; base = base }) (record { swap = r; space = space; base = base })
  undone space base kept less = record { rows = same-rows; kept = omega (arith, kept, less); space = refl; base = refl }
