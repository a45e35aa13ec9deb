-- What the rest of an agent's run is.
use Rattle.std.proofs.Common.{◌≡◌, ◌+◌, ◌<◌, ℕ, zero, suc, List, [], ◌∷◌, drop, length, refl, subst, arith}
use Rattle.opfs_script_run.specs.declared.runs.hand.Open.{Open}
use Rattle.opfs_transcripts.specs.Told.Goings.{closing, after_end}

-- Behind an end there is one open row less.
pub row-ended : (n i : ℕ) (rows : List Open) → i < length rows → closing (n + 1) (drop (i + 1) rows) ≡ after_end n (drop i rows)
row-ended n i [] h = absurd (omega (arith, h))
row-ended n zero (o ∷ rows) h = refl
row-ended n (suc i) (o ∷ rows) h = subst (λ j. closing (n + 1) (drop j (o ∷ rows)) ≡ after_end n (drop i rows)) (one-more i) (row-ended n i rows (omega (arith, h)))
  where
    one-more : (i : ℕ) → suc (i + 1) ≡ suc i + 1
    one-more i = omega arith
