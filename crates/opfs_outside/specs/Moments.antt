-- The images that a crash may have left at some moment. This project's own.
use Rattle.std.specs.Prelude.{ℕ, ◌≤◌, ◌⊎◌, List}
use Rattle.std.proofs.Common.{inl, inr, arith}

-- Time goes on, from old to new: an image since an earlier moment is one that old knew of, or one since old,
-- and none is lost.
pub record Elapses {J : Type 0} (moment : J → ℕ) (since : J → ℕ → List ℕ → Type 0) (old new : J) : Type 0 where
  pub later : moment old ≤ moment new
  pub split : (t : ℕ) (c : List ℕ) → t ≤ moment old → since new t c → since old t c ⊎ since new (moment old) c
  pub keeps : (t : ℕ) (c : List ℕ) → t ≤ moment old → since old t c → since new t c

module _ {J : Type 0} (moment : J → ℕ) (since : J → ℕ → List ℕ → Type 0) (falls : (d : J) (t u : ℕ) (c : List ℕ) → t ≤ u → since d u c → since d t c) where
  -- one call after another
  pub elapses-trans : (old mid new : J) → Elapses moment since old mid → Elapses moment since mid new → Elapses moment since old new
  elapses-trans old mid new a b = record {
    later = omega (arith, a.later, b.later);
    split = λ t c le left. elim (b.split t c (omega (arith, le, a.later)) left) [
      | inl was ↦ elim (a.split t c le was) [ inl first ↦ inl first | inr then_left ↦ inr (b.keeps (moment old) c a.later then_left) ]
      | inr is ↦ inr (falls new (moment old) (moment mid) c a.later is)
    ];
    keeps = λ t c le left. b.keeps t c (omega (arith, le, a.later)) (a.keeps t c le left);
  }

  -- what holds of each image in both calls holds of each image in the whole
  pub each_of_both : (old mid new : J) (P : List ℕ → Type 0) → Elapses moment since old mid → Elapses moment since mid new
      → ((c : List ℕ) → since mid (moment old) c → P c) → ((c : List ℕ) → since new (moment mid) c → P c)
      → (c : List ℕ) → since new (moment old) c → P c
  each_of_both old mid new P a b first second c left = elim (b.split (moment old) c a.later left) [
    | inl was ↦ first c was
    | inr is ↦ second c is
  ]
