-- Seats whose agents have ended, as they are collected from the last to the first.
use Rattle.std.proofs.Common.{◌≡◌, ℕ, zero, suc, ◌+◌, ◌<◌, None, Some, List, [], ◌∷◌, ◌++◌, length, get_or, length-append, refl, ap, ◌∙◌, subst, arith}
use Rattle.std.specs.Prelude.{All}
use Rattle.opfs_serving.specs.Seats.{SeatSeen}

get-front : {X : Type 0} (xs : List X) (x : X) (k : ℕ) (d : X) → k < length xs → get_or (xs ++ x ∷ []) k d ≡ get_or xs k d
get-front [] x k d within = absurd (omega (arith, within))
get-front (y ∷ xs) x zero d within = refl
get-front (y ∷ xs) x (suc k) d within = get-front xs x k d (omega (arith, within))

get-last : {X : Type 0} (xs : List X) (x d : X) → get_or (xs ++ x ∷ []) (length xs) d ≡ x
get-last [] x d = refl
get-last (y ∷ xs) x d = get-last xs x d

abbrev pub IsGone : {O : Type 0} → SeatSeen O → Type 0
IsGone x = (x.agent ≡ None) × (x.rows ≡ [])

module _ {O : Type 0} (seats rest : List (SeatSeen O)) (x : SeatSeen O) (all : All IsGone seats) (split : seats ≡ rest ++ x ∷ []) where
  long : length seats ≡ length rest + 1
  long = ap length split ∙ length-append rest (x ∷ [])

  pub gone-rest : All IsGone rest
  gone-rest k d within =
      subst IsGone (ap (λ (xs : List (SeatSeen O)). get_or xs k d) split ∙ get-front rest x k d within) (all k d (omega (arith, within, long)))

  pub gone-last : IsGone x
  gone-last = subst IsGone (ap (λ (xs : List (SeatSeen O)). get_or xs (length rest) x) split ∙ get-last rest x x) (all (length rest) x (omega (arith, long)))

pub is-none : {X : Type 0} {x : X} → Some x ≡ None → ⊥
is-none e = cc
