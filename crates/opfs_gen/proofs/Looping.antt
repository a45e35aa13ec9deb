-- One part more of a list that is made part by part.
use Rattle.std.proofs.Common.{◌≡◌, ◌+◌, ◌-◌, ◌<◌, ℕ, suc, List, ◌++◌, append_assoc, sym, ap, ◌∙◌, arith}

pub part-next : {A : Type 0} (old new part rest all whole : List A) → new ≡ old ++ part → all ≡ part ++ rest → old ++ all ≡ whole → new ++ rest ≡ whole
part-next old new part rest all whole is parts so_far = ap (λ t. t ++ rest) is ∙ append_assoc old part rest ∙ ap (λ t. old ++ t) (sym parts) ∙ so_far

pub one-less : (n i : ℕ) → i < n → n - i ≡ suc (n - (i + 1))
one-less n i below = omega (arith, below)
