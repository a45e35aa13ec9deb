use Rattle.std.proofs.Common.{◌≡◌, ℕ, refl, arith}
use Rattle.opfs_machine.specs.Machine.{whole_machine}
use Rattle.opfs_examples.proofs.alone.a_refusal_tells_its_own_growth.Goals as goal

other : (a b : ℕ) → a ≡ 27 → b ≡ 28 → a ≡ b → ⊥
other a b first second e = omega (arith, first, second, e)

pub returns : goal.returns
unfolding whole_machine
returns c = λ h. other _ _ refl refl h.0.agrees.0
