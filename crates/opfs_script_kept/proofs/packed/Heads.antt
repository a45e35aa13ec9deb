-- Agents without their steps ask for nothing.
use Rattle.std.proofs.Common.{◌≡◌, List, [], ◌∷◌, length, refl, arith}
use Rattle.std.specs.Prelude.{IsTrue, map}
use Rattle.std.proofs.lemmas.Bool.Decides.{nat_tests}
use Rattle.opfs_script.specs.Limits.{steps_of_all, bytes_of_all, fits_limits}
use Rattle.opfs_script.specs.Scripts.{Asked}
use Rattle.opfs_script_kept.specs.Packed.Telling.{without_steps}

pub no-steps : (agents : List Asked) → steps_of_all (map without_steps agents) ≡ 0
no-steps [] = refl
no-steps (a ∷ agents) = no-steps agents

pub no-bytes : (agents : List Asked) → bytes_of_all (map without_steps agents) ≡ 0
no-bytes [] = refl
no-bytes (a ∷ agents) = no-bytes agents

pub as-many : (agents : List Asked) → length (map without_steps agents) ≡ length agents
as-many [] = refl
as-many (a ∷ agents) = omega (arith, as-many agents)

pub fits-without : (agents : List Asked) → IsTrue (fits_limits agents) → IsTrue (fits_limits (map without_steps agents))
fits-without agents fits = grind (arith, nat_tests, fits, no-steps agents, no-bytes agents, as-many agents)
