-- The script that is made of a number. This project's own.
use Rattle.std.specs.Prelude.{ℕ, zero, suc, ◌+◌, ◌≤◌, false, List, [], ◌∷◌, ◌++◌, codes, decimal, Some}
use Rattle.opfs_base.specs.Texts.{Text}
use Rattle.opfs_script.specs.Scripts.{Asked}
use Rattle.opfs_gen.specs.Rounds.{gen_steps}

-- Each agent has an origin of its own.
abbrev pub gen_key : ℕ → Text
gen_key k = codes "https://a" ++ (decimal k ++ codes ".example")

abbrev pub gen_asked : ℕ → ℕ → ℕ → Asked
gen_asked seed rounds k = record { key = Some (gen_key k); grant = false; steps = gen_steps (seed + k) rounds }

-- So many agents, from one on.
abbrev pub agents_from : ℕ → ℕ → ℕ → ℕ → List Asked
agents_from seed rounds k zero = []
agents_from seed rounds k (suc count) = gen_asked seed rounds k ∷ agents_from seed rounds (k + 1) count

abbrev pub gen_script : ℕ → ℕ → ℕ → List Asked
gen_script seed agents rounds = agents_from seed rounds 1 agents

-- The numbers that may be asked for.
pub record IsGenRange (seed agents rounds : ℕ) : Type 0 where
  pub seed_fits : seed ≤ 9007199254740991
  pub some_agents : 1 ≤ agents
  pub few_agents : agents ≤ 16
  pub some_rounds : 1 ≤ rounds
  pub few_rounds : rounds ≤ 200
