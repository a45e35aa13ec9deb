-- With what a script without its steps begins.
use Rattle.std.proofs.Common.{◌≡◌, List, [], ◌∷◌, map, All, IsTrue, refl, ap}
use Rattle.std.proofs.lemmas.List.Elements.{All-nil, All-cons, All-head, All-tail}
use Rattle.opfs_machine.specs.Openings.{begun, empty_map}
use Rattle.opfs_script_kept.specs.Packed.Telling.{without_steps}
use Rattle.opfs_script.specs.Limits.{is_origin_key}
use Rattle.opfs_script.specs.Scripts.{Asked}
use Rattle.opfs_script_run.specs.Stage.Openings.{trial_limits, trial_opening, who_of}

same-agents : (script : List Asked) → map who_of (map without_steps script) ≡ map who_of script
same-agents [] = refl
same-agents (a ∷ script) = ap (λ agents. who_of a ∷ agents) (same-agents script)

-- A trial begins the same without the steps.
pub begins-without : (script : List Asked) → begun (trial_opening (map without_steps script)) ≡ begun (trial_opening script)
begins-without script = ap (λ agents. begun (record { stored = empty_map; agents = agents; limits = trial_limits })) (same-agents script)

abbrev pub HasKey : Asked → Type 0
HasKey a = IsTrue (is_origin_key a.key)

-- The keys of agents without their steps are their keys.
pub keys-without : (script : List Asked) → All HasKey (map without_steps script) → All HasKey script
keys-without [] keys = All-nil HasKey
keys-without (a ∷ script) keys =
    All-cons HasKey a script (All-head HasKey (without_steps a) (map without_steps script) keys)
    (keys-without script (All-tail HasKey (without_steps a) (map without_steps script) keys))
