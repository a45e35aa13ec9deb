-- The units that are cleared where the need fits as it is.
use Rattle.std.proofs.Common.{◌≡◌, ℕ, true, List, [], ◌∷◌, Some, None, false, ap}
use Rattle.std.specs.Prelude.{option_map}
use Rattle.opfs_base.specs.Texts.{Text}
use Rattle.opfs_machine.specs.declared.own.Own.{Own}
use Rattle.opfs_machine.specs.declared.state.State.{State}
use Rattle.opfs_machine.specs.Contents.{in_bytes}
use Rattle.opfs_machine.specs.Sums.{fits_pool}
use Rattle.opfs_machine.specs.Victims.{cleared, shortest_front}

-- Where a need fits, no unit is cleared.
pub front_at_once : (s : State Text Own) (need : ℕ) (units : List Text) → fits_pool in_bytes s need ≡ true
    → shortest_front in_bytes s need units ≡ Some []
front_at_once s need [] h = ap (λ t. elim t [ true ↦ Some [] | false ↦ None ]) h
front_at_once s need (unit ∷ units) h =
    ap (λ t. elim t [
      | true ↦ Some []
      | false ↦ option_map (λ more. unit ∷ more) (shortest_front in_bytes (cleared s unit) need units)
    ]) h
