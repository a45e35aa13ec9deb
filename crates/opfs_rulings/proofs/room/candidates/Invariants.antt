use Rattle.std.proofs.Common.{◌≡◌, [], drop, filter, fold}
use Rattle.std.specs.List.{filter_map}
use Rattle.std.specs.Option.{option_copied}
use Rattle.opfs_base.specs.Units.{origin_of}
use Rattle.opfs_machine.specs.Agents.{last_use}
use Rattle.opfs_machine.specs.Ordered.{insert_by}
use Rattle.opfs_machine.specs.Victims.{use_cmp, is_candidate, root_unit}
use Rattle.opfs_rulings.proofs.room.candidates.Given as goal

abbrev pub invariant-loop-entry : goal.invariant-loop-entry
invariant-loop-entry l =
    fold (λ sorted unit. insert_by use_cmp (last_use l.state (origin_of unit), unit) sorted) l.sorted.keys (filter (is_candidate l.state (option_copied l.caller)) (filter_map root_unit (drop l.entry-index l.entry-items)))
    ≡ fold (λ sorted unit. insert_by use_cmp (last_use l.state (origin_of unit), unit) sorted) [] (filter (is_candidate l.state (option_copied l.caller)) (filter_map root_unit l.state.rows))
