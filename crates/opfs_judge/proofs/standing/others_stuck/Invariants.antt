use Rattle.std.proofs.Common.{◌≡◌, ◌+◌, drop}
use Rattle.std.specs.Option.{option_copied}
use Rattle.std.specs.List.{enumerate_from, list_all}
use Rattle.opfs_machine.specs.Agents.{is_no_help, party_with}
use Rattle.opfs_judge.proofs.standing.others_stuck.Given as goal

abbrev pub invariant-loop-index : goal.invariant-loop-index
invariant-loop-index l =
    list_all (is_no_help l.state l.number (party_with (option_copied l.key) l.number)) (enumerate_from 1 l.state.agents)
    ≡ list_all (is_no_help l.state l.number (party_with (option_copied l.key) l.number)) (enumerate_from (l.index + 1) (drop l.index l.state.agents))
