use Rattle.std.proofs.Common.{◌≡◌, suc, drop}
use Rattle.std.specs.List.{list_all, enumerate_from}
use Rattle.opfs_machine.specs.Agents.{is_no_help, party_of}
use Rattle.opfs_register.specs.Registers.{bare}
use Rattle.opfs_register.proofs.register.Register.others_stuck.Given as goal

abbrev pub invariant-loop-other : goal.invariant-loop-other
invariant-loop-other l =
    list_all (is_no_help (bare l.self) (suc l.at) (party_of (bare l.self) (suc l.at))) (enumerate_from 1 l.self.agents)
    ≡ list_all (is_no_help (bare l.self) (suc l.at) (party_of (bare l.self) (suc l.at))) (drop l.other (enumerate_from 1 l.self.agents))
