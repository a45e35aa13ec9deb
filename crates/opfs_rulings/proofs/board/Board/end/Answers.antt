use Rattle.std.proofs.Common.{refl, false, None}
use Rattle.opfs_machine.specs.Agents.{agent_of}
use Rattle.opfs_machine.specs.declared.own.Own.{Own}
use Rattle.opfs_machine.specs.declared.state.Agent.{Agent}
use Rattle.opfs_rulings.specs.Known.{IsAgent}
use Rattle.opfs_rulings.proofs.Totals.{kept_agent}
use Rattle.opfs_rulings.proofs.Courses.{courses-agent}
use Rattle.opfs_rulings.proofs.board.Board.end.Goals as goal

pub invariant_of-self : goal.invariant_of-self
invariant_of-self c =
    let agent : IsAgent c.self.inside.state c.args.number = rw c.self.view_is c.requires in
    let s = c.self.inside.state in
    let a : Agent Own = record (agent_of s c.args.number) { live = false; waits = None } in
    record { kept = kept_agent s c.end.new.state c.args.number agent _ c.self.invariant.kept a c.end.ensures refl; followed = courses-agent s c.end.new.state c.self.inside.courses.items c.self.invariant.followed c.args.number agent a c.end.ensures refl }
