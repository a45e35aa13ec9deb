use Rattle.std.proofs.Common.{rules, ◌≡◌, true, sym, ◌∙◌}
use Rattle.opfs_machine.specs.Histories.{is_disk_op}
use Rattle.opfs_plain.proofs.Faulted.{no-fault-refused, front-found, few-found}
use Rattle.opfs_plain.proofs.faults.faulting_front.Goals as goal

pub returns-in-Err-clause-none : goal.returns-in-Err-clause-none
returns-in-Err-clause-none c =
    no-fault-refused c.args.state.now c.args.agent c.args.op.now c.in-Err.field-0 c.args.evictions (sym c.in_ok-judge.ensures ∙ c.in-Err.is)

pub returns-else-not-is_disk_op-clause-fault : goal.returns-else-not-is_disk_op-clause-fault
returns-else-not-is_disk_op-clause-fault c =
    let disk : is_disk_op c.args.state.now c.args.agent c.args.op.now ≡ true = search rules in
    front-found c.args.state.now c.args.agent c.args.op.now c.in-Ok.units c.args.evictions c.first_units.result
    (sym c.in_ok-judge.ensures ∙ c.in-Ok.is) disk c.first_units.ensures.front

pub returns-else-not-is_disk_op-clause-none : goal.returns-else-not-is_disk_op-clause-none
returns-else-not-is_disk_op-clause-none c =
    few-found c.args.state.now c.args.agent c.args.op.now c.in-Ok.units c.args.evictions c.first_units.result
    (sym c.in_ok-judge.ensures ∙ c.in-Ok.is) c.first_units.ensures.none
