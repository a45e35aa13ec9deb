use Rattle.std.proofs.Common.{[], refl}
use Rattle.opfs_desk_steps.specs.Parts.Seen.{units_in}
use Rattle.opfs_machine.specs.Histories.{state_after}
use Rattle.opfs_desk_steps.proofs.book_steps.Doubt.{may-end, may-clear, then-cleared, then-failed}
use Rattle.opfs_desk_steps.proofs.book_steps.Turns.{may-fail}
use Rattle.opfs_desk_steps.proofs.book_steps.Leaves.{leaves-both}
use Rattle.opfs_desk_steps.proofs.book_steps.units.evict_all.Goals as goal

pub settle_doubt-requires : goal.settle_doubt-requires
settle_doubt-requires g c = record { may = may-end g.D.Disk c.args.ledger.now c.args.last.entry c.args.clearing.items c.requires.may }

pub clear_units-requires : goal.clear_units-requires
clear_units-requires g c = record {
  may =
      let done = c.in-Ok.ensures in
      may-clear g.D.Disk c.args.ledger.now c.args.last.entry c.args.clearing.items c.settle_doubt.new.ledger done.entries done.sure done.held c.requires.may done.state c.in-Ok.last.entry done.last;
}

pub returns-in-Ok-clear_units-clause-cleared : goal.returns-in-Ok-clear_units-clause-cleared
returns-in-Ok-clear_units-clause-cleared g c =
    let laws = g.met.D.Disk in
    let done = c.in-Ok.ensures in
    let its = c.in-Ok-clear_units.ensures in
    then-cleared g.D.Disk c.args.ledger.now c.args.last.entry c.args.clearing.items c.settle_doubt.new.ledger done.entries done.sure done.held laws.falls c.clear_units.new.ledger its.entries its.cleared

pub returns-in-Err-clear_units-clause-failed : goal.returns-in-Err-clear_units-clause-failed
returns-in-Err-clear_units-clause-failed g c =
    let laws = g.met.D.Disk in
    let done = c.in-Ok.ensures in
    then-failed g.D.Disk c.args.ledger.now c.args.last.entry c.args.clearing.items c.settle_doubt.new.ledger done.entries done.sure done.held laws.falls c.clear_units.new.ledger c.in-Ok.last.entry done.last c.in-Err-clear_units.ensures.failed

pub returns-in-Err-clause-failed : goal.returns-in-Err-clause-failed
returns-in-Err-clause-failed g c f recorded p are judged =
    let e = c.args.last.entry in
    let units = units_in c.args.clearing.items in
    c.in-Err.ensures.failed f recorded p are (may-fail (state_after f.opening c.args.ledger.now.books.history) e units [] units judged refl)

pub returns-in-Ok-clear_units-clause-leaves : goal.returns-in-Ok-clear_units-clause-leaves
returns-in-Ok-clear_units-clause-leaves g c =
    let laws = g.met.D.Disk in
    leaves-both g.D.Disk laws.falls c.args.ledger.now.journal c.settle_doubt.new.ledger.journal c.clear_units.new.ledger.journal c.in-Ok.ensures.leaves c.in-Ok-clear_units.ensures.leaves
