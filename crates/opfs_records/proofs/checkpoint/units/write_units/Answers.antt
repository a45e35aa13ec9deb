use Rattle.std.proofs.Common.{◌++◌, length, sym, ap, ◌∙◌, arith}
use Rattle.std.proofs.lemmas.List.{append-nil}
use Rattle.std.specs.Option.{option_copied}
use Rattle.opfs_records.specs.Checkpoint.Written.{units_bytes}
use Rattle.std.proofs.lemmas.Bool.{false≢true}
use Rattle.opfs_records.proofs.checkpoint.Left.{unit_written, unit_next, unit_room}
use Rattle.opfs_records.proofs.checkpoint.Ordered.{behind_next, behind_none, persistent_sorted}
use Rattle.opfs_records.proofs.checkpoint.units.write_units.Goals as goal

pub loop-unit-smaller : goal.loop-unit-smaller
loop-unit-smaller c =
    let next = behind_next (option_copied c.loop-unit.last) c.in-Some.unit.now c.args.shed.now.buckets c.in-Some.ensures.ordered (sym c.in-Some.ensures.first) in
    omega (arith, ap length next)

pub write_unit-requires : goal.write_unit-requires
write_unit-requires c =
    let next = behind_next (option_copied c.loop-unit.last) c.in-Some.unit.now c.args.shed.now.buckets c.in-Some.ensures.ordered (sym c.in-Some.ensures.first) in
    unit_next _ _ _ c.in-Some.unit.now _ _ _ _ c.loop-unit.invariant next

pub loop-unit-preserved : goal.loop-unit-preserved
loop-unit-preserved c =
    let next = behind_next (option_copied c.loop-unit.last) c.in-Some.unit.now c.args.shed.now.buckets c.in-Some.ensures.ordered (sym c.in-Some.ensures.first) in
    unit_written _ _ _ c.in-Some.unit.now _ _ _ _ c.loop-unit.invariant next _ _ c.in_ok-write_unit.ensures.written c.in_ok-write_unit.ensures.capacity

pub returns-in_err-write_unit-clause-capacity : goal.returns-in_err-write_unit-clause-capacity
returns-in_err-write_unit-clause-capacity c = omega (arith, c.loop-unit.invariant.capacity, c.in_err-write_unit.ensures.capacity)

pub returns-in_err-write_unit-clause-room : goal.returns-in_err-write_unit-clause-room
returns-in_err-write_unit-clause-room c le =
    let next = behind_next (option_copied c.loop-unit.last) c.in-Some.unit.now c.args.shed.now.buckets c.in-Some.ensures.ordered (sym c.in-Some.ensures.first) in
    let room = unit_room _ _ _ c.in-Some.unit.now _ _ _ _ c.loop-unit.invariant next (omega (arith, le, c.args.into.now.ok.0)) in
    absurd (false≢true (c.in_err-write_unit.ensures.room (omega (arith, room, c.loop-unit.into.ok.0))))

pub returns-clause-capacity : goal.returns-clause-capacity
returns-clause-capacity c = c.loop-unit.invariant.capacity

pub returns-clause-written : goal.returns-clause-written
returns-clause-written c =
    let none = behind_none (option_copied c.loop-unit.last) c.args.shed.now.buckets (sym c.in_default.ensures.first) in
    sym (append-nil c.loop-unit.into.items) ∙ ap (λ us. c.loop-unit.into.items ++ units_bytes us) (sym none) ∙ c.loop-unit.invariant.written

pub returns-clause-ordered : goal.returns-clause-ordered
returns-clause-ordered c = persistent_sorted c.args.shed.now.buckets c.in_default.ensures.ordered
