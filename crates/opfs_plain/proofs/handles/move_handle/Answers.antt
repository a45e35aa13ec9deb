use Rattle.opfs_machine.specs.Contents.{moved_row}
use Rattle.opfs_machine.specs.declared.own.Own.TheVariants.{ClosedHandle}
use Rattle.opfs_rulings.proofs.Swaps.{own_changed}
use Rattle.opfs_plain.proofs.handles.move_handle.Goals as goal

pub returns : goal.returns
returns c =
    own_changed c.args.state.now c.swap_own-own.new.self c.args.number c.args.row ClosedHandle c.requires.agent c.swap_own-own.ensures.state (λ r. moved_row r c.args.cursor c.args.reserve) c.swap_own-own.result c.move_row.new.row c.swap_own.new.self
    c.swap_own-own.ensures.old c.move_row.ensures c.swap_own.ensures.state
