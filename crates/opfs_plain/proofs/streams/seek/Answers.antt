use Rattle.opfs_machine.specs.Contents.{sought_row}
use Rattle.opfs_machine.specs.declared.own.Own.TheVariants.{ClosedStream}
use Rattle.opfs_rulings.proofs.Swaps.{own_changed}
use Rattle.opfs_plain.proofs.streams.seek.Goals as goal

pub returns : goal.returns
returns c =
    own_changed c.args.state.now c.swap_own-own.new.self c.args.number c.args.row ClosedStream c.requires.agent c.swap_own-own.ensures.state (λ r. sought_row r c.args.offset) c.swap_own-own.result c.seek_row.new.row c.swap_own.new.self
    c.swap_own-own.ensures.old c.seek_row.ensures c.swap_own.ensures.state
