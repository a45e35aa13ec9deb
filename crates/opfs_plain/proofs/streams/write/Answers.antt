use Rattle.opfs_machine.specs.Contents.{written_row}
use Rattle.opfs_machine.specs.declared.own.Own.TheVariants.{ClosedStream}
use Rattle.opfs_rulings.proofs.Swaps.{still_own, own_changed}
use Rattle.opfs_plain.proofs.streams.write.Goals as goal

pub swap_own-requires-clause-row : goal.swap_own-requires-clause-row
swap_own-requires-clause-row c = still_own c.args.state.now c.swap_own-old.new.self c.args.number c.args.row ClosedStream c.requires.agent c.swap_own-old.ensures.state c.requires.row

pub returns : goal.returns
returns c =
    own_changed c.args.state.now c.swap_own-old.new.self c.args.number c.args.row ClosedStream c.requires.agent c.swap_own-old.ensures.state (λ r. written_row r c.args.position c.args.bytes.now c.args.reserve) c.swap_own-old.result c.in_ok-own.own c.swap_own.new.self
    c.swap_own-old.ensures.old c.in_ok-own.ensures c.swap_own.ensures.state
