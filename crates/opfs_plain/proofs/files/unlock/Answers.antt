use Rattle.opfs_machine.specs.Effects.{unlocked}
use Rattle.opfs_machine.specs.declared.state.Row.TheVariants.{Directory}
use Rattle.opfs_plain.proofs.Swapped.{file_changed}
use Rattle.opfs_plain.proofs.files.unlock.Goals as goal

pub returns-in-Some : goal.returns-in-Some
returns-in-Some c =
    file_changed c.args.place.now _ c.args.state.now c.swap_row-row.new.self c.swap_row-row.result Directory c.in-Some.ensures.there c.swap_row-row.ensures.old c.swap_row-row.ensures.state
    (unlocked) c.unlock_row.new.row c.swap_row.new.self c.unlock_row.ensures c.swap_row.ensures.state
