use Rattle.opfs_machine.specs.Effects.{with_lock}
use Rattle.opfs_machine.specs.declared.state.Row.TheVariants.{Directory}
use Rattle.opfs_plain.proofs.Swapped.{still_there, file_changed, nothing_changed}
use Rattle.opfs_plain.proofs.files.lock.Goals as goal

pub returns-in_default : goal.returns-in_default
returns-in_default c = nothing_changed c.args.state.now c.args.place.now (with_lock c.args.want) (c.in_default.ensures.missing _)

pub swap_row-requires : goal.swap_row-requires
swap_row-requires c = still_there c.args.place.now _ c.args.state.now c.swap_row-row.new.self c.swap_row-row.result Directory c.in-Some.ensures.there c.swap_row-row.ensures.old c.swap_row-row.ensures.state

pub returns : goal.returns
returns c =
    file_changed c.args.place.now _ c.args.state.now c.swap_row-row.new.self c.swap_row-row.result Directory c.in-Some.ensures.there c.swap_row-row.ensures.old c.swap_row-row.ensures.state
    (with_lock c.args.want) c.lock_row-done.new.row c.swap_row.new.self c.in_ok-done.ensures.ok c.swap_row.ensures.state
