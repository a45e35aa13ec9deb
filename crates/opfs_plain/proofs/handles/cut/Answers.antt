use Rattle.opfs_splice.specs.Splicing.{resize}
use Rattle.opfs_machine.specs.declared.state.Row.TheVariants.{Directory}
use Rattle.opfs_plain.proofs.Swapped.{file_changed}
use Rattle.opfs_plain.proofs.handles.cut.Goals as goal

pub returns : goal.returns
returns c =
    file_changed c.args.place.now _ c.args.state.now c.swap_row-row.new.self c.swap_row-row.result Directory c.in-Some.ensures.there c.swap_row-row.ensures.old c.swap_row-row.ensures.state
    (λ f. record f { present = resize f.present c.args.size; stamp = c.args.stamp }) c.cut_row-done.new.row c.swap_row.new.self c.in_ok-done.ensures c.swap_row.ensures.state
