use Rattle.std.proofs.Common.{◌∙◌, sym, ap}
use Rattle.std.specs.List.{filter_map}
use Rattle.opfs_base.specs.Places.{Place, child_name}
use Rattle.opfs_base.specs.Texts.{Text}
use Rattle.opfs_machine.specs.declared.state.Row.{Row}
use Rattle.opfs_machine.specs.Contents.{next_of}
use Rattle.opfs_rulings.proofs.Adding.{next_outside}
use Rattle.opfs_rulings.proofs.Here.{rest-is}
use Rattle.opfs_rulings.proofs.replies.next_name.Goals as goal

pub returns : goal.returns
returns c =
    c.first_outside.ensures
    ∙ next_outside c.args.given.now _ c.in_ok-names.ensures _
    ∙ ap (λ es. next_of c.args.given.now (filter_map (λ (e : Place × Row Text). child_name c.args.dir.now e.0) es)) (rest-is c.args.rows.now c.passed.result)
    ∙ sym c.passed.ensures.same
