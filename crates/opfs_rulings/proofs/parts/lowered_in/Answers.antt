use Rattle.std.proofs.Common.{◌≡◌, subst, rules}
use Rattle.opfs_base.specs.Texts.{Text}
use Rattle.opfs_machine.specs.Rows.{Rows}
use Rattle.opfs_rulings.proofs.Totals.{Leaves}
use Rattle.opfs_rulings.proofs.parts.lowered_in.Goals as goal

pub returns : goal.returns
returns c =
    let same : c.as_slice.result.now ≡ c.args.state.now.rows = search rules in
    subst (λ (rows : Rows Text). Leaves c.args.place.now rows c.args.tally c.lowered_within.result) same c.lowered_within.ensures
