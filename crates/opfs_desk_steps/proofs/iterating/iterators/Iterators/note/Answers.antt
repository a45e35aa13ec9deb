use Rattle.std.proofs.Common.{ℕ, cond, ap, ◌∙◌, Some}
use Rattle.std.specs.BTreeMap.{is_at}
use Rattle.std.specs.Map.{lookup}
use Rattle.opfs_data.specs.Rows.{row_cmp}
use Rattle.opfs_desk_steps.specs.Iterating.Known.{Lasts}
use Rattle.opfs_desk_steps.proofs.iterating.Known.{noted}
use Rattle.opfs_desk_steps.proofs.iterating.iterators.Iterators.note.Goals as goal

pub returns : goal.returns
returns c =
    let key : ℕ × ℕ = (c.args.agent, c.args.row) in
    noted c.args.agent c.args.row c.args.self.now c.insert.new.self.entries c.args.name
    (λ q. c.in-Ok.ensures.updates.0 q ∙ ap (λ (es : Lasts). cond (is_at (row_cmp key) q) (Some c.args.name) (lookup (is_at (row_cmp q)) es)) c.self.view_is)
