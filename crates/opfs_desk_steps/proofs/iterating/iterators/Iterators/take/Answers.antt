use Rattle.std.proofs.Common.{ℕ, cond, ap, ◌∙◌, None}
use Rattle.std.specs.BTreeMap.{is_at}
use Rattle.std.specs.Map.{lookup}
use Rattle.opfs_data.specs.Rows.{row_cmp}
use Rattle.opfs_desk_steps.specs.Iterating.Known.{Lasts}
use Rattle.opfs_desk_steps.proofs.iterating.Known.{taken-out}
use Rattle.opfs_desk_steps.proofs.iterating.iterators.Iterators.take.Goals as goal

pub returns-clause-others : goal.returns-clause-others
returns-clause-others c =
    let key : ℕ × ℕ = (c.args.agent, c.args.row) in
    taken-out c.args.agent c.args.row c.args.self.now c.remove.new.self.entries
    (λ q. c.remove.ensures.updates.0 q ∙ ap (λ (es : Lasts). cond (is_at (row_cmp key) q) None (lookup (is_at (row_cmp q)) es)) c.self.view_is)
    c.remove.ensures.updates.1
