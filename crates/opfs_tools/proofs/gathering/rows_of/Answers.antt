use Rattle.std.proofs.Common.{◌≡◌, ◌∷◌, [], ◌++◌, ap, ◌∙◌}
use Rattle.opfs_base.specs.Places.{Place}
use Rattle.opfs_tree.specs.Rows.{rows_above}
use Rattle.opfs_tools.specs.Sights.{Sights, sights_in, sight_in}
use Rattle.opfs_tools.specs.declared.sights.Sight.{Sight}
use Rattle.opfs_tools.proofs.Walking.{seen_more}
use Rattle.opfs_tools.proofs.gathering.rows_of.Goals as goal

pub loop-row-preserved : goal.loop-row-preserved
loop-row-preserved c =
    let made : c.make.result ≡ ((c.key.result.now, c.path.result.now), sight_in c.in-Some.row.now)
    = c.make.ensures ∙ ap (λ (s : Sight). ((c.key.result.now, c.path.result.now), s)) c.of.ensures in
    let items : c.push.new.self.items ≡ c.loop-row.rows.items ++ ((c.key.result.now, c.path.result.now), sight_in c.in-Some.row.now) ∷ []
    = c.in_ok-push.ensures.items ∙ ap (λ (e : Place × Sight). c.loop-row.rows.items ++ e ∷ []) made in
    ap (λ (xs : Sights). xs ++ sights_in (rows_above c.step.new.walk c.args.tree.now)) items
    ∙ seen_more c.step.new.walk c.args.tree.now (rows_above c.loop-row.walk c.args.tree.now) c.in-Some.row.now c.key.result.now c.path.result.now c.loop-row.rows.items (sights_in c.args.tree.now)
    c.in-Some.ensures.next c.key.ensures c.path.ensures c.loop-row.invariant
