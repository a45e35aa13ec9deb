use Rattle.std.proofs.Common.{Some, not, sym, ap, ◌∙◌}
use Rattle.std.specs.Prelude.{map}
use Rattle.serde_json.specs.View.{view}
use Rattle.opfs_script.proofs.HeadLemmas.{list_all-view, is_longer, grant_if}
use Rattle.opfs_script.proofs.head.grant_among.Goals as goal

pub returns-then-are_grants : goal.returns-then-are_grants
returns-then-are_grants c =
    let items = c.args.items.now in
    ap Some (ap not c.is_empty.ensures ∙ is_longer items)
    ∙ ap (λ told. grant_if told (map view items)) (sym c.if-are_grants.true ∙ (c.are_grants.ensures ∙ list_all-view items))

pub returns-else-are_grants : goal.returns-else-are_grants
returns-else-are_grants c =
    let items = c.args.items.now in
    ap (λ told. grant_if told (map view items)) (sym c.if-are_grants.false ∙ (c.are_grants.ensures ∙ list_all-view items))
