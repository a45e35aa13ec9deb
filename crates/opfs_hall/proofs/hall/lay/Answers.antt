use Rattle.std.proofs.Common.{List, [], ◌∷◌, ◌++◌, Option, Some, sym, ap, ◌∙◌, subst}
use Rattle.atomic_table.specs.Table.{opening}
use Rattle.opfs_hall.specs.History.{Onward}
use Rattle.opfs_hall.specs.Turns.{Kept, first_view}
use Rattle.opfs_hall.proofs.Ends.{first_kept}
use Rattle.opfs_hall.proofs.hall.lay.Goals as goal

pub new-requires : goal.new-requires
new-requires g c =
    let V = g.V.Chronicle in
    let slots = c.push_reserved.ensures.items ∙ ap (λ (items : List (Option g.row.V.Denot)). items ++ Some c.args.value ∷ []) c.in-Ok.ensures.items in
    subst (λ (z : g.row.V.Denot × List (Option g.row.V.Denot)).
    Kept V.opening V.entries V.owner (Onward V.entries V.goes_on) c.args.agents (V.opening z.0) (opening (0 ∷ 0 ∷ 0 ∷ []) z.1 (first_view c.args.agents (V.opening z.0) (V.entries z.0))))
    (λ i. (sym c.of.ensures i, sym slots i))
    (first_kept V.opening V.entries V.owner (Onward V.entries V.goes_on) c.args.agents c.args.value c.requires.few c.requires.empty)
