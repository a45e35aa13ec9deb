use Rattle.std.proofs.Common.{List, ◌∷◌, ℕ, Option, Some, sym, ap, ◌∙◌, subst, arith}
use Rattle.atomic_table.specs.Table.{rest}
use Rattle.opfs_hall.specs.History.{Adds, Onward}
use Rattle.opfs_hall.proofs.Owned.{onward_lasts, onward_stays}
use Rattle.opfs_hall.proofs.Hands.{hands_on_kept}
use Rattle.opfs_hall.proofs.steps.hand_on.Goals as goal

pub fetch_add-served-requires : goal.fetch_add-served-requires
fetch_add-served-requires g c =
    let now = c.exchange-before.ensures.3 in
    let value : Option g.row.V.Denot = Some c.args.value in
    let adds = c.requires.adds in (
      c.exchange-before.ensures.0 ∙ c.requires.table.0,
      let words = c.requires.table.1.0 in omega arith,
      hands_on_kept g.V.Chronicle.opening g.V.Chronicle.entries g.V.Chronicle.owner (Onward g.V.Chronicle.entries g.V.Chronicle.goes_on) (onward_stays g.V.Chronicle.entries g.V.Chronicle.goes_on g.V.Chronicle.stays) (onward_lasts g.V.Chronicle.entries g.V.Chronicle.goes_on g.V.Chronicle.lasts) g.V.Chronicle.goes_on (λ x y on has. (on, has)) _ _ _ _ _ c.args.value adds.0
          (ap (λ m. m.0.inside) now ∙ c.requires.inside.0)
          (ap (λ m. m.1) now ∙ ap (λ (held : List (ℕ × Option g.row.V.Denot)). (0, value) ∷ rest held) c.requires.inside.1)
          (ap (λ m. m.0.opening) now ∙ c.requires.opening)
          (ap (λ m. m.0.number) now ∙ adds.1)
          (subst (λ (base : List g.row.V-Entry.Denot). Adds g.V.Chronicle.owner adds.0 base (g.V.Chronicle.entries c.args.value)) (sym (ap (λ m. m.0.base) now)) adds.2)
          (c.requires.onward.0, ap (λ m. m.0.last) now ∙ c.requires.onward.1, c.requires.onward.2),
    )
