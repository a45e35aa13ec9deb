use Rattle.std.proofs.Common.{List, ◌∷◌, ℕ, Option, Some, sym, ap, ◌∙◌}
use Rattle.atomic_table.specs.Table.{rest}
use Rattle.opfs_hall.proofs.steps.take_out.Goals as goal

pub exchange-found-requires : goal.exchange-found-requires
exchange-found-requires g c = let value : Option g.row.V.Denot = Some c.requires.home.0 in
    (c.requires.table, (value, c.requires.home.1 ∙ ap (λ (held : List (ℕ × Option g.row.V.Denot)). (0, value) ∷ rest held) (sym c.requires.home.1)))
