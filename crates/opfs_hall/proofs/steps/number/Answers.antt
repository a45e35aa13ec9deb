use Rattle.std.proofs.Common.{ℕ, Some, sym, ap, ◌∙◌, ◌≡◌, arith}
use Rattle.opfs_hall.specs.History.{Onward}
use Rattle.opfs_hall.proofs.Numbers.{numbers_kept}
use Rattle.opfs_hall.proofs.steps.number.Goals as goal

pub compare_exchange-found-requires : goal.compare_exchange-found-requires
compare_exchange-found-requires g c =
    let number : c.args.number ≡ c.from-expected.result = sym c.from-expected.ensures in (
      c.requires.table.0,
      let words = c.requires.table.1.0 in omega arith,
      numbers_kept g.V.Chronicle.opening g.V.Chronicle.entries g.V.Chronicle.owner (Onward g.V.Chronicle.entries g.V.Chronicle.goes_on) _ _ _ _ _ c.from-expected.result c.requires.few.0
          (c.requires.fresh.1 ∙ ap (λ (n : ℕ). Some n) number) c.requires.fresh.0 c.requires.idle.0 c.requires.few.1
          (omega (arith, c.requires.few.2, number)),
    )
