use Rattle.std.proofs.Common.{sym, subst}
use Rattle.opfs_books.specs.Openings.Openings.{fixed_by}
use Rattle.opfs_desk.specs.Resting.{IsResting}
use Rattle.opfs_desk.proofs.desk.Desk.give_out.Goals as goal

pub invariant_of-self : goal.invariant_of-self
invariant_of-self g c =
    let parts = c.self.inside.parts in
    subst
    (λ b. IsResting g.D.Disk (fixed_by g.D.Disk c.self.inside.from.value c.self.inside.agents.value.items)
    (record { ledger = record { journal = parts.ledger.journal; books = b; freed = parts.ledger.freed; alloc = parts.ledger.alloc }; pages = parts.pages }) c.self.inside.iterators)
    (sym c.give_out.ensures.kept) c.self.invariant
