use Rattle.std.proofs.Common.{sym, subst}
use Rattle.opfs_pages.specs.Copies.{IsCopy}
use Rattle.opfs_work.specs.Works.{WorkingCopy}
use Rattle.opfs_desk_bytes.proofs.reading.bytes.leave_cursor.Goals as goal

pub returns-clause-copy : goal.returns-clause-copy
returns-clause-copy c = λ bytes copy page.
    c.bring_near.ensures.copy bytes (subst (λ (work : WorkingCopy). IsCopy bytes work) (sym c.seek.ensures) (record { same = copy.same })) page
