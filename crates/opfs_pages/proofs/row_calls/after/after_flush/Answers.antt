use Rattle.std.proofs.Common.{ℕ, List, subst}
use Rattle.opfs_pages.specs.Copies.{IsCopy}
use Rattle.opfs_pages.proofs.row_calls.Moves.{dropped-copy, same-size}
use Rattle.opfs_pages.proofs.row_calls.after.after_flush.Goals as goal

pub returns-clause-copy : goal.returns-clause-copy
returns-clause-copy c = λ old copy.
    dropped-copy old c.leave_size.new.work c.drop_reserve.new.self c.drop_reserve.ensures
    (subst (λ (bytes : List ℕ). IsCopy bytes c.leave_size.new.work) (same-size old c.args.work.now c.size-size.result c.size-size.ensures copy) (c.leave_size.ensures.copy old copy))
