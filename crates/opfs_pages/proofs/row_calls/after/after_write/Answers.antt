use Rattle.std.proofs.Common.{ℕ, ◌/◌, List, subst}
use Rattle.opfs_pages.specs.Copies.{IsPageOf}
use Rattle.opfs_splice.specs.Splicing.{splice}
use Rattle.opfs_pages.proofs.row_calls.Moves.{moved-copy, call-writes}
use Rattle.opfs_pages.proofs.row_calls.after.after_write.Goals as goal

pub returns-clause-copy : goal.returns-clause-copy
returns-clause-copy c = λ old given len copy page.
    c.bring_near.ensures.copy (splice old c.args.at given)
    (moved-copy (splice old c.args.at given) c.leave_write.new.work c.move_to.new.work _ _ c.move_to.ensures (c.leave_write.ensures.copy old given len copy))
    (subst (λ (bytes : List ℕ). IsPageOf bytes (c.args.beside / 4096) c.args.page.now) (call-writes old given c.args.work.now c.args.at c.args.len len copy) page)
