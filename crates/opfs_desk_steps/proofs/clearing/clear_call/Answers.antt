use Rattle.std.proofs.Common.{arith}
use Rattle.opfs_desk_steps.proofs.Cleared.{none-added, none-cleared}
use Rattle.opfs_desk_steps.proofs.clearing.clear_call.Goals as goal

pub returns-then-is_empty-clause-entries : goal.returns-then-is_empty-clause-entries
returns-then-is_empty-clause-entries g c = none-added c.args.ledger.now.books.history c.args.call.clearing.items (grind (arith, c.if-is_empty.ensures))

pub returns-then-is_empty-clause-cleared : goal.returns-then-is_empty-clause-cleared
returns-then-is_empty-clause-cleared g c f recorded p held =
    none-cleared g.D.Disk c.the_books_show_their_images.ensures f recorded c.args.ledger.now p c.args.call.clearing.items (grind (arith, c.if-is_empty.ensures)) held
