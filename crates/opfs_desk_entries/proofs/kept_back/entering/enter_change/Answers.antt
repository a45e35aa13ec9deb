use Rattle.std.proofs.Common.{◌≡◌, subst, Option, List}
use Rattle.opfs_base.specs.declared.extents.Extent.{Extent}
use Rattle.opfs_state_rows.specs.Changes.Changed.{tree_by}
use Rattle.opfs_codec.specs.Fields.{plain}
use Rattle.opfs_desk_steps.specs.BookSteps.Entering.{IsCommittedOver}
use Rattle.opfs_desk_steps.specs.Parts.Seen.{machine_in, tree_in}
use Rattle.opfs_desk_entries.proofs.kept_back.Entered.{kept-changed, stored-changed, not-changed, quiet-stands}
use Rattle.opfs_desk_entries.proofs.kept_back.entering.enter_change.Goals as goal

pub returns-then-count-lt63-clause-done : goal.returns-then-count-lt63-clause-done
returns-then-count-lt63-clause-done g c f recorded base gone p are answered stores =
    let l = c.args.ledger.now in
    let new = c.keep_call.new.ledger in
    let e = c.args.entering.last.entry in
    let z = c.args.entering.sizes in
    let done = c.keep_call.ensures in
    kept-changed g.D.Disk f recorded base gone l new p e z (plain c.args.own.now) are c.the_books_show_their_images.ensures c.requires.settled done.journal done.entries done.machine
    (subst (λ (x : Option (List Extent)). tree_in new ≡ tree_by (machine_in l) (tree_in l) e.agent e.op z x) c.requires.none done.tree) done.idle done.kept
    (done.books f recorded base gone p are answered stores) (done.tied f p are.tied)

pub store_call-requires : goal.store_call-requires
store_call-requires g c = record { may = c.requires.may; answered = c.requires.answered; spelled = c.requires.spelled; fits = c.requires.fits; settled = c.requires.settled }

pub returns-in-Ok-clause-done : goal.returns-in-Ok-clause-done
returns-in-Ok-clause-done g c f recorded base gone p are answered stores =
    let l = c.args.ledger.now in
    let new = c.store_call.new.ledger in
    let e = c.args.entering.last.entry in
    let z = c.args.entering.sizes in
    let own = plain c.args.own.now in
    let done = c.in-Ok.ensures.committed in
    let over : IsCommittedOver g.D.Disk f recorded base gone l p e z own =
    record { are = are; answered = answered; stores = stores; bytes = quiet-stands g.D.Disk f base gone l.journal e own c.requires.quiet } in
    stored-changed g.D.Disk f recorded base gone l new p e z own are c.in-Ok.ensures.leaves done.entries done.machine
    (subst (λ (x : Option (List Extent)). tree_in new ≡ tree_by (machine_in l) (tree_in l) e.agent e.op z x) c.requires.none done.tree) done.idle
    (done.books f recorded base gone p over) (c.in-Ok.ensures.tied f p are.tied) (c.in-Ok.ensures.shown f recorded base gone p over)

pub returns-in-Err-clause-failed : goal.returns-in-Err-clause-failed
returns-in-Err-clause-failed g c f recorded base gone p are answered stores =
    let l = c.args.ledger.now in
    let new = c.store_call.new.ledger in
    let e = c.args.entering.last.entry in
    let z = c.args.entering.sizes in
    let own = plain c.args.own.now in
    let done = c.in-Err.ensures.failed in
    let over : IsCommittedOver g.D.Disk f recorded base gone l p e z own =
    record { are = are; answered = answered; stores = stores; bytes = quiet-stands g.D.Disk f base gone l.journal e own c.requires.quiet } in
    not-changed g.D.Disk f recorded base gone l new p e z own are c.in-Err.ensures.leaves done.entries done.idle
    (done.held f recorded base gone p over) done.cause (c.in-Err.ensures.shown f recorded base gone p over)
