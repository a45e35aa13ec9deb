use Rattle.std.proofs.Common.{◌≡◌, length, [], refl, sym, ap, subst, arith}
use Rattle.opfs_blocks.specs.Sets.{AreBelow}
use Rattle.opfs_books.specs.Laws.Laws.{told}
use Rattle.opfs_desk_steps.specs.Parts.Held.{AreHeldAt, AreHeldWhole}
use Rattle.opfs_desk_steps.specs.Parts.Seen.{machine_in, tree_in, book_in}
use Rattle.opfs_desk_steps.proofs.book_steps.Ways.{way-here}
use Rattle.opfs_machine.specs.Histories.{state_after}
use Rattle.opfs_records.specs.Replay.Built.{named}
use Rattle.opfs_pages.specs.RowCalls.Finding.{MayFindBlocks}
use Rattle.opfs_records.specs.Checkpoint.Written.{stored_rows}
use Rattle.opfs_state_rows.specs.Standing.Seen.{lines_of}
use Rattle.opfs_state.specs.Applied.{StateSeen}
use Rattle.opfs_tree.specs.Rows.{Rows as Tree}
use Rattle.opfs_desk_contents.proofs.Found.{enough-now, may-find, settled-rows, spaced-held, then-cleared, waits-now}
use Rattle.opfs_desk_contents.proofs.Settled.{way-used}
use Rattle.opfs_desk_contents.proofs.putting.find_room.Goals as goal

pub returns-then-put-clause-cleared : goal.returns-then-put-clause-cleared
returns-then-put-clause-cleared g c f recorded are =
    let l = c.args.parts.now.ledger in
    record { recorded = recorded; are = are; way = way-here g.D.Disk f recorded (state_after f.opening l.books.history) [] l l (told f (book_in l)) c.the_books_show_their_images.ensures are.books refl }

pub find_blocks-requires : goal.find_blocks-requires
find_blocks-requires g c = record {
  may =
      let w = g.D.Disk in
      let may = c.requires.may in
      let l = c.args.parts.now.ledger in
      let p = c.args.parts.now.pages in
      let put = c.args.put.now in
      let new = c.commit_kept.new.ledger in
      let done = c.in-Ok.ensures in
      let inside = c.parts_lie_inside.ensures may.fixed may.recorded l p may.are in
      let whole : AreHeldWhole w may.fixed (book_in new).rows new p =
      subst (λ es. AreHeldAt w may.fixed (book_in new).rows (state_after may.fixed.opening es) [] new p) (sym done.entries)
      (done.recorded may.fixed may.recorded (state_after may.fixed.opening l.books.history) [] p may.are).are in
      subst (λ (t : Tree). MayFindBlocks t p.swap p.space c.args.agent c.args.row put) (sym (ap (λ r. r.rows) c.tree.ensures))
      (may-find w may.fixed new p whole c.the_state_is_kept.ensures c.puts_have_room.ensures.named
      (subst (λ (s : StateSeen). s.store.machine.rows ≡ lines_of s.store.tree) (sym done.state) c.know_rows_match_tree.ensures) c.args.agent c.args.row put (enough-now l new c.args.agent c.args.row put.pages done.state may.enough) (may.ready.ready.count [])
      (waits-now l.books.state new.books.state may.recorded.rows p.swap p.space p.base (w.size l.journal.disk) c.args.agent c.args.row put done.state c.if-put.false may.ready.gotten)
      (subst (λ (s : StateSeen). AreBelow (length p.space.used) (named s.store.tree)) (sym done.state) inside.files) inside.pages may.ready.ready.extents);
}

pub returns-in-Ok-clause-blocks : goal.returns-in-Ok-clause-blocks
returns-in-Ok-clause-blocks g c =
    let w = g.D.Disk in
    let may = c.requires.may in
    let l = c.args.parts.now.ledger in
    let p = c.args.parts.now.pages in
    let put = c.args.put.now in
    let new = c.commit_kept.new.ledger in
    let done = c.in-Ok.ensures in
    let inside = c.parts_lie_inside.ensures may.fixed may.recorded l p may.are in
    let whole : AreHeldWhole w may.fixed (book_in new).rows new p =
    subst (λ es. AreHeldAt w may.fixed (book_in new).rows (state_after may.fixed.opening es) [] new p) (sym done.entries)
    (done.recorded may.fixed may.recorded (state_after may.fixed.opening l.books.history) [] p may.are).are in
    (rw c.tree.ensures at c.find_blocks.ensures.found.gotten) (machine_in new) (stored_rows (tree_in new)) [] p.base (w.size new.journal.disk) (λ b has. settled-rows (tree_in new) b has) whole.laid.spaced (may.ready.ready.count [])
    (waits-now l.books.state new.books.state may.recorded.rows p.swap p.space p.base (w.size l.journal.disk) c.args.agent c.args.row put done.state c.if-put.false may.ready.gotten)
    (omega (arith, inside.end, done.leaves.stays.length)) inside.few

pub returns-in-Ok-clause-cleared : goal.returns-in-Ok-clause-cleared
returns-in-Ok-clause-cleared g c f recorded are =
    let w = g.D.Disk in
    let l = c.args.parts.now.ledger in
    let p = c.args.parts.now.pages in
    let new = c.commit_kept.new.ledger in
    let done = c.in-Ok.ensures in
    let base = state_after f.opening l.books.history in
    let whole : AreHeldWhole w f (book_in new).rows new p = subst (λ es. AreHeldAt w f (book_in new).rows (state_after f.opening es) [] new p) (sym done.entries) (done.recorded f recorded base [] p are).are in
    then-cleared w f (book_in new).rows l new (record { swap = p.swap; space = c.find_blocks.new.space; base = p.base }) done.entries
    (spaced-held w f new p whole c.find_blocks.new.space ((rw c.tree.ensures at c.find_blocks.ensures.found.spaced) (machine_in new) (stored_rows (tree_in new)) (λ b has. settled-rows (tree_in new) b has) whole.laid.spaced))
    (way-used w f l new done.entries done.leaves (done.shown f recorded base [] p are))

pub returns-in-Err-clause-cleared : goal.returns-in-Err-clause-cleared
returns-in-Err-clause-cleared g c f recorded are =
    let l = c.args.parts.now.ledger in
    let p = c.args.parts.now.pages in
    let done = c.in-Err.ensures in
    let base = state_after f.opening l.books.history in
    record { recorded = recorded; are = done.failed f recorded base [] p are; way = way-used g.D.Disk f l c.commit_kept.new.ledger done.entries done.leaves (done.shown f recorded base [] p are) }
