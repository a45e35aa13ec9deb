use Rattle.std.proofs.Common.{◌≡◌, sym, ap, subst}
use Rattle.opfs_pages.specs.RowCalls.Finding.{MayFindBlocks}
use Rattle.opfs_tree.specs.Rows.{Rows as Tree}
use Rattle.opfs_desk_steps.specs.Parts.Seen.{tree_in}
use Rattle.opfs_desk_bytes.specs.Writing.Putting.{IsUsed}
use Rattle.opfs_desk_bytes.proofs.writing.Found.{found-at-once, may-find, found-then}
use Rattle.opfs_desk_bytes.proofs.writing.putting.find_room.Goals as goal

pub commit_kept-requires : goal.commit_kept-requires
commit_kept-requires g c = record {
  may =
      let may = c.requires.may.1 in
      record { fixed = may.fixed; recorded = may.recorded; base = may.base; gone = may.gone; pages = c.args.parts.now.pages; are = may.to_put.are; settled = may.to_put.settled };
}

pub returns-then-put-clause-found : goal.returns-then-put-clause-found
returns-then-put-clause-found g c f recorded base gone given to gotten =
    found-at-once g.D.Disk f recorded base gone c.args.parts.now c.args.agent c.args.row c.args.put.now given to c.the_books_show_their_images.ensures c.if-put.true gotten

pub find_blocks-requires : goal.find_blocks-requires
find_blocks-requires g c = record {
  may =
      let may = c.requires.may.1 in
      let p = c.args.parts.now in
      let next = c.commit_kept.new.ledger in
      let done = c.in-Ok.ensures in
      let tree_is : c.tree.result.now.rows ≡ tree_in next = ap (λ x. x.rows) c.tree.ensures in
      subst (λ (t : Tree). MayFindBlocks t p.pages.swap p.pages.space c.args.agent c.args.row c.args.put.now) (sym tree_is)
      (may-find g.D.Disk may.fixed may.recorded may.base may.gone p c.args.agent c.args.row c.args.put.now c.requires.may.0 may.to_put next done.entries done.state done.leaves
      (done.recorded may.fixed may.recorded may.base may.gone p.pages may.to_put.are).are c.if-put.false may.gotten c.puts_have_room.ensures.named);
}

pub returns-in-Ok-clause-found : goal.returns-in-Ok-clause-found
returns-in-Ok-clause-found g c f recorded base gone given to gotten =
    let p = c.args.parts.now in
    let next = c.commit_kept.new.ledger in
    let done = c.in-Ok.ensures in
    let is = c.find_blocks.ensures.found in
    let tree_is : c.tree.result.now.rows ≡ tree_in next = ap (λ x. x.rows) c.tree.ensures in
    let used : IsUsed g.D.Disk f p.ledger next = record { later = done.leaves.later; time = done.leaves.time; shown = done.shown f recorded base gone p.pages to.are } in
    found-then g.D.Disk f recorded base gone p c.args.agent c.args.row c.args.put.now given to next done.entries done.state done.leaves
    (done.recorded f recorded base gone p.pages to.are).are c.if-put.false gotten c.find_blocks.new.put c.find_blocks.new.space is.writes is.moves is.count is.capacity done.sure used
    (rw (← tree_is) is.spaced) (rw (← tree_is) is.gotten)

pub returns-in-Err-clause-failed : goal.returns-in-Err-clause-failed
returns-in-Err-clause-failed g c f recorded base gone given to =
    let p = c.args.parts.now in
    let done = c.in-Err.ensures in
    record {
      recorded = recorded;
      are = done.failed f recorded base gone p.pages to.are;
      history = done.entries;
      state = done.state;
      rose = done.cause;
      used = record { later = done.leaves.later; time = done.leaves.time; shown = done.shown f recorded base gone p.pages to.are };
    }
