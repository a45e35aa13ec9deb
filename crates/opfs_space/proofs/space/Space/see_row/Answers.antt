use Rattle.std.proofs.Common.{◌∙◌, arith, length}
use Rattle.opfs_data.specs.Rows.{pages_at}
use Rattle.opfs_space.proofs.Seeing.{seen_next, seen_all, page_below}
use Rattle.opfs_space.proofs.space.Space.see_row.Goals as goal

pub see_block-requires : goal.see_block-requires
see_block-requires c =
    rw (c.block.ensures, c.loop-page.invariant.size) (page_below (length c.args.self.now.used) (pages_at c.args.agent c.args.row c.args.swap.now) c.loop-page.page (omega (arith, c.requires.pages, c.loop-page-test.true)) c.requires.below)

pub loop-page-preserved : goal.loop-page-preserved
loop-page-preserved c = record {
  seen = seen_next (pages_at c.args.agent c.args.row c.args.swap.now) c.loop-page.page c.loop-page.self c.see_block.new.self _ (omega (arith, c.requires.pages, c.loop-page-test.true)) (rw c.block.ensures at c.see_block.ensures.seen) c.loop-page.invariant.seen;
  size = c.see_block.ensures.size ∙ c.loop-page.invariant.size;
}

pub returns : goal.returns
returns c = seen_all (pages_at c.args.agent c.args.row c.args.swap.now) c.loop-page.page c.loop-page.self _ (omega (arith, c.requires.pages, c.loop-page-test.false)) c.loop-page.invariant.seen
