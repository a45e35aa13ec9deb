use Rattle.std.proofs.Common.{length, ◌∙◌}
use Rattle.opfs_data.specs.Rows.{pages_at}
use Rattle.opfs_space.proofs.Rest.{row_below, rest_is, next_there, pages_next, pages_size}
use Rattle.opfs_space.proofs.space.Space.see_rows.Goals as goal

pub see_row-requires-clause-below : goal.see_row-requires-clause-below
see_row-requires-clause-below c = rw c.loop-next.invariant.used (row_below (length c.args.self.now.used) c.args.swap.now c.in-Some.agent c.in-Some.row c.requires)

pub loop-next-preserved : goal.loop-next-preserved
loop-next-preserved c =
    let n = c.next_row-next-in-Some in
    let rest = rest_is (c.in-Some.agent, c.in-Some.row) n.result c.args.swap.now n.ensures.end n.ensures.next in
    rw c.see_row.ensures (record {
      seen = pages_next c.in-Some.agent c.in-Some.row c.in-Some.pages c.loop-next.next n.result c.args.swap.now c.loop-next.self _ c.in-Some.is rest c.loop-next.invariant.seen;
      used = pages_size (pages_at c.in-Some.agent c.in-Some.row c.args.swap.now) c.loop-next.self ∙ c.loop-next.invariant.used;
      there = next_there n.result c.args.swap.now n.ensures.pages;
      order = n.ensures.order;
    })
