use Rattle.std.proofs.Common.{◌+◌, ◌<◌, [], length, Some, None, ◌∙◌, arith}
use Rattle.std.proofs.lemmas.List.{length-set}
use Rattle.opfs_data.specs.declared.page.Page.{Page}
use Rattle.opfs_data.specs.Writes.{source_bytes}
use Rattle.opfs_data.proofs.WriteLemmas.{page_holds, placed_next}
use Rattle.opfs_data.proofs.placing.place_pages.Goals as goal

pub index_mut-requires : goal.index_mut-requires
index_mut-requires c =
    let below = page_holds (λ w. w.page < length c.args.pages.now.items) (source_bytes [] [] c.args.run.now.source) c.args.run.now.page c.args.run.now.block c.args.run.now.from c.args.run.now.count c.loop-k.k (omega (arith, c.loop-k-test.true, c.count-k-end.ensures.count)) c.requires in
    omega (arith, below, c.page-first.ensures.page, c.loop-k.invariant.size)

pub loop-k-preserved : goal.loop-k-preserved
loop-k-preserved c =
    let p : Page = record { block = Some (c.block-start.result + c.loop-k.k); kept = None } in
    record {
      size = length-set c.loop-k.pages.items (c.page-first.result + c.loop-k.k) p ∙ c.loop-k.invariant.size;
      placed = λ own given.
          rw (c.page-first.ensures.page, c.block-start.ensures.block)
          (placed_next (source_bytes own given c.args.run.now.source) c.args.run.now.page c.args.run.now.block c.args.run.now.from c.loop-k.k c.loop-k.pages.items c.args.pages.now.items (c.loop-k.invariant.placed own given));
    }
