use Rattle.std.proofs.Common.{◌<◌, List, [], length, take, sym, ap, ◌∙◌, arith}
use Rattle.opfs_data.specs.declared.page.Page.{Page}
use Rattle.opfs_data.specs.Writes.{PageWrite, writes_of, run_writes}
use Rattle.opfs_data.specs.Pages.{with_writes}
use Rattle.opfs_data.proofs.WriteLemmas.{run_holds, writes_next, writes_all, with_append}
use Rattle.opfs_data.proofs.placing.place_writes.Goals as goal

pub place_pages-requires : goal.place_pages-requires
place_pages-requires c =
    rw c.loop-run.invariant.size (run_holds (λ w. w.page < length c.args.pages.now.items) [] [] c.args.runs.now c.loop-run.run-index c.run-item.result c.run-item.is c.loop-run-test.true c.requires)

pub loop-run-preserved : goal.loop-run-preserved
loop-run-preserved c = record {
  size = c.place_pages.ensures.length ∙ c.loop-run.invariant.size;
  placed = λ own given.
      c.place_pages.ensures.written own given
      ∙ ap (λ (ps : List Page). with_writes (run_writes own given c.run-item.result) ps) (c.loop-run.invariant.placed own given)
      ∙ sym (with_append (writes_of own given (take c.loop-run.run-index c.args.runs.now)) (run_writes own given c.run-item.result) c.args.pages.now.items)
      ∙ ap (λ (ws : List PageWrite). with_writes ws c.args.pages.now.items) (sym (writes_next own given c.args.runs.now c.loop-run.run-index c.run-item.result c.run-item.is c.loop-run-test.true));
}

pub returns : goal.returns
returns c = λ own given.
    c.loop-run.invariant.placed own given
    ∙ ap (λ (ws : List PageWrite). with_writes ws c.args.pages.now.items) (writes_all own given c.args.runs.now c.loop-run.run-index (omega (arith, c.loop-run-test.false)))
