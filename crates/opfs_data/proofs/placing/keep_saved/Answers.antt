use Rattle.opfs_data.proofs.RowLemmas.{kept_step}
use Rattle.opfs_data.proofs.placing.keep_saved.Goals as goal

pub loop-last-preserved-in-Some : goal.loop-last-preserved-in-Some
loop-last-preserved-in-Some c =
    let next = kept_step c.loop-last.saved.items c.pop.new.self.items c.in-Some.last c.loop-last.pages.items _ c.index_mut-page.result.now c.in-Some.ensures.items c.index_mut-page.ensures.value c.loop-last.invariant.inside c.loop-last.invariant.kept in
    record { inside = next.0; kept = next.1; capacity = c.loop-last.invariant.capacity }

pub loop-last-preserved : goal.loop-last-preserved
loop-last-preserved c =
    let next = kept_step c.loop-last.saved.items c.pop.new.self.items c.in-Some.last c.loop-last.pages.items _ c.index_mut-page.result.now c.in-Some.ensures.items c.index_mut-page.ensures.value c.loop-last.invariant.inside c.loop-last.invariant.kept in
    record { inside = next.0; kept = next.1; capacity = c.loop-last.invariant.capacity }
