use Rattle.std.proofs.Common.{arith}
use Rattle.opfs_data.proofs.CallLemmas.{reads_more}
use Rattle.opfs_pages.specs.Stages.{Stage, stage_of}
use Rattle.opfs_pages.proofs.Steps.{stages_more, stages_read}
use Rattle.opfs_pages.proofs.stages.stage_range.Goals as goal

pub loop-page-preserved : goal.loop-page-preserved
loop-page-preserved g c =
    let laws = g.met.D.Disk in
    let at = c.loop-page.invariant in
    let s : Stage = stage_of c.args.source.now c.args.put.now (g.D.Disk.content c.args.journal.now.disk) in
    record {
      begins = omega (arith, at.begins, c.in_ok-page.ensures.next.0);
      ends = c.in_ok-page.ensures.next.1;
      buffer = c.in_ok-page.ensures.buffer;
      reads = reads_more g.D.Disk laws.falls c.args.journal.now c.loop-page.journal c.stage_next.new.journal at.reads c.in_ok-page.ensures.reads;
      staged = stages_more g.D.Disk.tells s c.args.from c.loop-page.page c.in_ok-page.page c.args.writes.now c.loop-page.writes c.stage_next.new.writes at.staged
          (stages_read g.D.Disk.tells s (g.D.Disk.content c.loop-page.journal.disk) c.loop-page.page c.in_ok-page.page c.loop-page.writes c.stage_next.new.writes (λ told. (at.reads.told told).same) c.in_ok-page.ensures.staged);
    }
