use Rattle.std.proofs.Common.{ℕ, List, take, sym, subst, arith}
use Rattle.opfs_data.specs.Writes.{writes_of}
use Rattle.opfs_data.specs.Pages.{AreSaved, AreNow}
use Rattle.opfs_data.proofs.CallLemmas.{reads_more}
use Rattle.opfs_data.proofs.WriteLemmas.{writes_next, writes_all}
use Rattle.opfs_data.proofs.row.save_pages.Goals as goal

pub loop-run-preserved : goal.loop-run-preserved
loop-run-preserved g c =
    let laws = g.met.D.Disk in
    let at = c.loop-run.invariant in
    let b = c.in_ok-save_run.ensures in
    record {
      reads = reads_more g.D.Disk laws.falls c.args.journal.now c.loop-run.journal c.save_run.new.journal at.reads b.reads;
      saved = λ own given.
          subst (AreSaved c.save_run.new.saved.items c.args.pages.now) (sym (writes_next own given c.args.runs.now c.loop-run.run-index c.run-item.result c.run-item.is c.loop-run-test.true))
          (b.saved (writes_of own given (take c.loop-run.run-index c.args.runs.now)) own given (at.saved own given));
      now = λ told. subst (λ (d : List ℕ). AreNow d c.args.base c.args.pages.now c.save_run.new.saved.items) (at.reads.told told).same
          (b.now told (subst (λ (d : List ℕ). AreNow d c.args.base c.args.pages.now c.loop-run.saved.items) (sym (at.reads.told told).same) (at.now told)));
    }

pub returns-clause-saved : goal.returns-clause-saved
returns-clause-saved g c = λ own given.
    subst (AreSaved c.loop-run.saved.items c.args.pages.now) (writes_all own given c.args.runs.now c.loop-run.run-index (omega (arith, c.loop-run-test.false))) (c.loop-run.invariant.saved own given)
