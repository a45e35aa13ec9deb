use Rattle.std.proofs.Common.{◌≡◌, ℕ, ◌+◌, ◌*◌, List, ◌++◌, take, drop, sym, ap, subst, arith}
use Rattle.opfs_data.specs.Writes.{run_pages, source_bytes}
use Rattle.opfs_data.specs.Pages.{AreSaved, AreNow}
use Rattle.opfs_data.proofs.CallLemmas.{reads_more}
use Rattle.opfs_data.proofs.WriteLemmas.{saved_next}
use Rattle.opfs_data.proofs.row.save_run.Goals as goal

pub loop-k-preserved : goal.loop-k-preserved
loop-k-preserved g c =
    let laws = g.met.D.Disk in
    let at = c.loop-k.invariant in
    let b = c.in_ok-save_page.ensures in
    record {
      reads = reads_more g.D.Disk laws.falls c.args.journal.now c.loop-k.journal c.save_page.new.journal at.reads b.reads;
      saved = λ ws own given before.
          saved_next c.save_page.new.saved.items c.args.pages.now ws (source_bytes own given c.args.run.now.source) c.args.run.now.page c.args.run.now.block c.args.run.now.from c.loop-k.k _ _
          (omega (arith, c.page-first.ensures.page, c.from.ensures)) (ap (λ (n : ℕ). n + c.loop-k.k) c.block-start.ensures.block)
          (b.saved (ws ++ run_pages (source_bytes own given c.args.run.now.source) c.args.run.now.page c.args.run.now.block c.args.run.now.from c.loop-k.k) (take 4096 (drop (c.args.run.now.from + 4096 * c.loop-k.k) (source_bytes own given c.args.run.now.source))) (at.saved ws own given before));
      now = λ told before. subst (λ (d : List ℕ). AreNow d c.args.base c.args.pages.now c.save_page.new.saved.items) (at.reads.told told).same
          (b.now told (subst (λ (d : List ℕ). AreNow d c.args.base c.args.pages.now c.loop-k.saved.items) (sym (at.reads.told told).same) (at.now told before)));
    }

pub returns-clause-saved : goal.returns-clause-saved
returns-clause-saved g c = λ ws own given before.
    let all : c.loop-k.k ≡ c.args.run.now.count = omega (arith, c.loop-k.auto.k-end, c.loop-k-test.false, c.count-k-end.ensures.count) in
    subst (λ (n : ℕ). AreSaved c.loop-k.saved.items c.args.pages.now (ws ++ run_pages (source_bytes own given c.args.run.now.source) c.args.run.now.page c.args.run.now.block c.args.run.now.from n)) all
    (c.loop-k.invariant.saved ws own given before)
