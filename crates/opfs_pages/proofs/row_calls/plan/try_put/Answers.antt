use Rattle.std.proofs.Common.{refl, subst, sym}
use Rattle.opfs_data.specs.Writes.{WriteList}
use Rattle.opfs_data.proofs.CallLemmas.{reads_more}
use Rattle.opfs_pages.specs.RowCalls.Plans.{IsStagedFor}
use Rattle.opfs_pages.proofs.row_calls.Staging.{staged-same}
use Rattle.opfs_pages.proofs.row_calls.plan.try_put.Goals as goal

pub returns-clause-reads : goal.returns-clause-reads
returns-clause-reads g c =
    let laws = g.met.D.Disk in
    reads_more g.D.Disk laws.falls c.args.journal.now c.stage_changes.new.journal c.ready.new.journal c.in_ok-writes.ensures.reads c.in_ok-made.ensures.reads

pub returns-clause-staged : goal.returns-clause-staged
returns-clause-staged g c =
    let same = c.in_ok-made.ensures.same c.args.put.now.given.now in
    subst (λ (w : WriteList). IsStagedFor g.D.Disk.tells c.args.work.now (g.D.Disk.content c.args.journal.now.disk) c.args.base c.args.swap.now c.args.put.now.agent c.args.put.now.row c.args.put.now.at c.args.put.now.given.now c.args.put.now.size c.args.put.now.whole w) (sym c.take.ensures.writes)
    (record {
      own = c.args.space.now.own;
      from = c.args.swap.now;
      content = g.D.Disk.content c.args.journal.now.disk;
      same = refl;
      alike = λ told. refl;
      staged = staged-same g.D.Disk.tells _ c.in_ok-writes.writes c.in_ok-made.made.writes same.0 same.1 (c.in_ok-made.ensures.bytes c.args.put.now.given.now) c.in_ok-writes.ensures.staged;
    })
