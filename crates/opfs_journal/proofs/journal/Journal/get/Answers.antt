use Rattle.std.proofs.Common.{sym, subst}
use Rattle.opfs_journal.specs.Standing.{Bounds}
use Rattle.opfs_journal.proofs.Moves.{told_less, now_since}
use Rattle.opfs_journal.proofs.journal.Journal.get.Goals as goal

pub invariant_of-self : goal.invariant_of-self
invariant_of-self g c =
    let laws = g.met.D.Disk in
    let j = c.self.inside in
    let was = c.self.invariant.0 in (
      record {
        bounds = subst (λ n. Bounds j.areas n j.generation j.tail j.doubt) (sym c.read.ensures.size) was.bounds;
        told = λ told. told_less j.areas j.second j.generation j.tail j.closed j.doubt (g.D.Disk.content j.disk) (g.D.Disk.content c.read.new.self) (g.D.Disk.since j.disk (g.D.Disk.moment j.disk)) (g.D.Disk.since c.read.new.self (g.D.Disk.moment c.read.new.self))
            (c.read.ensures.same told) (λ i is. c.read.ensures.moments told i (now_since g.D.Disk.content g.D.Disk.moment g.D.Disk.since (laws.falls told) j.disk c.read.new.self i (c.read.ensures.time told) is)) (was.told told);
      },
      c.self.invariant.1,
    )
