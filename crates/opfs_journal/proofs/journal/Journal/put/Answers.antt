use Rattle.std.proofs.Common.{◌≡◌, sym, ◌∙◌, ap, subst, length, None}
use Rattle.opfs_journal.specs.Format.{Stored}
use Rattle.opfs_journal.specs.Reading.{stored_of}
use Rattle.opfs_journal.specs.Standing.{Bounds}
use Rattle.opfs_journal.proofs.Moves.{told_put, now_since, put_before}
use Rattle.opfs_journal.proofs.Views.{none_from, kept_told}
use Rattle.opfs_journal.proofs.journal.Journal.put.Goals as goal

pub invariant_of-self : goal.invariant_of-self
invariant_of-self g c =
    let laws = g.met.D.Disk in
    let j = c.self.inside in
    let was = c.self.invariant.0 in
    let sure : j.doubt ≡ None = none_from j.doubt (rw (← c.self.view_is) at c.requires.settled) in (
      record {
        bounds = subst (λ n. Bounds j.areas n j.generation j.tail j.doubt) (sym c.write.ensures.size) was.bounds;
        told = λ told. (told_put j.areas j.second j.generation j.tail j.closed j.doubt (g.D.Disk.content j.disk) (g.D.Disk.content c.write.new.self) (g.D.Disk.since j.disk (g.D.Disk.moment j.disk)) (g.D.Disk.since c.write.new.self (g.D.Disk.moment c.write.new.self))
            c.args.at (length c.args.bytes.now) sure was.bounds.least (rw (← c.self.view_is) at c.requires.apart) (c.write.ensures.elsewhere told)
            (λ i is. c.write.ensures.moments told i (now_since g.D.Disk.content g.D.Disk.moment g.D.Disk.since (laws.falls told) j.disk c.write.new.self i (c.write.ensures.time told) is)) (was.told told)).0;
      },
      c.self.invariant.1,
    )

pub returns-clause-records : goal.returns-clause-records
returns-clause-records g c = λ told.
    let laws = g.met.D.Disk in
    let j = c.self.inside in
    let was = c.self.invariant.0 in
    let sure : j.doubt ≡ None = none_from j.doubt (rw (← c.self.view_is) at c.requires.settled) in
    let after = told_put j.areas j.second j.generation j.tail j.closed j.doubt (g.D.Disk.content j.disk) (g.D.Disk.content c.write.new.self) (g.D.Disk.since j.disk (g.D.Disk.moment j.disk)) (g.D.Disk.since c.write.new.self (g.D.Disk.moment c.write.new.self))
    c.args.at (length c.args.bytes.now) sure was.bounds.least (rw (← c.self.view_is) at c.requires.apart) (c.write.ensures.elsewhere told)
    (λ i is. c.write.ensures.moments told i (now_since g.D.Disk.content g.D.Disk.moment g.D.Disk.since (laws.falls told) j.disk c.write.new.self i (c.write.ensures.time told) is)) (was.told told) in
    rw (← c.self.view_is) (ap (λ (k : Stored). k.records)
    (kept_told g.D.Disk.content j.areas j.second j.generation j.tail j.closed j.spare c.write.new.self (g.D.Disk.since c.write.new.self (g.D.Disk.moment c.write.new.self)) j.doubt after.0
    ∙ ap stored_of after.1
    ∙ sym (kept_told g.D.Disk.content j.areas j.second j.generation j.tail j.closed j.spare j.disk (g.D.Disk.since j.disk (g.D.Disk.moment j.disk)) j.doubt (was.told told))))

pub returns-clause-moments : goal.returns-clause-moments
returns-clause-moments g c =
    let j = c.self.inside in
    let was = c.self.invariant.0 in
    let sure : j.doubt ≡ None = none_from j.doubt (rw (← c.self.view_is) at c.requires.settled) in
    let apart = rw (← c.self.view_is) at c.requires.apart in
    rw (← c.self.view_is) (λ told i is. put_before g.D.Disk.content j.areas j.second j.generation j.tail j.closed j.spare j.disk (g.D.Disk.since j.disk (g.D.Disk.moment j.disk)) j.doubt (was.told told)
    c.args.at (length c.args.bytes.now) sure was.bounds.least apart i (c.write.ensures.moments told i is))
