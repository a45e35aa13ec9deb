use Rattle.std.proofs.Common.{◌≡◌, false, sym, ◌∙◌, ap, subst, Some}
use Rattle.opfs_journal.specs.Format.{Stored, records_of}
use Rattle.opfs_journal.specs.Seen.{Seen, kept}
use Rattle.opfs_journal.proofs.Views.{none_from, stored_at, kept_told}
use Rattle.opfs_journal.proofs.journal.Journal.give_back.Goals as goal

pub returns-clause-records : goal.returns-clause-records
returns-clause-records g c = λ told.
    let j = c.self.inside in
    let t = c.self.invariant.0.told told in
    subst (λ (k : Seen _). k.in_doubt ≡ false → records_of k.areas (g.D.Disk.content j.disk) ≡ Some (kept k)) c.self.view_is (λ sure.
    stored_at j.areas t.shape (g.D.Disk.content j.disk) (t.rest (none_from j.doubt sure)).here.rests
    ∙ ap (λ (k : Stored). Some k) (sym (kept_told g.D.Disk.content j.areas j.second j.generation j.tail j.closed j.spare j.disk (g.D.Disk.since j.disk (g.D.Disk.moment j.disk)) j.doubt t)))
