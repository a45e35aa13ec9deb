use Rattle.std.proofs.Common.{refl, sym, ◌∙◌, ap, None, Some}
use Rattle.opfs_journal.specs.Format.{Stored, records_of}
use Rattle.opfs_journal.proofs.Views.{stored_at, kept_told}
use Rattle.opfs_journal.proofs.journal.Journal.begin.Goals as goal

pub returns-in-Ok-find-clause-records : goal.returns-in-Ok-find-clause-records
returns-in-Ok-find-clause-records g c = λ told.
    let found = c.in-Ok-find.found in
    let disk = c.find.new.disk in
    let t = c.in-Ok-find.ensures.told told in
    ap (records_of c.args.areas) (sym (c.in-Ok-find.ensures.only.told told).same)
    ∙ stored_at c.args.areas t.shape (g.D.Disk.content disk) (t.rest refl).here.rests
    ∙ ap (λ (k : Stored). Some k) (sym (kept_told g.D.Disk.content c.args.areas found.second found.generation found.tail found.closed 0 disk (g.D.Disk.since disk (g.D.Disk.moment disk)) None t))
