use Rattle.std.proofs.Common.{subst}
use Rattle.std.specs.Prelude.{map}
use Rattle.std.proofs.lemmas.Result.{on_ok_weaker}
use Rattle.opfs_journal.specs.Clauses.{Outside}
use Rattle.opfs_journal.specs.declared.areas.Areas.{Areas}
use Rattle.opfs_outside.specs.Bytes.{Same}
use Rattle.opfs_dump.specs.Text.Seen.{row_of}
use Rattle.opfs_dump.proofs.loading.StandsFor.{written_all}
use Rattle.opfs_dump.proofs.loading.laying.write_all.Goals as goal

pub returns-in-Ok-clause-written : goal.returns-in-Ok-clause-written
returns-in-Ok-clause-written g c =
    let stores = c.in-Ok.ensures.stores in
    on_ok_weaker c.put_record.result (λ kept told.
    written_all c.args.base (g.D.Disk.content c.args.journal.now.disk) (g.D.Disk.content c.store_rows.new.journal.disk) (g.D.Disk.content c.put_record.new.journal.disk) c.args.journal.now.areas (map row_of c.args.rows.now)
    c.requires.behind (c.in-Ok.ensures.stored told) (stores.before told)
    (subst (λ (a : Areas). Same (Outside a) (g.D.Disk.content c.put_record.new.journal.disk) (g.D.Disk.content c.store_rows.new.journal.disk)) stores.stays.areas (c.put_record.ensures.outside told))) c.put_record.ensures.kept
