use Rattle.opfs_journal.proofs.Walks.{only_more}
use Rattle.opfs_image.proofs.records.read_record.Goals as goal

pub returns-in_err-read_body-clause-only : goal.returns-in_err-read_body-clause-only
returns-in_err-read_body-clause-only g c =
    let laws = g.met.D.Disk in
    only_more g.D.Disk laws.falls c.args.disk.now c.read_gate.new.disk c.read_body.new.disk c.read_gate.ensures.only c.read_body.ensures.only
