use Rattle.opfs_desk_bytes.proofs.writing.Found.{data-part}
use Rattle.opfs_desk_bytes.proofs.writing.Wrote.{written, not-put}
use Rattle.opfs_desk_bytes.proofs.writing.putting.write_pages.Goals as goal

pub write-requires-clause-part : goal.write-requires-clause-part
write-requires-clause-part g c =
    let may = c.requires.may in
    data-part g.D.Disk may.fixed may.recorded may.base may.gone c.args.parts.now c.args.agent c.args.row c.args.put.now c.args.given.now may.to_put

pub returns-in-Ok-clause-written : goal.returns-in-Ok-clause-written
returns-in-Ok-clause-written g c f recorded base gone to have =
    let laws = g.met.D.Disk in
    written g.D.Disk c.pages_beside_leave_the_books.ensures laws.counted f recorded base gone c.args.parts.now c.args.agent c.args.row c.args.put.now c.args.given.now to have c.write.new.journal c.write.new.swap c.in-Ok.ensures.writes c.in-Ok.ensures.put

pub returns-in-Err-clause-failed : goal.returns-in-Err-clause-failed
returns-in-Err-clause-failed g c f recorded base gone to have =
    let laws = g.met.D.Disk in
    not-put g.D.Disk c.pages_beside_leave_the_books.ensures laws.counted f recorded base gone c.args.parts.now c.args.agent c.args.row c.args.put.now c.args.given.now to have c.write.new.journal c.write.new.swap c.in-Err.ensures.writes
    c.in-Err.ensures.not_put c.in-Err.ensures.cause c.what_is_laid_goes_on.ensures.beside
