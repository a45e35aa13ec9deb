use Rattle.std.proofs.Common.{[], arith}
use Rattle.opfs_desk_steps.specs.declared.parts.parts.Ledger.{Ledger}
use Rattle.opfs_machine.specs.Histories.{state_after}
use Rattle.opfs_desk_contents.proofs.Settled.{settled-held, settled-cleared}
use Rattle.opfs_desk_contents.proofs.putting.settle_doubt.Goals as goal

pub returns-in-Ok-clause-held : goal.returns-in-Ok-clause-held
returns-in-Ok-clause-held g c f recorded p are =
    let laws = g.met.D.Disk in
    let l = c.args.ledger.now in
    let new : Ledger g.row.D.Denot = record { journal = c.settle.new.journal; books = c.settle.new.self; freed = l.freed; alloc = l.alloc } in
    let done = c.in-Ok.ensures in
    settled-held g.D.Disk f l new done.history recorded p are c.what_is_laid_goes_on.ensures.beside laws.counted done.state done.commits done.leaves (done.books f recorded (state_after f.opening l.books.history) [] are.books) (omega arith)

pub returns-in-Ok-clause-cleared : goal.returns-in-Ok-clause-cleared
returns-in-Ok-clause-cleared g c f recorded p are =
    let laws = g.met.D.Disk in
    let l = c.args.ledger.now in
    let new : Ledger g.row.D.Denot = record { journal = c.settle.new.journal; books = c.settle.new.self; freed = l.freed; alloc = l.alloc } in
    let done = c.in-Ok.ensures in
    let base = state_after f.opening l.books.history in
    settled-cleared g.D.Disk f l new done.history recorded p are c.what_is_laid_goes_on.ensures.beside laws.counted done.state done.commits done.leaves (done.books f recorded base [] are.books) (omega arith) (done.shown f recorded base [] are.books)

pub returns-in-Err-clause-held : goal.returns-in-Err-clause-held
returns-in-Err-clause-held g c f recorded p are =
    let laws = g.met.D.Disk in
    let l = c.args.ledger.now in
    let new : Ledger g.row.D.Denot = record { journal = c.settle.new.journal; books = c.settle.new.self; freed = l.freed; alloc = l.alloc } in
    let done = c.in-Err.ensures in
    settled-held g.D.Disk f l new done.history recorded p are c.what_is_laid_goes_on.ensures.beside laws.counted done.state done.commits done.leaves (done.books f recorded (state_after f.opening l.books.history) [] are.books) (omega arith)

pub returns-in-Err-clause-cleared : goal.returns-in-Err-clause-cleared
returns-in-Err-clause-cleared g c f recorded p are =
    let laws = g.met.D.Disk in
    let l = c.args.ledger.now in
    let new : Ledger g.row.D.Denot = record { journal = c.settle.new.journal; books = c.settle.new.self; freed = l.freed; alloc = l.alloc } in
    let done = c.in-Err.ensures in
    let base = state_after f.opening l.books.history in
    settled-cleared g.D.Disk f l new done.history recorded p are c.what_is_laid_goes_on.ensures.beside laws.counted done.state done.commits done.leaves (done.books f recorded base [] are.books) (omega arith) (done.shown f recorded base [] are.books)
