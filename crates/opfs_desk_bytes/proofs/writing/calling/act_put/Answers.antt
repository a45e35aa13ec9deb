use Rattle.std.proofs.Common.{[]}
use Rattle.opfs_desk_bytes.proofs.writing.Small.{small, unacted}
use Rattle.opfs_desk_bytes.proofs.writing.calling.act_put.Goals as goal

pub put_bytes-requires-clause-small : goal.put_bytes-requires-clause-small
put_bytes-requires-clause-small g c =
    let may = c.requires.go in
    let laws = c.size_laws.ensures in
    small g.D.Disk laws.reads laws.counts laws.goes_on laws.make laws.decide laws.room laws.inside may.fixed may.recorded c.args.parts.now.ledger c.args.parts.now.pages c.args.pending.now c.args.call c.args.work.now []
    may.are may.asked c.requires.word

pub put_bytes-requires-in-Fill-clause-small : goal.put_bytes-requires-in-Fill-clause-small
put_bytes-requires-in-Fill-clause-small g c =
    let may = c.requires.go in
    let laws = c.size_laws.ensures in
    small g.D.Disk laws.reads laws.counts laws.goes_on laws.make laws.decide laws.room laws.inside may.fixed may.recorded c.args.parts.now.ledger c.args.parts.now.pages c.args.pending.now c.args.call c.args.work.now []
    may.are may.asked c.requires.word

pub returns-in-Err-clause-idle : goal.returns-in-Err-clause-idle
returns-in-Err-clause-idle g c f recorded held = unacted g.D.Disk f recorded c.args.parts.now held

pub returns-in_default-clause-idle : goal.returns-in_default-clause-idle
returns-in_default-clause-idle g c f recorded held = unacted g.D.Disk f recorded c.args.parts.now held
