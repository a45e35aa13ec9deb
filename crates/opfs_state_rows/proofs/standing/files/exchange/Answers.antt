use Rattle.opfs_state_rows.proofs.standing.Exchanged.{exchange-there, exchange-fits, exchange-modes, exchange-moves}
use Rattle.opfs_state_rows.proofs.standing.files.exchange.Goals as goal

pub add-requires-clause-there : goal.add-requires-clause-there
add-requires-clause-there c = exchange-there c.args.shed.now c.free.new.self c.free.new.self c.args.unit.now c.args.old c.args.new c.min-kept.result c.requires.there c.requires.within c.min-kept.ensures c.free.ensures.bucket c.free.ensures.usage

pub add-requires-clause-fits : goal.add-requires-clause-fits
add-requires-clause-fits c = exchange-fits c.args.shed.now c.free.new.self c.free.new.self c.args.unit.now c.args.old c.args.new c.min-kept.result c.requires.there c.requires.within c.min-kept.ensures c.free.ensures.bucket c.free.ensures.usage c.requires.fits

pub returns-clause-moves : goal.returns-clause-moves
returns-clause-moves c = exchange-moves c.args.shed.now c.free.new.self c.add.new.self c.args.unit.now c.args.old c.args.new c.min-kept.result c.requires.there c.requires.within c.min-kept.ensures c.free.ensures.bucket c.free.ensures.usage c.add.ensures.bucket c.add.ensures.usage

pub returns-clause-modes : goal.returns-clause-modes
returns-clause-modes c = exchange-modes c.args.shed.now c.free.new.self c.add.new.self c.args.unit.now c.args.old c.args.new c.min-kept.result c.requires.there c.requires.within c.min-kept.ensures c.free.ensures.bucket c.free.ensures.usage c.add.ensures.bucket
