use Rattle.opfs_state_rows.proofs.standing.Exchanged.{kept-there, kept-room, kept-moves, kept-mark, kept-units}
use Rattle.opfs_state_rows.proofs.standing.files.exchange_kept.Goals as goal

pub raise-requires-clause-there : goal.raise-requires-clause-there
raise-requires-clause-there c = kept-there c.args.pool.now c.lower.new.self c.lower.new.self c.args.unit.now c.args.old c.args.new c.min-kept.result c.requires.there c.requires.within c.min-kept.ensures c.lower.ensures.share c.lower.ensures.held

pub raise-requires-clause-room : goal.raise-requires-clause-room
raise-requires-clause-room c = kept-room c.args.pool.now c.lower.new.self c.lower.new.self c.args.unit.now c.args.old c.args.new c.min-kept.result c.requires.there c.requires.within c.min-kept.ensures c.lower.ensures.share c.lower.ensures.held c.requires.room

pub returns-clause-moves : goal.returns-clause-moves
returns-clause-moves c = kept-moves c.args.pool.now c.lower.new.self c.raise.new.self c.args.unit.now c.args.old c.args.new c.min-kept.result c.requires.there c.requires.within c.min-kept.ensures c.lower.ensures.share c.lower.ensures.held c.raise.ensures.share c.raise.ensures.held

pub returns-clause-mark : goal.returns-clause-mark
returns-clause-mark c = kept-mark c.args.pool.now c.lower.new.self c.raise.new.self c.args.unit.now c.args.old c.args.new c.min-kept.result c.requires.there c.requires.within c.min-kept.ensures c.lower.ensures.share c.lower.ensures.held c.raise.ensures.share

pub returns-clause-units : goal.returns-clause-units
returns-clause-units c = kept-units c.args.pool.now c.lower.new.self c.raise.new.self c.args.unit.now c.args.old c.args.new c.min-kept.result c.requires.there c.requires.within c.min-kept.ensures c.lower.ensures.share c.lower.ensures.held c.raise.ensures.share
