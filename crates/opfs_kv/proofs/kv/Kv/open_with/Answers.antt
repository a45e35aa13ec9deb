use Rattle.std.proofs.Common.{arith, sym}
use Rattle.opfs_kv.proofs.Flushing.{opened-spells, opened-stands}
use Rattle.opfs_kv.proofs.kv.Kv.open_with.Goals as goal

pub returns-in-Ok-clause-stands : goal.returns-in-Ok-clause-stands
returns-in-Ok-clause-stands g c = opened-stands g.S.Store.tells c.args.agent.now c.read_notes.new.agent c.args.sync c.read_notes.new.handle c.in-Ok.notes c.in-Ok.ensures.reads c.requires.writes c.in-Ok.ensures.keeps

pub returns-in-Ok-clause-map : goal.returns-in-Ok-clause-map
returns-in-Ok-clause-map g c = opened-spells g.S.Store.tells c.args.agent.now c.read_notes.new.agent c.args.sync c.read_notes.new.handle c.in-Ok.notes c.in-Ok.ensures.reads c.in-Ok.ensures.keeps c.in-Ok.ensures.whole

pub returns-in-Ok-clause-others : goal.returns-in-Ok-clause-others
returns-in-Ok-clause-others g c = c.in-Ok.ensures.reads.others

pub returns-in-Err-clause-others : goal.returns-in-Err-clause-others
returns-in-Err-clause-others g c = c.in-Err.ensures.reads.others

pub returns-in-Ok-clause-short : goal.returns-in-Ok-clause-short
returns-in-Ok-clause-short g c = omega (arith, c.in-Ok.ensures.keeps.whole c.in-Ok.ensures.whole, c.in-Ok.ensures.keeps.small)

pub returns-in-Ok-clause-whole : goal.returns-in-Ok-clause-whole
returns-in-Ok-clause-whole g c = (sym (c.in-Ok.ensures.keeps.whole c.in-Ok.ensures.whole), c.in-Ok.ensures.whole)
