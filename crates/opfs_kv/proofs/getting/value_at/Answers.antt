use Rattle.std.proofs.Common.{Some, Ok, Err, ap, refl}
use Rattle.opfs_kv.specs.Seen.{seen}
use Rattle.opfs_kv.proofs.Rooms.{places-room}
use Rattle.opfs_kv.proofs.Serving.{still-serves}
use Rattle.opfs_kv.proofs.getting.value_at.Goals as goal

pub read-requires-clause-room : goal.read-requires-clause-room
read-requires-clause-room g c = places-room c.args.agent.now c.requires.few

pub read-requires-clause-handle : goal.read-requires-clause-handle
read-requires-clause-handle g c = c.requires.stands.has

pub returns-in-Ok-clause-serves : goal.returns-in-Ok-clause-serves
returns-in-Ok-clause-serves g c = still-serves g.S.Store.tells c.args.agent.now c.read.new.agent (seen c.args.handle.now c.args.notes.now) c.requires.stands c.read.new.handle c.in-Ok.ensures.still c.in-Ok.ensures.stored c.in-Ok.ensures.same

pub returns-in-Ok-clause-value : goal.returns-in-Ok-clause-value
returns-in-Ok-clause-value g c = λ tell. ap Some (c.in-Ok.ensures.read tell)

pub returns-in-Ok-clause-read : goal.returns-in-Ok-clause-read
returns-in-Ok-clause-read g c = record { read = Ok c.in-Ok.bytes; once = c.in-Ok.ensures.once; gives = refl }

pub returns-in-Err-clause-serves : goal.returns-in-Err-clause-serves
returns-in-Err-clause-serves g c = still-serves g.S.Store.tells c.args.agent.now c.read.new.agent (seen c.args.handle.now c.args.notes.now) c.requires.stands c.read.new.handle c.in-Err.ensures.still c.in-Err.ensures.stored c.in-Err.ensures.same

pub returns-in-Err-clause-read : goal.returns-in-Err-clause-read
returns-in-Err-clause-read g c = record { read = Err c.in-Err.stop; once = c.in-Err.ensures.once; gives = refl }
