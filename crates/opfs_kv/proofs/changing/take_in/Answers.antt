use Rattle.opfs_kv.specs.Seen.{seen}
use Rattle.opfs_kv.proofs.Serving.{serves-none}
use Rattle.opfs_kv.proofs.changing.take_in.Goals as goal

pub returns-in-Err-clause-left : goal.returns-in-Err-clause-left
returns-in-Err-clause-left g c = serves-none g.S.Store.tells c.args.agent.now (seen c.args.handle.now c.args.notes.now) 2 c.requires.stands
