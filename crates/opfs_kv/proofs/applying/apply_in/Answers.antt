use Rattle.std.proofs.Common.{refl}
use Rattle.opfs_kv.specs.Seen.{seen}
use Rattle.opfs_kv.proofs.Serving.{once-none, serves-none}
use Rattle.opfs_kv.proofs.applying.apply_in.Goals as goal

pub returns-in-Err-clause-left : goal.returns-in-Err-clause-left
returns-in-Err-clause-left g c = serves-none g.S.Store.tells c.args.agent.now (seen c.args.handle.now c.args.notes.now) 2 c.requires.stands

pub returns-in-Err-clause-once : goal.returns-in-Err-clause-once
returns-in-Err-clause-once g c none = once-none c.args.agent.now c.args.agent.now refl
