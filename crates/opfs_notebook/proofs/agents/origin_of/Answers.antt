use Rattle.opfs_notebook.proofs.Beginning.{origin-key}
use Rattle.opfs_notebook.proofs.agents.origin_of.Goals as goal

pub returns-in-Ok : goal.returns-in-Ok
returns-in-Ok c = origin-key c.args.url.now c.in-Ok.key c.as_str-text.result.now c.in-Ok.ensures.key c.in-Ok.ensures.origin c.as_str-text.utf8 c.as_str-text.ensures
