use Rattle.opfs_notebook.proofs.Beginning.{may-begin, stands-new}
use Rattle.opfs_notebook.proofs.agents.begin.Goals as goal

pub begin-requires : goal.begin-requires
begin-requires g c = may-begin g.S.Store.opened c.args.court.now c.args.pass.agent c.args.starter.key c.requires.agent c.args.pass c.requires.new

pub returns : goal.returns
returns g c = stands-new g.S.Store.opened c.args.court.now c.args.pass.agent c.args.starter.key c.requires.agent c.args.pass c.begin.result c.requires.new c.begin.ensures
