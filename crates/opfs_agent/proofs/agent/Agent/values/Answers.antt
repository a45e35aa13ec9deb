use Rattle.std.proofs.Common.{sym, subst}
use Rattle.opfs_base.specs.declared.locator.Locator.{Locator}
use Rattle.opfs_hist.specs.declared.op.Op.TheVariants as op
use Rattle.opfs_hist.specs.declared.reply.Reply.TheVariants as reply
use Rattle.opfs_turns.specs.Calls.{IsLocal}
use Rattle.opfs_turns.proofs.asking.Plains.{values-local}
use Rattle.opfs_agent.proofs.Iterating.{values-answer}
use Rattle.opfs_agent.proofs.agent.Agent.values.Goals as goal

pub keep_call-requires-clause-local : goal.keep_call-requires-clause-local
keep_call-requires-clause-local g c =
    subst (λ (dir : Locator). IsLocal g.S.Store.tells c.args.self.now (op.Values dir) reply.Done 1) (sym c.in-Ok.ensures)
    (values-local g.S.Store.tells c.args.self.now c.know_kept.ensures c.args.dir.now c.requires.dir)

pub returns : goal.returns
returns g c =
    values-answer g.S.Store.tells c.args.self.now c.keep_call.new.self c.know_kept.ensures c.in-Ok.asked c.in-Ok-copy.dir c.args.dir.now c.new-given.result.items c.rows-row.result
    c.in-Ok.ensures c.in-Ok-copy.ensures c.new-given.ensures.items c.rows-row.ensures c.requires.dir c.in_ok-keep_call.ensures
