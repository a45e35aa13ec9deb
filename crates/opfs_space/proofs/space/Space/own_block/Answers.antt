use Rattle.std.proofs.Common.{arith}
use Rattle.opfs_space.proofs.Planning.{past_none, without_block, with_own, with_other}
use Rattle.opfs_space.proofs.space.Space.own_block.Goals as goal

pub returns-then-page-len : goal.returns-then-page-len
returns-then-page-len c = past_none c.args.self.now.own c.args.swap.now c.args.agent c.args.row c.args.page (omega (arith, c.if-page-len.true, c.len.ensures))

pub returns-in_err-block : goal.returns-in_err-block
returns-in_err-block c = rw c.from_residual.ensures (without_block c.args.self.now.own c.args.swap.now c.args.agent c.args.row c.args.page c.in_err-block.ensures)

pub returns-then-is_own : goal.returns-then-is_own
returns-then-is_own c = with_own c.args.self.now.own c.args.swap.now c.args.agent c.args.row c.args.page c.in_ok-block.block c.in_ok-block.ensures c.if-is_own.ensures

pub returns : goal.returns
returns c = with_other c.args.self.now.own c.args.swap.now c.args.agent c.args.row c.args.page c.in_ok-block.block c.in_ok-block.ensures c.if-is_own.ensures
