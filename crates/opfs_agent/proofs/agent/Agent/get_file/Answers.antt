use Rattle.std.proofs.Common.{◌≡◌, length, subst}
use Rattle.opfs_base.specs.declared.locator.Locator.{Locator}
use Rattle.opfs_hist.specs.declared.op.Op.TheVariants as op
use Rattle.opfs_hist.specs.declared.reply.Reply.TheVariants as reply
use Rattle.opfs_turns.specs.Asking.Answers.{HasAnswer}
use Rattle.opfs_turns.specs.Asking.Rows.{HasSnapshot, SnapshotSeen}
use Rattle.opfs_agent.proofs.Taking.{some-bytes, snapshot-taken}
use Rattle.opfs_agent.proofs.agent.Agent.get_file.Goals as goal

pub returns : goal.returns
returns g c =
    subst (λ (at : Locator). HasAnswer g.S.Store.tells c.args.self.now c.ask.new.self (op.GetFile at)
    (λ (x : SnapshotSeen) answered _. (x.row ≡ c.ask.new.self.rows) × (answered ≡ reply.FileInfo (length x.bytes) x.stamp) × HasSnapshot g.S.Store.tells c.ask.new.self x)
    (record { row = c.rows-row.result; bytes = c.in-Bytes.bytes; stamp = c.stamp_in-stamp.result })) c.in-Ok.ensures
    (snapshot-taken g.S.Store.tells c.args.self.now c.ask.new.self c.know_kept.ensures c.know_kept-2.ensures c.in-Ok.asked c.in_ok-acted.acted c.in_ok-acted.ensures
    c.in-Bytes.bytes c.rows-row.result c.stamp_in-stamp.result c.in-Bytes.is c.rows-row.ensures c.stamp_in-stamp.ensures)

pub unreachable-requires : goal.unreachable-requires
unreachable-requires g c =
    let found = some-bytes g.S.Store.tells c.args.self.now c.ask.new.self c.know_kept.ensures c.know_kept-2.ensures c.in-Ok.asked c.in_ok-acted.acted c.in_ok-acted.ensures in
    c.in_default-gift.not-Bytes found.0 found.1
