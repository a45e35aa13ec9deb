use Rattle.std.proofs.Common.{◌∙◌, sym, subst}
use Rattle.opfs_base.specs.Texts.{Text}
use Rattle.opfs_hist.specs.declared.op.Op.TheVariants as op
use Rattle.opfs_hist.specs.declared.reply.Reply.TheVariants as reply
use Rattle.opfs_turns.specs.Calls.{IsKept, IsLocal}
use Rattle.opfs_agent.proofs.stream_calls.Facts.{local-done}
use Rattle.opfs_agent.proofs.stream_calls.Within.{write-local, write-has}
use Rattle.opfs_agent.proofs.agent.Agent.write_within.Goals as goal

pub keep-requires-clause-local : goal.keep-requires-clause-local
keep-requires-clause-local g c =
    subst (λ (b : Text). IsLocal g.S.Store.tells c.args.self.now (op.Write c.stream.inside.row b c.args.position) reply.Done 0) (sym c.in-Ok.ensures)
    (write-local g.S.Store.tells c.args.self.now c.know_kept.ensures (record { row = c.stream.inside.row; file = c.stream.inside.file; work = c.stream.inside.work }) (rw (← c.stream.view_is) at c.requires.stream) c.args.bytes.now c.args.position (rw (← c.stream.view_is) at c.requires.near))

pub returns-clause-local : goal.returns-clause-local
returns-clause-local g c =
    rw (← c.stream.view_is)
    (local-done g.S.Store.tells c.args.self.now c.keep.new.self (op.Write c.stream.inside.row c.args.bytes.now c.args.position)
    (write-local g.S.Store.tells c.args.self.now c.know_kept.ensures (record { row = c.stream.inside.row; file = c.stream.inside.file; work = c.stream.inside.work }) (rw (← c.stream.view_is) at c.requires.stream) c.args.bytes.now c.args.position (rw (← c.stream.view_is) at c.requires.near))
    (subst (λ (b : Text). IsKept c.args.self.now c.keep.new.self (op.Write c.stream.inside.row b c.args.position) reply.Done 0) c.in-Ok.ensures c.keep.ensures))

pub returns-clause-stream : goal.returns-clause-stream
returns-clause-stream g c =
    write-has g.S.Store.tells c.args.self.now c.know_kept.ensures (record { row = c.stream.inside.row; file = c.stream.inside.file; work = c.stream.inside.work }) (rw (← c.stream.view_is) at c.requires.stream) c.args.bytes.now c.args.position (rw (← c.stream.view_is) at c.requires.near) c.keep.new.self c.write_within.new.self
    (subst (λ (b : Text). IsKept c.args.self.now c.keep.new.self (op.Write c.stream.inside.row b c.args.position) reply.Done 0) c.in-Ok.ensures c.keep.ensures)
    (sym c.pages-before.ensures.pages ∙ c.pages-before.ensures.blocks) (sym c.pages-after.ensures.pages ∙ c.pages-after.ensures.blocks)
    c.write_within.ensures.bytes c.write_within.ensures.length c.write_within.ensures.position c.write_within.ensures.reserve c.write_within.ensures.stored
