use Rattle.std.proofs.Common.{◌∙◌, sym}
use Rattle.opfs_hist.specs.declared.op.Op.TheVariants as op
use Rattle.opfs_agent.proofs.stream_calls.Facts.{local-done}
use Rattle.opfs_agent.proofs.stream_calls.Within.{cut-local, cut-has}
use Rattle.opfs_agent.proofs.agent.Agent.truncate_within.Goals as goal

pub keep-requires-clause-local : goal.keep-requires-clause-local
keep-requires-clause-local g c = cut-local g.S.Store.tells c.args.self.now c.know_kept.ensures (record { row = c.stream.inside.row; file = c.stream.inside.file; work = c.stream.inside.work }) (rw (← c.stream.view_is) at c.requires.stream) c.args.size (rw (← c.stream.view_is) at c.requires.near)

pub returns-clause-local : goal.returns-clause-local
returns-clause-local g c =
    rw (← c.stream.view_is)
    (local-done g.S.Store.tells c.args.self.now c.keep.new.self (op.Truncate c.stream.inside.row c.args.size)
    (cut-local g.S.Store.tells c.args.self.now c.know_kept.ensures (record { row = c.stream.inside.row; file = c.stream.inside.file; work = c.stream.inside.work }) (rw (← c.stream.view_is) at c.requires.stream) c.args.size (rw (← c.stream.view_is) at c.requires.near)) c.keep.ensures)

pub returns-clause-stream : goal.returns-clause-stream
returns-clause-stream g c =
    cut-has g.S.Store.tells c.args.self.now c.know_kept.ensures (record { row = c.stream.inside.row; file = c.stream.inside.file; work = c.stream.inside.work }) (rw (← c.stream.view_is) at c.requires.stream) c.args.size (rw (← c.stream.view_is) at c.requires.near) c.keep.new.self c.truncate_within.new.self c.keep.ensures
    (sym c.pages-before.ensures.pages ∙ c.pages-before.ensures.blocks) (sym c.pages-after.ensures.pages ∙ c.pages-after.ensures.blocks)
    c.truncate_within.ensures.bytes c.truncate_within.ensures.length c.truncate_within.ensures.position c.truncate_within.ensures.reserve c.truncate_within.ensures.stored
