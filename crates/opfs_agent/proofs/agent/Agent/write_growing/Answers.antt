use Rattle.std.proofs.Common.{sym, subst}
use Rattle.opfs_base.specs.Texts.{Text}
use Rattle.opfs_store.specs.Acts.Asking.{IsSmallData, IsSmallPlace}
use Rattle.opfs_agent.proofs.stream_calls.Facts.{may-write}
use Rattle.opfs_agent.proofs.stream_calls.Shared.{write-done, written-either}
use Rattle.opfs_agent.proofs.agent.Agent.write_growing.Goals as goal

pub ask_row-done-requires-clause-may : goal.ask_row-done-requires-clause-may
ask_row-done-requires-clause-may g c =
    may-write g.S.Store.tells c.args.self.now (record { row = c.stream.inside.row; file = c.stream.inside.file; work = c.stream.inside.work }) (rw (← c.stream.view_is) at c.requires.stream) c.in-Ok.bytes c.args.position
    (subst (λ (b : Text). IsSmallData b × IsSmallPlace c.args.position) (sym c.in-Ok.ensures) c.requires.small)

pub ask_row-done-requires-clause-answer : goal.ask_row-done-requires-clause-answer
ask_row-done-requires-clause-answer g c = write-done c.stream.inside.row c.in-Ok.bytes c.args.position

pub returns-clause-stream : goal.returns-clause-stream
returns-clause-stream g c =
    written-either g.S.Store.tells c.args.self.now c.ask_row-done.new.self c.know_kept.ensures c.know_kept-2.ensures (record { row = c.stream.inside.row; file = c.stream.inside.file; work = c.stream.inside.work }) c.ask_row-done.new.work c.in-Ok.bytes c.args.position c.ask_row-done.result (rw (← c.stream.view_is) at c.requires.stream)
    c.ask_row-done.ensures.shared c.ask_row-done.ensures.left c.ask_row-done.ensures.same
