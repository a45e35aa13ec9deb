use Rattle.std.proofs.Common.{◌≡◌, ℕ, sym, subst}
use Rattle.opfs_base.specs.Texts.{Text}
use Rattle.opfs_hist.specs.declared.reply.Reply.TheVariants as reply
use Rattle.opfs_store.specs.Acts.Asking.{IsSmallData, IsSmallPlace}
use Rattle.opfs_agent.proofs.handle_calls.Facts.{may-write}
use Rattle.opfs_agent.proofs.handle_calls.Shared.{write-told, written-either}
use Rattle.opfs_agent.proofs.agent.Agent.sync_write.Goals as goal

pub ask_length-done-requires-clause-may : goal.ask_length-done-requires-clause-may
ask_length-done-requires-clause-may g c = may-write g.S.Store.tells c.args.self.now (record { row = c.handle.inside.row; file = c.handle.inside.file; mode = c.handle.inside.mode; work = c.handle.inside.work }) (rw (← c.handle.view_is) at c.requires.handle) c.in-Ok.bytes c.args.at (subst (λ (b : Text). IsSmallData b × IsSmallPlace c.args.at) (sym c.in-Ok.ensures) c.requires.small)

pub ask_length-done-requires-clause-answer : goal.ask_length-done-requires-clause-answer
ask_length-done-requires-clause-answer g c = write-told c.handle.inside.row c.in-Ok.bytes c.args.at

pub returns-clause-handle : goal.returns-clause-handle
returns-clause-handle g c =
    written-either g.S.Store.tells c.args.self.now c.ask_length-done.new.self c.know_kept.ensures c.know_kept-2.ensures (record { row = c.handle.inside.row; file = c.handle.inside.file; mode = c.handle.inside.mode; work = c.handle.inside.work }) c.ask_length-done.new.work (rw (← c.handle.view_is) at c.requires.handle)
    (λ (count : ℕ) answered _. answered ≡ reply.Length count) c.in-Ok.bytes c.args.at c.ask_length-done.result c.ask_length-done.ensures.shared c.ask_length-done.ensures.left c.ask_length-done.ensures.same
