use Rattle.std.proofs.Common.{◌≡◌, ◌++◌, refl, ap, ◌∙◌}
use Rattle.opfs_data.specs.Writes.{WriteList, page_writes, page_moves, writes_of}
use Rattle.opfs_data.proofs.SwapLemmas.{on_err}
use Rattle.opfs_data.proofs.WriteLemmas.{own_push}
use Rattle.opfs_data.proofs.writes.PageWrites.add_own_move.Goals as goal

pub returns-in_err-push-clause-writes : goal.returns-in_err-push-clause-writes
returns-in_err-push-clause-writes c = λ given. ap (λ (w : WriteList). page_writes w given) c.self.view_is ∙ c.in_ok-from.ensures.writes given

pub returns-in_err-push-clause-err : goal.returns-in_err-push-clause-err
returns-in_err-push-clause-err c =
    on_err c.from_residual-in_err-push.result _
    (λ given. ap (writes_of c.self.inside.own.items given) c.in_err-push.ensures.items ∙ ap (λ (w : WriteList). page_moves w given) c.self.view_is ∙ c.in_ok-from.ensures.moves given)

pub returns-clause-added : goal.returns-clause-added
returns-clause-added c = λ given.
    let own : c.self.inside.own.items ≡ c.args.self.now.own ++ c.args.bytes.now = ap (λ (w : WriteList). w.own) c.self.view_is ∙ c.in_ok-from.ensures.own in
    own_push c.self.inside.own.items c.args.self.now.own c.args.bytes.now given c.self.inside.moves.items c.push.new.self.items c.make.result c.args.page 0 c.in_ok-from.from 4096 (page_moves c.args.self.now given) own c.in_ok-push.ensures.items c.make.ensures refl c.in_ok-from.ensures.from c.requires.whole
    (ap (λ (w : WriteList). page_moves w given) c.self.view_is ∙ c.in_ok-from.ensures.moves given)

pub returns-clause-writes : goal.returns-clause-writes
returns-clause-writes c = λ given. ap (λ (w : WriteList). page_writes w given) c.self.view_is ∙ c.in_ok-from.ensures.writes given
