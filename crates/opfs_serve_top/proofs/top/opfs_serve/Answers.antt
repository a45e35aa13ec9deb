use Rattle.opfs_outside.specs.Turns.{of_host}
use Rattle.opfs_serve_top.proofs.Others.{apart-from}
use Rattle.opfs_serve_top.proofs.top.opfs_serve.Goals as goal

pub returns-in_err-reply-2-clause-others : goal.returns-in_err-reply-2-clause-others
returns-in_err-reply-2-clause-others g c = λ told. apart-from (of_host g.H.Host c.args.host.now c.serve_path.new.host) c.args.words.now c.in-Some.path.now c.in-Some.ensures.some (c.serve_path.ensures.others told)

pub returns-clause-others : goal.returns-clause-others
returns-clause-others g c = λ told. apart-from (of_host g.H.Host c.args.host.now c.serve_path.new.host) c.args.words.now c.in-Some.path.now c.in-Some.ensures.some (c.in_ok-reply-2.ensures.others told)
