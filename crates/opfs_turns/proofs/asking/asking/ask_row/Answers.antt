use Rattle.std.proofs.Common.{◌≡◌, ap}
use Rattle.opfs_hist.specs.declared.reply.Reply.TheVariants as reply
use Rattle.opfs_turns.proofs.asking.Answered.{is_read, kind-answered, made-of}
use Rattle.opfs_turns.proofs.asking.asking.ask_row.Goals as goal

pub returns-clause-shared : goal.returns-clause-shared
returns-clause-shared g c =
    made-of g.S.Store.tells c.args.turns.now c.ask_work.new.turns c.args.op c.in_ok-_acted._acted (λ x answered given. answered ≡ reply.Done) tt
    (kind-answered g.S.Store.tells c.args.turns.now c.ask_work.new.turns c.args.op c.in_ok-_acted._acted (λ answered. answered ≡ reply.Done) (λ r is. ap is_read is) c.requires.answer (c.in_ok-_acted.ensures.shared))
    (c.in_ok-_acted.ensures.shared)
