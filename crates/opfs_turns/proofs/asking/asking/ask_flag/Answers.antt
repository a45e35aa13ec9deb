use Rattle.std.proofs.Common.{ap}
use Rattle.opfs_turns.specs.Asking.Answers.{IsFlag}
use Rattle.opfs_turns.proofs.asking.Answered.{is_read, kind-answered}
use Rattle.opfs_turns.proofs.asking.asking.ask_flag.Goals as goal

pub unreachable-requires : goal.unreachable-requires
unreachable-requires g c =
    let flag = kind-answered g.S.Store.tells c.args.turns.now c.ask.new.turns c.args.op c.in_ok-acted.acted IsFlag (λ r is. ap is_read is.1) c.requires.answer (c.in_ok-acted.ensures) in
    c.in_default.not-Flag flag.0 flag.1
