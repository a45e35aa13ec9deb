use Rattle.std.proofs.Common.{ap}
use Rattle.opfs_turns.specs.Asking.Answers.{IsLength}
use Rattle.opfs_turns.proofs.asking.Answered.{is_read, kind-answered}
use Rattle.opfs_turns.proofs.asking.asking.ask_length.Goals as goal

pub unreachable-requires : goal.unreachable-requires
unreachable-requires g c =
    let told = kind-answered g.S.Store.tells c.args.turns.now c.ask_work.new.turns c.args.op c.in_ok-acted.acted IsLength (λ r is. ap is_read is.1) c.requires.answer (c.in_ok-acted.ensures.shared) in
    c.in_default.not-Length told.0 told.1
