use Rattle.std.proofs.Common.{ap}
use Rattle.opfs_turns.specs.Asking.Answers.{IsEstimate}
use Rattle.opfs_turns.proofs.asking.Answered.{is_read, kind-answered}
use Rattle.opfs_turns.proofs.asking.asking.ask_estimate.Goals as goal

pub unreachable-requires : goal.unreachable-requires
unreachable-requires g c =
    let told = kind-answered g.S.Store.tells c.args.turns.now c.ask.new.turns c.args.op c.in_ok-acted.acted IsEstimate (λ r is. ap is_read is.2) c.requires.answer (c.in_ok-acted.ensures) in
    c.in_default.not-Estimate told.0 told.1 told.2
