use Rattle.opfs_turns.proofs.asking.Answered.{read-answered}
use Rattle.opfs_turns.proofs.asking.asking.ask_bytes.Goals as goal

pub unreachable-requires : goal.unreachable-requires
unreachable-requires g c =
    let told = read-answered g.S.Store.tells c.args.turns.now c.ask_work.new.turns c.args.op c.in_ok-acted.acted c.requires.answer (c.in_ok-acted.ensures.shared) in
    c.in_default.not-Read told.0 told.1
