use Rattle.std.proofs.Common.{◌+◌, ◌∙◌, drop, ap, rules}
use Rattle.opfs_transcripts.specs.Told.Goings.{closing}
use Rattle.opfs_judge.proofs.Players.{row-ended}
use Rattle.opfs_judge.proofs.player.after_ending.Goals as goal

pub returns-in_ok-number : goal.returns-in_ok-number
returns-in_ok-number c steps =
    let opened = c.args.hand.now.opened in
    ap (λ n. closing n (drop (c.args.ended + 1) opened)) c.in_ok-number.ensures ∙ row-ended c.args.number.now c.args.ended opened (search rules)
