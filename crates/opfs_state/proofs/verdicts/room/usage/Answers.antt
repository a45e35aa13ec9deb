use Rattle.std.proofs.Common.{◌≡◌, Option, Some, sym, ap, ◌∙◌}
use Rattle.std.specs.Option.{option_copied}
use Rattle.opfs_base.specs.Texts.{Text}
use Rattle.opfs_machine.specs.Contents.{in_lengths}
use Rattle.opfs_machine.specs.Replies.{origin_in}
use Rattle.opfs_machine.specs.Sums.{usage}
use Rattle.opfs_state.proofs.verdicts.room.usage.Goals as goal

pub returns-in-Some : goal.returns-in-Some
returns-in-Some c =
    let m = c.args.standing.now.machine in
    let caller : option_copied c.args.caller ≡ Some c.in-Some.key.now = ap option_copied c.in-Some.is in
    c.usage.ensures ∙ ap (usage in_lengths m) (c.requires c.in-Some.key.now caller) ∙ sym (ap (λ (o : Option Text). usage in_lengths m (origin_in o)) caller)
