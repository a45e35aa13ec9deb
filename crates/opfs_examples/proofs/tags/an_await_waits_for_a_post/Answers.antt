use Rattle.std.proofs.Common.{◌≡◌, refl}
use Rattle.std.specs.Fmt.{digits}
use Rattle.hex.proofs.OnLiterals.{hex_on_literals}
use Rattle.serde_json.proofs.OnLiterals.{serde_json_on_literals}
use Rattle.opfs_hist.specs.declared.reply.Refusal.TheVariants as refusal
use Rattle.opfs_hist.specs.declared.reply.Reply.TheVariants as reply
use Rattle.opfs_machine.specs.Machine.{whole_machine}
use Rattle.opfs_examples.specs.Trying.{refused}
use Rattle.opfs_examples.specs.Tags.{two_agents, an_await_waits_for_a_post_history}
use Rattle.opfs_examples.proofs.Runs.{legal-by_run, differs}
use Rattle.opfs_examples.proofs.tags.an_await_waits_for_a_post.Goals as goal

other : (refused refusal.Stuck) ≡ reply.Done → ⊥
other e = cc

sound : (refused refusal.Stuck) ≡ refused refusal.DiskFault → ⊥
sound e = cc

pub returns : goal.returns
unfolding whole_machine digits hex_on_literals serde_json_on_literals
returns c = record {
  legal = legal-by_run two_agents an_await_waits_for_a_post_history refl refl;
  text = refl;
  strict = λ h. differs _ _ _ reply.Done refl other sound h.1.1.0;
}
