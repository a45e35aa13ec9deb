use Rattle.std.proofs.Common.{◌≡◌, refl}
use Rattle.std.specs.Fmt.{digits}
use Rattle.hex.proofs.OnLiterals.{hex_on_literals}
use Rattle.serde_json.proofs.OnLiterals.{serde_json_on_literals}
use Rattle.opfs_hist.specs.declared.reply.Refusal.TheVariants as refusal
use Rattle.opfs_hist.specs.declared.reply.Reply.TheVariants as reply
use Rattle.opfs_machine.specs.Machine.{whole_machine}
use Rattle.opfs_examples.specs.Trying.{refused}
use Rattle.opfs_examples.specs.Room.{quota_of_two_blocks, the_quota_refuses_a_write_history}
use Rattle.opfs_examples.proofs.Runs.{legal-by_run, differs}
use Rattle.opfs_examples.proofs.room.the_quota_refuses_a_write.Goals as goal

other : reply.Done ≡ (refused (refusal.QuotaExceededError 2 1 2)) → ⊥
other e = cc

sound : reply.Done ≡ refused refusal.DiskFault → ⊥
sound e = cc

pub returns : goal.returns
unfolding whole_machine digits hex_on_literals serde_json_on_literals
returns c = record {
  legal = legal-by_run quota_of_two_blocks the_quota_refuses_a_write_history refl refl;
  text = refl;
  strict = λ h. differs _ _ _ (refused (refusal.QuotaExceededError 2 1 2)) refl other sound h.1.1.1.1.0;
}
