use Rattle.std.proofs.Common.{◌≡◌, refl}
use Rattle.std.specs.Fmt.{digits}
use Rattle.hex.proofs.OnLiterals.{hex_on_literals}
use Rattle.serde_json.proofs.OnLiterals.{serde_json_on_literals}
use Rattle.opfs_hist.specs.declared.reply.Refusal.TheVariants as refusal
use Rattle.opfs_hist.specs.declared.reply.Reply.TheVariants as reply
use Rattle.opfs_machine.specs.Machine.{whole_machine}
use Rattle.opfs_examples.specs.Trying.{refused}
use Rattle.opfs_examples.specs.Room.{two_blocks_for, three_whos, the_bucket_that_was_used_longest_ago_goes_history}
use Rattle.opfs_examples.proofs.Runs.{legal-by_run, differs}
use Rattle.opfs_examples.proofs.room.the_bucket_that_was_used_longest_ago_goes.Goals as goal

other : (refused refusal.NotFoundError) ≡ (reply.FileInfo 1 0) → ⊥
other e = cc

sound : (refused refusal.NotFoundError) ≡ refused refusal.DiskFault → ⊥
sound e = cc

pub returns : goal.returns
unfolding whole_machine digits hex_on_literals serde_json_on_literals
returns c = record {
  legal = legal-by_run (two_blocks_for three_whos) the_bucket_that_was_used_longest_ago_goes_history refl refl;
  text = refl;
  strict = λ h. differs _ _ _ (reply.FileInfo 1 0) refl other sound h.1.1.1.1.1.1.1.1.1.1.1.1.1.1.1.1.0;
}
