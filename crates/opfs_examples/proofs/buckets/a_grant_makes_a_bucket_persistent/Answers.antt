use Rattle.std.proofs.Common.{◌≡◌, refl, true, false}
use Rattle.std.specs.Fmt.{digits}
use Rattle.hex.proofs.OnLiterals.{hex_on_literals}
use Rattle.serde_json.proofs.OnLiterals.{serde_json_on_literals}
use Rattle.opfs_hist.specs.declared.reply.Refusal.TheVariants as refusal
use Rattle.opfs_hist.specs.declared.reply.Reply.TheVariants as reply
use Rattle.opfs_machine.specs.Machine.{whole_machine}
use Rattle.opfs_examples.specs.Trying.{try_opening, refused}
use Rattle.opfs_examples.specs.Buckets.{one_granted, a_grant_makes_a_bucket_persistent_history}
use Rattle.opfs_examples.proofs.Runs.{legal-by_run, differs}
use Rattle.opfs_examples.proofs.buckets.a_grant_makes_a_bucket_persistent.Goals as goal

other : (reply.Flag false) ≡ (reply.Flag true) → ⊥
other e = cc

sound : (reply.Flag false) ≡ refused refusal.DiskFault → ⊥
sound e = cc

pub returns : goal.returns
unfolding whole_machine digits hex_on_literals serde_json_on_literals
returns c = record {
  legal = legal-by_run (try_opening one_granted) a_grant_makes_a_bucket_persistent_history refl refl;
  text = refl;
  strict = λ h. differs _ _ _ (reply.Flag true) refl other sound h.1.0;
}
