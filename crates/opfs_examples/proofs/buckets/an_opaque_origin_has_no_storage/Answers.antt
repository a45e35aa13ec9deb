use Rattle.std.proofs.Common.{◌≡◌, refl}
use Rattle.std.specs.Fmt.{digits}
use Rattle.hex.proofs.OnLiterals.{hex_on_literals}
use Rattle.serde_json.proofs.OnLiterals.{serde_json_on_literals}
use Rattle.opfs_hist.specs.declared.reply.Refusal.TheVariants as refusal
use Rattle.opfs_hist.specs.declared.reply.Reply.TheVariants as reply
use Rattle.opfs_machine.specs.Machine.{whole_machine}
use Rattle.opfs_examples.specs.Trying.{try_opening, refused}
use Rattle.opfs_examples.specs.Buckets.{one_opaque, an_opaque_origin_has_no_storage_history}
use Rattle.opfs_examples.proofs.Runs.{legal-by_run, differs}
use Rattle.opfs_examples.proofs.buckets.an_opaque_origin_has_no_storage.Goals as goal

other : reply.Done ≡ (refused refusal.SecurityError) → ⊥
other e = cc

sound : reply.Done ≡ refused refusal.DiskFault → ⊥
sound e = cc

pub returns : goal.returns
unfolding whole_machine digits hex_on_literals serde_json_on_literals
returns c = record {
  legal = legal-by_run (try_opening one_opaque) an_opaque_origin_has_no_storage_history refl refl;
  text = refl;
  strict = λ h. differs _ _ _ (refused refusal.SecurityError) refl other sound h.0;
}
