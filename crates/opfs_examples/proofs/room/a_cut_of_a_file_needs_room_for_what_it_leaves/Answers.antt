use Rattle.std.proofs.Common.{◌≡◌, refl}
use Rattle.std.specs.Fmt.{digits}
use Rattle.hex.proofs.OnLiterals.{hex_on_literals}
use Rattle.serde_json.proofs.OnLiterals.{serde_json_on_literals}
use Rattle.opfs_hist.specs.declared.reply.Refusal.TheVariants as refusal
use Rattle.opfs_hist.specs.declared.reply.Reply.TheVariants as reply
use Rattle.opfs_machine.specs.Machine.{whole_machine}
use Rattle.opfs_examples.specs.Trying.{refused}
use Rattle.opfs_examples.specs.Room.{one_block, a_cut_of_a_file_needs_room_for_what_it_leaves_history}
use Rattle.opfs_examples.proofs.Runs.{legal-by_run, differs}
use Rattle.opfs_examples.proofs.room.a_cut_of_a_file_needs_room_for_what_it_leaves.Goals as goal

other : reply.Done ≡ (refused (refusal.DataFull 1 1 1)) → ⊥
other e = cc

sound : reply.Done ≡ refused refusal.DiskFault → ⊥
sound e = cc

pub returns : goal.returns
unfolding whole_machine digits hex_on_literals serde_json_on_literals
returns c = record {
  legal = legal-by_run one_block a_cut_of_a_file_needs_room_for_what_it_leaves_history refl refl;
  text = refl;
  strict = λ h. differs _ _ _ (refused (refusal.DataFull 1 1 1)) refl other sound h.1.1.1.1.1.1.0;
}
