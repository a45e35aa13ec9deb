use Rattle.std.proofs.Common.{◌≡◌, refl}
use Rattle.std.specs.Prelude.{codes}
use Rattle.std.specs.Fmt.{digits}
use Rattle.hex.proofs.OnLiterals.{hex_on_literals}
use Rattle.serde_json.proofs.OnLiterals.{serde_json_on_literals}
use Rattle.opfs_hist.specs.declared.reply.Refusal.TheVariants as refusal
use Rattle.opfs_hist.specs.declared.reply.Reply.TheVariants as reply
use Rattle.opfs_machine.specs.Machine.{whole_machine}
use Rattle.opfs_examples.specs.Trying.{try_opening, one_agent, refused}
use Rattle.opfs_examples.specs.Streams.{a_cut_stream_moves_its_offset_history}
use Rattle.opfs_examples.proofs.Runs.{legal-by_run, differs}
use Rattle.opfs_examples.proofs.streams.a_cut_stream_moves_its_offset.Goals as goal

other : (reply.Read (codes "abc")) ≡ (reply.Read (codes "abcZ")) → ⊥
other e = cc

sound : (reply.Read (codes "abc")) ≡ refused refusal.DiskFault → ⊥
sound e = cc

pub returns : goal.returns
unfolding whole_machine digits hex_on_literals serde_json_on_literals
returns c = record {
  legal = legal-by_run (try_opening one_agent) a_cut_stream_moves_its_offset_history refl refl;
  text = refl;
  strict = λ h. differs _ _ _ (reply.Read (codes "abcZ")) refl other sound h.1.1.1.1.1.1.1.1.1.1.0;
}
