use Rattle.std.proofs.Common.{◌≡◌, refl, ap}
use Rattle.std.specs.Prelude.{codes}
use Rattle.std.specs.Fmt.{digits}
use Rattle.hex.proofs.OnLiterals.{hex_on_literals}
use Rattle.serde_json.proofs.OnLiterals.{serde_json_on_literals}
use Rattle.opfs_hist.specs.declared.reply.Refusal.TheVariants as refusal
use Rattle.opfs_hist.specs.declared.reply.Reply.TheVariants as reply
use Rattle.opfs_machine.specs.Machine.{whole_machine}
use Rattle.opfs_examples.specs.Trying.{try_opening, one_agent, refused}
use Rattle.opfs_examples.specs.Streams.{a_kept_stream_writes_over_what_is_there_history}
use Rattle.opfs_examples.proofs.Runs.{legal-by_run, differs, read_length}
use Rattle.opfs_examples.proofs.streams.a_kept_stream_writes_over_what_is_there.Goals as goal

other : (reply.Read (codes "Ju")) ≡ (reply.Read (codes "Jullo")) → ⊥
other e = let lengths : 2 ≡ 5 = ap read_length e in cc

sound : (reply.Read (codes "Ju")) ≡ refused refusal.DiskFault → ⊥
sound e = cc

pub returns : goal.returns
unfolding whole_machine digits hex_on_literals serde_json_on_literals
returns c = record {
  legal = legal-by_run (try_opening one_agent) a_kept_stream_writes_over_what_is_there_history refl refl;
  text = refl;
  strict = λ h. differs _ _ _ (reply.Read (codes "Jullo")) refl other sound h.1.1.1.1.1.1.1.1.1.1.0;
}
