use Rattle.std.proofs.Common.{◌≡◌, refl, []}
use Rattle.std.specs.Fmt.{digits}
use Rattle.hex.proofs.OnLiterals.{hex_on_literals}
use Rattle.serde_json.proofs.OnLiterals.{serde_json_on_literals}
use Rattle.opfs_hist.specs.declared.reply.Refusal.TheVariants as refusal
use Rattle.opfs_hist.specs.declared.reply.Reply.TheVariants as reply
use Rattle.opfs_machine.specs.Histories.{Legal}
use Rattle.opfs_machine.specs.Machine.{whole_machine}
use Rattle.opfs_examples.specs.Trying.{try_opening, one_agent, refused}
use Rattle.opfs_examples.specs.Faults.{a_disk_fault_leaves_the_stream_open_history}
use Rattle.opfs_examples.proofs.Runs.{answers, faults, differs}
use Rattle.opfs_examples.proofs.faults.a_disk_fault_leaves_the_stream_open.Goals as goal

other : (reply.FileInfo 5 0) ≡ (reply.FileInfo 0 0) → ⊥
other e = cc

sound : (reply.FileInfo 5 0) ≡ refused refusal.DiskFault → ⊥
sound e = cc

-- the calls before the close, the close, and what follows
after_fault : Legal (try_opening one_agent) a_disk_fault_leaves_the_stream_open_history
unfolding whole_machine
after_fault = (
  answers _ _ _ refl refl refl refl,
  (
    answers _ _ _ refl refl refl refl,
    (
      answers _ _ _ refl refl refl refl,
      (
        answers _ _ _ refl refl refl refl,
        (
          faults _ _ _ refl refl refl refl refl ([], refl),
          (answers _ _ _ refl refl refl refl, (answers _ _ _ refl refl refl refl, (answers _ _ _ refl refl refl refl, refl))),
        ),
      ),
    ),
  ),
)

pub returns : goal.returns
unfolding whole_machine digits hex_on_literals serde_json_on_literals
returns c = record {
  legal = after_fault;
  text = refl;
  strict = λ h. differs _ _ _ (reply.FileInfo 0 0) refl other sound h.1.1.1.1.1.0;
}
