use Rattle.std.proofs.Common.{◌≡◌, refl}
use Rattle.std.specs.Prelude.{codes}
use Rattle.std.specs.Fmt.{digits}
use Rattle.hex.proofs.OnLiterals.{hex_on_literals}
use Rattle.serde_json.proofs.OnLiterals.{serde_json_on_literals}
use Rattle.opfs_base.specs.declared.locator.Kind.TheVariants as kind
use Rattle.opfs_hist.specs.declared.reply.Refusal.TheVariants as refusal
use Rattle.opfs_hist.specs.declared.reply.Reply.TheVariants as reply
use Rattle.opfs_machine.specs.Machine.{whole_machine}
use Rattle.opfs_examples.specs.Trying.{try_opening, one_agent, refused}
use Rattle.opfs_examples.specs.Directories.{an_iterator_gives_what_is_made_later_history}
use Rattle.opfs_examples.proofs.Runs.{legal-by_run, differs}
use Rattle.opfs_examples.proofs.directories.an_iterator_gives_what_is_made_later.Goals as goal

other : reply.Last ≡ (reply.Child kind.File (codes "a")) → ⊥
other e = cc

sound : reply.Last ≡ refused refusal.DiskFault → ⊥
sound e = cc

pub returns : goal.returns
unfolding whole_machine digits hex_on_literals serde_json_on_literals
returns c = record {
  legal = legal-by_run (try_opening one_agent) an_iterator_gives_what_is_made_later_history refl refl;
  text = refl;
  strict = λ h. differs _ _ _ (reply.Child kind.File (codes "a")) refl other sound h.1.1.1.1.1.0;
}
