use Rattle.std.proofs.Common.{◌≡◌, [], ◌∷◌, List, refl}
use Rattle.opfs_base.specs.Texts.{Text}
use Rattle.opfs_hist.specs.declared.reply.Refusal.TheVariants as refusal
use Rattle.opfs_hist.specs.declared.reply.Reply.TheVariants as reply
use Rattle.opfs_machine.specs.Machine.{whole_machine}
use Rattle.opfs_examples.specs.Trying.{a_example, refused}
use Rattle.opfs_examples.proofs.Runs.{unentered}
use Rattle.opfs_examples.proofs.room.an_eviction_is_entered.Goals as goal

none : (unit : Text) (units : List Text) → [] ≡ unit ∷ units → ⊥
none unit units e = cc

sound : reply.Done ≡ refused refusal.DiskFault → ⊥
sound e = cc

pub returns : goal.returns
unfolding whole_machine
returns c = λ h. unentered _ _ _ (a_example ∷ []) refl (none a_example []) sound h.1.1.1.1.1.1.1.1.1.1.1.1.1.1.0
