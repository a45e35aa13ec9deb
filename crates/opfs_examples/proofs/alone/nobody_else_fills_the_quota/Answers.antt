use Rattle.std.proofs.Common.{◌≡◌}
use Rattle.opfs_hist.specs.declared.reply.Refusal.TheVariants as refusal
use Rattle.opfs_hist.specs.declared.reply.Reply.TheVariants as reply
use Rattle.opfs_machine.specs.Machine.{whole_machine}
use Rattle.opfs_examples.proofs.alone.nobody_else_fills_the_quota.Goals as goal

other : reply.No (refusal.QuotaExceededError 4 1 4) ≡ reply.Done → ⊥
other e = cc

pub returns : goal.returns
unfolding whole_machine
returns c = λ h. other h.1.1.1.0.agrees
