use Rattle.std.proofs.Common.{◌∙◌, sym}
use Rattle.opfs_gen.proofs.Walked.{all-own}
use Rattle.opfs_gen.proofs.own.are_own.Goals as goal

pub returns-clause-own : goal.returns-clause-own
returns-clause-own c = λ is. all-own c.args.history.now (sym c.tell_own.ensures ∙ is)
