use Rattle.std.proofs.Common.{ap, subst, sym, ◌∙◌}
use Rattle.opfs_machine.specs.Rows.{Rows}
use Rattle.opfs_base.specs.Texts.{Text}
use Rattle.opfs_rulings.specs.Courses.{names_in}
use Rattle.opfs_rulings.specs.Spots.{AreRising, IsUpto}
use Rattle.opfs_rulings.proofs.Here.{rest-is}
use Rattle.opfs_rulings.proofs.Within.{names-from, rising-drop}
use Rattle.opfs_rulings.proofs.spots.rows_from.Goals as goal

pub returns-clause-rising : goal.returns-clause-rising
returns-clause-rising c = subst (λ (es : Rows Text). AreRising es) (sym (rest-is c.args.rows.now c.first_from-at.result)) (rising-drop c.first_from-at.result c.args.rows.now c.requires)

pub returns-clause-upto : goal.returns-clause-upto
returns-clause-upto c = subst (λ (es : Rows Text). IsUpto c.args.place.now es) (sym (rest-is c.args.rows.now c.first_from-at.result)) c.first_from-at.ensures.upto

pub returns-clause-names : goal.returns-clause-names
returns-clause-names c =
    ap (λ (es : Rows Text). names_in c.args.place.now es) (rest-is c.args.rows.now c.first_from-at.result)
    ∙ names-from c.args.place.now c.first_from-at.result c.args.rows.now c.first_from-at.ensures.behind
