use Rattle.std.proofs.Common.{◌≡◌, ◌∙◌, rules, sym}
use Rattle.opfs_laws.proofs.Spots.{exact_places}
use Rattle.opfs_rulings.proofs.Here.{equal_from}
use Rattle.opfs_rulings.proofs.course.is_of.Goals as goal

pub returns : goal.returns
returns c = λ is.
    let agent : c.args.course.now.agent ≡ c.args.agent = search rules in
    let row : c.args.course.now.row ≡ c.args.row = search rules in
    (agent, row, sym (exact_places c.args.dir.now c.args.course.now.dir (sym c.compare_places.ensures ∙ equal_from _ (sym c.is_eq.ensures ∙ is))))
