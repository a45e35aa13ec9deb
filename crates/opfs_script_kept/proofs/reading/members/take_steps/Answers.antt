use Rattle.std.proofs.Common.{◌≡◌, ◌∷◌, rules}
use Rattle.json.specs.Token.{Token}
use Rattle.opfs_script_kept.specs.Packed.Telling.{steps_told}
use Rattle.opfs_script_kept.specs.Reading.Steps.{AreSteps}
use Rattle.opfs_script_kept.proofs.reading.Naming.{takes-steps}
use Rattle.opfs_script_kept.proofs.reading.members.take_steps.Goals as goal

pub returns-clause-takes : goal.returns-clause-takes
returns-clause-takes c _ =
    let is : c.args.reader.now ≡ Token.begin_array ∷ c.next.new.self = search rules in
    let steps : AreSteps c.next.new.self (steps_told c.in-Some.texts) c.read_steps.new.reader = rw c.in-Some.is at c.in_ok-texts.ensures.read in
    takes-steps c.args.agent c.args.reader.now c.next.new.self c.read_steps.new.reader c.in-Some.texts c.args.draft.now is steps
