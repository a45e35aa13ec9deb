use Rattle.std.proofs.Common.{◌≡◌, ◌∷◌, rules}
use Rattle.json.specs.Token.{Token}
use Rattle.opfs_script_kept.proofs.reading.Naming.{takes-origin}
use Rattle.opfs_script_kept.proofs.reading.members.take_origin.Goals as goal

pub returns-in-Ok-clause-takes : goal.returns-in-Ok-clause-takes
returns-in-Ok-clause-takes c _ =
    let is : c.args.reader.now ≡ Token.string c.in-Some-String.origin.now ∷ c.next.new.self = search rules in
    takes-origin c.args.agent c.args.reader.now c.next.new.self c.in-Some-String.origin.now c.in-Ok.key c.args.draft.now is c.in-Ok.ensures.key c.in-Ok.ensures.origin
