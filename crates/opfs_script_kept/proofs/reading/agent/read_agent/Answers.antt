use Rattle.std.proofs.Common.{◌≡◌, ◌∷◌, rules}
use Rattle.json.specs.Token.{Token}
use Rattle.opfs_script_kept.specs.Reading.Members.{AreMembers}
use Rattle.opfs_script_kept.proofs.reading.Heading.{finished-agent}
use Rattle.opfs_script_kept.proofs.reading.agent.read_agent.Goals as goal

pub returns-clause-read : goal.returns-clause-read
returns-clause-read c =
    let is : c.args.reader.now ≡ Token.begin_object ∷ c.next.new.self = search rules in
    let all : AreMembers c.args.number c.next.new.self c.in-Some.draft c.read_members.new.reader = rw c.in-Some.is at c.in_ok-draft.ensures.read in
    finished-agent c.args.number c.args.reader.now c.next.new.self c.read_members.new.reader c.in-Some.draft c.finished.result is all c.finished.ensures
