use Rattle.std.proofs.Common.{◌≡◌, None, Some, arith, rules}
use Rattle.json.specs.Json.{read_key}
use Rattle.opfs_script_kept.proofs.reading.Gathering.{all-gathered, none-gathered, one-gathered}
use Rattle.opfs_script_kept.proofs.reading.members.read_members.Goals as goal

pub loop-key-init : goal.loop-key-init
loop-key-init c = none-gathered c.args.agent c.args.reader.now c.args.sums.now

pub returns-in_default-key-clause-read : goal.returns-in_default-key-clause-read
returns-in_default-key-clause-read c =
    let l = c.loop-key in
    let closed : read_key l.reader ≡ Some (None, c.next_key.new.self) = grind arith in
    all-gathered c.args.agent c.args.reader.now l.reader c.next_key.new.self l.draft c.args.sums.now l.sums l.invariant closed

pub loop-key-preserved : goal.loop-key-preserved
loop-key-preserved c =
    let l = c.loop-key in
    let new = c.take_member.new in
    let name = c.in-Some.name.now in
    let key : read_key l.reader ≡ Some (Some name, c.next_key.new.self) = grind arith in
    let taken = c.in_ok-take_member.ensures in
    one-gathered c.args.agent c.args.reader.now l.reader c.next_key.new.self new.reader name l.draft new.draft c.args.sums.now l.sums new.sums l.invariant key
    (taken.takes (search rules)) (taken.counts (search rules)) (taken.within (search rules))
