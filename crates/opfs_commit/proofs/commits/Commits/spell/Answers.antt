use Rattle.std.proofs.Common.{length, ap, arith}
use Rattle.std.proofs.lemmas.Bool.{false≢true}
use Rattle.std.proofs.lemmas.List.{length-append}
use Rattle.opfs_codec.specs.Fields.{plain}
use Rattle.opfs_codec.specs.Spelling.{spelling}
use Rattle.opfs_codec.specs.declared.change.Format.TheVariants.{New}
use Rattle.opfs_codec.proofs.WritingLemmas.{spelling_below}
use Rattle.opfs_commit.proofs.Spelling.{quiet_few}
use Rattle.opfs_commit.proofs.commits.Commits.spell.Goals as goal

pub unreachable-requires : goal.unreachable-requires
unreachable-requires c =
    let few = quiet_few (plain c.args.change.now) c.requires.quiet in
    let room = rw (← c.self.view_is) at c.requires.room in
    false≢true (c.in-Err.ensures.room (omega (arith, room, c.self.invariant.0, c.self.inside.bytes.ok.0)) few)

pub invariant_of-self : goal.invariant_of-self
invariant_of-self c =
    let few = quiet_few (plain c.args.change.now) c.requires.quiet in
    let room = rw (← c.self.view_is) at c.requires.room in
    let bytes = ap length c.in-Ok.ensures.written in (
      omega (arith, c.self.invariant.0, c.in-Ok.ensures.capacity),
      c.self.invariant.1,
      omega (arith, room, bytes, length-append c.self.inside.bytes.items (spelling New (plain c.args.change.now)), spelling_below (plain c.args.change.now) few),
    )
