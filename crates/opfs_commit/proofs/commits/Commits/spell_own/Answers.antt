use Rattle.std.proofs.Common.{◌≡◌, true, sym, ◌∙◌, arith}
use Rattle.opfs_codec.specs.Charges.{charge}
use Rattle.opfs_codec.specs.Fields.{plain}
use Rattle.opfs_commit.specs.Seen.{KeptBack, has_room}
use Rattle.opfs_commit.proofs.Spelling.{spelled_room}
use Rattle.opfs_commit.proofs.commits.Commits.spell_own.Goals as goal

pub returns-then-len-self-clause-room : goal.returns-then-len-self-clause-room
returns-then-len-self-clause-room c few =
    let k : KeptBack = c.args.self.now in
    let room : has_room k (charge (plain c.args.own.now)) ≡ true = sym c.has_room.ensures ∙ c.if-not-has_room.false in
    absurd (omega (
      arith,
      c.if-len-self.true,
      c.len.ensures,
      c.write.new.into.ok.0,
      spelled_room (record { bytes = c.self.inside.bytes.items; count = c.self.inside.count; long = c.self.inside.long; room = c.self.inside.room }) (plain c.args.own.now) c.write.new.into.items (rw (← c.self.view_is) at room) few c.in-Ok.ensures.written,
    ))

pub returns-clause-short : goal.returns-clause-short
returns-clause-short c = sym c.has_room.ensures ∙ c.if-not-has_room.false
