use Rattle.std.proofs.Common.{arith}
use Rattle.opfs_codec.specs.Fields.{plain}
use Rattle.opfs_codec.proofs.WritingLemmas.{spelled_below}
use Rattle.opfs_codec.proofs.writing.write.Goals as goal

pub returns-in_err-reserve-clause-room : goal.returns-in_err-reserve-clause-room
returns-in_err-reserve-clause-room c room few =
    absurd (omega (arith, room, spelled_below (plain c.args.change.now) few, c.spelled_len.ensures, c.in_err-reserve.ensures.full))
