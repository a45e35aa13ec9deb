use Rattle.std.proofs.Common.{arith, take, length-take-le, subst}
use Rattle.std.specs.Io.BufRead.{FillKeeps}
use Rattle.opfs_port.proofs.Pieces.{starts_if_some}
use Rattle.opfs_port.proofs.reading.take_piece.Goals as goal

pub returns-then-count-most-clause-piece : goal.returns-then-count-most-clause-piece
returns-then-count-most-clause-piece g c =
    let held = c.in-Ok.held.now in
    let count = c.to_feed-count in
    let rested = c.fill_buf.follows.lender-at-none in
    let filled = subst (FillKeeps _ (g.R.Read.remaining rested) (g.R.BufRead.consumable_len rested)) c.in-Ok.is c.fill_buf.follows.holds-at-none in (
      take count.result held,
      count.ensures.clean,
      omega (arith, c.if-count-most.true, c.len.ensures, length-take-le count.result held count.ensures.within),
      filled.0,
      starts_if_some (g.R.Read.remaining c.args.reader.now) held count.result count.ensures.within c.in-Ok.ensures.front,
    )
