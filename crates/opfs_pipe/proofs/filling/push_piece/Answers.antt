use Rattle.std.proofs.Common.{rules}
use Rattle.opfs_pipe.proofs.Joined.{sliced-one, sliced-stopped}
use Rattle.opfs_pipe.proofs.Lists.{window-whole}
use Rattle.opfs_pipe.proofs.filling.push_piece.Goals as goal

pub returns-in-Ok-clause-sliced : goal.returns-in-Ok-clause-sliced
returns-in-Ok-clause-sliced g c =
    sliced-one g.S.Store.tells c.args.reader.now c.slice-sliced.new.self c.know_kept.ensures c.know_kept-2.ensures c.args.from.now c.requires.snapshot c.args.at c.args.size c.in-Ok.piece
    (window-whole c.args.from.now.bytes c.args.at c.args.size c.requires.reach) c.in-Ok.ensures

pub returns-in-Err-clause-left : goal.returns-in-Err-clause-left
returns-in-Err-clause-left g c =
    (search rules, sliced-stopped g.S.Store.tells c.args.reader.now c.slice-sliced.new.self c.know_kept.ensures c.args.from.now c.requires.snapshot c.args.at c.args.size c.in-Err.stop c.in-Err.ensures)
