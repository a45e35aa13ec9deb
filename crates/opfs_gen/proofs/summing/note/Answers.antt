use Rattle.std.proofs.Common.{refl}
use Rattle.opfs_gen.proofs.Summed.{told-more}
use Rattle.opfs_gen.proofs.summing.note.Goals as goal

pub returns : goal.returns
returns c = λ es told. told-more es c.args.entry.now c.args.told.now _ c.count_line.new.told told refl refl refl c.in_ok-line.ensures.ok c.in_ok-count_line.ensures
