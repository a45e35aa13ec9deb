use Rattle.std.proofs.Common.{arith}
use Rattle.opfs_memory.specs.Overwrites.{is_overwritten}
use Rattle.opfs_memory.proofs.bytes.overwrite.Goals as goal

pub returns : goal.returns
returns c = is_overwritten c.args.at c.args.all.now c.args.bytes.now c.requires _ _ (omega arith) c.copy_from_slice.ensures.after
