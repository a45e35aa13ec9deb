use Rattle.std.proofs.Common.{[]}
use Rattle.opfs_data.specs.Rows.{row_at, pages_at}
use Rattle.opfs_storage_tests.proofs.data.Again.{saved_for, one_first}
use Rattle.opfs_storage_tests.proofs.data.swap.put_first.Goals as goal

pub write-requires-clause-within : goal.write-requires-clause-within
write-requires-clause-within c = c.in_ok-writes.ensures.bytes []

pub write-requires-clause-saved : goal.write-requires-clause-saved
write-requires-clause-saved c = saved_for (row_at 1 1 c.prepare.new.self).saved (pages_at 1 1 c.prepare.new.self) c.in_ok-writes.writes [] c.in_ok-prepare.ensures.saved

pub returns-clause-one : goal.returns-clause-one
returns-clause-one c =
    one_first c.args.swap.now c.prepare.new.self c.write.new.self _ _ c.requires.none c.in_ok-prepare.ensures.others c.in_ok-write.ensures.others c.in_ok-write.ensures.there c.in_ok-prepare.ensures.same
    (c.in_ok-writes.ensures.pages []) c.in_ok-write.ensures.pages
