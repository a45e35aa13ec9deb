use Rattle.std.proofs.Common.{[]}
use Rattle.opfs_data.specs.Rows.{row_at, pages_at}
use Rattle.opfs_storage_tests.proofs.data.Again.{ok_holds, err_holds, one_left, one_written, saved_for}
use Rattle.opfs_storage_tests.proofs.data.swap.put_again.Goals as goal

pub returns-then-is_err-clause-one : goal.returns-then-is_err-clause-one
returns-then-is_err-clause-one c =
    one_left c.args.swap.now c.prepare.new.self c.write.new.self c.requires.one c.in_ok-prepare.ensures.others c.write.ensures.others c.write.ensures.there c.in_ok-prepare.ensures.same
    (err_holds c.write.result _ c.if-is_err.ensures.value c.write.ensures.len) (err_holds c.write.result _ c.if-is_err.ensures.value c.write.ensures.blocks)

pub returns-clause-one : goal.returns-clause-one
returns-clause-one c =
    one_written c.args.swap.now c.prepare.new.self c.write.new.self _ _ c.requires.one c.in_ok-prepare.ensures.others c.write.ensures.others c.write.ensures.there c.in_ok-prepare.ensures.same
    (c.in_ok-writes.ensures.pages []) (ok_holds c.write.result _ c.if-is_err.ensures.value c.write.ensures.pages)

pub write-requires-clause-within : goal.write-requires-clause-within
write-requires-clause-within c = c.in_ok-writes.ensures.bytes []

pub write-requires-clause-saved : goal.write-requires-clause-saved
write-requires-clause-saved c = saved_for (row_at 1 1 c.prepare.new.self).saved (pages_at 1 1 c.prepare.new.self) c.in_ok-writes.writes [] c.in_ok-prepare.ensures.saved
