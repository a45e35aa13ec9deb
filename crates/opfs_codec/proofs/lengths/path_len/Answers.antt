use Rattle.std.proofs.Common.{length, sum_by, ap, arith}
use Rattle.std.proofs.lemmas.List.{take_all}
use Rattle.opfs_codec.proofs.WritingLemmas.{name_bytes, names_below, sum_more}
use Rattle.opfs_codec.proofs.lengths.path_len.Goals as goal

pub overflow_add-total-in-loop-name : goal.overflow_add-total-in-loop-name
overflow_add-total-in-loop-name c =
    let names = c.names-name-items.result.now in
    let same = c.names-name-items.ensures in
    let more = sum_more names c.loop-name.name-index c.name-item.result (omega (arith, c.loop-name-test.true, c.loop-name.auto)) c.name-item.is in
    omega (arith, c.requires.0, names_below c.args.path.now c.requires.1, more.1, c.loop-name.invariant, ap (sum_by name_bytes) same, ap length same, ap length c.as_bytes.ensures)

pub returns-clause-small : goal.returns-clause-small
returns-clause-small c =
    let names = c.names-name-items.result.now in
    let same = c.names-name-items.ensures in
    let whole = take_all c.loop-name.name-index names (omega (arith, c.loop-name-test.false, c.loop-name.auto)) in
    omega (arith, c.requires.0, names_below c.args.path.now c.requires.1, c.loop-name.invariant, ap (sum_by name_bytes) whole, ap (sum_by name_bytes) same, ap length same)
