use Rattle.std.proofs.Common.{None, Some, sym, ap, ◌∙◌}
use Rattle.opfs_base.specs.Places.{place_of}
use Rattle.opfs_desk_bytes.specs.Reading.Files.{has_writer}
use Rattle.opfs_desk_bytes.proofs.reading.Finding.{rest-is, next-left, next-there}
use Rattle.opfs_desk_bytes.proofs.reading.files.find_writer.Goals as goal

pub loop-next-init : goal.loop-next-init
loop-next-init c =
    let n = c.next_row-next in
    record {
      left = ap (has_writer c.args.state.now.store.machine (place_of c.args.file.now)) (sym (rest-is None n.result c.args.swap.now n.ensures.end n.ensures.next));
      there = next-there None n.result c.args.swap.now n.ensures.next;
    }

pub loop-next-preserved : goal.loop-next-preserved
loop-next-preserved c =
    let n = c.next_row-next-in-Some in
    record {
      left = next-left c.args.state.now.store.machine (place_of c.args.file.now) c.loop-next.next c.in-Some.agent c.in-Some.row c.in-Some.field-0-2 n.result c.args.swap.now c.in-Some.is (sym c.writes_file.ensures ∙ c.if-writes_file.false) (rest-is (Some (c.in-Some.agent, c.in-Some.row)) n.result c.args.swap.now n.ensures.end n.ensures.next) c.loop-next.invariant.left;
      there = next-there (Some (c.in-Some.agent, c.in-Some.row)) n.result c.args.swap.now n.ensures.next;
    }
