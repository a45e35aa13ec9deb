use Rattle.std.proofs.Common.{sym, ◌∙◌}
use Rattle.opfs_shed.specs.Tied.{is_origin, total_in}
use Rattle.opfs_shed.proofs.Usages.{origin_cmp, inserted_same, none_from}
use Rattle.opfs_shed.proofs.Values.{is_some-insert_entry}
use Rattle.opfs_shed.proofs.totals.add_total.Goals as goal

pub returns-clause-same : goal.returns-clause-same
returns-clause-same c = λ other.
    rw c.in_ok-insert.ensures.entries
    (inserted_same c.args.totals.now.entries c.in_ok-bytes.bytes other
    (rw c.in_ok-bytes.ensures.items (none_from (total_in c.args.totals.now.entries c.args.origin.now) (sym c.contains_key.ensures ∙ c.if-contains_key.false))))

pub returns-clause-kept : goal.returns-clause-kept
returns-clause-kept c = λ other has. rw c.in_ok-insert.ensures.entries (is_some-insert_entry origin_cmp (is_origin other) c.args.totals.now.entries c.in_ok-bytes.bytes 0 has)
