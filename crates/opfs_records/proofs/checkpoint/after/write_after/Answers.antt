use Rattle.std.proofs.Common.{arith, ◌≡◌, ◌++◌, [], List, ℕ, length, ap, ◌∙◌}
use Rattle.std.proofs.lemmas.Bool.{false≢true}
use Rattle.std.proofs.lemmas.List.{length-append}
use Rattle.opfs_codec.specs.Fields.{plain}
use Rattle.opfs_records.specs.Replay.Sums.{persistent_in}
use Rattle.opfs_records.specs.Checkpoint.After.{made_bytes, rows_after}
use Rattle.opfs_records.specs.Checkpoint.Written.{rows_bytes, units_bytes}
use Rattle.opfs_records.proofs.checkpoint.Charging.{rows_below, units_below}
use Rattle.opfs_records.proofs.checkpoint.WholeAfter.{after_builds, after_fits, after_charge, left_each, left_writable}
use Rattle.opfs_records.proofs.checkpoint.after.write_after.Goals as goal

-- what is in the buffer after the three parts were written into it
three_parts : (none first second whole rows units made : List ℕ) → none ≡ [] → first ≡ none ++ rows → second ≡ first ++ units → whole ≡ second ++ made → whole ≡ (rows ++ units) ++ made
three_parts none first second whole rows units made empty is_first is_second is_whole =
    is_whole ∙ ap (λ (xs : List ℕ). xs ++ made) (is_second ∙ ap (λ (xs : List ℕ). xs ++ units) (is_first ∙ ap (λ (xs : List ℕ). xs ++ rows) empty))

pub write_rows_after-requires : goal.write_rows_after-requires
write_rows_after-requires c = left_writable (plain c.args.own.now) c.args.tree.now.rows c.requires.again c.requires.writable.0

pub returns-clause-builds : goal.returns-clause-builds
returns-clause-builds c size next sound h =
    let bytes = three_parts _ _ _ c.write_made.new.into.items (rows_bytes (rows_after (plain c.args.own.now) c.args.tree.now.rows)) (units_bytes (persistent_in c.args.shed.now.buckets)) (made_bytes c.args.shed.now.buckets (plain c.args.own.now))
    c.requires.empty c.in_ok-write_rows_after.ensures.written c.in_ok-write_units.ensures.written c.in_ok-write_made.ensures.written in
    after_builds size c.args.tree.now.rows c.args.shed.now.buckets (plain c.args.own.now) next c.know_order.ensures.order c.know_order.ensures.closed sound c.know_order-2.ensures h c.write_made.new.into.items bytes
    c.requires.again (left_writable (plain c.args.own.now) c.args.tree.now.rows c.requires.again c.requires.writable.0) c.requires.writable.1

pub returns-clause-fits : goal.returns-clause-fits
returns-clause-fits c size next sound h =
    let bytes = three_parts _ _ _ c.write_made.new.into.items (rows_bytes (rows_after (plain c.args.own.now) c.args.tree.now.rows)) (units_bytes (persistent_in c.args.shed.now.buckets)) (made_bytes c.args.shed.now.buckets (plain c.args.own.now))
    c.requires.empty c.in_ok-write_rows_after.ensures.written c.in_ok-write_units.ensures.written c.in_ok-write_made.ensures.written in
    after_fits size c.args.tree.now.rows c.args.shed.now.buckets (plain c.args.own.now) next c.know_order.ensures.order c.know_order.ensures.closed sound c.know_order-2.ensures h c.write_made.new.into.items bytes

pub returns-in_err-write_rows_after-clause-room : goal.returns-in_err-write_rows_after-clause-room
returns-in_err-write_rows_after-clause-room c size next sound h le =
    let rows = c.args.tree.now.rows in
    let change = plain c.args.own.now in
    let cost = after_charge size rows c.args.shed.now.buckets change next c.know_order.ensures.order c.know_order.ensures.closed sound c.know_order-2.ensures h in
    let each = left_each size rows c.args.shed.now.buckets change next c.know_order.ensures.order c.know_order.ensures.closed sound c.know_order-2.ensures h in
    absurd (false≢true (c.in_err-write_rows_after.ensures.room size each (omega (arith, le, cost, c.args.into.now.ok.0, ap length c.requires.empty))))

pub returns-in_err-write_units-clause-room : goal.returns-in_err-write_units-clause-room
returns-in_err-write_units-clause-room c size next sound h le =
    let rows = c.args.tree.now.rows in
    let change = plain c.args.own.now in
    let cost = after_charge size rows c.args.shed.now.buckets change next c.know_order.ensures.order c.know_order.ensures.closed sound c.know_order-2.ensures h in
    let each = left_each size rows c.args.shed.now.buckets change next c.know_order.ensures.order c.know_order.ensures.closed sound c.know_order-2.ensures h in
    let bytes = ap length c.in_ok-write_rows_after.ensures.written ∙ length-append c.args.into.now.items (rows_bytes (rows_after change rows)) in
    absurd (false≢true (c.in_err-write_units.ensures.room
    (omega (arith, le, cost, c.write_rows_after.new.into.ok.0, bytes, ap length c.requires.empty, rows_below size (rows_after change rows) each, c.in_ok-write_rows_after.ensures.capacity))))

pub returns-in_err-write_made-clause-room : goal.returns-in_err-write_made-clause-room
returns-in_err-write_made-clause-room c size next sound h le =
    let rows = c.args.tree.now.rows in
    let change = plain c.args.own.now in
    let units = persistent_in c.args.shed.now.buckets in
    let cost = after_charge size rows c.args.shed.now.buckets change next c.know_order.ensures.order c.know_order.ensures.closed sound c.know_order-2.ensures h in
    let each = left_each size rows c.args.shed.now.buckets change next c.know_order.ensures.order c.know_order.ensures.closed sound c.know_order-2.ensures h in
    let bytes = ap length c.in_ok-write_rows_after.ensures.written ∙ length-append c.args.into.now.items (rows_bytes (rows_after change rows)) in
    let more = ap length c.in_ok-write_units.ensures.written ∙ length-append c.write_rows_after.new.into.items (units_bytes units) in
    absurd (false≢true (c.in_err-write_made.ensures.room
    (omega (arith, le, cost, c.write_units.new.into.ok.0, bytes, more, ap length c.requires.empty, rows_below size (rows_after change rows) each, units_below units, c.in_ok-write_rows_after.ensures.capacity, c.in_ok-write_units.ensures.capacity))))
