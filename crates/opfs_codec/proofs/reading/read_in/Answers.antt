use Rattle.std.proofs.Common.{◌≡◌, ◌-◌, length, take, drop, None, sym, ap, ◌∙◌, arith}
use Rattle.std.proofs.lemmas.List.{take_rest, length-drop}
use Rattle.opfs_codec.specs.Reading.{change_at}
use Rattle.opfs_codec.proofs.ChangeLemmas.{begins, begins_not, past_end, goes_behind, nothing_past}
use Rattle.opfs_codec.proofs.reading.read_in.Goals as goal

pub returns-then-at-bytes-clause-none : goal.returns-then-at-bytes-clause-none
returns-then-at-bytes-clause-none c = past_end c.args.format c.args.bytes.now c.args.at (omega arith)

pub overflow_sub-taken : goal.overflow_sub-taken
overflow_sub-taken c =
    let whole = take_rest c.args.bytes.now c.args.at in
    let found = begins c.args.format c.args.bytes.now c.args.at (c.in-Ok.change, c.in-Ok.after.now) (λ i. omega (arith, c.type_inv.bytes i)) (ap (change_at c.args.format) (sym whole) ∙ c.in-Ok.ensures) in
    omega (arith, ap length whole, found.1)

pub returns-in-Ok-clause-found : goal.returns-in-Ok-clause-found
returns-in-Ok-clause-found c =
    let whole = take_rest c.args.bytes.now c.args.at in
    let found = begins c.args.format c.args.bytes.now c.args.at (c.in-Ok.change, c.in-Ok.after.now) (λ i. omega (arith, c.type_inv.bytes i)) (ap (change_at c.args.format) (sym whole) ∙ c.in-Ok.ensures) in
    (found.0, omega (arith, ap length whole, found.1))

pub returns-in-Err-Spelling-clause-none : goal.returns-in-Err-Spelling-clause-none
returns-in-Err-Spelling-clause-none c =
    let whole = take_rest c.args.bytes.now c.args.at in
    let spelled : change_at c.args.format (take (length c.args.bytes.now - c.args.at) (drop c.args.at c.args.bytes.now)) ≡ None = rw c.in-Err-Spelling.field-0-is at c.in-Err-Spelling.ensures in
    begins_not c.args.format c.args.bytes.now c.args.at (ap (change_at c.args.format) (sym whole) ∙ spelled)

pub returns-then-at-bytes-clause-exact : goal.returns-then-at-bytes-clause-exact
returns-then-at-bytes-clause-exact c = sym (nothing_past c.args.format c.args.bytes.now c.args.at (omega arith))

pub returns-in-Ok-clause-exact : goal.returns-in-Ok-clause-exact
returns-in-Ok-clause-exact c =
    let whole = take_rest c.args.bytes.now c.args.at in
    let read = ap (change_at c.args.format) (sym whole) ∙ c.in-Ok.ensures in
    let found = goes_behind c.args.format c.args.bytes.now c.args.at (c.in-Ok.change, c.in-Ok.after.now) (λ i. omega (arith, c.type_inv.bytes i)) (omega arith) read in
    rw whole (rw found.2 (sym read))

pub returns-in-Ok-clause-forth : goal.returns-in-Ok-clause-forth
returns-in-Ok-clause-forth c =
    let whole = take_rest c.args.bytes.now c.args.at in
    let read = ap (change_at c.args.format) (sym whole) ∙ c.in-Ok.ensures in
    let found = goes_behind c.args.format c.args.bytes.now c.args.at (c.in-Ok.change, c.in-Ok.after.now) (λ i. omega (arith, c.type_inv.bytes i)) (omega arith) read in
    (omega (arith, ap length whole, found.0), omega (arith, ap length whole, found.1, length-drop c.args.at c.args.bytes.now))
