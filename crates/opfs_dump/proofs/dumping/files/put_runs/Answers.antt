use Rattle.std.proofs.Common.{ℕ, ◌+◌, ◌-◌, ◌*◌, ◌≤◌, ◌≡◌, List, [], drop, get_or, min, ap, subst, ◌∙◌, arith}
use Rattle.std.proofs.lemmas.List.{drop_more, drop_all}
use Rattle.opfs_base.specs.declared.extents.Extent.{Extent}
use Rattle.opfs_data.specs.Places.{room_of, run_room, run_place, bytes_of}
use Rattle.opfs_dump.specs.Dumping.Pieces.{digits_text}
use Rattle.opfs_dump.proofs.dumping.Parts.{next_run, end_run}
use Rattle.opfs_dump.proofs.dumping.Putting.{more_dumped, failed_dump, dumped}
use Rattle.opfs_dump.proofs.dumping.files.put_runs.Goals as goal

pub loop-extent-preserved : goal.loop-extent-preserved
loop-extent-preserved g c =
    let laws = g.met.D.Disk in
    let at = c.loop-extent.invariant in
    let es : List Extent = c.args.extents.now in
    let i = c.loop-extent.extent-index in
    let none : Extent = record { start = 0; count = 0 } in
    let e : Extent = get_or es i none in
    let rest : List Extent = drop (i + 1) es in
    let left : ℕ = c.loop-extent.left in
    let n : ℕ = c.min-count.result in
    let next = drop_more es i none c.loop-extent-test.true in
    let count : c.from.result ≡ e.count = c.from.ensures in
    let start : c.from-in-loop-extent.result ≡ e.start = c.from-in-loop-extent.ensures in
    let is : n ≡ min (run_room e) left = c.min-count.ensures ∙ ap (λ (k : ℕ). min k left) (omega (arith, count)) in
    let room : left ≤ run_room e + room_of rest = subst (λ (xs : List Extent). left ≤ room_of xs) next at.room in
    let there : c.args.base + c.from-in-loop-extent.result * 4096 ≡ run_place c.args.base e = omega (arith, start) in
    record {
      room = omega (arith, room, is);
      so_far = more_dumped g.D.Disk g.K.Sink laws.falls tt c.args.journal.now c.loop-extent.journal c.put_bytes.new.journal c.args.sink.now c.loop-extent.sink c.put_bytes.new.sink
          (λ (x : List ℕ). digits_text (bytes_of x c.args.base es c.args.len)) (λ (x : List ℕ). digits_text (bytes_of x c.args.base (drop i es) left)) _
          (λ (x : List ℕ). digits_text (bytes_of x c.args.base rest (left - n)))
          at.so_far (λ x. next_run x c.args.base e rest (drop i es) n left (c.args.base + c.from-in-loop-extent.result * 4096) next is there) c.in-Ok.ensures;
    }

pub returns-in-Err : goal.returns-in-Err
returns-in-Err g c =
    let laws = g.met.D.Disk in
    let at = c.loop-extent.invariant in
    let es : List Extent = c.args.extents.now in
    let i = c.loop-extent.extent-index in
    let none : Extent = record { start = 0; count = 0 } in
    let e : Extent = get_or es i none in
    let rest : List Extent = drop (i + 1) es in
    let left : ℕ = c.loop-extent.left in
    let n : ℕ = c.min-count.result in
    let next = drop_more es i none c.loop-extent-test.true in
    let count : c.from.result ≡ e.count = c.from.ensures in
    let start : c.from-in-loop-extent.result ≡ e.start = c.from-in-loop-extent.ensures in
    let is : n ≡ min (run_room e) left = c.min-count.ensures ∙ ap (λ (k : ℕ). min k left) (omega (arith, count)) in
    let there : c.args.base + c.from-in-loop-extent.result * 4096 ≡ run_place c.args.base e = omega (arith, start) in
    failed_dump g.D.Disk g.K.Sink laws.falls c.in-Err.stop c.args.journal.now c.loop-extent.journal c.put_bytes.new.journal c.args.sink.now c.loop-extent.sink c.put_bytes.new.sink
    (λ (x : List ℕ). digits_text (bytes_of x c.args.base es c.args.len)) (λ (x : List ℕ). digits_text (bytes_of x c.args.base (drop i es) left)) _
    (λ (x : List ℕ). digits_text (bytes_of x c.args.base rest (left - n)))
    at.so_far (λ x. next_run x c.args.base e rest (drop i es) n left (c.args.base + c.from-in-loop-extent.result * 4096) next is there) c.in-Err.ensures

pub returns : goal.returns
returns g c =
    let laws = g.met.D.Disk in
    let at = c.loop-extent.invariant in
    let es : List Extent = c.args.extents.now in
    let over : List Extent = drop c.loop-extent.extent-index es in
    let none : over ≡ [] = drop_all c.loop-extent.extent-index es (omega (arith, c.loop-extent-test.false)) in
    let room : c.loop-extent.left ≤ room_of over = at.room in
    let zero_left : c.loop-extent.left ≡ 0 = omega (arith, room, ap room_of none) in
    dumped g.D.Disk g.K.Sink laws.falls tt c.args.journal.now c.loop-extent.journal c.args.sink.now c.loop-extent.sink
    (λ (x : List ℕ). digits_text (bytes_of x c.args.base es c.args.len)) (λ (x : List ℕ). digits_text (bytes_of x c.args.base over c.loop-extent.left)) at.so_far
    (λ x. end_run x c.args.base c.loop-extent.left over none zero_left)
