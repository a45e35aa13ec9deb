use Rattle.std.proofs.Common.{ℕ, ◌+◌, ◌-◌, List, arith}
use Rattle.std.proofs.lemmas.List.{length-take-le}
use Rattle.opfs_outside.specs.Bytes.{window}
use Rattle.opfs_dump.specs.Dumping.Pieces.{digits_text}
use Rattle.opfs_dump.proofs.dumping.Parts.{next_digits, end_digits}
use Rattle.opfs_dump.proofs.dumping.Putting.{more_dumped, failed_dump, dumped}
use Rattle.opfs_dump.proofs.dumping.files.put_bytes.Goals as goal

pub loop-from-preserved : goal.loop-from-preserved
loop-from-preserved g c =
    let laws = g.met.D.Disk in
    let at = c.loop-from.invariant in
    let from : ℕ = c.loop-from.from in
    let n : ℕ = c.min-len.result in
    record {
      within = omega (arith, c.min-len.ensures, at.within);
      so_far = more_dumped g.D.Disk g.K.Sink laws.falls tt c.args.journal.now c.loop-from.journal c.put_piece.new.journal c.args.sink.now c.loop-from.sink c.put_piece.new.sink
          (λ (x : List ℕ). digits_text (window x c.args.at c.args.count)) (λ (x : List ℕ). digits_text (window x (c.args.at + from) (c.args.count - from))) _
          (λ (x : List ℕ). digits_text (window x (c.args.at + (from + n)) (c.args.count - (from + n))))
          at.so_far (λ x. next_digits x c.args.at from n c.args.count _ (omega (arith, c.min-len.ensures, at.within)) (length-take-le n c.loop-from.piece (omega (arith, c.min-len.ensures)))) c.in-Ok.ensures;
    }

pub returns-in-Err : goal.returns-in-Err
returns-in-Err g c =
    let laws = g.met.D.Disk in
    let at = c.loop-from.invariant in
    let from : ℕ = c.loop-from.from in
    let n : ℕ = c.min-len.result in
    failed_dump g.D.Disk g.K.Sink laws.falls c.in-Err.stop c.args.journal.now c.loop-from.journal c.put_piece.new.journal c.args.sink.now c.loop-from.sink c.put_piece.new.sink
    (λ (x : List ℕ). digits_text (window x c.args.at c.args.count)) (λ (x : List ℕ). digits_text (window x (c.args.at + from) (c.args.count - from))) _
    (λ (x : List ℕ). digits_text (window x (c.args.at + (from + n)) (c.args.count - (from + n))))
    at.so_far (λ x. next_digits x c.args.at from n c.args.count _ (omega (arith, c.min-len.ensures, at.within)) (length-take-le n c.loop-from.piece (omega (arith, c.min-len.ensures)))) c.in-Err.ensures

pub returns : goal.returns
returns g c =
    let laws = g.met.D.Disk in
    let at = c.loop-from.invariant in
    dumped g.D.Disk g.K.Sink laws.falls tt c.args.journal.now c.loop-from.journal c.args.sink.now c.loop-from.sink
    (λ (x : List ℕ). digits_text (window x c.args.at c.args.count)) (λ (x : List ℕ). digits_text (window x (c.args.at + c.loop-from.from) (c.args.count - c.loop-from.from))) at.so_far
    (λ x. end_digits x c.args.at c.loop-from.from c.args.count (omega (arith, c.loop-from-test.false)))
