use Rattle.std.proofs.Common.{List, ℕ, ◌++◌, ap, ◌∙◌}
use Rattle.opfs_base.specs.Texts.{Text}
use Rattle.opfs_data.specs.Places.{bytes_of}
use Rattle.opfs_dump.specs.Dumping.Pieces.{before_digits, digits_text, behind_digits}
use Rattle.opfs_dump.proofs.dumping.Putting.{dumps_puts, dumps_nothing, then_dumps, first_failed}
use Rattle.opfs_dump.proofs.dumping.Rests.{document_whole}
use Rattle.opfs_dump.proofs.dumping.rows.put_file.Goals as goal

pub returns-in-Err : goal.returns-in-Err
returns-in-Err g c =
    let laws = g.met.D.Disk in
    dumps_nothing g.D.Disk g.K.Sink laws.falls c.args.journal.now c.args.sink.now _

pub returns-in-Ok-put_text : goal.returns-in-Ok-put_text
returns-in-Ok-put_text g c =
    let laws = g.met.D.Disk in
    let f = c.args.placed.now.file.now in
    let bytes : List ℕ → Text = λ x. bytes_of x c.args.placed.now.base f.extents f.length in
    then_dumps g.D.Disk g.K.Sink laws.falls tt c.put_content.result c.args.journal.now c.args.journal.now c.put_content.new.journal c.args.sink.now c.put_text.new.sink c.put_content.new.sink
    (λ (x : List ℕ). before_digits) _ _
    (dumps_puts g.D.Disk g.K.Sink laws.falls c.args.journal.now c.args.sink.now c.put_text.new.sink before_digits _ c.in-Ok-put_text.ensures) c.put_content.ensures
    (λ x. ap (λ (t : Text). before_digits ++ (digits_text (bytes x) ++ t)) (c.as_bytes.ensures.value ∙ c.in-Ok.ensures) ∙ document_whole (c.args.placed.now.key.now, c.args.placed.now.path.now) (bytes x) f.stamp)

pub returns : goal.returns
returns g c =
    let laws = g.met.D.Disk in
    let f = c.args.placed.now.file.now in
    let bytes : List ℕ → Text = λ x. bytes_of x c.args.placed.now.base f.extents f.length in
    first_failed g.D.Disk g.K.Sink laws.falls c.in-Err-put_text.stop c.args.journal.now c.args.journal.now c.args.sink.now c.put_text.new.sink
    (λ (x : List ℕ). before_digits) (λ (x : List ℕ). digits_text (bytes x) ++ behind_digits (c.args.placed.now.key.now, c.args.placed.now.path.now) f.stamp) _
    (dumps_puts g.D.Disk g.K.Sink laws.falls c.args.journal.now c.args.sink.now c.put_text.new.sink before_digits _ c.in-Err-put_text.ensures)
    (λ x. document_whole (c.args.placed.now.key.now, c.args.placed.now.path.now) (bytes x) f.stamp)
