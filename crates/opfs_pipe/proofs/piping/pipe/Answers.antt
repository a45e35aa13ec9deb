use Rattle.std.proofs.Common.{◌≡◌, [], length, sym, ap, ◌∙◌, arith}
use Rattle.opfs_turns.specs.Asking.Rows.{HasClosedStream, StreamSeen}
use Rattle.opfs_turns.specs.declared.asking.stop.Stop.{Stop}
use Rattle.opfs_splice.specs.Splicing.{window}
use Rattle.opfs_agent.specs.declared.stream_calls.stream.ClosedStream.{ClosedStream}
use Rattle.opfs_sync_files.specs.Entries.{GoesOn}
use Rattle.opfs_pipe.specs.Pipes.{HasGivenBack, HasPiped}
use Rattle.opfs_pipe.specs.Sides.{Failed, IsClose, IsStored}
use Rattle.opfs_sync_files.specs.Resting.{LeavesRest}
use Rattle.opfs_pipe.specs.Streams.{StoresLast, stream_bytes}
use Rattle.opfs_pipe.proofs.Piped.{if-ok, if-err, if-either, moved-reads, part-back, part-goes, part-reads, piped-calls, piped-closed, piped-content, piped-goes, piped-rest, stopped-back, stopped-goes, stopped-rest}
use Rattle.opfs_pipe.proofs.piping.pipe.Goals as goal

pub move_range-requires-clause-at_end : goal.move_range-requires-clause-at_end
move_range-requires-clause-at_end g c κs within = c.requires.empty.1 ∙ sym (ap length c.requires.empty.0)

pub close-requires-clause-own : goal.close-requires-clause-own
close-requires-clause-own g c = c.in-Ok.ensures.written.goes.hall ∙ c.requires.own

pub close-requires-clause-room : goal.close-requires-clause-room
close-requires-clause-room g c = record { rows = omega (arith, c.in-Ok.ensures.written.goes.rows, c.requires.few_writes.0); entries = omega (arith, c.in-Ok.ensures.written.goes.entries, c.in-Ok.ensures.few, c.requires.few_writes.1) }

pub close-requires-clause-stream : goal.close-requires-clause-stream
close-requires-clause-stream g c = c.in-Ok.ensures.written.has

pub returns-in-Ok-clause-content : goal.returns-in-Ok-clause-content
returns-in-Ok-clause-content g c =
    if-ok c.close.result (λ (z : ClosedStream). IsStored g.S.Store.tells c.move_range.new.writer c.close.new.writer c.move_range.new.to z.row (stream_bytes c.move_range.new.writer c.move_range.new.to)) (λ (z : ClosedStream). StoresLast c.args.writer.now c.close.new.writer c.args.to (window c.args.range.now.from.now.bytes c.args.range.now.at c.args.range.now.len))
    (λ z s. piped-content g.S.Store.tells c.args.reader.now c.move_range.new.reader c.args.writer.now c.move_range.new.writer c.args.range.now.from.now c.args.range.now.at c.args.range.now.len c.args.to c.move_range.new.to c.requires.empty.0 c.in-Ok.ensures c.close.new.writer z.row s) c.close.ensures.stored

pub returns-in-Ok-clause-closed : goal.returns-in-Ok-clause-closed
returns-in-Ok-clause-closed g c =
    if-ok c.close.result (λ (z : ClosedStream). IsStored g.S.Store.tells c.move_range.new.writer c.close.new.writer c.move_range.new.to z.row (stream_bytes c.move_range.new.writer c.move_range.new.to)) (λ (z : ClosedStream). (z.row ≡ c.args.to.row) × HasClosedStream c.close.new.writer z.row)
    (λ z s. piped-closed g.S.Store.tells c.args.reader.now c.move_range.new.reader c.args.writer.now c.move_range.new.writer c.args.range.now.from.now c.args.range.now.at c.args.range.now.len c.args.to c.move_range.new.to c.requires.empty.0 c.in-Ok.ensures c.close.new.writer z.row s) c.close.ensures.stored

pub returns-in-Ok-clause-calls : goal.returns-in-Ok-clause-calls
returns-in-Ok-clause-calls g c =
    if-ok c.close.result (λ (z : ClosedStream). IsStored g.S.Store.tells c.move_range.new.writer c.close.new.writer c.move_range.new.to z.row (stream_bytes c.move_range.new.writer c.move_range.new.to)) (λ (z : ClosedStream). HasPiped c.args.reader.now c.move_range.new.reader c.args.writer.now c.close.new.writer c.args.range.now.from.now c.args.range.now.at c.args.range.now.len c.args.to.row)
    (λ z s. piped-calls g.S.Store.tells c.args.reader.now c.move_range.new.reader c.args.writer.now c.move_range.new.writer c.args.range.now.from.now c.args.range.now.at c.args.range.now.len c.args.to c.move_range.new.to c.requires.empty.0 c.in-Ok.ensures c.close.new.writer z.row s) c.close.ensures.stored

pub returns-in-Ok-clause-back : goal.returns-in-Ok-clause-back
returns-in-Ok-clause-back g c =
    if-err c.close.result (λ (z : StreamSeen × Stop). Failed g.S.Store.tells c.move_range.new.writer c.close.new.writer c.move_range.new.to z.0 [] IsClose z.1) (λ (z : StreamSeen × Stop). HasGivenBack g.S.Store.tells c.args.reader.now c.move_range.new.reader c.args.writer.now c.close.new.writer c.args.range.now.from.now c.args.range.now.at c.args.range.now.len c.args.to z.0 z.1)
    (λ z f. stopped-back g.S.Store.tells c.args.reader.now c.move_range.new.reader c.args.writer.now c.move_range.new.writer c.args.range.now.from.now c.args.range.now.at c.args.range.now.len c.args.to c.move_range.new.to c.requires.empty.0 c.in-Ok.ensures c.close.new.writer z.0 z.1 f) c.close.ensures.back

pub returns-in-Ok-clause-reader : goal.returns-in-Ok-clause-reader
returns-in-Ok-clause-reader g c =
    moved-reads g.S.Store.tells c.args.reader.now c.move_range.new.reader c.args.writer.now c.move_range.new.writer c.args.range.now.from.now c.args.range.now.at c.args.range.now.len c.args.to c.move_range.new.to c.requires.empty.0 c.in-Ok.ensures

pub returns-in-Ok-clause-snapshot : goal.returns-in-Ok-clause-snapshot
returns-in-Ok-clause-snapshot g c =
    c.in-Ok.ensures.sliced.has

pub returns-in-Ok-clause-reader_rows : goal.returns-in-Ok-clause-reader_rows
returns-in-Ok-clause-reader_rows g c =
    c.in-Ok.ensures.sliced.others

pub returns-in-Ok-clause-writer : goal.returns-in-Ok-clause-writer
returns-in-Ok-clause-writer g c =
    if-either c.close.result (λ (z : ClosedStream). IsStored g.S.Store.tells c.move_range.new.writer c.close.new.writer c.move_range.new.to z.row (stream_bytes c.move_range.new.writer c.move_range.new.to)) (λ (z : StreamSeen × Stop). Failed g.S.Store.tells c.move_range.new.writer c.close.new.writer c.move_range.new.to z.0 [] IsClose z.1) (GoesOn c.args.writer.now c.close.new.writer 65537)
    (λ z s. piped-goes g.S.Store.tells c.args.reader.now c.move_range.new.reader c.args.writer.now c.move_range.new.writer c.args.range.now.from.now c.args.range.now.at c.args.range.now.len c.args.to c.move_range.new.to c.requires.empty.0 c.in-Ok.ensures c.close.new.writer z.row s) (λ z f. stopped-goes g.S.Store.tells c.args.reader.now c.move_range.new.reader c.args.writer.now c.move_range.new.writer c.args.range.now.from.now c.args.range.now.at c.args.range.now.len c.args.to c.move_range.new.to c.requires.empty.0 c.in-Ok.ensures c.close.new.writer z.0 z.1 f) c.close.ensures.stored c.close.ensures.back

pub returns-in-Ok-clause-writer_rows : goal.returns-in-Ok-clause-writer_rows
returns-in-Ok-clause-writer_rows g c =
    if-either c.close.result (λ (z : ClosedStream). IsStored g.S.Store.tells c.move_range.new.writer c.close.new.writer c.move_range.new.to z.row (stream_bytes c.move_range.new.writer c.move_range.new.to)) (λ (z : StreamSeen × Stop). Failed g.S.Store.tells c.move_range.new.writer c.close.new.writer c.move_range.new.to z.0 [] IsClose z.1) (LeavesRest g.S.Store.tells c.args.writer.now c.close.new.writer c.args.to.row)
    (λ z s. piped-rest g.S.Store.tells c.args.reader.now c.move_range.new.reader c.args.writer.now c.move_range.new.writer c.args.range.now.from.now c.args.range.now.at c.args.range.now.len c.args.to c.move_range.new.to c.requires.empty.0 c.in-Ok.ensures c.close.new.writer z.row s) (λ z f. stopped-rest g.S.Store.tells c.args.reader.now c.move_range.new.reader c.args.writer.now c.move_range.new.writer c.args.range.now.from.now c.args.range.now.at c.args.range.now.len c.args.to c.move_range.new.to c.requires.empty.0 c.in-Ok.ensures c.close.new.writer z.0 z.1 f) c.close.ensures.stored c.close.ensures.back

pub returns-in-Err-clause-back : goal.returns-in-Err-clause-back
returns-in-Err-clause-back g c =
    part-back g.S.Store.tells c.args.reader.now c.move_range.new.reader c.args.writer.now c.move_range.new.writer c.args.range.now.from.now c.args.range.now.at c.args.range.now.len c.args.to c.move_range.new.to c.requires.empty.0 c.in-Err.stop c.in-Err.ensures

pub returns-in-Err-clause-reader : goal.returns-in-Err-clause-reader
returns-in-Err-clause-reader g c =
    part-reads g.S.Store.tells c.args.reader.now c.move_range.new.reader c.args.writer.now c.move_range.new.writer c.args.range.now.from.now c.args.range.now.at c.args.range.now.len c.args.to c.move_range.new.to c.requires.empty.0 c.in-Err.stop c.in-Err.ensures

pub returns-in-Err-clause-snapshot : goal.returns-in-Err-clause-snapshot
returns-in-Err-clause-snapshot g c =
    c.in-Err.ensures.sliced.has

pub returns-in-Err-clause-reader_rows : goal.returns-in-Err-clause-reader_rows
returns-in-Err-clause-reader_rows g c =
    c.in-Err.ensures.sliced.others

pub returns-in-Err-clause-writer : goal.returns-in-Err-clause-writer
returns-in-Err-clause-writer g c =
    part-goes g.S.Store.tells c.args.reader.now c.move_range.new.reader c.args.writer.now c.move_range.new.writer c.args.range.now.from.now c.args.range.now.at c.args.range.now.len c.args.to c.move_range.new.to c.requires.empty.0 c.in-Err.stop c.in-Err.ensures

pub returns-in-Err-clause-writer_rows : goal.returns-in-Err-clause-writer_rows
returns-in-Err-clause-writer_rows g c =
    c.in-Err.ensures.failed.others
