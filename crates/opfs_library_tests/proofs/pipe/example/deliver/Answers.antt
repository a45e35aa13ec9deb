use Rattle.std.proofs.Common.{sym, subst, arith}
use Rattle.opfs_turns.proofs.asking.Plains.{window-length}
use Rattle.opfs_notebook.specs.Ready.{IsReady}
use Rattle.opfs_notebook.proofs.Going.{ready-on}
use Rattle.opfs_library_tests.proofs.pipe.Streams.{ready-closed}
use Rattle.opfs_library_tests.proofs.pipe.example.deliver.Goals as goal

pub pipe-piped-requires-clause-range : goal.pipe-piped-requires-clause-range
pipe-piped-requires-clause-range g c = omega (arith, window-length c.args.range.now.from.now.bytes c.args.range.now.at c.args.range.now.len, c.requires.range)

pub returns-in-Ok-clause-reader : goal.returns-in-Ok-clause-reader
returns-in-Ok-clause-reader g c =
    ready-on g.S.Store.tells c.args.court.now c.args.reader.now c.pipe-piped.new.reader c.know_kept.ensures c.know_kept-3.ensures 0 65536 c.pipe-piped.ensures.reader c.pipe-piped.ensures.reader_rows c.requires.reader

pub returns-in-Ok-clause-done : goal.returns-in-Ok-clause-done
returns-in-Ok-clause-done g c =
    ready-closed g.S.Store.tells c.args.court.now c.args.writer.now c.pipe-piped.new.writer c.know_kept-2.ensures c.know_kept-4.ensures c.args.to.row c.in-Ok.field-0.row c.in-Ok.ensures.closed.0 c.in-Ok.ensures.closed.1
    (ready-on g.S.Store.tells c.args.court.now c.args.writer.now c.pipe-piped.new.writer c.know_kept-2.ensures c.know_kept-4.ensures (c.args.to.row) 65537 c.pipe-piped.ensures.writer c.pipe-piped.ensures.writer_rows c.requires.writer)

pub returns-in-Err-clause-reader : goal.returns-in-Err-clause-reader
returns-in-Err-clause-reader g c =
    ready-on g.S.Store.tells c.args.court.now c.args.reader.now c.pipe-piped.new.reader c.know_kept.ensures c.know_kept-3.ensures 0 65536 c.pipe-piped.ensures.reader c.pipe-piped.ensures.reader_rows c.requires.reader

pub returns-in-Err-clause-back : goal.returns-in-Err-clause-back
returns-in-Err-clause-back g c =
    subst (IsReady c.args.court.now c.pipe-piped.new.writer) (sym c.in-Err.ensures.back.row)
    (ready-on g.S.Store.tells c.args.court.now c.args.writer.now c.pipe-piped.new.writer c.know_kept-2.ensures c.know_kept-4.ensures (c.args.to.row) 65537 c.pipe-piped.ensures.writer c.pipe-piped.ensures.writer_rows c.requires.writer)
