use Rattle.std.proofs.Common.{ℕ, ◌-◌, ◌/◌, List, ◌∙◌, sym, arith}
use Rattle.opfs_pages.specs.Copies.{IsBegun, IsPageOf}
use Rattle.opfs_pages.proofs.PageBytes.{copied_length}
use Rattle.opfs_pages.proofs.row_calls.Buffers.{held-far}
use Rattle.opfs_pages.proofs.row_calls.Ways.{cut-tail}
use Rattle.opfs_desk_bytes.specs.Reading.Sources.{pages_of}
use Rattle.opfs_desk_bytes.proofs.reading.bytes.fill_beside.Goals as goal

as-begun : (bytes : List ℕ) (i : ℕ) (page : List ℕ) → IsPageOf bytes i page → IsBegun bytes i page
as-begun bytes i page is = record { size = is.size; at = λ k below inside. is.at k below }

pub returns-then-reads_ahead-clause-read : goal.returns-then-reads_ahead-clause-read
returns-then-reads_ahead-clause-read g c = λ told bytes copy held.
    c.cut_page.ensures.filled bytes (copied_length bytes c.args.source.now.work.now copy ∙ sym c.size.ensures)
    (as-begun bytes (c.args.cursor / 4096) c.fill_page.new.buffer
    (c.in_ok-fill_page.ensures.read told bytes copy
    (held-far bytes c.args.source.now.work.now (g.D.Disk.content c.args.journal.now.disk) c.args.source.now.base (pages_of c.args.source.now) (c.args.cursor / 4096) held)))

pub returns-then-reads_ahead-clause-tail : goal.returns-then-reads_ahead-clause-tail
returns-then-reads_ahead-clause-tail g c = λ i past here. cut-tail c.fill_page.new.buffer c.cut_page.new.into (c.args.cursor / 4096) c.size.result i c.fill_page.ensures.buffer c.cut_page.ensures.cut (omega (arith, past, c.size.ensures)) here

pub returns-clause-read : goal.returns-clause-read
returns-clause-read g c = λ told bytes copy held.
    c.cut_page-2.ensures.filled bytes (copied_length bytes c.args.source.now.work.now copy ∙ sym c.size-2.ensures)
    (as-begun bytes ((c.args.cursor - 1) / 4096) c.args.into.now (c.requires.last (c.reads_ahead.ensures c.if-reads_ahead.false) told bytes copy held))

pub returns-clause-tail : goal.returns-clause-tail
returns-clause-tail g c = λ i past here. cut-tail c.args.into.now c.cut_page-2.new.into ((c.args.cursor - 1) / 4096) c.size-2.result i c.requires.whole c.cut_page-2.ensures.cut (omega (arith, past, c.size-2.ensures)) here
