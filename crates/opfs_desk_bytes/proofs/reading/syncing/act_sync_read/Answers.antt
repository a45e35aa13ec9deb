use Rattle.std.proofs.Common.{ℕ, [], refl, sym, subst, Err, arith}
use Rattle.opfs_data.specs.Rows.{pages_at}
use Rattle.opfs_pages.specs.Copies.{HasFar}
use Rattle.opfs_machine.specs.Histories.{state_after}
use Rattle.opfs_desk_steps.specs.declared.parts.parts.Ledger.{Ledger}
use Rattle.opfs_desk_bytes.proofs.reading.Readied.{read-held, read-acted, read-unacted}
use Rattle.opfs_desk_bytes.proofs.reading.Synced.{stored, is-read}
use Rattle.opfs_desk_bytes.proofs.reading.Words.{on-disk}
use Rattle.opfs_desk_bytes.proofs.reading.syncing.act_sync_read.Goals as goal

pub read_open_row-requires-clause-far : goal.read_open_row-requires-clause-far
read_open_row-requires-clause-far g c =
    let may = c.requires.go in
    subst (λ (n : ℕ). HasFar c.args.work.now c.args.parts.now.pages.base (g.D.Disk.size c.args.parts.now.ledger.journal.disk) (pages_at c.args.call.agent n c.args.parts.now.pages.swap)) (sym c.span_of-span.ensures.row)
    (stored g.D.Disk c.copies_are_stored.ensures.copies may.fixed may.recorded c.args.parts.now.ledger c.args.parts.now.pages c.args.pending.now c.args.call c.args.work.now may.are may.asked c.requires.word).far

pub read_open_row-requires-clause-part : goal.read_open_row-requires-clause-part
read_open_row-requires-clause-part g c =
    let may = c.requires.go in
    (c.parts_lie_inside.ensures may.fixed may.recorded c.args.parts.now.ledger c.args.parts.now.pages may.are).part

pub enter_sync_read-requires-clause-go : goal.enter_sync_read-requires-clause-go
enter_sync_read-requires-clause-go g c =
    let laws = g.met.D.Disk in
    let may = c.requires.go in
    let l = c.args.parts.now.ledger in
    let now : Ledger g.row.D.Denot = record { journal = c.read_open_row.new.journal; books = l.books; freed = l.freed; alloc = l.alloc } in
    record {
      fixed = may.fixed;
      recorded = may.recorded;
      are = read-held g.D.Disk may.fixed l now refl c.in-Ok.ensures.reads c.reading_laws.ensures.reads laws.counted may.recorded (state_after may.fixed.opening l.books.history) [] c.args.parts.now.pages (omega arith) may.are;
      asked = may.asked;
    }

pub enter_sync_read-requires-clause-read : goal.enter_sync_read-requires-clause-read
enter_sync_read-requires-clause-read g c f recorded held asked =
    let l = c.args.parts.now.ledger in
    let now : Ledger g.row.D.Denot = record { journal = c.read_open_row.new.journal; books = l.books; freed = l.freed; alloc = l.alloc } in
    let is = c.in-Ok.ensures in
    let read = is.read in
    is-read g.D.Disk c.copies_are_stored.ensures.copies f recorded now c.args.parts.now.pages c.args.pending.now c.args.call c.args.work.now held asked c.requires.word
    (g.D.Disk.content l.journal.disk) c.span_of-span.result.row c.span_of-span.result.start c.span_of-span.result.len (λ t. (is.reads.told t).same) c.span_of-span.ensures.row c.span_of-span.ensures.start c.span_of-span.ensures.len
    c.in-Ok.read.bytes c.in-Ok.read.copy c.in-Ok.read.cursor c.in-Ok.read.beside c.in-Ok.read.page.items read.size read.told read.same read.cursor_is read.page_is

pub fail_reading-requires : goal.fail_reading-requires
fail_reading-requires g c = record {
  may =
      let laws = g.met.D.Disk in
      let may = c.requires.go in
      let l = c.args.parts.now.ledger in
      let p = c.args.parts.now.pages in
      let now : Ledger g.row.D.Denot = record { journal = c.read_open_row.new.journal; books = l.books; freed = l.freed; alloc = l.alloc } in
      record {
        fixed = may.fixed;
        recorded = may.recorded;
        start = l;
        before = p;
        work = c.args.work.now;
        past = [];
        failed = record {
          held = may.are;
          are = read-held g.D.Disk may.fixed l now refl c.in-Err-DiskFault.ensures.reads c.reading_laws.ensures.reads laws.counted may.recorded (state_after may.fixed.opening l.books.history) [] p (omega arith) may.are;
          books = refl;
          reads = c.in-Err-DiskFault.ensures.reads;
          asked = may.asked;
          disk = on-disk _ _ _ c.requires.word;
          rose = c.in-Err-DiskFault.ensures.cause (λ i. Err (c.in-Err-DiskFault.field-0-is i));
        };
      };
}

pub returns-in-Ok-clause-acted : goal.returns-in-Ok-clause-acted
returns-in-Ok-clause-acted g c f recorded held whole asked =
    let laws = g.met.D.Disk in
    let l = c.args.parts.now.ledger in
    let p = c.args.parts.now.pages in
    let now : Ledger g.row.D.Denot = record { journal = c.read_open_row.new.journal; books = l.books; freed = l.freed; alloc = l.alloc } in
    let reads = c.in-Ok.ensures.reads in
    let keep = c.reading_laws.ensures.reads in
    let then = read-held g.D.Disk f l now refl reads keep laws.counted recorded (state_after f.opening l.books.history) [] p (omega arith) held in
    read-acted g.D.Disk f l now refl reads keep laws.falls recorded p p p held _ c.args.pending.now _ c.args.work.now _ _ (c.enter_sync_read.ensures.acted f recorded then whole asked)

pub returns-in-Err-DiskFault-clause-acted : goal.returns-in-Err-DiskFault-clause-acted
returns-in-Err-DiskFault-clause-acted g c f recorded held whole asked =
    let laws = g.met.D.Disk in
    let l = c.args.parts.now.ledger in
    let p = c.args.parts.now.pages in
    let now : Ledger g.row.D.Denot = record { journal = c.read_open_row.new.journal; books = l.books; freed = l.freed; alloc = l.alloc } in
    let reads = c.in-Err-DiskFault.ensures.reads in
    let then = read-held g.D.Disk f l now refl reads c.reading_laws.ensures.reads laws.counted recorded (state_after f.opening l.books.history) [] p (omega arith) held in
    c.fail_reading.ensures.acted f recorded l p p c.args.work.now c.args.work.now []
    (record { held = held; are = then; books = refl; reads = reads; asked = asked; disk = on-disk _ _ _ c.requires.word; rose = c.in-Err-DiskFault.ensures.cause (λ i. Err (c.in-Err-DiskFault.field-0-is i)) }) refl

pub returns-in-Err-NoMemory-clause-idle : goal.returns-in-Err-NoMemory-clause-idle
returns-in-Err-NoMemory-clause-idle g c f recorded held =
    let laws = g.met.D.Disk in
    let l = c.args.parts.now.ledger in
    let p = c.args.parts.now.pages in
    let now : Ledger g.row.D.Denot = record { journal = c.read_open_row.new.journal; books = l.books; freed = l.freed; alloc = l.alloc } in
    let reads = c.in-Err-NoMemory.ensures.reads in
    let keep = c.reading_laws.ensures.reads in
    let then = read-held g.D.Disk f l now refl reads keep laws.counted recorded (state_after f.opening l.books.history) [] p (omega arith) held in
    read-unacted g.D.Disk f l now refl reads recorded p p then
