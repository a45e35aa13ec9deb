use Rattle.std.proofs.Common.{ℕ, List, [], refl, sym, subst, Err, arith}
use Rattle.opfs_machine.specs.Histories.{state_after}
use Rattle.opfs_desk_steps.specs.Parts.Seen.{machine_in}
use Rattle.opfs_desk_steps.specs.declared.parts.parts.Ledger.{Ledger}
use Rattle.opfs_desk_bytes.specs.Reading.Files.{IsReadOfFile}
use Rattle.opfs_desk_bytes.specs.Reading.Words.{file_read}
use Rattle.opfs_desk_bytes.proofs.reading.FileWords.{on-disk}
use Rattle.opfs_desk_bytes.proofs.reading.Readable.{may-read, of-agents, pages-lie}
use Rattle.opfs_desk_bytes.proofs.reading.Readied.{read-held, read-acted, read-unacted}
use Rattle.opfs_desk_bytes.proofs.reading.getting.act_get_file.Goals as goal

pub read_named-requires-clause-agents : goal.read_named-requires-clause-agents
read_named-requires-clause-agents g c =
    let may = c.requires.whole in
    let laws = c.getting_laws.ensures in
    of-agents laws.states g.D.Disk laws.files laws.between c.parts_lie_inside.ensures may.fixed may.recorded c.args.parts.now.ledger c.args.parts.now.pages may.are

pub read_named-requires-clause-lies : goal.read_named-requires-clause-lies
read_named-requires-clause-lies g c =
    let may = c.requires.whole in
    let laws = c.getting_laws.ensures in
    pages-lie laws.states g.D.Disk laws.files laws.between c.parts_lie_inside.ensures may.fixed may.recorded c.args.parts.now.ledger c.args.parts.now.pages may.are

pub read_named-requires-clause-may : goal.read_named-requires-clause-may
read_named-requires-clause-may g c found there =
    let may = c.requires.whole in
    let laws = c.getting_laws.ensures in
    may-read laws.states g.D.Disk laws.files laws.between c.parts_lie_inside.ensures may.fixed may.recorded c.args.parts.now.ledger c.args.parts.now.pages may.are c.know_rows_match_tree.ensures may.whole (file_read c.args.call.op) found there

pub read_named-requires-clause-part : goal.read_named-requires-clause-part
read_named-requires-clause-part g c =
    let may = c.requires.whole in
    (c.parts_lie_inside.ensures may.fixed may.recorded c.args.parts.now.ledger c.args.parts.now.pages may.are).part

pub enter_get_file-requires-clause-go : goal.enter_get_file-requires-clause-go
enter_get_file-requires-clause-go g c =
    let laws = g.met.D.Disk in
    let may = c.requires.go in
    let l = c.args.parts.now.ledger in
    let now : Ledger g.row.D.Denot = record { journal = c.read_named.new.journal; books = l.books; freed = l.freed; alloc = l.alloc } in
    record {
      fixed = may.fixed;
      recorded = may.recorded;
      are = read-held g.D.Disk may.fixed l now refl c.in-Ok.ensures.reads c.reads_leave_the_books.ensures laws.counted may.recorded (state_after may.fixed.opening l.books.history) [] c.args.parts.now.pages (omega arith) may.are;
      asked = may.asked;
    }

pub enter_get_file-requires-clause-read : goal.enter_get_file-requires-clause-read
enter_get_file-requires-clause-read g c found there =
    let is = c.in-Ok.ensures in
    let l = c.args.parts.now.ledger in
    let p = c.args.parts.now.pages in
    let first = is.read found there in
    record {
      long = first.long;
      size_is = first.size_is;
      stamp_is = first.stamp_is;
      read = λ t.
          (subst (λ (x : List ℕ). IsReadOfFile g.D.Disk.tells (machine_in l) (file_read c.args.call.op) found p.swap x p.base c.in-Ok.read.bytes c.in-Ok.read.size c.in-Ok.read.stamp) (sym (is.reads.told t).same) first).read t;
    }

pub fail_reading-requires : goal.fail_reading-requires
fail_reading-requires g c = record {
  may =
      let laws = g.met.D.Disk in
      let may = c.requires.go in
      let l = c.args.parts.now.ledger in
      let p = c.args.parts.now.pages in
      let now : Ledger g.row.D.Denot = record { journal = c.read_named.new.journal; books = l.books; freed = l.freed; alloc = l.alloc } in
      record {
        fixed = may.fixed;
        recorded = may.recorded;
        start = l;
        before = p;
        work = c.args.work.now;
        past = [];
        failed = record {
          held = may.are;
          are = read-held g.D.Disk may.fixed l now refl c.in-Err-DiskFault.ensures.reads c.reads_leave_the_books.ensures laws.counted may.recorded (state_after may.fixed.opening l.books.history) [] p (omega arith) may.are;
          books = refl;
          reads = c.in-Err-DiskFault.ensures.reads;
          asked = may.asked;
          disk = on-disk _ _ _ c.requires.word;
          rose = c.in-Err-DiskFault.ensures.cause (λ i. Err (c.in-Err-DiskFault.field-0-is i));
        };
      };
}

pub returns-in-Ok-clause-acted : goal.returns-in-Ok-clause-acted
returns-in-Ok-clause-acted g c f recorded held whole asked =
    let laws = g.met.D.Disk in
    let l = c.args.parts.now.ledger in
    let p = c.args.parts.now.pages in
    let now : Ledger g.row.D.Denot = record { journal = c.read_named.new.journal; books = l.books; freed = l.freed; alloc = l.alloc } in
    let reads = c.in-Ok.ensures.reads in
    let keep = c.reads_leave_the_books.ensures in
    let then = read-held g.D.Disk f l now refl reads keep laws.counted recorded (state_after f.opening l.books.history) [] p (omega arith) held in
    read-acted g.D.Disk f l now refl reads keep laws.falls recorded p p p held _ c.args.pending.now _ c.args.work.now _ _ (c.enter_get_file.ensures.acted f recorded then whole asked)

pub returns-in-Err-DiskFault-clause-acted : goal.returns-in-Err-DiskFault-clause-acted
returns-in-Err-DiskFault-clause-acted g c f recorded held whole asked =
    let laws = g.met.D.Disk in
    let l = c.args.parts.now.ledger in
    let p = c.args.parts.now.pages in
    let now : Ledger g.row.D.Denot = record { journal = c.read_named.new.journal; books = l.books; freed = l.freed; alloc = l.alloc } in
    let reads = c.in-Err-DiskFault.ensures.reads in
    let then = read-held g.D.Disk f l now refl reads c.reads_leave_the_books.ensures laws.counted recorded (state_after f.opening l.books.history) [] p (omega arith) held in
    c.fail_reading.ensures.acted f recorded l p p c.args.work.now c.args.work.now []
    (record { held = held; are = then; books = refl; reads = reads; asked = asked; disk = on-disk _ _ _ c.requires.word; rose = c.in-Err-DiskFault.ensures.cause (λ i. Err (c.in-Err-DiskFault.field-0-is i)) }) refl

pub returns-in-Err-NoMemory-clause-idle : goal.returns-in-Err-NoMemory-clause-idle
returns-in-Err-NoMemory-clause-idle g c f recorded held =
    let laws = g.met.D.Disk in
    let l = c.args.parts.now.ledger in
    let p = c.args.parts.now.pages in
    let now : Ledger g.row.D.Denot = record { journal = c.read_named.new.journal; books = l.books; freed = l.freed; alloc = l.alloc } in
    let reads = c.in-Err-NoMemory.ensures.reads in
    let keep = c.reads_leave_the_books.ensures in
    let then = read-held g.D.Disk f l now refl reads keep laws.counted recorded (state_after f.opening l.books.history) [] p (omega arith) held in
    read-unacted g.D.Disk f l now refl reads recorded p p then
