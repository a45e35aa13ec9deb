use Rattle.std.proofs.Common.{ap, ◌∙◌, List}
use Rattle.opfs_books.proofs.laws.Counting.{rose-before}
use Rattle.opfs_hist.specs.declared.entry.Entry.{Entry}
use Rattle.opfs_machine.specs.Changes.{changes}
use Rattle.opfs_desk_bytes.proofs.writing.Used.{used-both}
use Rattle.opfs_desk_bytes.proofs.writing.putting.put_pages.Goals as goal

pub write_pages-requires : goal.write_pages-requires
write_pages-requires g c = record {
  may =
      let may = c.requires.may in
      let found = c.in-Ok.ensures.found may.fixed may.recorded may.base may.gone c.args.given.now may.to_put may.gotten in
      record { fixed = may.fixed; recorded = found.recorded; base = may.base; gone = may.gone; to_put = found.to_put; have = found.have };
}

pub returns-in-Ok-write_pages-clause-put : goal.returns-in-Ok-write_pages-clause-put
returns-in-Ok-write_pages-clause-put g c f recorded base gone to gotten =
    let found = c.in-Ok.ensures.found f recorded base gone c.args.given.now to gotten in
    record {
      mid = c.find_room.new.parts;
      with_blocks = c.find_room.new.put;
      found = found;
      written = c.in-Ok-write_pages.ensures.written f found.recorded base gone found.to_put found.have;
    }

pub returns-in-Err-write_pages-clause-failed : goal.returns-in-Err-write_pages-clause-failed
returns-in-Err-write_pages-clause-failed g c f recorded base gone to gotten =
    let laws = g.met.D.Disk in
    let w = g.D.Disk in
    let old = c.args.parts.now.ledger in
    let mid = c.find_room.new.parts.ledger in
    let new = c.write_pages.new.parts.ledger in
    let found = c.in-Ok.ensures.found f recorded base gone c.args.given.now to gotten in
    let not = c.in-Err-write_pages.ensures.failed f found.recorded base gone found.to_put found.have in
    record {
      recorded = not.recorded;
      are = not.are;
      history = not.history ∙ found.history;
      state = not.state ∙ found.state;
      rose = rose-before (w.faults old.journal.disk) (w.faults mid.journal.disk) (w.faults new.journal.disk) found.used.later not.rose;
      used = used-both w f laws.falls old mid new found.used (ap (λ (es : List Entry). changes f.opening es) found.history) not.used;
    }

pub returns-in-Err-clause-failed : goal.returns-in-Err-clause-failed
returns-in-Err-clause-failed g c f recorded base gone to gotten = c.in-Err.ensures.failed f recorded base gone c.args.given.now to
