use Rattle.std.proofs.Common.{refl, ap, ◌∙◌}
use Rattle.opfs_books.specs.declared.books.Books.{Books}
use Rattle.opfs_state.specs.Applied.{StateSeen}
use Rattle.opfs_desk_bytes.proofs.writing.Entered.{answered-same, may-refuse, is-refused, not-entered}
use Rattle.opfs_desk_bytes.proofs.writing.entering.enter_put.Goals as goal

pub tell_put-requires-clause-may : goal.tell_put-requires-clause-may
tell_put-requires-clause-may g c =
    let may = c.requires.may in
    let put = c.in-Ok.ensures.put may.fixed may.recorded may.base may.gone may.to_put may.gotten in
    let same = put.written.same in
    record {
      fixed = may.fixed;
      recorded = put.found.recorded;
      base = may.base;
      gone = may.gone;
      books = put.written.books;
      answered = answered-same g.D.Disk may.base may.gone c.args.parts.now.ledger c.put_pages.new.parts.ledger c.args.last.entry c.args.sizes
          (ap (λ (b : Books StateSeen). b.history) same ∙ put.found.history) (ap (λ (b : Books StateSeen). b.state) same ∙ put.found.state) may.answered;
    }

pub fail_call-requires : goal.fail_call-requires
fail_call-requires g c = record {
  may =
      let may = c.requires.may in
      let not = c.in-Err.ensures.failed may.fixed may.recorded may.base may.gone may.to_put may.gotten in
      may-refuse g.D.Disk may.fixed may.base may.gone c.args.parts.now c.put_pages.new.parts c.args.last.entry not may.answered.change.placed may.answered.change.agent;
}

pub returns-in-Ok-clause-put : goal.returns-in-Ok-clause-put
returns-in-Ok-clause-put g c f recorded base gone to gotten answered =
    let put = c.in-Ok.ensures.put f recorded base gone to gotten in
    let same = put.written.same in
    record {
      between = c.put_pages.new.parts;
      pages = put;
      told = c.tell_put.ensures.told f put.found.recorded base gone put.written.books
          (answered-same g.D.Disk base gone c.args.parts.now.ledger c.put_pages.new.parts.ledger c.args.last.entry c.args.sizes
          (ap (λ (b : Books StateSeen). b.history) same ∙ put.found.history) (ap (λ (b : Books StateSeen). b.state) same ∙ put.found.state) answered);
      same = refl;
    }

pub returns-in-Err-clause-failed : goal.returns-in-Err-clause-failed
returns-in-Err-clause-failed g c f recorded base gone to gotten call =
    let not = c.in-Err.ensures.failed f recorded base gone to gotten in
    let e = c.args.last.entry in
    let is = c.fail_call.ensures in
    not-entered g.D.Disk f base gone c.args.parts.now c.put_pages.new.parts e not c.fail_call.new.ledger
    (is.held f not.recorded base gone c.put_pages.new.parts.pages not.are (is-refused g.D.Disk f base gone c.args.parts.now c.put_pages.new.parts e not c.a_fault_is_counted.ensures to.are.books.counted call))
    is.journal is.entries is.idle
