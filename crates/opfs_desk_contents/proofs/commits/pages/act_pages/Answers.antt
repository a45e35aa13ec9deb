use Rattle.std.specs.Vec.{vec_capacity}
use Rattle.std.proofs.Common.{rules, ◌≡◌, ℕ, ◌≤◌, [], ◌++◌, is_some, true, refl, sym, ap, subst, Err, arith}
use Rattle.opfs_books.specs.declared.books.Books.{Books}
use Rattle.opfs_store.specs.Copies.Copies.{IsPaged}
use Rattle.opfs_data.specs.Rows.{row_of}
use Rattle.opfs_machine.specs.Histories.{state_after}
use Rattle.opfs_pages.specs.Stages.{IsReady}
use Rattle.opfs_state.specs.Applied.{StateSeen}
use Rattle.opfs_state.specs.Reading.{row_file}
use Rattle.opfs_desk_contents.specs.Words.{stores_row}
use Rattle.opfs_desk_steps.specs.Parts.Seen.{machine_in}
use Rattle.opfs_desk_entries.specs.Answers.Silent.{BeginsCall}
use Rattle.opfs_desk_bytes.proofs.reading.Readied.{read-acted, read-unacted}
use Rattle.opfs_desk_contents.proofs.commits.Asked.{file-there, small, stored-copy, word-now}
use Rattle.opfs_desk_contents.proofs.commits.Planned.{asked-now, content-for, planned-is, read-parts}
use Rattle.opfs_desk_contents.proofs.commits.Words.{on-disk, word-is}
use Rattle.opfs_desk_contents.proofs.commits.pages.act_pages.Goals as goal

pub row_of-row-requires : goal.row_of-row-requires
row_of-row-requires g c = word-is (machine_in c.args.parts.now.ledger) c.args.call.agent c.args.call.op c.requires.word

pub plan_content-requires : goal.plan_content-requires
plan_content-requires g c = record {
  may =
      let go = c.requires.go in
      let w = g.D.Disk in
      let laws = c.calling_laws.ensures in
      let l = c.args.parts.now.ledger in
      let p = c.args.parts.now.pages in
      let calls = c.args.pending.now in
      let call = c.args.call in
      let work = c.args.work.now in
      let begins : BeginsCall w go.fixed go.recorded l p calls call work [] = record { held = go.are; asked = go.asked } in
      let agent = (laws.asks.taken go.fixed go.recorded l p calls call work [] go.are go.asked).agent in
      let copy = stored-copy w laws.follow laws.local go.fixed go.recorded l p calls call work begins agent c.requires.word c.copies_are_stored.ensures.copies in
      record {
        small = small w laws.follow laws.local go.fixed go.recorded l p calls call work begins agent c.requires.word c.requires.fits laws.states laws.kept;
        inside = laws.inside go.fixed go.recorded l p go.are;
        ready = subst (λ (i : ℕ). IsReady work p.swap p.space call.agent i p.base (w.size l.journal.disk) l.journal.areas) (sym c.row_of-row.ensures) copy.ready;
        opened = subst (λ (i : ℕ). is_some (row_of call.agent i p.swap) ≡ true) (sym c.row_of-row.ensures) copy.there;
        caller = agent;
        there = subst (λ (i : ℕ). is_some (row_file (machine_in l) call.agent i) ≡ true) (sym c.row_of-row.ensures) (file-there w laws.follow laws.local go.fixed go.recorded l p calls call work begins agent c.requires.word);
      };
}

pub enter_pages-requires-clause-go : goal.enter_pages-requires-clause-go
enter_pages-requires-clause-go g c =
    let go = c.requires.go in
    let w = g.D.Disk in
    let laws = c.calling_laws.ensures in
    let l = c.args.parts.now.ledger in
    let p = c.args.parts.now.pages in
    let calls = c.args.pending.now in
    let call = c.args.call in
    let work = c.args.work.now in
    let begins : BeginsCall w go.fixed go.recorded l p calls call work [] = record { held = go.are; asked = go.asked } in
    let agent = (laws.asks.taken go.fixed go.recorded l p calls call work [] go.are go.asked).agent in
    let met = g.met.D.Disk in
    let now = c.plan_content.new.parts in
    let is = c.in-Ok.ensures in
    let n = c.row_of-row.result in
    let number = c.row_of-row.ensures in
    let there : is_some (row_of call.agent n p.swap) ≡ true = subst (λ (i : ℕ). is_some (row_of call.agent i p.swap) ≡ true) (sym number) (stored-copy w laws.follow laws.local go.fixed go.recorded l p calls call work begins agent c.requires.word c.copies_are_stored.ensures.copies).there in
    let freed : vec_capacity l.freed ≤ vec_capacity now.ledger.freed = omega (arith, ap (λ x. vec_capacity x) is.left.freed) in
    record {
      fixed = go.fixed;
      recorded = go.recorded;
      are = read-parts w c.what_is_laid_goes_on.ensures.beside c.reading_laws.ensures.reads met.counted go.fixed go.recorded l now.ledger p now.pages call.agent n go.are is.left.books freed is.left.reads there is.left.pages is.left.base is.left.spaced;
      asked = asked-now w l now.ledger p now.pages call work n number is.left.books go.fixed calls go.asked;
    }

pub enter_pages-requires-clause-word : goal.enter_pages-requires-clause-word
enter_pages-requires-clause-word g c = subst (λ (b : Books StateSeen). stores_row b.state.store.machine c.args.call.agent c.args.call.op ≡ true) (sym c.in-Ok.ensures.left.books) c.requires.word

pub enter_pages-requires-clause-plan : goal.enter_pages-requires-clause-plan
enter_pages-requires-clause-plan g c =
    let go = c.requires.go in
    let w = g.D.Disk in
    let laws = c.calling_laws.ensures in
    let l = c.args.parts.now.ledger in
    let p = c.args.parts.now.pages in
    let calls = c.args.pending.now in
    let call = c.args.call in
    let work = c.args.work.now in
    let begins : BeginsCall w go.fixed go.recorded l p calls call work [] = record { held = go.are; asked = go.asked } in
    let agent = (laws.asks.taken go.fixed go.recorded l p calls call work [] go.are go.asked).agent in
    let met = g.met.D.Disk in
    let now = c.plan_content.new.parts in
    let is = c.in-Ok.ensures in
    let n = c.row_of-row.result in
    let number = c.row_of-row.ensures in
    let there : is_some (row_of call.agent n p.swap) ≡ true = subst (λ (i : ℕ). is_some (row_of call.agent i p.swap) ≡ true) (sym number) (stored-copy w laws.follow laws.local go.fixed go.recorded l p calls call work begins agent c.requires.word c.copies_are_stored.ensures.copies).there in
    let freed : vec_capacity l.freed ≤ vec_capacity now.ledger.freed = omega (arith, ap (λ x. vec_capacity x) is.left.freed) in
    planned-is w l now.ledger p now.pages call work n number is.left.books c.in-Ok.plan go.recorded.rows go.are.laid.spaced is.left.reads.stays.length is.planned.count is.planned.ready is.planned.staged.staged.bytes is.planned.gotten is.planned.file is.planned.empty is.planned.none is.planned.room is.planned.space

pub enter_pages-requires-clause-content : goal.enter_pages-requires-clause-content
enter_pages-requires-clause-content g c =
    let w = g.D.Disk in
    let laws = c.calling_laws.ensures in
    let l = c.args.parts.now.ledger in
    let p = c.args.parts.now.pages in
    let work = c.args.work.now in
    let now = c.plan_content.new.parts in
    let is = c.in-Ok.ensures in
    let paged : IsPaged work = search rules in
    content-for w l now.ledger p now.pages c.args.call work c.row_of-row.result c.row_of-row.ensures is.left.books laws.asks laws.follow laws.local c.copies_are_stored.ensures.copies c.args.pending.now c.requires.word
    is.left.pages is.left.base (λ t. (is.left.reads.told t).same) paged c.in-Ok.plan.put.writes is.planned.staged

pub fail_reading-requires : goal.fail_reading-requires
fail_reading-requires g c =
    let go = c.requires.go in
    let w = g.D.Disk in
    let laws = c.calling_laws.ensures in
    let l = c.args.parts.now.ledger in
    let p = c.args.parts.now.pages in
    let calls = c.args.pending.now in
    let call = c.args.call in
    let work = c.args.work.now in
    let begins : BeginsCall w go.fixed go.recorded l p calls call work [] = record { held = go.are; asked = go.asked } in
    let agent = (laws.asks.taken go.fixed go.recorded l p calls call work [] go.are go.asked).agent in
    let met = g.met.D.Disk in
    let now = c.plan_content.new.parts in
    let is = c.in-Err-DiskFault.ensures in
    let n = c.row_of-row.result in
    let number = c.row_of-row.ensures in
    let there : is_some (row_of call.agent n p.swap) ≡ true = subst (λ (i : ℕ). is_some (row_of call.agent i p.swap) ≡ true) (sym number) (stored-copy w laws.follow laws.local go.fixed go.recorded l p calls call work begins agent c.requires.word c.copies_are_stored.ensures.copies).there in
    let freed : vec_capacity l.freed ≤ vec_capacity now.ledger.freed = omega (arith, ap (λ x. vec_capacity x) is.left.freed) in
    record {
      may = record {
        fixed = go.fixed;
        recorded = go.recorded;
        start = l;
        before = p;
        work = work;
        past = [];
        failed = record {
          held = go.are;
          are = read-parts w c.what_is_laid_goes_on.ensures.beside c.reading_laws.ensures.reads met.counted go.fixed go.recorded l now.ledger p now.pages call.agent n go.are is.left.books freed is.left.reads there is.left.pages is.left.base is.left.spaced;
          books = is.left.books;
          reads = is.left.reads;
          asked = go.asked;
          disk = on-disk (state_after go.fixed.opening (l.books.history ++ calls)) call.agent call.op (word-now w laws.follow laws.local go.fixed go.recorded l p calls call work begins agent c.requires.word);
          rose = is.cause (λ i. Err (c.in-Err-DiskFault.field-0-is i));
        };
      };
    }

pub returns-in-Ok-clause-acted : goal.returns-in-Ok-clause-acted
returns-in-Ok-clause-acted g c f recorded held asked =
    let w = g.D.Disk in
    let laws = c.calling_laws.ensures in
    let l = c.args.parts.now.ledger in
    let p = c.args.parts.now.pages in
    let calls = c.args.pending.now in
    let call = c.args.call in
    let work = c.args.work.now in
    let begins : BeginsCall w f recorded l p calls call work [] = record { held = held; asked = asked } in
    let agent = (laws.asks.taken f recorded l p calls call work [] held asked).agent in
    let met = g.met.D.Disk in
    let now = c.plan_content.new.parts in
    let is = c.in-Ok.ensures in
    let n = c.row_of-row.result in
    let number = c.row_of-row.ensures in
    let there : is_some (row_of call.agent n p.swap) ≡ true = subst (λ (i : ℕ). is_some (row_of call.agent i p.swap) ≡ true) (sym number) (stored-copy w laws.follow laws.local f recorded l p calls call work begins agent c.requires.word c.copies_are_stored.ensures.copies).there in
    let freed : vec_capacity l.freed ≤ vec_capacity now.ledger.freed = omega (arith, ap (λ x. vec_capacity x) is.left.freed) in
    let then = read-parts w c.what_is_laid_goes_on.ensures.beside c.reading_laws.ensures.reads met.counted f recorded l now.ledger p now.pages call.agent n held is.left.books freed is.left.reads there is.left.pages is.left.base is.left.spaced in
    read-acted w f l now.ledger is.left.books is.left.reads c.reading_laws.ensures.reads met.falls recorded p now.pages p held c.enter_pages.new.parts calls _ work _ _
    (c.enter_pages.ensures.acted f recorded then (asked-now w l now.ledger p now.pages call work n number is.left.books f calls asked))

pub returns-in-Err-DiskFault-clause-acted : goal.returns-in-Err-DiskFault-clause-acted
returns-in-Err-DiskFault-clause-acted g c f recorded held asked =
    let w = g.D.Disk in
    let laws = c.calling_laws.ensures in
    let l = c.args.parts.now.ledger in
    let p = c.args.parts.now.pages in
    let calls = c.args.pending.now in
    let call = c.args.call in
    let work = c.args.work.now in
    let begins : BeginsCall w f recorded l p calls call work [] = record { held = held; asked = asked } in
    let agent = (laws.asks.taken f recorded l p calls call work [] held asked).agent in
    let met = g.met.D.Disk in
    let now = c.plan_content.new.parts in
    let is = c.in-Err-DiskFault.ensures in
    let n = c.row_of-row.result in
    let number = c.row_of-row.ensures in
    let there : is_some (row_of call.agent n p.swap) ≡ true = subst (λ (i : ℕ). is_some (row_of call.agent i p.swap) ≡ true) (sym number) (stored-copy w laws.follow laws.local f recorded l p calls call work begins agent c.requires.word c.copies_are_stored.ensures.copies).there in
    let freed : vec_capacity l.freed ≤ vec_capacity now.ledger.freed = omega (arith, ap (λ x. vec_capacity x) is.left.freed) in
    let then = read-parts w c.what_is_laid_goes_on.ensures.beside c.reading_laws.ensures.reads met.counted f recorded l now.ledger p now.pages call.agent n held is.left.books freed is.left.reads there is.left.pages is.left.base is.left.spaced in
    c.fail_reading.ensures.acted f recorded l p p work work []
    (record { held = held; are = then; books = is.left.books; reads = is.left.reads; asked = asked; disk = on-disk (state_after f.opening (l.books.history ++ calls)) call.agent call.op (word-now w laws.follow laws.local f recorded l p calls call work begins agent c.requires.word); rose = is.cause (λ i. Err (c.in-Err-DiskFault.field-0-is i)) }) refl

pub returns-in-Err-NoMemory-clause-idle : goal.returns-in-Err-NoMemory-clause-idle
returns-in-Err-NoMemory-clause-idle g c f recorded held =
    let go = c.requires.go in
    let w = g.D.Disk in
    let laws = c.calling_laws.ensures in
    let l = c.args.parts.now.ledger in
    let p = c.args.parts.now.pages in
    let calls = c.args.pending.now in
    let call = c.args.call in
    let work = c.args.work.now in
    let begins : BeginsCall w go.fixed go.recorded l p calls call work [] = record { held = go.are; asked = go.asked } in
    let agent = (laws.asks.taken go.fixed go.recorded l p calls call work [] go.are go.asked).agent in
    let met = g.met.D.Disk in
    let now = c.plan_content.new.parts in
    let is = c.in-Err-NoMemory.ensures in
    let n = c.row_of-row.result in
    let number = c.row_of-row.ensures in
    let there : is_some (row_of call.agent n p.swap) ≡ true = subst (λ (i : ℕ). is_some (row_of call.agent i p.swap) ≡ true) (sym number) (stored-copy w laws.follow laws.local go.fixed go.recorded l p calls call work begins agent c.requires.word c.copies_are_stored.ensures.copies).there in
    let freed : vec_capacity l.freed ≤ vec_capacity now.ledger.freed = omega (arith, ap (λ x. vec_capacity x) is.left.freed) in
    let then = read-parts w c.what_is_laid_goes_on.ensures.beside c.reading_laws.ensures.reads met.counted f recorded l now.ledger p now.pages call.agent n held is.left.books freed is.left.reads there is.left.pages is.left.base is.left.spaced in
    read-unacted w f l now.ledger is.left.books is.left.reads recorded now.pages p then
