use Rattle.std.proofs.Common.{rules, ◌≡◌, ℕ, ◌<◌, ◌^◌, List, [], is_some, true, length, refl, sym, ap, subst, Err, arith}
use Rattle.opfs_base.specs.Blocks.{blocks}
use Rattle.opfs_blocks.specs.Sets.{AreBelow}
use Rattle.opfs_data.specs.Rows.{row_of}
use Rattle.opfs_pages.specs.Stages.{IsReady}
use Rattle.opfs_records.specs.Replay.Built.{named}
use Rattle.opfs_tree.specs.Rows.{Rows as Tree}
use Rattle.opfs_desk_steps.specs.declared.parts.parts.Ledger.{Ledger}
use Rattle.opfs_desk_steps.specs.declared.parts.parts.OpenPages.{OpenPages}
use Rattle.opfs_desk_bytes.proofs.reading.Readied.{read-acted, read-unacted}
use Rattle.opfs_desk_bytes.proofs.writing.Planned.{acted-room, asked-room, is-plan, paged-room, planned-of, read-parts, stored-copy}
use Rattle.opfs_desk_bytes.proofs.writing.Words.{on-disk, stays as stays-within}
use Rattle.opfs_desk_bytes.proofs.writing.calling.put_bytes.Goals as goal

pub plan_call-requires-clause-may : goal.plan_call-requires-clause-may
plan_call-requires-clause-may g c =
    let may = c.requires.go in
    let l = c.args.parts.now.ledger in
    let p = c.args.parts.now.pages in
    let call = c.args.call in
    let t = c.target_of-target.ensures in
    let inside = c.parts_lie_inside.ensures may.fixed may.recorded l p may.are in
    let copy = stored-copy g.D.Disk c.copies_are_stored.ensures.copies may.fixed may.recorded l p c.args.pending.now call c.args.work.now [] may.are may.asked c.requires.word in
    record {
      size = subst (λ (n : ℕ). n < 2 ^ 63) (sym t.size) c.requires.small;
      stays =
          let within = stays-within call.sizes call.op c.requires.word in
          let long = ap (λ (xs : List ℕ). length xs) c.requires.given in
          omega (arith, t.at, t.size, long, within);
      there = subst (λ (n : ℕ). is_some (row_of call.agent n p.swap) ≡ true) (sym t.row) copy.there;
      lies = inside.lies call.agent c.target_of-target.result.row;
      ready = subst (λ (n : ℕ). IsReady c.args.work.now p.swap p.space call.agent n p.base (g.D.Disk.size l.journal.disk) l.journal.areas) (sym t.row) copy.ready;
      files = subst (λ (r : Tree). AreBelow (length p.space.used) (named r)) (sym (ap (λ x. x.rows) c.tree.ensures)) inside.files;
    }

pub enter_call-requires-clause-go : goal.enter_call-requires-clause-go
enter_call-requires-clause-go g c =
    let may = c.requires.go in
    let laws = g.met.D.Disk in
    let w = g.D.Disk in
    let l = c.args.parts.now.ledger in
    let p = c.args.parts.now.pages in
    let call = c.args.call in
    let is = c.in-Ok.ensures in
    let q : OpenPages = record { swap = c.plan_call.new.swap; space = c.plan_call.new.space; base = p.base } in
    let now : Ledger g.row.D.Denot = record { journal = c.plan_call.new.journal; books = l.books; freed = l.freed; alloc = l.alloc } in
    let tree_is : c.tree.result.now.rows ≡ l.books.state.store.tree = ap (λ x. x.rows) c.tree.ensures in
    let go = c.requires.go in
    let there : is_some (row_of call.agent c.target_of-target.result.row p.swap) ≡ true = subst (λ (n : ℕ). is_some (row_of call.agent n p.swap) ≡ true) (sym c.target_of-target.ensures.row)
    (stored-copy w c.copies_are_stored.ensures.copies go.fixed go.recorded l p c.args.pending.now call c.args.work.now [] go.are go.asked c.requires.word).there in
    record {
      fixed = may.fixed;
      recorded = may.recorded;
      are = read-parts w c.what_is_laid_goes_on.ensures.beside c.reads_leave_the_books.ensures laws.counted may.fixed may.recorded l p c.plan_call.new.journal q call may.are is.left.reads c.target_of-target.result.row there is.left.pages refl c.tree.result.now.rows tree_is is.left.spaced;
      asked = asked-room w.tells may.fixed.opening l.books.history c.args.pending.now l.books.state call c.args.work.now c.plan_call.new.work [] is.same may.asked;
    }

pub enter_call-requires-clause-plan : goal.enter_call-requires-clause-plan
enter_call-requires-clause-plan g c =
    let may = c.requires.go in
    let laws = g.met.D.Disk in
    let w = g.D.Disk in
    let l = c.args.parts.now.ledger in
    let p = c.args.parts.now.pages in
    let call = c.args.call in
    let is = c.in-Ok.ensures in
    let q : OpenPages = record { swap = c.plan_call.new.swap; space = c.plan_call.new.space; base = p.base } in
    let now : Ledger g.row.D.Denot = record { journal = c.plan_call.new.journal; books = l.books; freed = l.freed; alloc = l.alloc } in
    let tree_is : c.tree.result.now.rows ≡ l.books.state.store.tree = ap (λ x. x.rows) c.tree.ensures in
    let go = c.requires.go in
    let there : is_some (row_of call.agent c.target_of-target.result.row p.swap) ≡ true = subst (λ (n : ℕ). is_some (row_of call.agent n p.swap) ≡ true) (sym c.target_of-target.ensures.row)
    (stored-copy w c.copies_are_stored.ensures.copies go.fixed go.recorded l p c.args.pending.now call c.args.work.now [] go.are go.asked c.requires.word).there in
    let t = c.target_of-target in
    is-plan w c.what_is_laid_goes_on.ensures.beside c.reads_leave_the_books.ensures laws.counted may.fixed may.recorded l p c.plan_call.new.journal q call
    may.are is.left.reads t.result.row there is.left.pages refl c.tree.result.now.rows tree_is is.left.spaced
    c.parts_lie_inside.ensures t.result (record { row = t.ensures.row; at = t.ensures.at; size = t.ensures.size; position = t.ensures.position; beside = t.ensures.beside; writes = t.ensures.writes; counts = t.ensures.counts }) t.ensures.row
    c.args.given.now c.requires.given c.plan_call.new.work c.in-Ok.planned.put c.in-Ok.planned.page.items c.requires.small is.planned.put.count is.planned.put.staged.staged.bytes is.planned.put.ready is.planned.put.gotten is.planned.page.whole is.planned.page.tail is.planned.room

pub enter_call-requires-clause-planned : goal.enter_call-requires-clause-planned
enter_call-requires-clause-planned g c f recorded held asked before row_is =
    let laws = g.met.D.Disk in
    let w = g.D.Disk in
    let l = c.args.parts.now.ledger in
    let p = c.args.parts.now.pages in
    let call = c.args.call in
    let is = c.in-Ok.ensures in
    let q : OpenPages = record { swap = c.plan_call.new.swap; space = c.plan_call.new.space; base = p.base } in
    let now : Ledger g.row.D.Denot = record { journal = c.plan_call.new.journal; books = l.books; freed = l.freed; alloc = l.alloc } in
    let tree_is : c.tree.result.now.rows ≡ l.books.state.store.tree = ap (λ x. x.rows) c.tree.ensures in
    let go = c.requires.go in
    let there : is_some (row_of call.agent c.target_of-target.result.row p.swap) ≡ true = subst (λ (n : ℕ). is_some (row_of call.agent n p.swap) ≡ true) (sym c.target_of-target.ensures.row)
    (stored-copy w c.copies_are_stored.ensures.copies go.fixed go.recorded l p c.args.pending.now call c.args.work.now [] go.are go.asked c.requires.word).there in
    let t = c.target_of-target in
    let first : length c.args.work.now.pages ≡ blocks c.args.work.now.length = search rules in
    let paged = paged-room c.args.work.now c.plan_call.new.work is.same first in
    planned-of w c.copies_are_stored.ensures.copies f recorded now p q c.args.pending.now call c.args.work.now c.plan_call.new.work (w.content l.journal.disk) held asked c.requires.word
    t.result (record { row = t.ensures.row; at = t.ensures.at; size = t.ensures.size; position = t.ensures.position; beside = t.ensures.beside; writes = t.ensures.writes; counts = t.ensures.counts })
    c.args.given.now c.requires.given is.same is.left.pages refl (λ told. (is.left.reads.told told).same) paged c.in-Ok.planned.put.writes c.in-Ok.planned.page.items is.planned.put.staged is.planned.page.page before row_is

pub fail_reading-requires : goal.fail_reading-requires
fail_reading-requires g c = record {
  may =
      let may = c.requires.go in
      let laws = g.met.D.Disk in
      let w = g.D.Disk in
      let l = c.args.parts.now.ledger in
      let p = c.args.parts.now.pages in
      let call = c.args.call in
      let is = c.in-Err-DiskFault.ensures in
      let q : OpenPages = record { swap = c.plan_call.new.swap; space = c.plan_call.new.space; base = p.base } in
      let now : Ledger g.row.D.Denot = record { journal = c.plan_call.new.journal; books = l.books; freed = l.freed; alloc = l.alloc } in
      let tree_is : c.tree.result.now.rows ≡ l.books.state.store.tree = ap (λ x. x.rows) c.tree.ensures in
      let go = c.requires.go in
      let there : is_some (row_of call.agent c.target_of-target.result.row p.swap) ≡ true = subst (λ (n : ℕ). is_some (row_of call.agent n p.swap) ≡ true) (sym c.target_of-target.ensures.row)
      (stored-copy w c.copies_are_stored.ensures.copies go.fixed go.recorded l p c.args.pending.now call c.args.work.now [] go.are go.asked c.requires.word).there in
      record {
        fixed = may.fixed;
        recorded = may.recorded;
        start = l;
        before = p;
        work = c.args.work.now;
        past = [];
        failed = record {
          held = may.are;
          are = read-parts w c.what_is_laid_goes_on.ensures.beside c.reads_leave_the_books.ensures laws.counted may.fixed may.recorded l p c.plan_call.new.journal q call may.are is.left.reads c.target_of-target.result.row there is.left.pages refl c.tree.result.now.rows tree_is is.left.spaced;
          books = refl;
          reads = is.left.reads;
          asked = may.asked;
          disk = on-disk _ _ _ _ c.requires.word may.asked.judged;
          rose = is.cause (λ i. Err (c.in-Err-DiskFault.field-0-is i));
        };
      };
}

pub returns-in-Ok-clause-acted : goal.returns-in-Ok-clause-acted
returns-in-Ok-clause-acted g c f recorded held asked =
    let laws = g.met.D.Disk in
    let w = g.D.Disk in
    let l = c.args.parts.now.ledger in
    let p = c.args.parts.now.pages in
    let call = c.args.call in
    let is = c.in-Ok.ensures in
    let q : OpenPages = record { swap = c.plan_call.new.swap; space = c.plan_call.new.space; base = p.base } in
    let now : Ledger g.row.D.Denot = record { journal = c.plan_call.new.journal; books = l.books; freed = l.freed; alloc = l.alloc } in
    let tree_is : c.tree.result.now.rows ≡ l.books.state.store.tree = ap (λ x. x.rows) c.tree.ensures in
    let go = c.requires.go in
    let there : is_some (row_of call.agent c.target_of-target.result.row p.swap) ≡ true = subst (λ (n : ℕ). is_some (row_of call.agent n p.swap) ≡ true) (sym c.target_of-target.ensures.row)
    (stored-copy w c.copies_are_stored.ensures.copies go.fixed go.recorded l p c.args.pending.now call c.args.work.now [] go.are go.asked c.requires.word).there in
    let then = read-parts w c.what_is_laid_goes_on.ensures.beside c.reads_leave_the_books.ensures laws.counted f recorded l p c.plan_call.new.journal q call held is.left.reads c.target_of-target.result.row there is.left.pages refl c.tree.result.now.rows tree_is is.left.spaced in
    acted-room w f (record { ledger = l; pages = p }) c.enter_call.new.parts c.args.pending.now _ c.args.work.now c.plan_call.new.work _ _ is.same
    (read-acted w f l now refl is.left.reads c.reads_leave_the_books.ensures laws.falls recorded p q p held c.enter_call.new.parts c.args.pending.now _ c.plan_call.new.work _ _
    (c.enter_call.ensures.acted f recorded then (asked-room w.tells f.opening l.books.history c.args.pending.now l.books.state call c.args.work.now c.plan_call.new.work [] is.same asked)))

pub returns-in-Err-DiskFault-clause-acted : goal.returns-in-Err-DiskFault-clause-acted
returns-in-Err-DiskFault-clause-acted g c f recorded held asked =
    let laws = g.met.D.Disk in
    let w = g.D.Disk in
    let l = c.args.parts.now.ledger in
    let p = c.args.parts.now.pages in
    let call = c.args.call in
    let is = c.in-Err-DiskFault.ensures in
    let q : OpenPages = record { swap = c.plan_call.new.swap; space = c.plan_call.new.space; base = p.base } in
    let now : Ledger g.row.D.Denot = record { journal = c.plan_call.new.journal; books = l.books; freed = l.freed; alloc = l.alloc } in
    let tree_is : c.tree.result.now.rows ≡ l.books.state.store.tree = ap (λ x. x.rows) c.tree.ensures in
    let go = c.requires.go in
    let there : is_some (row_of call.agent c.target_of-target.result.row p.swap) ≡ true = subst (λ (n : ℕ). is_some (row_of call.agent n p.swap) ≡ true) (sym c.target_of-target.ensures.row)
    (stored-copy w c.copies_are_stored.ensures.copies go.fixed go.recorded l p c.args.pending.now call c.args.work.now [] go.are go.asked c.requires.word).there in
    let then = read-parts w c.what_is_laid_goes_on.ensures.beside c.reads_leave_the_books.ensures laws.counted f recorded l p c.plan_call.new.journal q call held is.left.reads c.target_of-target.result.row there is.left.pages refl c.tree.result.now.rows tree_is is.left.spaced in
    c.fail_reading.ensures.acted f recorded l p p c.args.work.now c.plan_call.new.work []
    (record { held = held; are = then; books = refl; reads = is.left.reads; asked = asked; disk = on-disk _ _ _ _ c.requires.word asked.judged; rose = is.cause (λ i. Err (c.in-Err-DiskFault.field-0-is i)) }) is.same

pub returns-in-Err-NoMemory-clause-idle : goal.returns-in-Err-NoMemory-clause-idle
returns-in-Err-NoMemory-clause-idle g c f recorded held =
    let laws = g.met.D.Disk in
    let w = g.D.Disk in
    let l = c.args.parts.now.ledger in
    let p = c.args.parts.now.pages in
    let call = c.args.call in
    let is = c.in-Err-NoMemory.ensures in
    let q : OpenPages = record { swap = c.plan_call.new.swap; space = c.plan_call.new.space; base = p.base } in
    let now : Ledger g.row.D.Denot = record { journal = c.plan_call.new.journal; books = l.books; freed = l.freed; alloc = l.alloc } in
    let tree_is : c.tree.result.now.rows ≡ l.books.state.store.tree = ap (λ x. x.rows) c.tree.ensures in
    let go = c.requires.go in
    let there : is_some (row_of call.agent c.target_of-target.result.row p.swap) ≡ true = subst (λ (n : ℕ). is_some (row_of call.agent n p.swap) ≡ true) (sym c.target_of-target.ensures.row)
    (stored-copy w c.copies_are_stored.ensures.copies go.fixed go.recorded l p c.args.pending.now call c.args.work.now [] go.are go.asked c.requires.word).there in
    let then = read-parts w c.what_is_laid_goes_on.ensures.beside c.reads_leave_the_books.ensures laws.counted f recorded l p c.plan_call.new.journal q call held is.left.reads c.target_of-target.result.row there is.left.pages refl c.tree.result.now.rows tree_is is.left.spaced in
    read-unacted w f l now refl is.left.reads recorded q p then
