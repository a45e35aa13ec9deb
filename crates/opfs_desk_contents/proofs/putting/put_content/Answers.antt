use Rattle.std.proofs.Common.{ℕ, [], refl, sym, subst, ◌∙◌, arith}
use Rattle.opfs_data.specs.Writes.{WriteList, HasBytes}
use Rattle.opfs_desk_steps.proofs.book_steps.Alike.{leaves-alike}
use Rattle.opfs_desk_contents.specs.Putting.{HasContent, KeepsEnough}
use Rattle.opfs_desk_contents.proofs.Found.{enough-now}
use Rattle.opfs_desk_contents.proofs.Going.{cleared-both, gotten-on, ready-put, row-on, whole-now}
use Rattle.opfs_desk_contents.proofs.putting.put_content.Goals as goal

pub find_room-requires-clause-may : goal.find_room-requires-clause-may
find_room-requires-clause-may g c =
    let w = g.D.Disk in
    let may = c.requires.may in
    let l = c.args.parts.now.ledger in
    let p = c.args.parts.now.pages in
    let put = c.args.put.now in
    let mid = c.settle_doubt.new.ledger in
    let is = c.settle_doubt.ensures in
    let inside = c.parts_lie_inside.ensures may.fixed may.recorded l p may.are in
    record {
      fixed = may.fixed;
      recorded = may.recorded;
      are = is.held may.fixed may.recorded p may.are;
      ready = record {
        ready = ready-put w.tells (w.content l.journal.disk) (w.content mid.journal.disk) p.base p.base p.swap p.swap c.args.agent c.args.row put put refl refl refl refl refl (omega arith) (leaves-alike w l.journal mid.journal p.base p.swap inside.part.behind is.leaves) may.ready.ready;
        bytes = may.ready.bytes;
        gotten = gotten-on w may.recorded.rows l mid p c.args.agent c.args.row put is.state is.leaves.stays.length may.ready.gotten;
      };
      enough = enough-now l mid c.args.agent c.args.row put.pages is.state may.enough;
    }

pub write_pages-requires : goal.write_pages-requires
write_pages-requires g c = record {
  may =
      let w = g.D.Disk in
      let may = c.requires.may in
      let l = c.args.parts.now.ledger in
      let p = c.args.parts.now.pages in
      let put = c.args.put.now in
      let mid = c.settle_doubt.new.ledger in
      let back = c.find_room.new.parts.ledger in
      let q = c.find_room.new.parts.pages in
      let next = c.find_room.new.put in
      let is = c.settle_doubt.ensures in
      let found = c.find_room.ensures in
      let inside = c.parts_lie_inside.ensures may.fixed may.recorded l p may.are in
      let held = is.held may.fixed may.recorded p may.are in
      let within = c.parts_lie_inside.ensures may.fixed may.recorded mid p held in
      let cleared = found.cleared may.fixed may.recorded held in
      let alike = leaves-alike w l.journal mid.journal p.base p.swap inside.part.behind is.leaves in
      let ready = ready-put w.tells (w.content l.journal.disk) (w.content mid.journal.disk) p.base p.base p.swap p.swap c.args.agent c.args.row put put refl refl refl refl refl (omega arith) alike may.ready.ready in
      record {
        fixed = may.fixed;
        recorded = cleared.recorded;
        are = whole-now w may.fixed mid back q found.entries cleared;
        settled = c.in-Ok-find_room.ensures.sure;
        ready =
            ready-put w.tells (w.content mid.journal.disk) (w.content back.journal.disk) p.base q.base p.swap q.swap c.args.agent c.args.row put next found.swap found.base found.writes found.count found.moves found.capacity
            (leaves-alike w mid.journal back.journal p.base p.swap within.part.behind found.leaves) ready;
        bytes = subst (λ (x : WriteList). HasBytes x []) (sym found.writes) may.ready.bytes;
        blocks = c.in-Ok-find_room.ensures.blocks;
        enough =
            subst (λ (n : ℕ). KeepsEnough back c.args.agent c.args.row n) (sym found.count)
            (enough-now mid back c.args.agent c.args.row put.pages found.state (enough-now l mid c.args.agent c.args.row put.pages is.state may.enough));
      };
}

pub returns-in-Err-clause-cleared : goal.returns-in-Err-clause-cleared
returns-in-Err-clause-cleared g c f recorded work bytes are of = c.settle_doubt.ensures.cleared f recorded c.args.parts.now.pages are

pub returns-in-Err-find_room-clause-cleared : goal.returns-in-Err-find_room-clause-cleared
returns-in-Err-find_room-clause-cleared g c f recorded work bytes are of =
    let laws = g.met.D.Disk in
    let p = c.args.parts.now.pages in
    let is = c.settle_doubt.ensures in
    let found = c.find_room.ensures in
    cleared-both g.D.Disk f laws.falls c.args.parts.now.ledger c.settle_doubt.new.ledger c.find_room.new.parts.ledger p c.find_room.new.parts.pages is.entries found.entries c.in-Ok.ensures.sure (is.cleared f recorded p are)
    (found.cleared f recorded (is.held f recorded p are))

pub returns-in-Err-write_pages-clause-cleared : goal.returns-in-Err-write_pages-clause-cleared
returns-in-Err-write_pages-clause-cleared g c f recorded work bytes are of =
    let w = g.D.Disk in
    let laws = g.met.D.Disk in
    let l = c.args.parts.now.ledger in
    let p = c.args.parts.now.pages in
    let put = c.args.put.now in
    let mid = c.settle_doubt.new.ledger in
    let back = c.find_room.new.parts.ledger in
    let q = c.find_room.new.parts.pages in
    let is = c.settle_doubt.ensures in
    let found = c.find_room.ensures in
    let wrote = c.write_pages.ensures in
    let held = is.held f recorded p are in
    let before = c.parts_lie_inside.ensures f recorded l p are in
    let within = c.parts_lie_inside.ensures f recorded mid p held in
    let first = cleared-both w f laws.falls l mid back p q is.entries found.entries c.in-Ok.ensures.sure (is.cleared f recorded p are) (found.cleared f recorded held) in
    let row_mid = row-on w f l mid p p c.args.agent c.args.row put put work bytes refl refl is.entries refl refl (leaves-alike w l.journal mid.journal p.base p.swap before.part.behind is.leaves) of in
    let row_back = row-on w f mid back p q c.args.agent c.args.row put c.find_room.new.put work bytes found.swap found.base found.entries found.writes found.count (leaves-alike w mid.journal back.journal p.base p.swap within.part.behind found.leaves) row_mid in
    cleared-both w f laws.falls l back c.write_pages.new.parts.ledger q c.write_pages.new.parts.pages (found.entries ∙ is.entries) wrote.entries c.in-Ok-find_room.ensures.sure first
    (wrote.cleared f first.recorded work bytes (whole-now w f l back q (found.entries ∙ is.entries) first) row_back)

pub returns-in-Ok-write_pages-clause-cleared : goal.returns-in-Ok-write_pages-clause-cleared
returns-in-Ok-write_pages-clause-cleared g c f recorded work bytes are of =
    let w = g.D.Disk in
    let laws = g.met.D.Disk in
    let l = c.args.parts.now.ledger in
    let p = c.args.parts.now.pages in
    let put = c.args.put.now in
    let mid = c.settle_doubt.new.ledger in
    let back = c.find_room.new.parts.ledger in
    let q = c.find_room.new.parts.pages in
    let is = c.settle_doubt.ensures in
    let found = c.find_room.ensures in
    let wrote = c.write_pages.ensures in
    let held = is.held f recorded p are in
    let before = c.parts_lie_inside.ensures f recorded l p are in
    let within = c.parts_lie_inside.ensures f recorded mid p held in
    let first = cleared-both w f laws.falls l mid back p q is.entries found.entries c.in-Ok.ensures.sure (is.cleared f recorded p are) (found.cleared f recorded held) in
    let row_mid = row-on w f l mid p p c.args.agent c.args.row put put work bytes refl refl is.entries refl refl (leaves-alike w l.journal mid.journal p.base p.swap before.part.behind is.leaves) of in
    let row_back = row-on w f mid back p q c.args.agent c.args.row put c.find_room.new.put work bytes found.swap found.base found.entries found.writes found.count (leaves-alike w mid.journal back.journal p.base p.swap within.part.behind found.leaves) row_mid in
    cleared-both w f laws.falls l back c.write_pages.new.parts.ledger q c.write_pages.new.parts.pages (found.entries ∙ is.entries) wrote.entries c.in-Ok-find_room.ensures.sure first
    (wrote.cleared f first.recorded work bytes (whole-now w f l back q (found.entries ∙ is.entries) first) row_back)

pub returns-in-Ok-write_pages-clause-content : goal.returns-in-Ok-write_pages-clause-content
returns-in-Ok-write_pages-clause-content g c f recorded work bytes are of =
    let w = g.D.Disk in
    let l = c.args.parts.now.ledger in
    let p = c.args.parts.now.pages in
    let put = c.args.put.now in
    let mid = c.settle_doubt.new.ledger in
    let back = c.find_room.new.parts.ledger in
    let q = c.find_room.new.parts.pages in
    let new = c.write_pages.new.parts in
    let is = c.settle_doubt.ensures in
    let found = c.find_room.ensures in
    let held = is.held f recorded p are in
    let before = c.parts_lie_inside.ensures f recorded l p are in
    let within = c.parts_lie_inside.ensures f recorded mid p held in
    let row_mid = row-on w f l mid p p c.args.agent c.args.row put put work bytes refl refl is.entries refl refl (leaves-alike w l.journal mid.journal p.base p.swap before.part.behind is.leaves) of in
    let row_back = row-on w f mid back p q c.args.agent c.args.row put c.find_room.new.put work bytes found.swap found.base found.entries found.writes found.count (leaves-alike w mid.journal back.journal p.base p.swap within.part.behind found.leaves) row_mid in
    subst (λ (n : ℕ). HasContent w.tells new.pages.base (w.content new.ledger.journal.disk) new.pages.swap c.args.agent c.args.row n bytes) found.count
    (c.in-Ok-write_pages.ensures.content f work bytes row_back)
