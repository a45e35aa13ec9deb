use Rattle.std.proofs.Common.{[], ap, ◌∙◌}
use Rattle.opfs_base.specs.Blocks.{blocks}
use Rattle.opfs_pages.specs.Writing.Puts.{all_writes}
use Rattle.opfs_desk_contents.proofs.Written.{put-cleared, left-cleared, has-content}
use Rattle.opfs_desk_contents.proofs.putting.write_pages.Goals as goal

pub write-requires-clause-part : goal.write-requires-clause-part
write-requires-clause-part g c = (c.parts_lie_inside.ensures c.requires.may.fixed c.requires.may.recorded c.args.parts.now.ledger c.args.parts.now.pages c.requires.may.are).part

pub returns-in-Ok-clause-cleared : goal.returns-in-Ok-clause-cleared
returns-in-Ok-clause-cleared g c f recorded work bytes are of =
    let laws = g.met.D.Disk in
    let w = g.D.Disk in
    let l = c.args.parts.now.ledger in
    let p = c.args.parts.now.pages in
    let put = c.args.put.now in
    let may = c.requires.may in
    let is = c.in-Ok.ensures.put in
    let content = has-content w f l p (w.content c.write.new.journal.disk) c.write.new.swap c.args.agent c.args.row put work bytes of may.blocks.placed.blocks is in
    put-cleared w f recorded l c.write.new.journal p are may.settled c.args.agent c.args.row put.pages (all_writes put.writes [] put.extents.items) may.blocks.mine c.in-Ok.ensures.writes laws.counted c.pages_beside_leave_the_books.ensures
    c.write.new.swap put.pages is may.ready.there bytes of.its_bytes (of.count ∙ ap blocks of.size) content.told c.pages_go_on_telling.ensures.there c.pages_go_on_telling.ensures.told
    may.enough.own may.enough.there may.enough.within may.blocks.placed.once may.blocks.mine

pub returns-in-Ok-clause-content : goal.returns-in-Ok-clause-content
returns-in-Ok-clause-content g c f work bytes of =
    has-content g.D.Disk f c.args.parts.now.ledger c.args.parts.now.pages (g.D.Disk.content c.write.new.journal.disk) c.write.new.swap c.args.agent c.args.row c.args.put.now work bytes of c.requires.may.blocks.placed.blocks c.in-Ok.ensures.put

pub returns-in-Err-clause-cleared : goal.returns-in-Err-clause-cleared
returns-in-Err-clause-cleared g c f recorded work bytes are of =
    let laws = g.met.D.Disk in
    let w = g.D.Disk in
    let l = c.args.parts.now.ledger in
    let p = c.args.parts.now.pages in
    let put = c.args.put.now in
    let may = c.requires.may in
    left-cleared w f recorded l c.write.new.journal p are may.settled c.args.agent c.args.row put.pages (all_writes put.writes [] put.extents.items) may.blocks.mine c.in-Err.ensures.writes laws.counted c.pages_beside_leave_the_books.ensures
    c.what_is_laid_goes_on.ensures.beside c.write.new.swap c.in-Err.ensures.not_put may.ready.there c.in-Err.ensures.cause
