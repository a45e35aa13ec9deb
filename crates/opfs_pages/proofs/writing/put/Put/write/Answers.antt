use Rattle.std.proofs.Common.{◌≡◌, ◌++◌, List, ap, subst, ◌∙◌}
use Rattle.opfs_base.specs.declared.extents.Extent.{Extent}
use Rattle.opfs_data.specs.Rows.{row_at, pages_at}
use Rattle.opfs_data.specs.Writes.{PageWrite, page_writes, page_moves, placed, blocks_in}
use Rattle.opfs_pages.specs.Writing.Puts.{IsPut, all_writes}
use Rattle.opfs_pages.proofs.writing.Saving.{saved_placed}
use Rattle.opfs_pages.proofs.writing.put.Put.write.Goals as goal

pub write-requires-clause-within : goal.write-requires-clause-within
write-requires-clause-within g c = (c.place_all.ensures.bytes c.args.given.now c.requires.bytes).runs

pub write-requires-clause-saved : goal.write-requires-clause-saved
write-requires-clause-saved g c =
    saved_placed (row_at c.args.agent c.args.row c.args.swap.now).saved (pages_at c.args.agent c.args.row c.args.swap.now) c.args.self.now.writes c.args.given.now (page_writes c.place_all.new.self c.args.given.now)
    (placed (page_moves c.args.self.now.writes c.args.given.now) (blocks_in c.args.self.now.extents.items))
    (c.place_all.ensures.placed c.args.given.now ∙ ap (λ (es : List Extent). page_writes c.args.self.now.writes c.args.given.now ++ placed (page_moves c.args.self.now.writes c.args.given.now) (blocks_in es)) c.deref.ensures.value)
    c.requires.placed.apart c.requires.ready.saved

pub returns-clause-put : goal.returns-clause-put
returns-clause-put g c =
    let is : page_writes c.place_all.new.self c.args.given.now ≡ all_writes c.args.self.now.writes c.args.given.now c.args.self.now.extents.items =
    c.place_all.ensures.placed c.args.given.now ∙ ap (λ (es : List Extent). page_writes c.args.self.now.writes c.args.given.now ++ placed (page_moves c.args.self.now.writes c.args.given.now) (blocks_in es)) c.deref.ensures.value
    in
    let e = c.in_ok-write.ensures in
    subst (λ (ws : List PageWrite). IsPut g.D.Disk.tells c.args.base (g.D.Disk.content c.args.journal.now.disk) (g.D.Disk.content c.write.new.journal.disk) c.args.swap.now c.write.new.self c.args.agent c.args.row c.args.self.now.pages ws) is
    (record { there = e.there; others = e.others; fewer = e.fewer; pages_are = e.pages; size = e.size; fresh = e.fresh; given = e.given; rest = e.rest; read = e.others_read })
