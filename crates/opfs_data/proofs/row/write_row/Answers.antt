use Rattle.std.proofs.Common.{List, length, get_or, ap, ◌∙◌}
use Rattle.opfs_data.specs.declared.page.Page.{Page}
use Rattle.opfs_data.specs.Writes.{page_writes}
use Rattle.opfs_data.specs.Pages.{page_of, blank, with_writes}
use Rattle.opfs_data.proofs.PageLemmas.{page_stays}
use Rattle.opfs_data.proofs.RowLemmas.{left_all, kept_other, kept_block, length-with_kept, saved_again}
use Rattle.opfs_data.proofs.PlacedLemmas.{given_reads, rest_reads, ok_holds, below_all}
use Rattle.opfs_data.proofs.row.write_row.Goals as goal

pub returns-then-is_err-clause-left : goal.returns-then-is_err-clause-left
returns-then-is_err-clause-left g c = λ told j lt.
    ap (λ (ps : List Page). page_of (g.D.Disk.content c.put_list.new.journal.disk) c.args.base (get_or ps j blank)) c.keep_saved.ensures.kept
    ∙ left_all (g.D.Disk.content c.args.journal.now.disk) (g.D.Disk.content c.put_list.new.journal.disk) c.args.base c.args.saved.items c.args.pages.now.items (page_writes c.args.writes.now c.args.given.now)
    (c.requires.now told) c.requires.saved c.requires.own (c.put_list.ensures.writes.told told).elsewhere j lt

pub returns-then-is_err-clause-newly : goal.returns-then-is_err-clause-newly
returns-then-is_err-clause-newly g c = λ j none.
    ap (λ (ps : List Page). get_or ps j blank) c.keep_saved.ensures.kept
    ∙ kept_other c.args.saved.items c.args.pages.now.items j (λ there. none (saved_again c.args.saved.items c.args.pages.now.items (page_writes c.args.writes.now c.args.given.now) j c.requires.saved.only there))

pub returns-then-is_err-clause-apart : goal.returns-then-is_err-clause-apart
returns-then-is_err-clause-apart g c = λ told page apart.
    page_stays (g.D.Disk.content c.args.journal.now.disk) (g.D.Disk.content c.put_list.new.journal.disk) c.args.base (page_writes c.args.writes.now c.args.given.now) page (c.put_list.ensures.writes.told told).elsewhere apart

pub returns-clause-apart : goal.returns-clause-apart
returns-clause-apart g c = λ told page apart.
    page_stays (g.D.Disk.content c.args.journal.now.disk) (g.D.Disk.content c.put_list.new.journal.disk) c.args.base (page_writes c.args.writes.now c.args.given.now) page (c.put_list.ensures.writes.told told).elsewhere apart

pub returns-then-is_err-clause-len : goal.returns-then-is_err-clause-len
returns-then-is_err-clause-len g c = ap length c.keep_saved.ensures.kept ∙ length-with_kept c.args.saved.items c.args.pages.now.items

pub returns-then-is_err-clause-blocks : goal.returns-then-is_err-clause-blocks
returns-then-is_err-clause-blocks g c = λ j.
    ap (λ (ps : List Page). (get_or ps j blank).block) c.keep_saved.ensures.kept ∙ kept_block c.args.saved.items c.args.pages.now.items j c.requires.saved.inside

pub returns-clause-given : goal.returns-clause-given
returns-clause-given g c = λ told.
    given_reads (g.D.Disk.content c.put_list.new.journal.disk) c.args.base c.args.count c.args.pages.now.items _ (page_writes c.args.writes.now c.args.given.now) (c.place_list.ensures c.args.given.now ∙ ap (λ (ps : List Page). with_writes (page_writes c.args.writes.now c.args.given.now) ps) c.resize.ensures) c.requires.once c.requires.inside
    (ok_holds c.put_list.result _ c.if-is_err.ensures.value c.put_list.ensures.written told)

pub returns-clause-rest : goal.returns-clause-rest
returns-clause-rest g c = λ told j below there none.
    rest_reads (g.D.Disk.content c.args.journal.now.disk) (g.D.Disk.content c.put_list.new.journal.disk) c.args.base c.args.count c.args.pages.now.items _ (page_writes c.args.writes.now c.args.given.now) j (c.place_list.ensures c.args.given.now ∙ ap (λ (ps : List Page). with_writes (page_writes c.args.writes.now c.args.given.now) ps) c.resize.ensures) c.requires.own
    (c.put_list.ensures.writes.told told).elsewhere below there none

pub place_list-requires : goal.place_list-requires
place_list-requires g c =
    rw c.resize.ensures (below_all c.args.count c.args.pages.now.items c.args.writes.now.own c.args.given.now c.args.writes.now.runs c.requires.inside)

pub returns-clause-written : goal.returns-clause-written
returns-clause-written g c = c.place_list.ensures c.args.given.now ∙ ap (λ (ps : List Page). with_writes (page_writes c.args.writes.now c.args.given.now) ps) c.resize.ensures
