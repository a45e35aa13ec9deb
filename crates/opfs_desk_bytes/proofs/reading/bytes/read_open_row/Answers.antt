use Rattle.std.proofs.Common.{rules, ◌≡◌, ◌∙◌, List, ℕ, length, sym, subst}
use Rattle.opfs_pages.proofs.row_calls.Buffers.{buffer-whole}
use Rattle.opfs_desk_bytes.specs.Reading.Sources.{IsRowRead}
use Rattle.opfs_desk_bytes.proofs.reading.bytes.read_open_row.Goals as goal

pub returns-clause-read : goal.returns-clause-read
returns-clause-read g c =
    let len : c.in_ok-page.page.len ≡ length c.in_ok-page.page.items = search rules in
    let read = c.in_ok-read.read in
    subst (λ (xs : List ℕ). IsRowRead g.D.Disk.tells c.args.source.now (g.D.Disk.content c.args.journal.now.disk) c.args.start c.args.len read.bytes read.copy read.cursor read.beside xs)
    (sym (buffer-whole c.in_ok-page.page.len c.read_beside.new.page c.in_ok-page.page.items len (c.in_ok-read.ensures.whole ∙ sym c.in_ok-page.ensures)))
    c.in_ok-read.ensures.read
