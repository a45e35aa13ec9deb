use Rattle.std.proofs.Common.{ℕ, List, length, sym, ap, ◌∙◌}
use Rattle.opfs_outside.specs.Bytes.{window}
use Rattle.opfs_data.proofs.PageLemmas.{page_none, page_block, block_is, zeros_are}
use Rattle.opfs_data.proofs.pages.read_page.Goals as goal

pub returns-in_default-block-clause-read : goal.returns-in_default-block-clause-read
returns-in_default-block-clause-read g c = λ told.
    c.fill.ensures.after (λ y is. is)
    ∙ zeros_are (length c.args.into.now) c.requires.whole
    ∙ sym (page_none (g.D.Disk.content c.args.journal.now.disk) c.args.base c.args.page.now c.in_default.is c.in_default-block.is)

pub returns-clause-read : goal.returns-clause-read
returns-clause-read g c = λ told.
    let content : List ℕ = g.D.Disk.content c.args.journal.now.disk in
    c.in_ok-get.ensures.bytes told
    ∙ ap (λ (k : ℕ). window content k (length c.get.new.into)) c.place_of.ensures
    ∙ sym (block_is content c.args.base c.in-Some-block.block (length c.get.new.into) (c.get.auto.into ∙ c.requires.whole))
    ∙ sym (page_block content c.args.base c.args.page.now c.in-Some-block.block c.in_default.is c.in-Some-block.is)
