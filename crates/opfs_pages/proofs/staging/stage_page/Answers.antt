use Rattle.opfs_pages.proofs.staging.stage_page.Goals as goal

pub returns-clause-right : goal.returns-clause-right
returns-clause-right g c = λ told bytes is held was.
    c.in_ok-add_page.ensures.right _ c.args.put.now.given.now (c.in_ok-page_after.ensures.read told bytes is held) was

pub returns-clause-bytes : goal.returns-clause-bytes
returns-clause-bytes g c = λ has. c.in_ok-add_page.ensures.bytes c.args.put.now.given.now has
