use Rattle.std.proofs.Common.{List, take, ap, ◌∙◌}
use Rattle.opfs_data.specs.declared.page.Page.{Page}
use Rattle.opfs_space.specs.Spaces.{page_blocks}
use Rattle.opfs_data.specs.Rows.{pages_at}
use Rattle.opfs_pages.proofs.row_calls.Stores.{taken-has, taken-once, runs-below, plain-count, plain-bytes}
use Rattle.opfs_pages.proofs.row_calls.content.collect_blocks.Goals as goal

pub returns-clause-of_row : goal.returns-clause-of_row
returns-clause-of_row c = λ b has. taken-has c.args.pages (pages_at c.args.agent c.args.row c.args.swap.now) c.add_pages.new.into.items b (c.add_pages.ensures.blocks ∙ ap (λ (ps : List Page). page_blocks (take c.args.pages ps)) c.pages.ensures) has

pub returns-clause-once : goal.returns-clause-once
returns-clause-once c = λ apart. taken-once c.args.pages (pages_at c.args.agent c.args.row c.args.swap.now) c.add_pages.new.into.items (c.add_pages.ensures.blocks ∙ ap (λ (ps : List Page). page_blocks (take c.args.pages ps)) c.pages.ensures) apart

pub returns-clause-below : goal.returns-clause-below
returns-clause-below c = λ size inside.
    runs-below size c.add_pages.new.into.items c.add_pages.ensures.some
    (λ b has.
    let there = taken-has c.args.pages (pages_at c.args.agent c.args.row c.args.swap.now) c.add_pages.new.into.items b (c.add_pages.ensures.blocks ∙ ap (λ (ps : List Page). page_blocks (take c.args.pages ps)) c.pages.ensures) has in
    inside there.0 b there.1)

pub returns-clause-count : goal.returns-clause-count
returns-clause-count c = λ are. plain-count c.args.swap.now c.args.agent c.args.row c.args.pages c.add_pages.new.into.items (c.add_pages.ensures.blocks ∙ ap (λ (ps : List Page). page_blocks (take c.args.pages ps)) c.pages.ensures) are

pub returns-clause-bytes : goal.returns-clause-bytes
returns-clause-bytes c = λ are from base bytes many begun. plain-bytes c.args.swap.now c.args.agent c.args.row c.args.pages c.add_pages.new.into.items (c.add_pages.ensures.blocks ∙ ap (λ (ps : List Page). page_blocks (take c.args.pages ps)) c.pages.ensures) are from base bytes many begun
