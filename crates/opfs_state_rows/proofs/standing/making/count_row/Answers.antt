use Rattle.std.proofs.Common.{List, [], not, ◌&&◌, is_some, ap, ◌∙◌}
use Rattle.opfs_base.specs.Texts.{Text}
use Rattle.opfs_shed.specs.declared.shed.Bucket.{Bucket}
use Rattle.opfs_shed.specs.Buckets.{bucket_at}
use Rattle.opfs_tree.specs.Rows.{row_at, none_taken}
use Rattle.opfs_state_rows.proofs.standing.Begun.{counted-on}
use Rattle.opfs_state_rows.proofs.standing.Stores.{pool-raised}
use Rattle.opfs_state_rows.proofs.standing.Touched.{bucket_same}
use Rattle.opfs_state_rows.proofs.standing.making.count_row.Goals as goal

pub mark-requires : goal.mark-requires
mark-requires c =
    (pool-raised c.touch-2.new.self c.raise.new.self c.args.unit.now c.durable_blocks-blocks.result c.in_ok-touch-2.ensures.there c.raise.ensures.share c.raise.ensures.held).kept c.args.unit.now ∙ c.in_ok-touch-2.ensures.there

pub returns-clause-counted : goal.returns-clause-counted
returns-clause-counted c = λ start path rest counted.
    let same = bucket_same c.args.shed.now c.touch.new.self c.args.unit.now c.in_ok-touch.ensures.touched c.args.unit.now ∙ counted.buckets c.args.unit.now in
    counted-on c.args.tree.now.rows rest (c.args.unit.now, path) c.args.row.now start c.args.shed.now c.touch.new.self c.args.pool.now c.touch-2.new.self c.raise.new.self c.mark.new.pool c.durable_blocks-blocks.result counted
    c.durable_blocks-blocks.ensures c.in_ok-touch.ensures.touched c.in_ok-touch.ensures.there c.touch.ensures.usage c.in_ok-touch-2.ensures.touched c.in_ok-touch-2.ensures.there c.touch-2.ensures.held c.raise.ensures.share c.raise.ensures.held
    (is_some (row_at (c.args.unit.now, c.args.root.now) c.args.tree.now.rows) && not (bucket_at c.touch.new.self.buckets c.args.unit.now).persistent && none_taken c.args.unit.now c.args.tree.now.rows)
    (ap (λ (p : List Text). is_some (row_at (c.args.unit.now, p) c.args.tree.now.rows) && not (bucket_at c.touch.new.self.buckets c.args.unit.now).persistent && none_taken c.args.unit.now c.args.tree.now.rows) c.requires.root
    ∙ ap (λ (b : Bucket). is_some (row_at (c.args.unit.now, []) c.args.tree.now.rows) && not b.persistent && none_taken c.args.unit.now c.args.tree.now.rows) same)
    c.mark.ensures
