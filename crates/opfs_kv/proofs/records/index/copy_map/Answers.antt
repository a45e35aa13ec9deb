use Rattle.std.proofs.Common.{fold, ◌∙◌}
use Rattle.opfs_kv.proofs.records.ByKey.{entry-by-entry, with_entry}
use Rattle.opfs_kv.proofs.records.index.copy_map.Goals as goal

pub loop-key-init : goal.loop-key-init
loop-key-init c =
    (λ i. fold with_entry (c.new-made.ensures.empty i) ((c.into_iter-key-iterator.ensures.into_iter_gives ∙ c.iter-key-items.ensures.rest) i))
    ∙ entry-by-entry c.args.map.now.entries c.iter-key-items.ensures.ordered
