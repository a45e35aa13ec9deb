use Rattle.std.proofs.Common.{sym, ◌∙◌}
use Rattle.opfs_rulings.proofs.Taking.{taken_more}
use Rattle.opfs_rulings.proofs.room.add_taken.Goals as goal

pub returns-in_ok-insert : goal.returns-in_ok-insert
returns-in_ok-insert c = taken_more c.args.entry.now _ _ _ (sym c.is_untaken.ensures ∙ c.if-not-is_untaken.true) c.in_ok-copy.ensures c.in_ok-insert.ensures.updates.0
