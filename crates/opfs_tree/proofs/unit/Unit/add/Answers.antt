use Rattle.std.proofs.Common.{ap, ◌∙◌}
use Rattle.std.specs.FinMap.Entries.{put}
use Rattle.opfs_tree.specs.Units.{path_cmp}
use Rattle.opfs_tree.proofs.Maps.{put_insert_entry}
use Rattle.opfs_tree.proofs.Removals.{added_keys, undone_keys}
use Rattle.opfs_tree.proofs.unit.Unit.add.Goals as goal

pub invariant_of-self-in-Ok : goal.invariant_of-self-in-Ok
invariant_of-self-in-Ok c =
    added_keys c.args.path _ _ _ _ c.self.invariant c.in_ok-copy.ensures c.in_ok-insert.ensures.keys c.args.row _ c.in-Ok.ensures.entries

pub returns-in-Ok-clause-ok : goal.returns-in-Ok-clause-ok
returns-in-Ok-clause-ok c =
    c.in-Ok.ensures.entries ∙ (put_insert_entry path_cmp c.args.path c.args.row _ ∙ ap (put path_cmp c.args.path c.args.row) c.self.view_is)

pub invariant_of-self-in-Err : goal.invariant_of-self-in-Err
invariant_of-self-in-Err c =
    undone_keys c.args.path _ _ _ _ c.self.invariant c.in_ok-copy.ensures c.in_ok-insert.ensures.keys _ _ _ (ap (λ x. x.0) c.in-Err.ensures.value_returned) c.remove.ensures.keys c.in-Err.ensures.err c.in-Err.ensures.absent

pub invariant_of-self-in-Err-2 : goal.invariant_of-self-in-Err-2
invariant_of-self-in-Err-2 c =
    undone_keys c.args.path _ _ _ _ c.self.invariant c.in_ok-copy.ensures c.in_ok-insert.ensures.keys _ _ _ (ap (λ x. x.0) c.in-Err.ensures.value_returned) c.remove.ensures.keys c.in-Err.ensures.err c.in-Err.ensures.absent
