use Rattle.std.proofs.Common.{◌≡◌, sym, ap, subst, ◌∙◌}
use Rattle.opfs_base.specs.declared.locator.Kind.{Kind}
use Rattle.opfs_base.specs.declared.locator.Kind.TheVariants as kind
use Rattle.std.specs.FinMap.Entries.{put}
use Rattle.opfs_base.specs.Places.{Place, place_cmp}
use Rattle.opfs_tree.specs.Rows.{Rows, change_at, stored, without}
use Rattle.opfs_tree.specs.Ready.Ready.{IsSpare, new_row}
use Rattle.opfs_tree.proofs.ready.Kept.{file-spare, file-filled}
use Rattle.opfs_tree.proofs.ready.ready.set_stamp.Goals as goal

file_kept : (p : Place) (k : Kind) (rows : Rows) → k ≡ kind.File → IsSpare p k rows → IsSpare p kind.File rows
file_kept p k rows is spare = subst (λ (x : Kind). IsSpare p x rows) is spare

pub set_file-requires : goal.set_file-requires
set_file-requires c = file-spare c.args.place.now c.args.tree.now (file_kept c.args.place.now c.args.kind c.args.tree.now c.in-File.is c.requires)

pub returns : goal.returns
returns c =
    let spare = file_kept c.args.place.now c.args.kind c.args.tree.now c.in-File.is c.requires in
    file-filled c.args.place.now c.args.tree.now c.set_file.new.self c.args.stamp spare
    (c.set_file.ensures.rows ∙ ap (λ xs. change_at c.args.place.now (stored 0 c.args.stamp xs) c.args.tree.now) c.none.ensures)
    ∙ ap (λ k. put place_cmp c.args.place.now (new_row k c.args.stamp) (without c.args.place.now c.args.tree.now)) (sym c.in-File.is)
