use Rattle.std.proofs.Common.{List, ℕ, sym, subst}
use Rattle.std.specs.Prelude.{IfSome}
use Rattle.serde_json.specs.Written.{compact_text}
use Rattle.opfs_dump.specs.Text.Texts.{row_value}
use Rattle.opfs_image.specs.Filling.{filled_row}
use Rattle.opfs_tree.specs.declared.row.Row.{Row}
use Rattle.opfs_dump.specs.Dumping.Putting.{Dumps}
use Rattle.opfs_dump.proofs.dumping.Putting.{folder_placed}
use Rattle.opfs_dump.proofs.dumping.rows.put_row.Goals as goal

pub returns-in-Dir : goal.returns-in-Dir
returns-in-Dir g c =
    let laws = g.met.D.Disk in
    subst (λ (r : Row). IfSome c.args.placed.now.walk.now (λ place. Dumps g.D.Disk g.K.Sink c.args.journal.now c.args.journal.now c.args.sink.now c.put_folder.new.sink (λ (x : List ℕ). compact_text (row_value (place, filled_row c.args.placed.now.base x r))) c.put_folder.result)) (sym c.in-Dir.is)
    (folder_placed g.D.Disk g.K.Sink laws.falls c.args.journal.now c.args.sink.now c.put_folder.new.sink c.args.placed.now.walk.now c.key-key.result.now c.path-path.result.now c.put_folder.result c.key-key.ensures c.path-path.ensures c.put_folder.ensures)
