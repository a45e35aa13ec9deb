-- What a file's new bytes change in the machine in lengths. This project's own.
use Rattle.std.specs.Prelude.{ℕ, List}
use Rattle.opfs_base.specs.declared.extents.Extent.{Extent}
use Rattle.opfs_machine.specs.declared.state.FileRow.{FileRow}
use Rattle.opfs_tree.specs.declared.row.FileRow.{FileRow as TreeFile}

-- A read gives so many bytes now, with a time stamp.
abbrev pub showing : ℕ → ℕ → FileRow ℕ → FileRow ℕ
showing length stamp f = record f { present = length; stamp = stamp }

-- The file of the tree, whose present bytes are stored for good in these blocks.
abbrev pub flushed_row : List Extent → TreeFile → TreeFile
flushed_row extents f = record f { length = f.present; stamp = f.present_stamp; extents = extents }

-- The file of the tree, of which a read gives again what was last stored for good.
abbrev pub undone_row : TreeFile → TreeFile
undone_row f = record f { present = f.length; present_stamp = f.stamp }
