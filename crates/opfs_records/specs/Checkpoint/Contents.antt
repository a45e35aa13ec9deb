-- A content of a file as a file. This project's own.
use Rattle.opfs_locks.specs.Taking.{open_lock}
use Rattle.opfs_tree.specs.declared.row.FileRow.{FileRow}
use Rattle.opfs_records.specs.declared.checkpoint.content.FileContent.{FileContent}

-- The file that a read gives so, with an open lock.
abbrev pub as_file : FileContent → FileRow
as_file c = record { length = c.length; stamp = c.stamp; present = c.length; present_stamp = c.stamp; extents = c.extents.now; lock = open_lock }
