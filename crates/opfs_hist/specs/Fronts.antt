-- What a history remembers of entries that were let go.
use Rattle.std.specs.Prelude.{List, [], Option, None, Some}
use Rattle.opfs_hist.specs.declared.entry.Entry.{Entry}
use Rattle.opfs_hist.specs.declared.front.Front.{Front}

-- The entries that were let go.
abbrev pub entries_in : Option Front → List Entry
entries_in None = []
entries_in (Some front) = front.entries
