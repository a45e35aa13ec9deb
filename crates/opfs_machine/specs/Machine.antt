-- One name that opens the whole machine to a proof that computes it.
use Rattle.std.specs.Prelude.{⊤}
use Rattle.opfs_machine.specs.Alone.{judged_alone}
use Rattle.opfs_machine.specs.Changes.{stored_by}
use Rattle.opfs_machine.specs.Effects.{with_changed, changes_file, effect}
use Rattle.opfs_machine.specs.Histories.{may_enter, is_disk_op}
use Rattle.opfs_machine.specs.OwnRows.{is_local}
use Rattle.opfs_machine.specs.Replies.{answer}
use Rattle.opfs_machine.specs.Ruled.{◌>>=◌, ◌>>◌}
use Rattle.opfs_machine.specs.Rulings.{get_directory_ruling, get_handle_ruling, remove_entry_ruling, located_ruling, create_writable_ruling, grow_stream_ruling, stream_ruling, create_sync_ruling, grow_handle_ruling, handle_ruling, persist_ruling, persisted_ruling, estimate_ruling, await_ruling, ruling}
use Rattle.opfs_machine.specs.Sums.{row_reserve}
use Rattle.opfs_machine.specs.Steps.{room_for, judged, outcome_of, step}

unfoldable pub machine : ⊤
unfolding ◌>>=◌ ◌>>◌ get_directory_ruling get_handle_ruling remove_entry_ruling located_ruling create_writable_ruling grow_stream_ruling stream_ruling create_sync_ruling grow_handle_ruling handle_ruling persist_ruling persisted_ruling estimate_ruling await_ruling ruling room_for judged outcome_of step row_reserve with_changed effect answer may_enter is_disk_op is_local stored_by judged_alone
machine = tt

-- The same, with the files that access handles change.
unfoldable pub whole_machine : ⊤
unfolding ◌>>=◌ ◌>>◌ get_directory_ruling get_handle_ruling remove_entry_ruling located_ruling create_writable_ruling grow_stream_ruling stream_ruling create_sync_ruling grow_handle_ruling handle_ruling persist_ruling persisted_ruling estimate_ruling await_ruling ruling room_for judged outcome_of step row_reserve with_changed changes_file effect answer may_enter is_disk_op is_local stored_by judged_alone
whole_machine = tt
