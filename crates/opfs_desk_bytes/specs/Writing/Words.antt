-- A call that writes bytes into an open row, or gives it a size: where the bytes go, and what it leaves. This project's own.
use Rattle.std.specs.Prelude.{ℕ, ◌+◌, ◌-◌, min, Bool, true, false, [], length}
use Rattle.opfs_base.specs.Texts.{Text}
use Rattle.opfs_desk_steps.specs.RowLaws.Puts.{size_put}
use Rattle.opfs_hist.specs.declared.op.Op.{Op}
use Rattle.opfs_hist.specs.declared.op.Op.TheVariants as op
use Rattle.opfs_hist.specs.declared.reply.Reply.{Reply}
use Rattle.opfs_hist.specs.declared.reply.Reply.TheVariants as reply
use Rattle.opfs_machine.specs.declared.state.Sizes.{Sizes}
use Rattle.opfs_machine.specs.Rulings.{start_of}
use Rattle.opfs_pages.specs.Stages.{changed}
use Rattle.opfs_pages.specs.RowCalls.Rows.{Change}

-- Whether it writes bytes, or gives a size alone.
abbrev pub writes_bytes : Op → Bool
writes_bytes (op.Write n bytes position) = true
writes_bytes (op.SyncWrite n bytes at) = true
writes_bytes o = false

-- Whether it answers how many.
abbrev pub counts_bytes : Op → Bool
counts_bytes (op.SyncWrite n bytes at) = true
counts_bytes o = false

-- The bytes, and where they begin.
abbrev pub bytes_put : Op → Text
bytes_put (op.Write n bytes position) = bytes
bytes_put (op.SyncWrite n bytes at) = bytes
bytes_put o = []

abbrev pub place_put : Sizes → Op → ℕ
place_put z (op.Write n bytes position) = start_of z position
place_put z (op.SyncWrite n bytes at) = start_of z at
place_put z o = 0

-- Where the offset or cursor is then.
abbrev pub position_put : Sizes → Op → ℕ
position_put z (op.Write n bytes position) = start_of z position + length bytes
position_put z (op.Truncate n size) = min z.position size
position_put z (op.SyncWrite n bytes at) = start_of z at + length bytes
position_put z (op.SyncTruncate n size) = min z.position size
position_put z o = 0

-- The place whose page is in memory then: that of the offset or cursor; where an access handle wrote bytes, that of their last one.
abbrev pub beside_put : Sizes → Op → ℕ
beside_put z (op.Write n bytes position) = start_of z position + length bytes
beside_put z (op.Truncate n size) = min z.position size
beside_put z (op.SyncWrite n bytes at) = start_of z at + (length bytes - 1)
beside_put z (op.SyncTruncate n size) = min z.position size
beside_put z o = 0

abbrev pub reply_put : Op → Reply
reply_put (op.SyncWrite n bytes at) = reply.Length (length bytes)
reply_put o = reply.Done

-- What it does to the row's bytes, and those that the row has then.
abbrev pub change_put : Sizes → Op → Change
change_put z o = record { at = place_put z o; given = bytes_put o; size = size_put z o; whole = false }

abbrev pub text_put : Sizes → Op → Text → Text
text_put z o before = changed before (place_put z o) (bytes_put o) (size_put z o)
