-- What the plain machine's parts say of what they change.
use Rattle.std.specs.Prelude.{ℕ, IsTrue}
use Rattle.opfs_base.specs.Names.{is_valid_name}
use Rattle.opfs_base.specs.Texts.{Text}
use Rattle.opfs_hist.specs.declared.op.Op.{Op}
use Rattle.opfs_hist.specs.declared.op.Op.TheVariants.{GetDirectoryHandle, GetFileHandle, RemoveEntry, Next, Write, Seek, Truncate, Close, Abort, SyncRead, SyncWrite, SyncTruncate, SyncFlush, SyncClose, Discard}
use Rattle.opfs_machine.specs.declared.own.Own.{Own}
use Rattle.opfs_machine.specs.declared.state.Agent.{Agent}
use Rattle.opfs_machine.specs.declared.state.State.{State}
use Rattle.opfs_machine.specs.Agents.{agent_of}
use Rattle.opfs_rulings.specs.Known.{IsOwn}

-- What a call that is not refused tells of its name and of the agent's row: a child's name is valid, and the row is there.
unfoldable pub IsFittingFor : Agent Own → Op → Type 0
IsFittingFor a (GetDirectoryHandle dir name create) = IsTrue (is_valid_name name)
IsFittingFor a (GetFileHandle dir name create) = IsTrue (is_valid_name name)
IsFittingFor a (RemoveEntry dir name recursive) = IsTrue (is_valid_name name)
IsFittingFor a (Next n dir) = IsOwn a n
IsFittingFor a (Write n bytes position) = IsOwn a n
IsFittingFor a (Seek n position) = IsOwn a n
IsFittingFor a (Truncate n size) = IsOwn a n
IsFittingFor a (Close n) = IsOwn a n
IsFittingFor a (Abort n) = IsOwn a n
IsFittingFor a (SyncRead n len at) = IsOwn a n
IsFittingFor a (SyncWrite n bytes at) = IsOwn a n
IsFittingFor a (SyncTruncate n size) = IsOwn a n
IsFittingFor a (SyncFlush n) = IsOwn a n
IsFittingFor a (SyncClose n) = IsOwn a n
IsFittingFor a (Discard n) = IsOwn a n
IsFittingFor a op = Unit {0}

abbrev pub IsFitting : State Text Own → ℕ → Op → Type 0
IsFitting s k op = IsFittingFor (agent_of s k) op
