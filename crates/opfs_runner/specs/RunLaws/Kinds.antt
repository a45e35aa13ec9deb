-- What the rows of a script's run are, and what its calls make of them. This project's own.
use Rattle.std.specs.Prelude.{◌≡◌, ℕ, zero, suc, ◌+◌, ◌-◌, true, List, [], ◌∷◌, ◌++◌, map, slice_get, Option, Some, None}
use Rattle.std.specs.List.{slice_set}
use Rattle.opfs_base.specs.Texts.{Text}
use Rattle.opfs_base.specs.declared.locator.Locator.{Locator}
use Rattle.opfs_hist.specs.declared.op.Op.{Op}
use Rattle.opfs_hist.specs.declared.op.Op.TheVariants as op
use Rattle.opfs_hist.specs.declared.reply.Reply.{Reply}
use Rattle.opfs_hist.specs.declared.reply.Reply.TheVariants as reply
use Rattle.opfs_machine.specs.Histories.{is_of_origin}
use Rattle.opfs_store.specs.Acts.Asking.{HasSmallNumbers}
use Rattle.opfs_script_run.specs.declared.runs.hand.Open.{Open}
use Rattle.opfs_script_run.specs.declared.runs.hand.Open.TheVariants as opened

-- A row: an open or closed stream or access handle, a snapshot, or an iterator over a directory. One that is taken is in a
-- call's hands; one that is gone was a snapshot, and its bytes are no longer held.
pub data RowKind : Type 0 where
  stream : RowKind
  closed_stream : RowKind
  handle : RowKind
  closed_handle : RowKind
  snapshot : RowKind
  iterator : Locator → RowKind
  taken : RowKind
  gone : RowKind

-- What it is, whether it is open or closed.
abbrev pub sort_of : RowKind → RowKind
sort_of stream = stream
sort_of closed_stream = stream
sort_of handle = handle
sort_of closed_handle = handle
sort_of snapshot = snapshot
sort_of (iterator dir) = iterator dir
sort_of taken = taken
sort_of gone = gone

-- The row of a number. The first has the number 1.
abbrev pub kind_at : List RowKind → ℕ → Option RowKind
kind_at kinds zero = None
kind_at kinds (suc i) = slice_get kinds i

abbrev pub sort_at : List RowKind → ℕ → Option RowKind
sort_at kinds n = kind_at (map sort_of kinds) n

-- The rows that are open, from a number on.
abbrev pub open_rows : ℕ → List RowKind → List Open
open_rows n [] = []
open_rows n (stream ∷ kinds) = opened.Stream n ∷ open_rows (n + 1) kinds
open_rows n (handle ∷ kinds) = opened.Handle n ∷ open_rows (n + 1) kinds
open_rows n (kind ∷ kinds) = open_rows (n + 1) kinds

-- The rows after a call that was not refused.
abbrev pub kinds_changed : List RowKind → Op → List RowKind
kinds_changed kinds (op.Values dir) = kinds ++ iterator dir ∷ []
kinds_changed kinds (op.GetFile at) = kinds ++ snapshot ∷ []
kinds_changed kinds (op.CreateWritable at keep) = kinds ++ stream ∷ []
kinds_changed kinds (op.CreateSyncAccessHandle at mode) = kinds ++ handle ∷ []
kinds_changed kinds (op.Close n) = slice_set kinds (n - 1) closed_stream
kinds_changed kinds (op.Abort n) = slice_set kinds (n - 1) closed_stream
kinds_changed kinds (op.SyncClose n) = slice_set kinds (n - 1) closed_handle
kinds_changed kinds o = kinds

-- The rows after a call: a refused one leaves them.
abbrev pub kinds_after : List RowKind → Op → Reply → List RowKind
kinds_after kinds o (reply.No refusal) = kinds
kinds_after kinds o answered = kinds_changed kinds o

-- What a call names is of its kind, and of the origin of a key. A script asks for no wait, discard, end or eviction.
abbrev pub Names : Option Text → List RowKind → Op → Type 0
Names key kinds (op.GetDirectoryHandle dir name create) = is_of_origin key dir ≡ true
Names key kinds (op.GetFileHandle dir name create) = is_of_origin key dir ≡ true
Names key kinds (op.RemoveEntry dir name recursive) = is_of_origin key dir ≡ true
Names key kinds (op.Values dir) = is_of_origin key dir ≡ true
Names key kinds (op.Next n dir) = (sort_at kinds n ≡ Some (iterator dir)) × (is_of_origin key dir ≡ true)
Names key kinds (op.GetFile at) = is_of_origin key at ≡ true
Names key kinds (op.Slice n at len) = sort_at kinds n ≡ Some snapshot
Names key kinds (op.CreateWritable at keep) = is_of_origin key at ≡ true
Names key kinds (op.Write n bytes position) = sort_at kinds n ≡ Some stream
Names key kinds (op.Seek n position) = sort_at kinds n ≡ Some stream
Names key kinds (op.Truncate n size) = sort_at kinds n ≡ Some stream
Names key kinds (op.Close n) = sort_at kinds n ≡ Some stream
Names key kinds (op.Abort n) = sort_at kinds n ≡ Some stream
Names key kinds (op.CreateSyncAccessHandle at mode) = is_of_origin key at ≡ true
Names key kinds (op.SyncRead n len at) = sort_at kinds n ≡ Some handle
Names key kinds (op.SyncWrite n bytes at) = sort_at kinds n ≡ Some handle
Names key kinds (op.SyncTruncate n size) = sort_at kinds n ≡ Some handle
Names key kinds (op.SyncGetSize n) = sort_at kinds n ≡ Some handle
Names key kinds (op.SyncFlush n) = sort_at kinds n ≡ Some handle
Names key kinds (op.SyncClose n) = sort_at kinds n ≡ Some handle
Names key kinds (op.Wait tag) = ⊥
Names key kinds (op.Discard n) = ⊥
Names key kinds op.End = ⊥
Names key kinds (op.Evict unit) = ⊥
Names key kinds o = Unit {0}

-- A script with this key and these rows may ask for a call.
pub record MayPerform (key : Option Text) (kinds : List RowKind) (o : Op) : Type 0 where
  pub names : Names key kinds o
  pub numbers : HasSmallNumbers o
