-- What is seen of a key-value file, and how it stands over its agent. This project's own.
use Rattle.std.specs.Prelude.{◌≡◌, ℕ, ◌-◌, ◌*◌, ◌<◌, ◌≤◌, ◌++◌, Bool, List, [], ◌∷◌, sum_by, take}
use Rattle.opfs_base.specs.Places.{place_of}
use Rattle.opfs_base.specs.Texts.{Text}
use Rattle.opfs_turns.specs.Asking.Rows.{HandleSeen, HasClosedHandle, HasHandle}
use Rattle.opfs_hist.specs.declared.op.Mode.TheVariants as mode
use Rattle.opfs_kv.specs.Records.Indexes.{Places, cost_of, read_out}
use Rattle.opfs_kv.specs.Records.Maps.{Map}
use Rattle.opfs_sync_files.specs.Doubts.{DoubtsStore}
use Rattle.opfs_sync_files.specs.Entries.{GoesOn}
use Rattle.opfs_sync_files.specs.Files.{file_bytes, stored_of}
use Rattle.opfs_sync_files.specs.Resting.{LeavesRest}
use Rattle.opfs_turns.specs.Agents.{AgentSeen}
use Rattle.opfs_kv.specs.Keeping.{Keeps, Spells}
use Rattle.opfs_kv.specs.declared.notes.Notes.{Notes}
use Rattle.opfs_kv.specs.declared.tidying.Tidying.{Tidying}
use Rattle.opfs_kv.specs.declared.tidying.Tidying.TheVariants as tidying

-- Its access handle, how many of the file's bytes are live, whether others stand behind them still, where each value is, and when it
-- compacts by itself.
pub record KvSeen : Type 0 where
  pub handle : HandleSeen
  pub live : ℕ
  pub tail : Bool
  pub index : Places
  pub tidying : Tidying

-- A key-value file by its parts.
abbrev pub seen : HandleSeen → Notes → KvSeen
seen handle notes = record { handle = handle; live = notes.live; tail = notes.tail; index = notes.index; tidying = notes.tidying }

-- The handle is open and may write, and the file's bytes are kept in mind.
pub record Stands {O : Type 0} (tells : Type 0) (a : AgentSeen O) (kv : KvSeen) : Type 0 where
  pub has : HasHandle tells a kv.handle
  pub writes : kv.handle.mode ≡ mode.ReadWrite
  pub keeps : Keeps tells (file_bytes a kv.handle) kv.live kv.tail kv.index

-- Its map: what the index reads out of the file.
abbrev pub map_in : {O : Type 0} → AgentSeen O → KvSeen → Map
map_in a kv = read_out (file_bytes a kv.handle) kv.index

-- Its live bytes.
abbrev pub live_bytes : {O : Type 0} → AgentSeen O → KvSeen → Text
live_bytes a kv = take kv.live (file_bytes a kv.handle)

-- How many of its live bytes no key needs: those that are not of the last record of a key that is there.
abbrev pub dead_in : KvSeen → ℕ
dead_in kv = kv.live - sum_by cost_of kv.index

-- It compacts at a flush: it was opened so, and more than half of its live bytes are dead.
abbrev pub IsTidiedNow : KvSeen → Type 0
IsTidiedNow kv = (kv.tidying ≡ tidying.AtFlush) × (kv.live < 2 * dead_in kv)

-- The contents of its file that were stored for good, as far as its agent has seen.
abbrev pub stored_in : {O : Type 0} → AgentSeen O → KvSeen → List Text
stored_in a kv = stored_of a kv.handle

-- What a disk fault in between leaves in doubt leaves the file, or stores records of it that stand for this map.
abbrev pub DoubtsSpell : {O : Type 0} → AgentSeen O → AgentSeen O → KvSeen → Map → Type 0
DoubtsSpell before after kv m = DoubtsStore before.opening before.pass.base after.pass.base (place_of kv.handle.file) (λ bytes. Spells bytes m)

-- An agent has places for the entries of a call on a key-value file.
pub record HasPlaces {O : Type 0} (a : AgentSeen O) : Type 0 where
  pub rows : a.rows ≤ 60000000
  pub entries : a.entries ≤ 59000000

-- The file still stands after so many entries more at most, on the same handle, with this map. Nothing of it was stored, a disk fault
-- left nothing of it in doubt but the map of before, and the agent's other own rows are as they were.
pub record Serves {O : Type 0} (tells : Type 0) (before after : AgentSeen O) (old new : KvSeen) (count : ℕ) (m : Map) : Type 0 where
  pub stands : Stands tells after new
  pub row : new.handle.row ≡ old.handle.row
  pub file : new.handle.file ≡ old.handle.file
  pub setting : new.tidying ≡ old.tidying
  pub goes : GoesOn before after count
  pub others : LeavesRest tells before after old.handle.row
  pub map : tells → map_in after new ≡ m
  pub stored : stored_in after new ≡ stored_in before old
  pub doubts : tells → DoubtsSpell before after old (map_in before old)

-- The file was stored for good, as records that stand for this map. The agent's other own rows are as they were.
pub record Flushes {O : Type 0} (tells : Type 0) (before after : AgentSeen O) (old new : KvSeen) (count : ℕ) (m : Map) : Type 0 where
  pub stands : Stands tells after new
  pub row : new.handle.row ≡ old.handle.row
  pub file : new.handle.file ≡ old.handle.file
  pub setting : new.tidying ≡ old.tidying
  pub goes : GoesOn before after count
  pub others : LeavesRest tells before after old.handle.row
  pub map : tells → map_in after new ≡ m
  pub stored : stored_in after new ≡ stored_in before old ++ file_bytes after new.handle ∷ []
  pub spells : tells → Spells (file_bytes after new.handle) m
  pub doubts : tells → DoubtsSpell before after old (map_in before old)

-- The same, and its handle is closed.
pub record Closes {O : Type 0} (tells : Type 0) (before after : AgentSeen O) (old : KvSeen) (row : ℕ) (count : ℕ) (m : Map) : Type 0 where
  pub same : row ≡ old.handle.row
  pub closed : HasClosedHandle after row
  pub goes : GoesOn before after count
  pub others : LeavesRest tells before after old.handle.row
  pub bytes : Text
  pub stored : stored_of after old.handle ≡ stored_of before old.handle ++ bytes ∷ []
  pub spells : tells → Spells bytes m
  pub doubts : tells → DoubtsSpell before after old (map_in before old)
