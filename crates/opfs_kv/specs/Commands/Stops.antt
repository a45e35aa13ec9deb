-- What a stop leaves of a key-value file on which commands were run. This project's own.
use Rattle.std.specs.Prelude.{◌≡◌, ℕ, ◌+◌, ◌≤◌, true, cond, List, [], ◌∷◌, ◌++◌, length, take, Option, Some, None}
use Rattle.opfs_base.specs.Places.{Place, place_of}
use Rattle.opfs_laws.specs.Files.Staying.{standing_at}
use Rattle.opfs_hist.specs.Faults.{is_disk_fault}
use Rattle.opfs_hist.specs.declared.entry.Entry.{Entry}
use Rattle.opfs_laws.specs.Histories.Doubts.{doubted}
use Rattle.opfs_kv.specs.Records.Maps.{Map}
use Rattle.opfs_machine.specs.Changes.{Change, changes, durable}
use Rattle.opfs_machine.specs.Openings.{Opening, Stored, folder, document}
use Rattle.opfs_sync_files.specs.Files.{contents_at}
use Rattle.opfs_turns.specs.Agents.{AgentSeen}
use Rattle.opfs_kv.specs.Keeping.{Spells}
use Rattle.opfs_kv.specs.Seen.{KvSeen, map_in}
use Rattle.opfs_kv.specs.Commands.Runs.{map_after, stores}
use Rattle.opfs_kv.specs.declared.commands.commands.KvOp.{KvOp}
use Rattle.opfs_kv.specs.declared.commands.commands.KvReply.{KvReply}

-- What stands at a file's place is this map: records of it, or nothing for the map without keys.
abbrev pub IsStoredAs : Option Stored → Map → Type 0
IsStoredAs None m = m ≡ []
IsStoredAs (Some folder) m = ⊥
IsStoredAs (Some (document bytes stamp)) m = Spells bytes m

-- How many of the commands stored the file: the flushes that were done.
abbrev pub flushes_in : List KvOp → List KvReply → ℕ
flushes_in (o ∷ ops) (r ∷ replies) = cond (stores o r) 1 0 + flushes_in ops replies
flushes_in ops replies = 0

-- What stands there is the map after the first so many commands, with just so many flushes that were done.
pub record IsAfterFront (m : Map) (ops : List KvOp) (replies : List KvReply) (flushes : ℕ) (stored : Option Stored) : Type 0 where
  pub count : ℕ
  pub within : count ≤ length ops
  pub flushed : flushes_in (take count ops) (take count replies) ≡ flushes
  pub stands_for : IsStoredAs stored (map_after m (take count ops) (take count replies))

-- A moment behind an entry that tells of a disk fault, while nothing of the file was stored behind it: what stands before the entry,
-- what is there behind it, and what comes later.
pub record Unsettled (o : Opening) (seen now : List Entry) (place : Place) : Type 0 where
  pub front : List Entry
  pub entry : Entry
  pub later : List Entry
  pub rest : List Entry
  pub is : now ≡ (front ++ entry ∷ later) ++ rest
  pub since : length seen ≤ length front
  pub fault : is_disk_fault entry.reply ≡ true
  pub quiet : contents_at place (changes o (front ++ entry ∷ later)) ≡ contents_at place (changes o front)

-- What the history stores up to such a moment, and what the entry leaves in doubt.
abbrev pub stored_with : Opening → List Entry → Entry → List Entry → List Change
stored_with o front entry later = changes o (front ++ entry ∷ later) ++ doubted o (front ++ entry ∷ later) (Some (length front))

-- The changes that the agent has seen since are these. Where the map of the start was stored before them, then after each front of
-- them the map after a front of the commands is stored, with as many of the flushes that were done as the front has contents of the file.
pub record LeavesFronts {O : Type 0} (before after : AgentSeen O) (old : KvSeen) (ops : List KvOp) (replies : List KvReply) : Type 0 where
  pub more : List Change
  pub grown : changes after.opening after.pass.base ≡ changes before.opening before.pass.base ++ more
  pub fronts : (front rest : List Change) → more ≡ front ++ rest
      → IsStoredAs (standing_at (durable before.opening (changes before.opening before.pass.base)) (place_of old.handle.file)) (map_in before old)
      → IsAfterFront (map_in before old) ops replies (length (contents_at (place_of old.handle.file) front))
      (standing_at (durable before.opening (changes before.opening before.pass.base ++ front)) (place_of old.handle.file))
  -- All flushes that were done have their contents there.
  pub all : length (contents_at (place_of old.handle.file) more) ≡ flushes_in ops replies
  -- With what was in doubt before, where the map of the start is stored with it: it is so until something of the file is stored.
  pub earlier : (front rest doubt : List Change) → more ≡ front ++ rest → contents_at (place_of old.handle.file) front ≡ []
      → IsStoredAs (standing_at (durable before.opening (changes before.opening before.pass.base ++ doubt)) (place_of old.handle.file)) (map_in before old)
      → IsStoredAs (standing_at (durable before.opening ((changes before.opening before.pass.base ++ front) ++ doubt)) (place_of old.handle.file)) (map_in before old)
  -- With what a disk fault since leaves in doubt: the map after a front of the commands, with as many of the flushes that were done as
  -- contents of the file were stored before.
  pub doubts : (u : Unsettled before.opening before.pass.base after.pass.base (place_of old.handle.file)) (flushes : ℕ)
      → length (contents_at (place_of old.handle.file) (changes before.opening u.front)) ≡ length (contents_at (place_of old.handle.file) (changes before.opening before.pass.base)) + flushes
      → IsStoredAs (standing_at (durable before.opening (changes before.opening before.pass.base)) (place_of old.handle.file)) (map_in before old)
      → IsAfterFront (map_in before old) ops replies flushes (standing_at (durable before.opening (stored_with before.opening u.front u.entry u.later)) (place_of old.handle.file))
