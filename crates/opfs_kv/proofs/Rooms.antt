-- Places for an agent's entries, call after call.
use Rattle.std.proofs.Common.{◌≡◌, List, ℕ, ◌+◌, ◌≤◌, length, Some, None, ap, ◌∙◌, arith}
use Rattle.opfs_base.specs.Texts.{Text}
use Rattle.opfs_kv.specs.Records.Records.{IsKey, IsValue, Record, log_of, spelled_by}
use Rattle.opfs_kv.proofs.records.Spelled.{length-by}
use Rattle.opfs_sync_files.specs.Entries.{GoesOn}
use Rattle.opfs_turns.specs.Agents.{AgentSeen}
use Rattle.opfs_turns.specs.Calls.{HasRoom}
use Rattle.opfs_sync_files.specs.Files.{file_bytes}
use Rattle.opfs_kv.specs.Records.Indexes.{Places}
use Rattle.opfs_kv.specs.Packing.{IsAnewFor, IsReadied}
use Rattle.opfs_kv.specs.Seen.{HasPlaces, KvSeen, Stands}

pub places-room : {O : Type 0} (a : AgentSeen O) → HasPlaces a → HasRoom a
places-room a p = record { rows = p.rows; entries = omega (arith, p.entries) }

pub room-after : {O : Type 0} (a b : AgentSeen O) (m : ℕ) → HasPlaces a → GoesOn a b m → m ≤ 1000000 → HasRoom b
room-after a b m p goes few = record { rows = omega (arith, p.rows, goes.rows); entries = omega (arith, p.entries, goes.entries, few) }

pub room-next : {O : Type 0} (a b : AgentSeen O) → HasRoom a → a.entries + 1 ≤ 60000000 → GoesOn a b 1 → HasRoom b
room-next a b room more goes = record { rows = omega (arith, room.rows, goes.rows); entries = omega (arith, more, goes.entries) }

-- A record's bytes are few.
pub put-small : (bytes key value : Text) → bytes ≡ spelled_by key (Some value) → IsKey key → IsValue value → length bytes ≤ 16777216
put-small bytes key value is good small = let long = ap length is ∙ length-by key (Some value) in omega (arith, long, good.1, small)

pub gone-small : (bytes key : Text) → bytes ≡ spelled_by key None → IsKey key → length bytes ≤ 16777216
gone-small bytes key is good = let long = ap length is ∙ length-by key None in omega (arith, long, good.1)

pub anew-small : {O : Type 0} (tells : Type 0) (a : AgentSeen O) (kv : KvSeen) → Stands tells a kv → (packed : Text) (len : ℕ) (made : Places) → IsAnewFor tells (file_bytes a kv.handle) kv.index packed len made → length packed ≤ 16777216
anew-small tells a kv stands packed len made x = omega (arith, x.anew.long, x.anew.short, stands.keeps.fitting.fits, stands.keeps.small)

pub room-more : {O : Type 0} (a b : AgentSeen O) (m : ℕ) → HasRoom a → a.entries + m ≤ 60000000 → GoesOn a b m → HasRoom b
room-more a b m room more goes = record { rows = omega (arith, room.rows, goes.rows); entries = omega (arith, more, goes.entries) }

pub readied-small : (live : ℕ) (index : Places) (records : List Record) (bytes : Text) (made : Places) (end : ℕ) → IsReadied live index records bytes made end → live + length (log_of records) ≤ 16777216 → length bytes ≤ 16777216
readied-small live index records bytes made end r fits = let long = ap length r.bytes_are in omega (arith, long, fits)
