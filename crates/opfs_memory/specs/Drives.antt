-- A disk in memory whose calls may fail: what it is seen as, what its calls do, and what a crash leaves of it.
-- This project's own.
use Rattle.std.specs.Prelude.{◌≡◌, ℕ, ◌+◌, ◌≤◌, Bool, true, false, ◌||◌, ◌&&◌, nat_lt, nat_le, if◌then◌else◌, Option, Some, None, Result, Ok, Err, List, [], ◌∷◌, ◌++◌, length, take, fold, slice_index, slice_set}
use Rattle.std.specs.List.{list_any}
use Rattle.opfs_outside.specs.Bytes.{window}
use Rattle.opfs_outside.specs.declared.stream.Failed.{Failed}
use Rattle.opfs_memory.specs.Counts.{counted, is_named}

-- what a kept call did: nothing, as a read or a sync that failed; a write, done or not; or a sync
pub data Event : Type 0 where
  Idle : Event
  Wrote : ℕ → List ℕ → Bool → Event
  Synced : Event

-- these bytes over those at a place
abbrev pub over : List ℕ → ℕ → List ℕ → List ℕ
over c at [] = c
over c at (b ∷ bytes) = over (slice_set c at b) (at + 1) bytes

-- what a disk reads as, what its last successful sync left, and the ranges (place, length) that were written since
pub record Platter : Type 0 where
  pub content : List ℕ
  pub synced : List ℕ
  pub written : List (ℕ × ℕ)

abbrev pub after_event : Platter → Event → Platter
after_event p Idle = p
after_event p (Wrote at bytes done) = record {
  content = if done then over p.content at bytes else p.content;
  synced = p.synced;
  written = (at, length bytes) ∷ p.written;
}
after_event p Synced = record { content = p.content; synced = p.content; written = [] }

-- the disk after these events
abbrev pub replayed : List ℕ → List Event → Platter
replayed first log = fold after_event (record { content = first; synced = first; written = [] }) log

-- this place was written since the last successful sync
abbrev pub is_written : List (ℕ × ℕ) → ℕ → Bool
is_written ranges i = list_any (λ range. nat_le range.0 i && nat_lt i (range.0 + range.1)) ranges

-- What a crash may leave: any bytes in each range that was written since the last successful sync, and elsewhere
-- what that sync left.
pub record IsImage (p : Platter) (c : List ℕ) : Type 0 where
  pub size : length c ≡ length p.synced
  pub kept : (i : ℕ) → is_written p.written i ≡ false → slice_index c i ≡ slice_index p.synced i

-- the one image that has the bytes of choice in those ranges
pub record IsImageOf (p : Platter) (choice c : List ℕ) : Type 0 where
  pub size : length c ≡ length p.synced
  pub chosen : (i : ℕ) → is_written p.written i ≡ true → slice_index c i ≡ slice_index choice i
  pub kept : (i : ℕ) → is_written p.written i ≡ false → slice_index c i ≡ slice_index p.synced i

-- what the disk reads as, and that image
pub record IsCrash (p : Platter) (choice content image : List ℕ) : Type 0 where
  pub reads : content ≡ p.content
  pub leaves : IsImageOf p choice image

-- A disk: its first content, what its kept calls did, the calls that fail, the last call before the stop, its room
-- for calls and for written bytes with what is used of it, how many calls were made and how many failed.
pub record Drive : Type 0 where
  pub first : List ℕ
  pub log : List Event
  pub fails : List ℕ
  pub stop : Option ℕ
  pub room_calls : ℕ
  pub room_bytes : ℕ
  pub used : ℕ
  pub calls : ℕ
  pub faults : ℕ

abbrev pub content_of : Drive → List ℕ
content_of d = (replayed d.first d.log).content

abbrev pub synced_of : Drive → List ℕ
synced_of d = (replayed d.first d.log).synced

-- the moment: the number of kept calls
abbrev pub moment_of : Drive → ℕ
moment_of d = length d.log

-- a crash at some moment from t on may have left this
pub record LeftSince (d : Drive) (t : ℕ) (c : List ℕ) : Type 0 where
  pub at : ℕ
  pub from : t ≤ at
  pub to : at ≤ length d.log
  pub image : IsImage (replayed d.first (take at d.log)) c

abbrev pub is_after : Option ℕ → ℕ → Bool
is_after None n = false
is_after (Some stop) n = nat_lt stop n

-- the next call, with n bytes to write, finds no room
abbrev pub passes_room : Drive → ℕ → Bool
passes_room d n = nat_le d.room_calls (length d.log) || nat_lt d.room_bytes (d.used + n)

-- the next call, with n bytes to write, is named, comes after the stop or finds no room
abbrev pub call_fails : Drive → ℕ → Bool
call_fails d n = (is_named d.fails (counted d.calls) || is_after d.stop (counted d.calls)) || passes_room d n

-- what it answers
abbrev pub call_reply : Drive → ℕ → Result (Unit {0}) Failed
call_reply d n = if call_fails d n then Err (record {}) else Ok (tt {0})

-- the disk after it, where it does this
abbrev pub call_after : Drive → ℕ → Event → Drive
call_after d n event = record {
  first = d.first;
  log = if passes_room d n then d.log else d.log ++ event ∷ [];
  fails = d.fails;
  stop = d.stop;
  room_calls = d.room_calls;
  room_bytes = d.room_bytes;
  used = if passes_room d n then d.used else d.used + n;
  calls = counted d.calls;
  faults = if call_fails d n then counted d.faults else d.faults;
}

-- a read does nothing, a write writes where it does not fail, and so does a sync
abbrev pub written_event : Drive → ℕ → List ℕ → Event
written_event d at bytes = Wrote at bytes (if call_fails d (length bytes) then false else true)

abbrev pub synced_event : Drive → Event
synced_event d = if call_fails d 0 then Idle else Synced

-- what a read of n bytes finds in the buffer
abbrev pub read_from : Drive → ℕ → List ℕ → List ℕ
read_from d at buf = if call_fails d 0 then buf else window (content_of d) at (length buf)
