-- What a source and a sink in memory are seen as, and what a call does to them. This project's own.
use Rattle.std.specs.Prelude.{ℕ, ◌-◌, min, Bool, ◌&&◌, ◌||◌, ◌==◌, nat_lt, if◌then◌else◌, Result, Ok, Err, List, ◌++◌, length, take, drop}
use Rattle.opfs_outside.specs.declared.stream.Failed.{Failed}
use Rattle.opfs_memory.specs.Counts.{counted, is_named}

-- a source: what is still to come, the calls that fail, how many calls were made and how many failed
pub record Feed : Type 0 where
  pub rest : List ℕ
  pub fails : List ℕ
  pub calls : ℕ
  pub faults : ℕ

-- the next call is named
abbrev pub source_fails : Feed → Bool
source_fails s = is_named s.fails (counted s.calls)

-- what a read into n bytes answers
abbrev pub read_reply : Feed → ℕ → Result ℕ Failed
read_reply s n = if source_fails s then Err (record {}) else Ok (min n (length s.rest))

-- the source after it
abbrev pub read_after : Feed → ℕ → Feed
read_after s n = record {
  rest = if source_fails s then s.rest else drop (min n (length s.rest)) s.rest;
  fails = s.fails;
  calls = counted s.calls;
  faults = if source_fails s then counted s.faults else s.faults;
}

-- and the bytes of the buffer that held these
abbrev pub read_bytes : Feed → List ℕ → List ℕ
read_bytes s buf = if source_fails s then buf else take (length buf) s.rest ++ drop (length s.rest) buf

-- a sink: what it took, its room, the calls that fail, how many calls were made and how many failed
pub record Drain : Type 0 where
  pub written : List ℕ
  pub room : ℕ
  pub fails : List ℕ
  pub calls : ℕ
  pub faults : ℕ

-- how much of n bytes still fits
abbrev pub fits : Drain → ℕ → ℕ
fits s n = min n (s.room - length s.written)

-- the next call is named, or nothing of these n bytes fits, which are not none
abbrev pub sink_fails : Drain → ℕ → Bool
sink_fails s n = is_named s.fails (counted s.calls) || (fits s n == 0 && nat_lt 0 n)

-- what a write of n bytes answers
abbrev pub write_reply : Drain → ℕ → Result ℕ Failed
write_reply s n = if sink_fails s n then Err (record {}) else Ok (fits s n)

-- the sink after a write of these bytes
abbrev pub write_after : Drain → List ℕ → Drain
write_after s bytes = record {
  written = if sink_fails s (length bytes) then s.written else s.written ++ take (fits s (length bytes)) bytes;
  room = s.room;
  fails = s.fails;
  calls = counted s.calls;
  faults = if sink_fails s (length bytes) then counted s.faults else s.faults;
}
