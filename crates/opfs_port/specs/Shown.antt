-- What clauses see of ports. This project's own.
use Rattle.std.specs.Prelude.{ℕ, ◌-◌, ◌^◌, min, Bool, true, false, Option, Some, None, List, map, drop, vec_items}
use Rattle.std.specs.Io.Buffered.{reader_remaining}
use Rattle.opfs_hall.specs.declared.told.Told.{Told}
use Rattle.opfs_port.specs.Said.{Said, heard, told}
use Rattle.opfs_port.specs.declared.memory_port.MemoryPort.{MemoryPort}
use Rattle.opfs_port.specs.declared.memory_port.Spoken.{Spoken}
use Rattle.opfs_port.specs.declared.stream_port.StreamPort.{StreamPort}

-- how many calls failed, as far as 64 bits count
abbrev pub stream_faults : {R W : Type 0} → StreamPort R W → ℕ
stream_faults port = min port.faults (2 ^ 64 - 1)

-- the bytes that are still to be heard, where they are known
abbrev pub stream_input : {R W : Type 0} → (R → Option (List ℕ)) → StreamPort R W → Option (List ℕ)
stream_input remaining port = reader_remaining remaining port.reader

-- all bytes that were told, where they are known
abbrev pub stream_output : {R W : Type 0} → (W → Option (List ℕ)) → StreamPort R W → Option (List ℕ)
stream_output contents port = contents port.writer

-- a line that was heard, or one that was told with what stood then
abbrev pub word_by : {T : Type 0} → List ℕ → Option (Told T) → Said T
word_by line None = heard line
word_by line (Some at) = told line at.value

abbrev pub word_of : {T : Type 0} → Spoken T → Said T
word_of spoken = word_by spoken.line.items spoken.at

-- it was told
abbrev pub is_answer : {T : Type 0} → Said T → Bool
is_answer (heard line) = false
is_answer (told line at) = true

abbrev pub text_of : {T : Type 0} → Said T → List ℕ
text_of (heard line) = line
text_of (told line at) = line

-- what was said at a port in memory
abbrev pub memory_said : {T : Type 0} → MemoryPort T → List (Said T)
memory_said port = map word_of port.spoken.items

-- the lines that are still to come
abbrev pub memory_rest : {T : Type 0} → MemoryPort T → List (List ℕ)
memory_rest port = map vec_items (drop port.next port.lines.items)

-- the calls that fail, how many calls were made, and how many failed
abbrev pub memory_fails : {T : Type 0} → MemoryPort T → List ℕ
memory_fails port = port.fails.items

abbrev pub memory_calls : {T : Type 0} → MemoryPort T → ℕ
memory_calls port = port.calls

abbrev pub memory_faults : {T : Type 0} → MemoryPort T → ℕ
memory_faults port = min port.faults (2 ^ 64 - 1)
