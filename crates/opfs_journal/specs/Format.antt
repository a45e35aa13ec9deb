-- The format of a journal: two areas of records behind gates. This project's own.
--
-- A record is a gate (1 byte), a length (4 bytes, the lowest first) and a body of that length. The next gate follows.
-- A gate is open exactly where it is 0xA5. The first record of an area has a body that begins with a generation byte:
-- 0, 1 or 2 in format 1, and 16, 17 or 18 in format 2.
use Rattle.std.specs.Prelude.{ℕ, zero, suc, ◌+◌, ◌*◌, ◌%◌, ◌==◌, Bool, not, ◌&&◌, ◌||◌, nat_lt, nat_le, if◌then◌else◌, Option, Some, None, Result, Ok, Err, List, [], ◌∷◌, ◌++◌, length, drop, slice_index}
use Rattle.std.specs.Int.{w32, to_le_bytes}
use Rattle.opfs_outside.specs.Bytes.{window}
use Rattle.opfs_journal.specs.declared.refusal.OpenRefusal.{OpenRefusal}
use Rattle.opfs_journal.specs.declared.refusal.OpenRefusal.TheVariants.{NoArea, BadRecord}
use Rattle.opfs_journal.specs.declared.areas.Areas.{Areas}

-- the gate there is open
abbrev pub is_open : List ℕ → ℕ → Bool
is_open c gate = slice_index c gate == 165

-- the number of 4 bytes there
abbrev pub number_at : List ℕ → ℕ → ℕ
number_at c at = slice_index c at + 256 * slice_index c (at + 1) + 65536 * slice_index c (at + 2) + 16777216 * slice_index c (at + 3)

-- the place of an area's first gate: area 0 or area 1
abbrev pub begin_of : Areas → Bool → ℕ
begin_of a second = if second then a.first + a.bytes else a.first

-- the bytes that may stand for a generation, the generation, the next one and the format
abbrev pub is_generation : ℕ → Bool
is_generation byte = nat_le byte 2 || (nat_le 16 byte && nat_le byte 18)

abbrev pub next_of : ℕ → ℕ
next_of byte = (byte % 16 + 1) % 3

abbrev pub format_of : ℕ → ℕ
format_of byte = if nat_lt byte 16 then 1 else 2

-- the first gate of an area is open and bad: its length is 0 or passes the area's end, or its generation byte is none
abbrev pub is_bad_head : ℕ → Bool → ℕ → ℕ → Bool
is_bad_head bytes open_there len generation = open_there && ((len == 0 || nat_lt bytes (5 + len)) || not (is_generation generation))

abbrev pub is_bad_first : List ℕ → ℕ → ℕ → Bool
is_bad_first c begin bytes = is_bad_head bytes (is_open c begin) (number_at c (begin + 1)) (slice_index c (begin + 5))

-- Which area rules, given the first gates, lengths and generation bytes of both: area 1 where its gate is open, and that
-- of area 0 is not or has the generation before.
abbrev pub chosen : Areas → Bool → ℕ → ℕ → Bool → ℕ → ℕ → Result Bool OpenRefusal
chosen a open0 len0 byte0 open1 len1 byte1 =
    if not open0 && not open1 then Err NoArea
    else (if is_bad_head a.bytes open0 len0 byte0 then Err (BadRecord a.first)
    else (if is_bad_head a.bytes open1 len1 byte1 then Err (BadRecord (a.first + a.bytes))
    else Ok (open1 && (not open0 || (byte1 % 16 == next_of byte0)))))

abbrev pub chosen_in : Areas → List ℕ → Result Bool OpenRefusal
chosen_in a c =
    chosen a (is_open c a.first) (number_at c (a.first + 1)) (slice_index c (a.first + 5))
    (is_open c (a.first + a.bytes)) (number_at c (a.first + a.bytes + 1)) (slice_index c (a.first + a.bytes + 5))

-- the bodies of some records and the place of the gate behind them
pub record Chain : Type 0 where
  pub bodies : List (List ℕ)
  pub tail : ℕ

abbrev pub with_body : List ℕ → Result Chain ℕ → Result Chain ℕ
with_body body (Ok rest) = Ok (record { bodies = body ∷ rest.bodies; tail = rest.tail })
with_body body (Err place) = Err place

-- The records from a gate on, up to the first gate that is not open; or the place of an open gate whose length with
-- the next gate passes the area's end. A record takes 5 bytes at least, so an area has at most as many as its bytes.
abbrev pub chain : ℕ → List ℕ → ℕ → ℕ → Result Chain ℕ
chain zero c gate stop = Err gate
chain (suc most) c gate stop =
    if is_open c gate then
    (if nat_le (gate + 6 + number_at c (gate + 1)) stop then
    with_body (window c (gate + 5) (number_at c (gate + 1))) (chain most c (gate + 5 + number_at c (gate + 1)) stop)
    else Err gate)
    else Ok (record { bodies = []; tail = gate })

-- an area that rules: which one, its records with the generation byte in the first, and the gate behind them
pub record Opened : Type 0 where
  pub second : Bool
  pub bodies : List (List ℕ)
  pub tail : ℕ

abbrev pub opened : Bool → Result Chain ℕ → Result Opened OpenRefusal
opened second (Ok found) = Ok (record { second = second; bodies = found.bodies; tail = found.tail })
opened second (Err place) = Err (BadRecord place)

abbrev pub read_chosen : Areas → List ℕ → Result Bool OpenRefusal → Result Opened OpenRefusal
read_chosen a c (Ok second) = opened second (chain a.bytes c (begin_of a second) (begin_of a second + a.bytes))
read_chosen a c (Err refusal) = Err refusal

-- what an image's areas hold, or why they are refused
abbrev pub read_areas : Areas → List ℕ → Result Opened OpenRefusal
read_areas a c = read_chosen a c (chosen_in a c)

-- what is stored: the format, and the bodies of the records, the first without its generation byte
pub record Stored : Type 0 where
  pub format : ℕ
  pub records : List (List ℕ)

abbrev pub stored_in : List (List ℕ) → Stored
stored_in [] = record { format = 1; records = [] }
stored_in (first ∷ more) = record { format = format_of (slice_index first 0); records = drop 1 first ∷ more }

abbrev pub stored_if_ok : Result Opened OpenRefusal → Option Stored
stored_if_ok (Ok found) = Some (stored_in found.bodies)
stored_if_ok (Err refusal) = None

-- the records of an image, where it has some
abbrev pub records_of : Areas → List ℕ → Option Stored
records_of a c = stored_if_ok (read_areas a c)

-- the bytes behind a gate: the length, a body and a gate that is closed
abbrev pub framed : List ℕ → List ℕ
framed body = to_le_bytes w32 (length body) ++ body ++ 0 ∷ []
