-- Pages that are to be written, in runs of neighbouring pages that go into neighbouring blocks. This project's own.
use Rattle.std.specs.Prelude.{◌≡◌, ℕ, zero, suc, ◌+◌, ◌*◌, ◌≤◌, ◌<◌, ◌^◌, List, [], ◌∷◌, take, drop, length}
use Rattle.std.specs.List.{AllByRecursion, flat_map, range_with_len}
use Rattle.opfs_base.specs.declared.extents.Extent.{Extent}
use Rattle.opfs_data.specs.declared.page_run.Source.{Source}
use Rattle.opfs_data.specs.declared.page_run.Source.TheVariants.{Given, Own}

-- a page, the block that it goes into, and its bytes
pub record PageWrite : Type 0 where
  pub page : ℕ
  pub block : ℕ
  pub bytes : List ℕ

-- so many pages from one on, the block of the first, and where their bytes begin in what they come from
pub record Run : Type 0 where
  pub page : ℕ
  pub count : ℕ
  pub block : ℕ
  pub from : ℕ
  pub source : Source

-- numbers that the code can count with
pub record IsRun (r : Run) : Type 0 where
  pub some : 0 < r.count
  pub pages : r.page + r.count < 2 ^ 63
  pub blocks : r.block + r.count ≤ 2 ^ 32
  pub bytes : r.from + 4096 * r.count < 2 ^ 63

-- the bytes that runs are taken from: those of the call, or those of the list
abbrev pub source_bytes : List ℕ → List ℕ → Source → List ℕ
source_bytes own given Given = given
source_bytes own given Own = own

-- so many pages with their blocks and bytes
abbrev pub run_pages : List ℕ → ℕ → ℕ → ℕ → ℕ → List PageWrite
run_pages bytes page block from zero = []
run_pages bytes page block from (suc n) = (record { page = page; block = block; bytes = take 4096 (drop from bytes) }) ∷ run_pages bytes (page + 1) (block + 1) (from + 4096) n

abbrev pub run_writes : List ℕ → List ℕ → Run → List PageWrite
run_writes own given r = run_pages (source_bytes own given r.source) r.page r.block r.from r.count

abbrev pub writes_of : List ℕ → List ℕ → List Run → List PageWrite
writes_of own given runs = flat_map (run_writes own given) runs

-- the bytes of a run are there
abbrev pub IsWithin : List ℕ → List ℕ → Run → Type 0
IsWithin own given r = r.from + 4096 * r.count ≤ length (source_bytes own given r.source)

abbrev pub AreWithin : List ℕ → List ℕ → List Run → Type 0
AreWithin own given runs = AllByRecursion (IsWithin own given) runs

-- The runs that have their blocks, those that get theirs later, the list's own bytes, and the room for runs.
pub record WriteList : Type 0 where
  pub runs : List Run
  pub moves : List Run
  pub own : List ℕ
  pub room : ℕ

-- the pages that have their blocks, with the bytes of the call
abbrev pub page_writes : WriteList → List ℕ → List PageWrite
page_writes w given = writes_of w.own given w.runs

-- the pages that get theirs later
abbrev pub page_moves : WriteList → List ℕ → List PageWrite
page_moves w given = writes_of w.own given w.moves

-- the bytes of a list's own runs are there
abbrev pub IsOwnWithin : List ℕ → Run → Type 0
IsOwnWithin own r = r.source ≡ Own → r.from + 4096 * r.count ≤ length own

-- The bytes of all runs are there.
pub record HasBytes (w : WriteList) (given : List ℕ) : Type 0 where
  pub runs : AreWithin w.own given w.runs
  pub moves : AreWithin w.own given w.moves

-- the pages with these blocks, one after another
abbrev pub placed : List PageWrite → List ℕ → List PageWrite
placed [] blocks = []
placed (w ∷ more) [] = []
placed (w ∷ more) (block ∷ blocks) = (record w { block = block }) ∷ placed more blocks

-- the blocks of runs, one after another
abbrev pub blocks_in : List Extent → List ℕ
blocks_in extents = flat_map (λ e. range_with_len e.start e.count) extents
