-- Runs of blocks as places of a disk. A block has 4,096 bytes, and block 0 begins at the base of the data part. This
-- project's own.
use Rattle.std.specs.Prelude.{ℕ, ◌+◌, ◌*◌, ◌<◌, ◌≤◌, ◌⊎◌, List, [], ◌∷◌, take}
use Rattle.std.specs.List.{flat_map, AllByRecursion}
use Rattle.opfs_outside.specs.Bytes.{window, Beside}
use Rattle.opfs_base.specs.declared.extents.Extent.{Extent}

-- how many bytes a run has, and how many the runs have together
abbrev pub run_room : Extent → ℕ
run_room e = 4096 * e.count

abbrev pub room_of : List Extent → ℕ
room_of [] = 0
room_of (e ∷ more) = run_room e + room_of more

-- the place of a run's first byte
abbrev pub run_place : ℕ → Extent → ℕ
run_place base e = base + 4096 * e.start

-- the bytes of a run, and so many bytes of runs: their blocks one after another, cut
abbrev pub run_bytes : List ℕ → ℕ → Extent → List ℕ
run_bytes c base e = window c (run_place base e) (run_room e)

abbrev pub bytes_of : List ℕ → ℕ → List Extent → ℕ → List ℕ
bytes_of c base extents len = take len (flat_map (run_bytes c base) extents)

-- all runs end at this place at the latest
abbrev pub AllLie : ℕ → ℕ → List Extent → Type 0
AllLie base end extents = AllByRecursion (λ e. run_place base e + run_room e ≤ end) extents

-- the place is in no run
abbrev pub Aside : ℕ → List Extent → ℕ → Type 0
Aside base extents i = AllByRecursion (λ e. Beside (run_place base e) (run_room e) i) extents

-- the block is in the run, or in one of the runs
abbrev pub HasBlock : Extent → ℕ → Type 0
HasBlock e block = (e.start ≤ block) × (block < e.start + e.count)

abbrev pub HaveBlock : List Extent → ℕ → Type 0
HaveBlock [] block = ⊥
HaveBlock (e ∷ more) block = HasBlock e block ⊎ HaveBlock more block

-- no block is named twice
abbrev pub AreApart : List Extent → Type 0
AreApart [] = Unit {0}
AreApart (e ∷ more) = ((block : ℕ) → HasBlock e block → HaveBlock more block → ⊥) × AreApart more
