-- What a call reads and makes, and what stands ready for it. This project's own.
use Rattle.std.specs.Prelude.{◌≡◌, ℕ, ◌-◌, Bool, true, false, not, ◌&&◌, cond, List, [], ◌∷◌, Option, Some, None, option_map}
use Rattle.std.specs.List.{list_any, AllByRecursion}
use Rattle.opfs_base.specs.Measures.{mode_charge, place_charge}
use Rattle.opfs_base.specs.Places.{Place, place_of, child}
use Rattle.opfs_base.specs.Texts.{Text, same_text}
use Rattle.opfs_base.specs.Units.{unit_of}
use Rattle.opfs_base.specs.declared.locator.Kind.{Kind}
use Rattle.opfs_base.specs.declared.locator.Kind.TheVariants as kind
use Rattle.opfs_hist.specs.declared.op.Op.{Op}
use Rattle.opfs_hist.specs.declared.op.Op.TheVariants as op
use Rattle.opfs_laws.specs.Lengths.Bridge.{judged_in}
use Rattle.opfs_machine.specs.declared.own.HandleOutline.{HandleOutline}
use Rattle.opfs_machine.specs.declared.own.StreamOutline.{StreamOutline}
use Rattle.opfs_machine.specs.declared.state.Row.{Row}
use Rattle.opfs_machine.specs.declared.state.Sizes.{Sizes}
use Rattle.opfs_machine.specs.Agents.{agent_of, open_stream, open_handle, party_of}
use Rattle.opfs_machine.specs.Contents.{in_lengths}
use Rattle.opfs_machine.specs.Ruled.{Ruled}
use Rattle.opfs_machine.specs.Rows.{row_at}
use Rattle.opfs_machine.specs.Sums.{is_persistent}
use Rattle.opfs_machine.specs.Victims.{is_callers}
use Rattle.opfs_state_rows.specs.Standing.Seen.{Machine, Seen, is_known}
use Rattle.std.specs.Prelude.{Ok}

-- The unit of a bucket of an agent; none for an agent without a key.
abbrev pub bucket_unit : Machine → ℕ → Text → Option Text
bucket_unit m k bucket = option_map (λ origin. unit_of origin bucket) (agent_of m k).key

abbrev pub unit_in : Option Text → List Text
unit_in None = []
unit_in (Some unit) = unit ∷ []

abbrev pub stream_unit : Option StreamOutline → List Text
stream_unit None = []
stream_unit (Some w) = w.file.0 ∷ []

abbrev pub handle_unit : Option HandleOutline → List Text
handle_unit None = []
handle_unit (Some h) = h.file.0 ∷ []

-- The units that a call is about: that of its directory or file, that of the file of the stream or access handle that it
-- names, or that of its bucket.
unfoldable pub units_of : Machine → ℕ → Op → List Text
units_of m k (op.GetDirectory bucket) = unit_in (bucket_unit m k bucket)
units_of m k (op.GetDirectoryHandle dir name create) = dir.key ∷ []
units_of m k (op.GetFileHandle dir name create) = dir.key ∷ []
units_of m k (op.RemoveEntry dir name recursive) = dir.key ∷ []
units_of m k (op.Next n dir) = dir.key ∷ []
units_of m k (op.GetFile at) = at.key ∷ []
units_of m k (op.CreateWritable at keep) = at.key ∷ []
units_of m k (op.Write n bytes position) = stream_unit (open_stream in_lengths m k n)
units_of m k (op.Truncate n size) = stream_unit (open_stream in_lengths m k n)
units_of m k (op.Close n) = stream_unit (open_stream in_lengths m k n)
units_of m k (op.Abort n) = stream_unit (open_stream in_lengths m k n)
units_of m k (op.CreateSyncAccessHandle at m2) = at.key ∷ []
units_of m k (op.SyncWrite n bytes at) = handle_unit (open_handle in_lengths m k n)
units_of m k (op.SyncTruncate n size) = handle_unit (open_handle in_lengths m k n)
units_of m k (op.SyncFlush n) = handle_unit (open_handle in_lengths m k n)
units_of m k (op.SyncClose n) = handle_unit (open_handle in_lengths m k n)
units_of m k (op.Persist bucket) = unit_in (bucket_unit m k bucket)
units_of m k (op.Discard n) = handle_unit (open_handle in_lengths m k n)
units_of m k o = []

-- They are of the agent's origin; an agent without a key has none.
abbrev pub AreOwnUnits : Machine → ℕ → Op → Type 0
AreOwnUnits m k o = AllByRecursion (λ unit. is_callers (agent_of m k).key unit ≡ true) (units_of m k o)

abbrev pub root_in : Option Text → Option (Place × Kind)
root_in None = None
root_in (Some unit) = Some ((unit, []), kind.Directory)

-- Where a call makes a row if none is there, and of which kind.
unfoldable pub made_at : Machine → ℕ → Op → Option (Place × Kind)
made_at m k (op.GetDirectory bucket) = root_in (bucket_unit m k bucket)
made_at m k (op.GetDirectoryHandle dir name create) = Some (child (place_of dir) name, kind.Directory)
made_at m k (op.GetFileHandle dir name create) = Some (child (place_of dir) name, kind.File)
made_at m k o = None

abbrev pub where_free : Option (Row ℕ) → Place × Kind → Option (Place × Kind)
where_free None e = Some e
where_free (Some r) e = None

abbrev pub free_in : Machine → Option (Place × Kind) → Option (Place × Kind)
free_in m None = None
free_in m (Some e) = where_free (row_at m e.0) e

-- The row that a call makes.
abbrev pub place_for : Machine → ℕ → Op → Option (Place × Kind)
place_for m k o = free_in m (made_at m k o)

abbrev pub place_in : Option (Place × Kind) → Option Place
place_in e = option_map (λ (x : Place × Kind). x.0) e

abbrev pub handle_place : Option HandleOutline → Option Place
handle_place None = None
handle_place (Some h) = Some h.file

abbrev pub root_place : Option Text → Option Place
root_place None = None
root_place (Some unit) = Some (unit, [])

-- The place for which a call needs memory of its own: where it makes a row, what it removes, what it opens, the file
-- that an open access handle writes, or the root of the bucket that it makes persistent.
unfoldable pub target_of : Machine → ℕ → Op → Option Place
target_of m k (op.RemoveEntry dir name recursive) = Some (child (place_of dir) name)
target_of m k (op.CreateWritable at keep) = Some (place_of at)
target_of m k (op.CreateSyncAccessHandle at mode) = Some (place_of at)
target_of m k (op.SyncWrite n bytes at) = handle_place (open_handle in_lengths m k n)
target_of m k (op.SyncTruncate n size) = handle_place (open_handle in_lengths m k n)
target_of m k (op.SyncFlush n) = handle_place (open_handle in_lengths m k n)
target_of m k (op.Persist bucket) = cond (agent_of m k).grant (root_place (bucket_unit m k bucket)) None
target_of m k o = place_in (place_for m k o)

abbrev pub row_growth : Option (Place × Kind) → ℕ
row_growth None = 0
row_growth (Some e) = place_charge e.1 e.0

abbrev pub mode_growth : Machine → Option Place → ℕ
mode_growth m None = 0
mode_growth m (Some place) = cond (is_persistent m place.0) 0 (mode_charge place.0)

-- What a call adds to the charge by the row or mode that it makes.
unfoldable pub growth_of : Machine → ℕ → Op → ℕ
growth_of m k (op.Persist bucket) = mode_growth m (target_of m k (op.Persist bucket))
growth_of m k o = row_growth (place_for m k o)

-- Whether a call makes a row of the tree, if none is there.
abbrev pub makes_row : Op → Bool
makes_row (op.GetDirectory bucket) = true
makes_row (op.GetDirectoryHandle dir name create) = true
makes_row (op.GetFileHandle dir name create) = true
makes_row o = false

-- Whether a call makes an own row that is no iterator.
abbrev pub makes_slot : Op → Bool
makes_slot (op.GetFile at) = true
makes_slot (op.CreateWritable at keep) = true
makes_slot (op.CreateSyncAccessHandle at mode) = true
makes_slot o = false

-- The tag that a call posts or begins to wait for.
abbrev pub tag_in : Op → Option Text
tag_in (op.Post tag) = Some tag
tag_in (op.Wait tag) = Some tag
tag_in o = None

-- Whether a call makes a row or a mode, whose unit has to be known.
abbrev pub makes_in_unit : Op → Bool
makes_in_unit (op.GetDirectory bucket) = true
makes_in_unit (op.GetDirectoryHandle dir name create) = true
makes_in_unit (op.GetFileHandle dir name create) = true
makes_in_unit (op.Persist bucket) = true
makes_in_unit o = false

-- Calls that end what is open, or the agent: nothing has to stand ready for them.
abbrev pub ends : Op → Bool
ends (op.Abort n) = true
ends (op.Discard n) = true
ends op.End = true
ends o = false

-- A call is accepted, after the clearing of some units.
pub record IsAccepted (m : Machine) (k : ℕ) (o : Op) : Type 0 where
  pub sizes : Sizes
  pub units : List Text
  pub judged : judged_in in_lengths m sizes k o ≡ Ok units
