-- What is counted in blocks and bytes. All of this is this project's own; the Storage Standard leaves usage and quota
-- implementation-defined.
use Rattle.std.specs.Prelude.{ℕ, ◌+◌, ◌*◌, nat_le, if◌then◌else◌, Bool, ◌||◌, List, sum_by, flat_map, filter, Option, Some, None}
use Rattle.std.specs.List.{list_any}
use Rattle.opfs_base.specs.Blocks.{blocks}
use Rattle.opfs_base.specs.Texts.{Text, same_text}
use Rattle.opfs_base.specs.Places.{Place}
use Rattle.opfs_base.specs.Measures.{block_charge, place_charge, mode_charge}
use Rattle.opfs_base.specs.Units.{origin_of}
use Rattle.opfs_base.specs.declared.locator.Kind.TheVariants as kind
use Rattle.opfs_machine.specs.declared.own.Outline.{Outline}
use Rattle.opfs_machine.specs.declared.own.Outline.TheVariants as outline
use Rattle.opfs_machine.specs.declared.own.StreamOutline.{StreamOutline}
use Rattle.opfs_machine.specs.declared.state.Need.{Need}
use Rattle.opfs_machine.specs.declared.state.Row.{Row}
use Rattle.opfs_machine.specs.declared.state.Row.TheVariants as row
use Rattle.opfs_machine.specs.declared.state.State.{State}
use Rattle.opfs_machine.specs.Agents.{stream_in}
use Rattle.opfs_machine.specs.Contents.{Contents}

-- What asks for nothing.
abbrev pub no_need : Need
no_need = record { quota = 0; pool = 0; charge = 0 }

-- The need of keeping so many blocks more.
abbrev pub keeps_blocks : ℕ → Need
keeps_blocks more = record { quota = more; pool = more; charge = block_charge * more }

abbrev pub charges : ℕ → Need
charges more = record { quota = 0; pool = 0; charge = more }

-- The charge of a row.
abbrev pub row_charge : {F : Type 0} → Place × Row F → ℕ
row_charge (place, row.Directory) = place_charge kind.Directory place
row_charge (place, row.File f) = place_charge kind.File place

-- All own rows of all agents.
abbrev pub all_own : {F R : Type 0} → State F R → List R
all_own s = flat_map (λ a. a.own) s.agents

abbrev pub durable_blocks : {F R : Type 0} → Contents F R → Row F → ℕ
durable_blocks c row.Directory = 0
durable_blocks c (row.File f) = blocks (c.size f.durable)

abbrev pub present_blocks : {F R : Type 0} → Contents F R → Row F → ℕ
present_blocks c row.Directory = 0
present_blocks c (row.File f) = blocks (c.size f.present)

abbrev pub reserve_of : Outline → ℕ
reserve_of (outline.Stream w) = w.reserve
reserve_of (outline.Handle h) = h.reserve
reserve_of r = 0

-- The reserve of a stream on a file of the origin.
abbrev pub stream_reserve : Text → Option StreamOutline → ℕ
stream_reserve origin None = 0
stream_reserve origin (Some w) = if same_text origin (origin_of w.file.0) then w.reserve else 0

-- What an own row keeps of the origin's quota: a stream its reserve.
unfoldable pub row_reserve : {F R : Type 0} → Contents F R → Text → R → ℕ
row_reserve c origin r = stream_reserve origin (stream_in (c.outline r))

-- The blocks that an origin uses: those of the present bytes of its units' files, and its streams' reserves.
abbrev pub usage : {F R : Type 0} → Contents F R → State F R → Text → ℕ
usage c s origin =
    sum_by (λ e. present_blocks c e.1) (filter (λ e. same_text origin (origin_of e.0.0)) s.rows)
    + sum_by (row_reserve c origin) (all_own s)

-- The blocks that are kept for durable bytes and for open rows.
abbrev pub pool : {F R : Type 0} → Contents F R → State F R → ℕ
pool c s = sum_by (λ e. durable_blocks c e.1) s.rows + sum_by (λ r. reserve_of (c.outline r)) (all_own s)

-- The most bytes that a snapshot of the durable map can take.
abbrev pub charge : {F R : Type 0} → Contents F R → State F R → ℕ
charge c s = sum_by row_charge s.rows + sum_by mode_charge s.persistent + block_charge * pool c s

-- Whether a unit's bucket mode is persistent (Storage: bucket mode).
abbrev pub is_persistent : {F R : Type 0} → State F R → Text → Bool
is_persistent s unit = list_any (same_text unit) s.persistent

-- The quota's test: nothing is asked, or usage and need are within it.
abbrev pub fits_quota : {F R : Type 0} → Contents F R → State F R → Text → ℕ → Bool
fits_quota c s origin need = nat_le need 0 || nat_le (usage c s origin + need) s.limits.quota

-- A record of a list of no changes takes 7 bytes of an area.
abbrev pub fits_area : {F R : Type 0} → Contents F R → State F R → ℕ → Bool
fits_area c s growth = nat_le growth 0 || nat_le (charge c s + growth + 7) s.limits.area

abbrev pub fits_pool : {F R : Type 0} → Contents F R → State F R → ℕ → Bool
fits_pool c s need = nat_le need 0 || nat_le (pool c s + need) s.limits.blocks
