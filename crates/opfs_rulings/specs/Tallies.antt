-- What rows come to, counted in a few ways at once.
use Rattle.std.specs.Prelude.{◌≡◌, ℕ, ◌+◌, if◌then◌else◌, List, [], Option, map, flat_map, sum_by, IfSome}
use Rattle.std.specs.List.{AllByRecursion}
use Rattle.opfs_base.specs.Places.{Place}
use Rattle.opfs_base.specs.Texts.{Text, same_text}
use Rattle.opfs_base.specs.Units.{origin_of}
use Rattle.opfs_base.specs.Measures.{mode_charge}
use Rattle.opfs_machine.specs.declared.own.Own.{Own}
use Rattle.opfs_machine.specs.declared.own.Own.TheVariants as own
use Rattle.opfs_machine.specs.declared.state.Agent.{Agent}
use Rattle.opfs_machine.specs.declared.state.Row.{Row}
use Rattle.opfs_machine.specs.Contents.{in_bytes, outline_of}
use Rattle.opfs_machine.specs.Rows.{Rows}
use Rattle.opfs_machine.specs.Sums.{durable_blocks, present_blocks, reserve_of, row_charge, row_reserve}
use Rattle.opfs_rulings.specs.declared.tally.Tally.{Tally}
use Rattle.opfs_rulings.specs.declared.tally.Weight.{Weight}
use Rattle.opfs_rulings.specs.Spots.{AreRising}

-- What is counted: the blocks of the pool, the bytes of rows and modes, and the blocks that an origin uses.
pub data Count : Type 0 where
  Pool : Count
  Charge : Count
  Usage : Text → Count

-- What a row, and an own row, add to a count.
abbrev pub row_weight : Count → Place × Row Text → ℕ
row_weight Pool e = durable_blocks in_bytes e.1
row_weight Charge e = row_charge e
row_weight (Usage origin) e = if same_text origin (origin_of e.0.0) then present_blocks in_bytes e.1 else 0

abbrev pub own_weight : Count → Own → ℕ
own_weight Pool r = reserve_of (outline_of r)
own_weight Charge r = 0
own_weight (Usage origin) r = row_reserve in_bytes origin r

-- What own rows and modes add to a count.
abbrev pub rest_of : Count → List (Agent Own) → List Text → ℕ
rest_of Pool agents modes = sum_by (λ r. reserve_of (outline_of r)) (flat_map (λ a. a.own) agents)
rest_of Charge agents modes = sum_by mode_charge modes
rest_of (Usage origin) agents modes = sum_by (row_reserve in_bytes origin) (flat_map (λ a. a.own) agents)

abbrev pub total : Rows Text → List (Agent Own) → List Text → Count → ℕ
total rows agents modes count = sum_by (row_weight count) rows + rest_of count agents modes

-- A weight, of which an origin uses its part.
abbrev pub given : Text → Weight → Count → ℕ
given origin w Pool = w.pool
given origin w Charge = w.charge
given origin w (Usage other) = if same_text other origin then w.usage else 0

-- A tally has the counts.
pub record IsTallyOf (counts : Count → ℕ) (tally : Tally) : Type 0 where
  pub pool : tally.pool ≡ counts Pool
  pub charge : tally.charge ≡ counts Charge
  pub uses : AllByRecursion (λ e. e.1 ≡ counts (Usage e.0)) tally.uses

-- A tally has the counts of another, and a weight more.
pub record IsRaised (weight : Count → ℕ) (old new : Tally) : Type 0 where
  pub pool : new.pool ≡ old.pool + weight Pool
  pub charge : new.charge ≡ old.charge + weight Charge
  pub uses : new.uses ≡ map (λ e. (e.0, e.1 + weight (Usage e.0))) old.uses

-- Rows are in order, and a tally that is there counts them.
pub record AreKept (rows : Rows Text) (agents : List (Agent Own)) (modes : List Text) (tally : Option Tally) : Type 0 where
  pub rising : AreRising rows
  pub tallied : IfSome tally (IsTallyOf (total rows agents modes))

-- The origin of an own row that counts for one; no text for another.
abbrev pub own_origin : Own → Text
own_origin (own.Stream w) = origin_of w.file.0
own_origin r = []

-- The reserve of a stream; 0 for another own row.
abbrev pub stream_part : Own → ℕ
stream_part (own.Stream w) = w.reserve
stream_part r = 0

-- A weight is that of a row, and of an own row.
abbrev pub IsRowWeight : Place → Row Text → Weight → Type 0
IsRowWeight place row w = (count : Count) → given (origin_of place.0) w count ≡ row_weight count (place, row)

abbrev pub IsOwnWeight : Own → Weight → Type 0
IsOwnWeight r w = (count : Count) → given (own_origin r) w count ≡ own_weight count r
