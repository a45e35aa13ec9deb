-- Which units are cleared where the pool is too small (Storage: storage pressure; the choice is this project's own).
use Rattle.std.specs.Prelude.{ℕ, ◌+◌, ◌-◌, ◌==◌, Bool, not, ◌&&◌, if◌then◌else◌, List, [], ◌∷◌, Option, Some, None, option_map, unwrap_or, filter, fold, sum_by}
use Rattle.std.specs.BTreeMap.{insert_entry}
use Rattle.std.specs.FinMap.Entries.{find}
use Rattle.std.specs.Ordering.{nat_cmp, ordering_then}
use Rattle.std.specs.declared.cmp.Ordering.{Ordering}
use Rattle.opfs_base.specs.Texts.{Text}
use Rattle.opfs_base.specs.Units.{origin_of, same_origin}
use Rattle.opfs_pool.specs.declared.pool.Share.{Share}
use Rattle.opfs_pool.specs.Shares.{Shares, Blocks, text_cmp, held}

-- Whether a share may be cleared for a caller: it is a candidate, and not of the caller's origin.
abbrev pub is_candidate : Text → Text × Share → Bool
is_candidate caller e = e.1.candidate && not (same_origin caller e.0)

-- By last use, then by text.
abbrev pub use_cmp : ℕ × Text → ℕ × Text → Ordering
use_cmp a b = ordering_then (nat_cmp a.0 b.0) (text_cmp a.1 b.1)

-- The last use of each origin that has one, and that of an origin; 0 where it has none.
abbrev pub Uses : Type 0
Uses = List (Text × ℕ)

abbrev pub last_in : Uses → Text → ℕ
last_in uses origin = unwrap_or (find text_cmp origin uses) 0

-- Units with their last use, and the blocks of each.
abbrev pub Candidates : Type 0
Candidates = List ((ℕ × Text) × ℕ)

-- A candidate in its place among others.
abbrev pub with_candidate : Uses → Candidates → Text × Share → Candidates
with_candidate uses sorted e = insert_entry use_cmp sorted (last_in uses (origin_of e.0), e.0) e.1.blocks

-- The candidates for a caller, the one that was used longest ago first.
abbrev pub candidates : Text → Uses → Shares → Candidates
candidates caller uses shares = fold (with_candidate uses) [] (filter (is_candidate caller) shares)

-- The blocks of all candidates together.
abbrev pub clearable : Text → Uses → Shares → ℕ
clearable caller uses shares = sum_by (λ e. e.1) (candidates caller uses shares)

-- The shortest front of units that have as many blocks as are lacking; None where all together have too few.
abbrev pub shortest_front : ℕ → Candidates → Option (List Text)
shortest_front lacking [] = if lacking == 0 then Some [] else None
shortest_front lacking (e ∷ es) = if lacking == 0 then Some [] else option_map (λ more. e.0.1 ∷ more) (shortest_front (lacking - e.1) es)

-- The units that are cleared so that so many blocks more find room.
abbrev pub victims : Blocks → Text → ℕ → Uses → Option (List Text)
victims pool caller need uses = shortest_front (held pool.shares + need - pool.size) (candidates caller uses pool.shares)
