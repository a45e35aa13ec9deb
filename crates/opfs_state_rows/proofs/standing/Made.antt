-- A row that comes in a unit that is known.
use Rattle.std.proofs.Common.{◌≡◌, ℕ, ◌+◌, true, not, ◌&&◌, List, None, is_some, refl, option_map, sym, ap, subst, ◌∙◌, arith}
use Rattle.std.specs.FinMap.Entries.{put}
use Rattle.opfs_base.specs.Places.{Place, place_cmp}
use Rattle.opfs_base.specs.Texts.{Text, same_text}
use Rattle.opfs_base.specs.Measures.{place_charge}
use Rattle.opfs_base.specs.declared.locator.Kind.{Kind}
use Rattle.opfs_base.specs.declared.locator.Kind.TheVariants as kind
use Rattle.opfs_machine.specs.Effects.{new_row as machine_row}
use Rattle.opfs_tree.specs.Ready.Ready.{new_row}
use Rattle.std.specs.List.{list_any}
use Rattle.std.specs.Map.{keys_of}
use Rattle.opfs_machine.specs.Contents.{in_lengths}
use Rattle.opfs_machine.specs.Rows.{Rows as Lines}
use Rattle.opfs_machine.specs.Rows.{row_at, with_row}
use Rattle.opfs_machine.specs.Sums.{present_blocks, durable_blocks, row_charge}
use Rattle.opfs_pool.specs.Shares.{Blocks, has_share, share_at, changed}
use Rattle.opfs_shed.specs.Buckets.{Storage, has_unit, bucket_at}
use Rattle.opfs_tree.specs.declared.row.Row.{Row}
use Rattle.opfs_tree.specs.Rows as tree
use Rattle.opfs_register.specs.Registers.{Registered}
use Rattle.opfs_state_rows.specs.Standing.Seen.{Machine, machine_of, line_of, lines_of}
use Rattle.opfs_state_rows.specs.Standing.Sums.{clearable}
use Rattle.opfs_state_rows.specs.Standing.Tied.{IsKnown, IsTied}
use Rattle.opfs_state_rows.specs.Standing.Moves.{Amounts, Moves}
use Rattle.opfs_state_rows.proofs.standing.Lines.{lines-at, clear-lines, known_key}
use Rattle.opfs_state_rows.proofs.standing.RowMoves.{lines-put, comes, nothing_left, row-moves}
use Rattle.opfs_state_rows.proofs.standing.Stores.{shed-kept, pool-marked, marked-here}
use Rattle.opfs_state_rows.proofs.standing.TiedMoved.{tied_moved}

module _ (rows new : tree.Rows) (shed : Storage) (pool : Blocks) (rest : Registered) (cost : ℕ) (top : List Text) (unit : Text) (path : List Text) (r : Row)
    (is : new ≡ put place_cmp (unit, path) r rows) where
  abbrev pub place : Place
  place = (unit, path)

  abbrev pub m : Machine
  m = machine_of rows shed.buckets rest

  pub made-machine : machine_of new shed.buckets rest ≡ with_row m place (line_of r)
  made-machine = ap (λ (ls : Lines ℕ). record m { rows = ls }) (ap lines_of is ∙ lines-put place r rows)

  module _ (tied : IsTied (machine_of rows shed.buckets rest) shed pool cost top) (made-known : IsKnown shed pool unit) where
    module _ (free : tree.row_at (unit, path) rows ≡ None) (bare : (present_blocks in_lengths (line_of r) ≡ 0) × (durable_blocks in_lengths (line_of r) ≡ 0)) (marked : Blocks)
        (told : marked ≡ changed pool unit (record (share_at pool.shares unit) { candidate = is_some (tree.row_at (unit, top) new) && not (bucket_at shed.buckets unit).persistent && tree.none_taken unit new })) where
      pub made-tied : IsTied (machine_of new shed.buckets rest) shed marked (cost + row_charge (place, line_of r)) top
      made-tied =
          let after = with_row m place (line_of r) in
          let more : Amounts = record { usage = 0; blocks = 0; charge = row_charge (place, line_of r) } in
          let even : comes place (line_of r) ≡ more = λ i. record { usage = bare.0 i; blocks = bare.1 i; charge = row_charge (place, line_of r) } in
          let none : row_at m place ≡ None = lines-at place rows ∙ ap (option_map line_of) free in
          let moves : Moves m after unit (nothing_left place (line_of r)) more = subst (λ (a : Amounts). Moves m after unit (nothing_left place (line_of r)) a) even (row-moves place (line_of r) m none) in
          let test = λ (at : List Text). is_some (tree.row_at (unit, at) new) && not (bucket_at shed.buckets unit).persistent && tree.none_taken unit new in
          let mark : (share_at marked.shares unit).candidate ≡ clearable after unit =
          marked-here pool marked unit (test top) made-known.share told ∙ (ap test tied.root ∙ (sym (clear-lines unit new shed.buckets rest) ∙ ap (λ (x : Machine). clearable x unit) made-machine)) in
          subst (λ (x : Machine). IsTied x shed marked (cost + row_charge (place, line_of r)) top) (sym made-machine)
          (tied_moved m after shed shed pool marked cost (cost + row_charge (place, line_of r)) top unit (nothing_left place (line_of r)) more tied made-known moves (shed-kept shed unit 0)
          (pool-marked pool marked unit (test top) made-known.share told 0) mark (omega arith))

-- The row that comes where a place stands ready.
pub line-new : (k : Kind) (stamp : ℕ) → line_of (new_row k stamp) ≡ machine_row in_lengths k stamp
line-new kind.File stamp = refl
line-new kind.Directory stamp = refl

pub charge-new : (k : Kind) (stamp : ℕ) (at : Place) → row_charge (at, line_of (new_row k stamp)) ≡ place_charge k at
charge-new kind.File stamp at = refl
charge-new kind.Directory stamp at = refl

pub bare-new : (k : Kind) (stamp : ℕ) → (present_blocks in_lengths (line_of (new_row k stamp)) ≡ 0) × (durable_blocks in_lengths (line_of (new_row k stamp)) ≡ 0)
bare-new kind.File stamp = (refl, refl)
bare-new kind.Directory stamp = (refl, refl)

pub known-unit : (shed : Storage) (pool : Blocks) (unit : Text) → ((u : Text) → has_share pool.shares u ≡ true → has_unit shed.buckets u ≡ true) → list_any (same_text unit) (keys_of pool.shares) ≡ true → IsKnown shed pool unit
known-unit shed pool unit shared known = let has = sym (known_key unit pool.shares) ∙ known in record { bucket = shared unit has; share = has }
