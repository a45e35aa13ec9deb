-- A removal: what is freed, and what is kept after it.
use Rattle.std.proofs.Common.{◌≡◌, ℕ, ◌+◌, ◌-◌, ◌≤◌, true, not, ◌&&◌, cond, List, is_some, refl, sym, ap, subst, ◌∙◌, arith}
use Rattle.opfs_base.specs.Texts.{Text, same_text}
use Rattle.opfs_machine.specs.Rows.{without}
use Rattle.opfs_pool.specs.Shares.{Blocks, has_share, share_at, changed, held}
use Rattle.opfs_shed.specs.Buckets.{Storage, has_unit, bucket_at, usage_of, part_of}
use Rattle.opfs_shed.specs.Buckets as shed_words
use Rattle.opfs_tree.specs.Rows as tree
use Rattle.opfs_register.specs.Registers.{Registered}
use Rattle.opfs_state_rows.specs.Standing.Seen.{Machine, machine_of, persistent_in}
use Rattle.opfs_state_rows.specs.Standing.Sums.{clearable}
use Rattle.opfs_state_rows.specs.Standing.Tied.{IsKnown, IsTied}
use Rattle.opfs_state_rows.specs.Standing.Moves.{Amounts, Moves, PoolMoves}
use Rattle.opfs_state_rows.proofs.standing.GoneMoves.{gone-machine, gone-moves, gone, nothing}
use Rattle.opfs_state_rows.proofs.standing.Lines.{there-at, clear-lines}
use Rattle.opfs_state_rows.proofs.standing.Stores.{shed-freed, pool-lowered, pool-then, pool-marked, marked-here, modes-kept}
use Rattle.opfs_state_rows.proofs.standing.TiedMoved.{tied_moved}
use Rattle.opfs_state_rows.proofs.standing.Units.{unit_itself}

-- The same modes, the same machine.
pub modes-machine : (rows : tree.Rows) (rest : Registered) (shed shed_after : Storage) → persistent_in shed_after.buckets ≡ persistent_in shed.buckets → machine_of rows shed_after.buckets rest ≡ machine_of rows shed.buckets rest
modes-machine rows rest shed shed_after modes = ap (λ (us : List Text). record (machine_of rows shed.buckets rest) { persistent = us }) modes

module _ (rows : tree.Rows) (shed : Storage) (pool : Blocks) (rest : Registered) (cost : ℕ) (top : List Text) (unit : Text) (path : List Text)
    (tied : IsTied (machine_of rows shed.buckets rest) shed pool cost top) (there : is_some (tree.row_at (unit, path) rows) ≡ true) where
  abbrev pub away : Amounts
  away = gone (unit, path) rows shed.buckets rest

  pub gone-known : IsKnown shed pool unit
  gone-known = tied.known (unit, path) (there-at (unit, path) rows ∙ there)

  moves : Moves (machine_of rows shed.buckets rest) (machine_of (tree.without (unit, path) rows) shed.buckets rest) unit away (nothing (unit, path) rows shed.buckets rest)
  moves = gone-moves (unit, path) rows shed.buckets rest

  here : (k : ℕ) → cond (same_text unit unit) k 0 ≡ k
  here k = ap (λ t. cond t k 0) (unit_itself unit unit refl)

  pub gone-usage : away.usage ≤ (bucket_at shed.buckets unit).usage
  gone-usage = omega (arith, moves.usage (same_text unit), tied.usage unit, here away.usage, here 0)

  pub gone-blocks : away.blocks ≤ (share_at pool.shares unit).blocks
  gone-blocks = omega (arith, moves.blocks (same_text unit), tied.blocks unit, here away.blocks, here 0)

  pub gone-charge : away.charge ≤ cost
  gone-charge = omega (arith, moves.charge, tied.fixed)

  module _ (new : tree.Rows) (shed_after : Storage) (lowered marked : Blocks) (is : new ≡ tree.without (unit, path) rows)
      (freed : shed_after ≡ shed_words.changed shed unit (record (bucket_at shed.buckets unit) { usage = (bucket_at shed.buckets unit).usage - away.usage })) where
    modes : persistent_in shed_after.buckets ≡ persistent_in shed.buckets
    modes = ap (λ (s : Storage). persistent_in s.buckets) freed ∙ modes-kept shed.buckets unit _ gone-known.bucket refl

    same : machine_of new shed_after.buckets rest ≡ machine_of (tree.without (unit, path) rows) shed.buckets rest
    same = modes-machine new rest shed shed_after modes ∙ ap (λ (x : tree.Rows). machine_of x shed.buckets rest) is

    pub removed-machine : machine_of new shed_after.buckets rest ≡ without (machine_of rows shed.buckets rest) (unit, path)
    removed-machine = same ∙ gone-machine (unit, path) rows shed.buckets rest

    module _ (less : lowered ≡ changed pool unit (record (share_at pool.shares unit) { blocks = (share_at pool.shares unit).blocks - away.blocks })) (all : held lowered.shares + away.blocks ≡ held pool.shares) where
      lower : PoolMoves pool lowered unit away.blocks 0
      lower = pool-lowered pool lowered unit away.blocks gone-known.share gone-blocks less all

      pub removed-share : has_share lowered.shares unit ≡ true
      removed-share = lower.kept unit ∙ gone-known.share

      pub removed-tied : ((origin : Text) → usage_of origin shed_after.buckets + part_of origin unit away.usage ≡ usage_of origin shed.buckets)
          → marked ≡ changed lowered unit (record (share_at lowered.shares unit) { candidate = is_some (tree.row_at (unit, top) new) && not (bucket_at shed_after.buckets unit).persistent && tree.none_taken unit new })
          → IsTied (machine_of new shed_after.buckets rest) shed_after marked (cost - away.charge) top
      removed-tied usages told =
          let after = machine_of (tree.without (unit, path) rows) shed.buckets rest in
          let test = λ (at : List Text). is_some (tree.row_at (unit, at) new) && not (bucket_at shed_after.buckets unit).persistent && tree.none_taken unit new in
          let mark : (share_at marked.shares unit).candidate ≡ clearable after unit =
          marked-here lowered marked unit (test top) removed-share told ∙ (ap test tied.root ∙ (sym (clear-lines unit new shed_after.buckets rest) ∙ ap (λ (x : Machine). clearable x unit) same)) in
          subst (λ (x : Machine). IsTied x shed_after marked (cost - away.charge) top) (sym same)
          (tied_moved (machine_of rows shed.buckets rest) after shed shed_after pool marked cost (cost - away.charge) top unit away (nothing (unit, path) rows shed.buckets rest) tied gone-known moves
          (shed-freed shed shed_after unit away.usage gone-known.bucket gone-usage freed usages)
          (pool-then pool lowered marked unit away.blocks 0 0 lower (pool-marked lowered marked unit (test top) removed-share told 0)) mark (omega (arith, gone-charge)))
