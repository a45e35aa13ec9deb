-- What is kept is kept by a change of one unit.
use Rattle.std.proofs.Common.{◌≡◌, ℕ, ◌+◌, true, false, List, is_some, refl, sym, ap, subst, ◌∙◌, arith}
use Rattle.opfs_state_rows.proofs.standing.Units.{same_unit}
use Rattle.opfs_base.specs.Texts.{Text, same_text}
use Rattle.opfs_machine.specs.Rows.{row_at}
use Rattle.opfs_pool.specs.Shares.{Blocks, share_at}
use Rattle.opfs_shed.specs.Buckets.{Storage}
use Rattle.opfs_state_rows.specs.Standing.Seen.{Machine}
use Rattle.opfs_state_rows.specs.Standing.Sums.{anywhere, of_origin, clearable}
use Rattle.opfs_state_rows.specs.Standing.Tied.{IsKnown, IsTied}
use Rattle.opfs_state_rows.specs.Standing.Moves.{Amounts, Moves, ShedMoves, PoolMoves}

module _ (m new : Machine) (shed shed_after : Storage) (pool pool_after : Blocks) (cost cost_after : ℕ) (top : List Text) (unit : Text) (less more : Amounts) where
  pub tied_moved : IsTied m shed pool cost top → IsKnown shed pool unit → Moves m new unit less more
      → ShedMoves shed shed_after unit less.usage more.usage → PoolMoves pool pool_after unit less.blocks more.blocks
      → (share_at pool_after.shares unit).candidate ≡ clearable new unit → cost_after + less.charge ≡ cost + more.charge
      → IsTied new shed_after pool_after cost_after top
  tied_moved tied its machine buckets shares mark charge =
      let still : (u : Text) → IsKnown shed pool u → IsKnown shed_after pool_after u = λ u k. record { bucket = buckets.kept u ∙ k.bucket; share = shares.kept u ∙ k.share } in
      record {
        root = tied.root;
        quota = buckets.quota ∙ (tied.quota ∙ ap (λ l. l.quota) (sym machine.limits));
        size = shares.size ∙ (tied.size ∙ ap (λ l. l.blocks) (sym machine.limits));
        shared = λ u has. buckets.kept u ∙ tied.shared u (sym (shares.kept u) ∙ has);
        known = λ place there.
            elim (is_some (row_at m place)) as (λ t. is_some (row_at m place) ≡ t → IsKnown shed_after pool_after place.0) [
              | true ↦ λ was. still place.0 (tied.known place was)
              | false ↦ λ was. subst (IsKnown shed_after pool_after) (sym ((machine.known place there).known was)) (still unit its)
            ] refl;
        usage = λ u. omega (arith, tied.usage u, machine.usage (same_text u), buckets.usage u);
        usages = λ origin. omega (arith, tied.usages origin, machine.usage (of_origin origin), buckets.usages origin);
        blocks = λ u. omega (arith, tied.blocks u, machine.blocks (same_text u), shares.blocks u);
        held = omega (arith, tied.held, machine.blocks anywhere, shares.held);
        marks = λ u.
            elim (same_text unit u) as (λ t. same_text unit u ≡ t → (share_at pool_after.shares u).candidate ≡ clearable new u) [
              | true ↦ λ is. subst (λ (x : Text). (share_at pool_after.shares x).candidate ≡ clearable new x) (same_unit unit u is) mark
              | false ↦ λ is. shares.marks u is ∙ (tied.marks u ∙ sym (machine.clear u is))
            ] refl;
        fixed = omega (arith, tied.fixed, machine.charge, charge);
      }
