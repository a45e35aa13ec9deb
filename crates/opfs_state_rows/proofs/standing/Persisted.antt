-- A unit's mode becomes persistent.
use Rattle.std.proofs.Common.{◌≡◌, ℕ, ◌+◌, Bool, true, false, cond, not, ◌&&◌, List, [], filter, sum_by, is_some, refl, sym, ap, ◌∙◌, arith}
use Rattle.std.specs.List.{list_any}
use Rattle.std.specs.List.Sorted.{IsStrictlySortedBy}
use Rattle.std.specs.Map.{keys_of}
use Rattle.opfs_base.specs.Measures.{mode_charge}
use Rattle.opfs_base.specs.Texts.{Text, same_text}
use Rattle.opfs_machine.specs.Ordered.{insert_by}
use Rattle.opfs_machine.specs.Rows.{row_at}
use Rattle.opfs_machine.specs.Sums.{is_persistent}
use Rattle.opfs_machine.specs.Victims.{none_taken}
use Rattle.opfs_pool.specs.Shares.{Blocks, has_share, share_at, changed}
use Rattle.opfs_register.specs.Registers.{Registered}
use Rattle.opfs_shed.specs.declared.shed.Bucket.{Bucket}
use Rattle.opfs_shed.specs.Buckets.{Storage, text_cmp, has_unit, bucket_at, with_bucket, is_unit, usage_of}
use Rattle.opfs_shed.specs.Buckets as shed_words
use Rattle.opfs_tree.specs.Rows as tree
use Rattle.opfs_state_rows.specs.Standing.Seen.{Machine, machine_of, persistent_in}
use Rattle.opfs_state_rows.specs.Standing.Sums.{of_origin, clearable}
use Rattle.opfs_state_rows.specs.Standing.Tied.{IsKnown, IsTied}
use Rattle.opfs_state_rows.specs.Standing.Moves.{Amounts, Moves, ShedMoves}
use Rattle.opfs_state_rows.proofs.standing.Inserted.{filter-inserted, sum-inserted}
use Rattle.opfs_state_rows.proofs.standing.Lines.{known_key, persistent-is, clear-lines}
use Rattle.opfs_state_rows.proofs.standing.Stores.{keys-kept, bucket-same, bucket-other, shed-moved, pool-marked, marked-here}
use Rattle.opfs_state_rows.proofs.standing.TiedMoved.{tied_moved}

true_false : true ≡ false → ⊥
true_false h = cc

module _ (rows : tree.Rows) (shed new : Storage) (rest : Registered) (unit : Text) (has : has_unit shed.buckets unit ≡ true) (sorted : IsStrictlySortedBy text_cmp (keys_of shed.buckets))
    (is : new ≡ shed_words.changed shed unit (record (bucket_at shed.buckets unit) { persistent = true })) where
  abbrev bucket : Bucket
  bucket = record (bucket_at shed.buckets unit) { persistent = true }

  abbrev before : Text → Bool
  before u = (bucket_at shed.buckets u).persistent

  abbrev after : Text → Bool
  after u = (bucket_at (with_bucket shed.buckets unit bucket) u).persistent

  now : after unit ≡ true
  now = ap (λ (b : Bucket). b.persistent) (bucket-same shed.buckets unit bucket has)

  other : (u : Text) → same_text unit u ≡ false → after u ≡ before u
  other u apart = ap (λ (b : Bucket). b.persistent) (bucket-other shed.buckets unit bucket u apart)

  there : list_any (same_text unit) (keys_of shed.buckets) ≡ true
  there = known_key unit shed.buckets ∙ has

  modes_are : persistent_in new.buckets ≡ filter after (keys_of shed.buckets)
  modes_are = ap (λ (s : Storage). persistent_in s.buckets) is ∙ ap (filter after) (keys-kept (is_unit unit) shed.buckets bucket)

  abbrev pub m : Machine
  m = machine_of rows shed.buckets rest

  pub persisted-machine : machine_of rows new.buckets rest ≡ record m { persistent = insert_by text_cmp unit m.persistent }
  persisted-machine = ap (λ (us : List Text). record m { persistent = us }) (modes_are ∙ filter-inserted unit before after now other (keys_of shed.buckets) sorted there)

  module _ (pool marked : Blocks) (cost charge : ℕ) (top : List Text) (tied : IsTied (machine_of rows shed.buckets rest) shed pool cost top) (share : has_share pool.shares unit ≡ true) (more : charge ≡ cond (is_persistent (machine_of rows shed.buckets rest) unit) 0 (mode_charge unit)) where
    pub persisted-known : IsKnown shed pool unit
    persisted-known = record { bucket = has; share = share }

    modes_charge : sum_by mode_charge (persistent_in new.buckets) ≡ sum_by mode_charge (persistent_in shed.buckets) + charge
    modes_charge =
        ap (sum_by mode_charge) modes_are
        ∙ (sum-inserted unit before after now other mode_charge (keys_of shed.buckets) sorted there
        ∙ ap (λ n. sum_by mode_charge (persistent_in shed.buckets) + n) (ap (λ t. cond t 0 (mode_charge unit)) (sym (persistent-is unit shed.buckets)) ∙ sym more))

    abbrev none : Amounts
    none = record { usage = 0; blocks = 0; charge = 0 }

    abbrev comes : Amounts
    comes = record { usage = 0; blocks = 0; charge = charge }

    moves : Moves m (machine_of rows new.buckets rest) unit none comes
    moves = record {
      limits = refl;
      known = λ q is_there. record { known = λ no. absurd (true_false (sym is_there ∙ no)) };
      usage = λ p. refl;
      blocks = λ p. refl;
      clear = λ u apart.
          ap (λ t. is_some (row_at m (u, [])) && not t && none_taken m u)
          (persistent-is u new.buckets ∙ (ap (λ (s : Storage). (bucket_at s.buckets u).persistent) is ∙ (other u apart ∙ sym (persistent-is u shed.buckets))));
      charge = omega (arith, modes_charge);
    }

    pub persisted-tied : ((origin : Text) → usage_of origin new.buckets ≡ usage_of origin shed.buckets)
        → marked ≡ changed pool unit (record (share_at pool.shares unit) { candidate = is_some (tree.row_at (unit, top) rows) && not (bucket_at new.buckets unit).persistent && tree.none_taken unit rows })
        → IsTied (machine_of rows new.buckets rest) new marked (cost + charge) top
    persisted-tied usages told =
        let test = λ (at : List Text). is_some (tree.row_at (unit, at) rows) && not (bucket_at new.buckets unit).persistent && tree.none_taken unit rows in
        let mark : (share_at marked.shares unit).candidate ≡ clearable (machine_of rows new.buckets rest) unit =
        marked-here pool marked unit (test top) persisted-known.share told ∙ (ap test tied.root ∙ sym (clear-lines unit rows new.buckets rest)) in
        let moved : ShedMoves shed new unit 0 0 =
        shed-moved shed new unit bucket 0 0 has (ap (λ (s : Storage). s.buckets) is) refl (ap (λ (s : Storage). s.quota) is) (λ origin. ap (λ n. n + cond (of_origin origin unit) 0 0) (usages origin)) in
        tied_moved m (machine_of rows new.buckets rest) shed new pool marked cost (cost + charge) top unit none comes tied persisted-known moves moved
        (pool-marked pool marked unit (test top) persisted-known.share told 0) mark (omega arith)
