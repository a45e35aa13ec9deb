-- The units that a call is about are the same before its agent's pending calls.
use Rattle.std.proofs.Common.{◌≡◌, ℕ, zero, suc, ◌-◌, ◌<◌, true, List, [], ◌∷◌, ◌++◌, length, Option, None, option_map, refl, ap, ◌∙◌, subst, arith}
use Rattle.std.specs.Prelude.{slice_get, replicate}
use Rattle.std.specs.List.{AllByRecursion}
use Rattle.opfs_base.specs.Texts.{Text}
use Rattle.opfs_base.specs.Units.{unit_of}
use Rattle.opfs_state_rows.specs.Changes.Asking.{AreOwnUnits, units_of, unit_in, stream_unit, handle_unit, bucket_unit}
use Rattle.opfs_hist.specs.declared.history.PendingSum.{PendingSum}
use Rattle.opfs_hist.specs.declared.op.Op.{Op}
use Rattle.opfs_hist.specs.declared.op.Op.TheVariants as op
use Rattle.opfs_machine.specs.declared.own.Outline.{Outline}
use Rattle.opfs_machine.specs.declared.own.Outline.TheVariants as outline
use Rattle.opfs_machine.specs.declared.state.Agent.{Agent}
use Rattle.opfs_machine.specs.Agents.{agent_of, own_of, of_row, stream_in, handle_in, open_stream, open_handle}
use Rattle.opfs_machine.specs.Contents.{in_lengths}
use Rattle.opfs_machine.specs.Victims.{is_callers}
use Rattle.opfs_register.specs.Seating.{noted}
use Rattle.opfs_state_rows.specs.Standing.Noted.{with_sum}
use Rattle.opfs_state_rows.specs.Standing.Seen.{Machine}
use Rattle.opfs_state.proofs.laws.Readying.{agent-noted}
use Rattle.opfs_state.specs.Verdicts.Callers.{IsAgent}

module _ {X : Type 0} (f : Outline → Option X) (none : f outline.Iterator ≡ None) where
  replicated : (more n : ℕ) → of_row f (slice_get (replicate more outline.Iterator) n) ≡ None
  replicated zero zero = refl
  replicated zero (suc n) = refl
  replicated (suc more) zero = none
  replicated (suc more) (suc n) = replicated more n

  more-rows : (rows : List Outline) (more n : ℕ) → of_row f (slice_get (rows ++ replicate more outline.Iterator) n) ≡ of_row f (slice_get rows n)
  more-rows [] more zero = replicated more zero
  more-rows [] more (suc n) = replicated more (suc n)
  more-rows (r ∷ rows) more zero = refl
  more-rows (r ∷ rows) more (suc n) = more-rows rows more n

  row-noted : (a : Agent Outline) (more : ℕ) (moment : Option ℕ) (n : ℕ) → of_row f (own_of (noted a more moment) n) ≡ of_row f (own_of a n)
  row-noted a more moment zero = refl
  row-noted a more moment (suc n) = more-rows a.own more n

module _ (m : Machine) (at : ℕ) (sum : PendingSum) (inside : at < length m.agents) where
  abbrev new : Machine
  new = with_sum m at sum

  key-same : (agent_of new (suc at)).key ≡ (agent_of m (suc at)).key
  key-same = ap (λ a. a.key) (agent-noted m at sum inside)

  stream-same : (n : ℕ) → stream_unit (open_stream in_lengths new (suc at) n) ≡ stream_unit (open_stream in_lengths m (suc at) n)
  stream-same n = ap stream_unit (ap (λ a. of_row stream_in (own_of a n)) (agent-noted m at sum inside) ∙ row-noted stream_in refl (agent_of m (suc at)) sum.rows sum.moment n)

  handle-same : (n : ℕ) → handle_unit (open_handle in_lengths new (suc at) n) ≡ handle_unit (open_handle in_lengths m (suc at) n)
  handle-same n = ap handle_unit (ap (λ a. of_row handle_in (own_of a n)) (agent-noted m at sum inside) ∙ row-noted handle_in refl (agent_of m (suc at)) sum.rows sum.moment n)

  bucket-same : (bucket : Text) → unit_in (bucket_unit new (suc at) bucket) ≡ unit_in (bucket_unit m (suc at) bucket)
  bucket-same bucket = ap (λ key. unit_in (option_map (λ origin. unit_of origin bucket) key)) key-same

  units-same : (o : Op) → units_of new (suc at) o ≡ units_of m (suc at) o
  unfolding units_of
  units-same (op.GetDirectory bucket) = bucket-same bucket
  units-same (op.GetDirectoryHandle dir name create) = refl
  units-same (op.GetFileHandle dir name create) = refl
  units-same (op.RemoveEntry dir name recursive) = refl
  units-same (op.Values dir) = refl
  units-same (op.Next n dir) = refl
  units-same (op.Resolve dir entry) = refl
  units-same (op.IsSameEntry entry other) = refl
  units-same (op.GetFile file) = refl
  units-same (op.Slice n from len) = refl
  units-same (op.CreateWritable file keep) = refl
  units-same (op.Write n bytes position) = stream-same n
  units-same (op.Seek n position) = refl
  units-same (op.Truncate n size) = stream-same n
  units-same (op.Close n) = stream-same n
  units-same (op.Abort n) = stream-same n
  units-same (op.CreateSyncAccessHandle file mode) = refl
  units-same (op.SyncRead n len from) = refl
  units-same (op.SyncWrite n bytes from) = handle-same n
  units-same (op.SyncTruncate n size) = handle-same n
  units-same (op.SyncGetSize n) = refl
  units-same (op.SyncFlush n) = handle-same n
  units-same (op.SyncClose n) = handle-same n
  units-same (op.Persist bucket) = bucket-same bucket
  units-same (op.Persisted bucket) = refl
  units-same op.Estimate = refl
  units-same (op.Moment ms) = refl
  units-same (op.Post tag) = refl
  units-same (op.Await tag) = refl
  units-same (op.Wait tag) = refl
  units-same (op.Discard n) = handle-same n
  units-same op.End = refl
  units-same (op.Unbound word) = refl
  units-same (op.Evict unit) = refl

  own-at : (o : Op) → AreOwnUnits new (suc at) o → AreOwnUnits m (suc at) o
  own-at o h =
      subst (λ (us : List Text). AllByRecursion (λ unit. is_callers (agent_of m (suc at)).key unit ≡ true) us) (units-same o)
      (subst (λ (key : Option Text). AllByRecursion (λ unit. is_callers key unit ≡ true) (units_of new (suc at) o)) key-same h)

pub own-before : (m : Machine) (k : ℕ) (sum : PendingSum) (o : Op) → IsAgent m k → AreOwnUnits (with_sum m (k - 1) sum) k o → AreOwnUnits m k o
own-before m zero sum o agent h = absurd (omega (arith, agent.above))
own-before m (suc at) sum o agent h = own-at m at sum (omega (arith, agent.within)) o (subst (λ (j : ℕ). AreOwnUnits (with_sum m j sum) (suc at) o) (number at) h)
  where
    number : (at : ℕ) → suc at - 1 ≡ at
    number at = omega arith
