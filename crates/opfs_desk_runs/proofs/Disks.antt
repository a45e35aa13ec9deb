-- A run over the image that a disk holds.
use Rattle.std.proofs.Common.{◌≤◌, ℕ, ◌+◌, List, inl, inr, refl, subst, arith}
use Rattle.opfs_hist.specs.Faults.{disk_faults}
use Rattle.opfs_hist.specs.declared.entry.Entry.{Entry}
use Rattle.opfs_image.specs.Agreeing.{built_in}
use Rattle.opfs_image.specs.declared.geometry.Geometry.{Geometry}
use Rattle.opfs_image.specs.declared.recovered.Recovered.{Recovered}
use Rattle.opfs_journal.specs.Walking.{OnlyRead}
use Rattle.opfs_machine.specs.Openings.{Opening}
use Rattle.opfs_outside.specs.Faults.{RoseBy}
use Rattle.opfs_outside.specs.declared.disk.Disk.{Ghosts as DiskWords}
use Rattle.opfs_script.specs.Scripts.{Asked}
use Rattle.opfs_desk_runs.specs.Runs.{IsImageOf, IsRunOn, IsRunOver, LeavesFronts, opening_over}
use Rattle.opfs_desk_runs.specs.declared.running.Completion.{Completion}
use Rattle.opfs_desk_runs.proofs.Runs.{on-err}

by-before : (n old mid new : ℕ) → old ≤ mid → RoseBy n mid new → RoseBy n old new
by-before n old mid new le (inl h) = inl (omega (arith, le, h))
by-before n old mid new le (inr h) = inr h

-- a disk that was only read before the run began
module _ {D : Type 0} (w : DiskWords D) (falls : w.tells → (d : D) (t u : ℕ) (c : List ℕ) → t ≤ u → w.since d u c → w.since d t c) (old begun : D) (only : OnlyRead w old begun) where
  fronts-before : (o : Opening) (h : List Entry) (now : D) → w.tells → LeavesFronts w o h begun now → LeavesFronts w o h old now
  fronts-before o h now t left =
      let time = (only.told t).time in
      record {
        fronts = λ at c le since. elim (left.fronts at c (omega (arith, le, time.later)) since) [
          | inl was ↦ elim (time.split at c le was) [
            | inl first ↦ inl first
            | inr read ↦ inl (falls t old at (w.moment old) c le ((only.told t).moments c read))
          ]
          | inr front ↦ inr front
        ];
        keeps = left.keeps;
      }

  pub run-before : (g : Geometry) (o : Opening) (script : List Asked) (run : Completion D) → IsRunOver w g o script begun run → IsRunOver w g o script old run
  run-before g o script run is = record {
    history = is.history;
    stands = is.stands;
    left = is.left;
    stops = λ t. fronts-before o run.history run.disk t (is.stops t);
    faults = by-before (disk_faults run.history) (w.faults old) (w.faults begun) (w.faults run.disk) only.later is.faults;
    failed = on-err run.done _ _ (λ rose. by-before (disk_faults run.history + 1) (w.faults old) (w.faults begun) (w.faults run.disk) only.later rose) is.failed;
  }

-- the image that was recovered
pub run-on : {D : Type 0} (w : DiskWords D) (falls : w.tells → (d : D) (t u : ℕ) (c : List ℕ) → t ≤ u → w.since d u c → w.since d t c) (old : D) (from : Recovered D w) (script : List Asked) (run : Completion D)
    → OnlyRead w old from.journal.disk → IsRunOver w from.geometry (opening_over w from script) script from.journal.disk run → IsRunOn w script old run
run-on w falls old from script run only is = record {
  geometry = from.geometry;
  before = (opening_over w from script).stored;
  stood = λ t.
      subst (λ (c : List ℕ). IsImageOf from.geometry (opening_over w from script).stored c) (only.told t).same
      (record { built = built_in from.tree from.shed; reads = (from.image_of t).reads; stands = refl });
  over = run-before w falls old from.journal.disk only from.geometry (opening_over w from script) script run is;
}
