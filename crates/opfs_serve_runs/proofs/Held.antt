-- A conversation that was held over an image, and its run, which has ended.
use Rattle.std.proofs.Common.{◌≡◌, ◌≤◌, ℕ, ◌+◌, ◌<◌, Bool, true, List, ◌++◌, length, map, refl, sym, ap, ◌∙◌, subst}
use Rattle.std.specs.Prelude.{OnOk, OnErr}
use Rattle.opfs_books.specs.Openings.Openings.{caller_by, fixed_by}
use Rattle.opfs_desk.specs.Apart.{IsToldApart}
use Rattle.opfs_desk.specs.Ending.{EndsFronts, EndsKept, EndsTime, KeepsSizes, LeavesFront, StandsWhole}
use Rattle.opfs_desk.specs.Keeping.{EndsKeeping, KeepsAll, StaysKept}
use Rattle.opfs_desk.specs.Seen.{DeskSeen, entries_of}
use Rattle.opfs_desk_runs.proofs.Disks.{run-before}
use Rattle.opfs_desk_runs.proofs.Runs.{run-over, same-opening}
use Rattle.opfs_desk_runs.specs.Runs.{IsImageOf, opening_over}
use Rattle.opfs_desk_runs.specs.declared.running.Completion.{Completion}
use Rattle.opfs_hist.specs.Faults.{disk_faults}
use Rattle.opfs_hist.specs.declared.entry.Entry.{Entry}
use Rattle.opfs_image.specs.Agreeing.{built_in}
use Rattle.opfs_image.specs.declared.recovered.Recovered.{Recovered}
use Rattle.opfs_journal.specs.Walking.{OnlyRead}
use Rattle.opfs_outside.specs.Faults.{RoseBy}
use Rattle.opfs_outside.specs.declared.disk.Disk.{Ghosts as DiskWords}
use Rattle.opfs_port.specs.Said.{Said}
use Rattle.opfs_register.specs.declared.seat.Who.{Who}
use Rattle.opfs_script.specs.Scripts.{Asked}
use Rattle.opfs_script_run.specs.Stage.Openings.{who_of}
use Rattle.opfs_script_run.specs.Stage.Runs.{EachCut, EachRuns}
use Rattle.opfs_serving.specs.Talks.{IsTalk}
use Rattle.opfs_serving.specs.declared.progress.State.{State}
use Rattle.opfs_serving.specs.declared.progress.State.TheVariants as state
use Rattle.opfs_serve_runs.specs.Conversations.{IsServedOn, IsServedOver}
use Rattle.opfs_serve_runs.proofs.Talked.{after-who, conversation}

module _ {D P : Type 0} (w : DiskWords D) (tells : Type 0) (said : P → List (Said (DeskSeen D))) (agents : List Asked) (begun now : P) (from : Recovered D w) (run : Completion D) (ended : State) where
  module _ (reads : w.crashes → (d : D) → w.since d (w.moment d) (w.content d)) (store : DeskSeen D) (whole : Bool) (callers : List Who) (same : map caller_by callers ≡ map who_of agents)
      (fixed : store.fixed ≡ fixed_by w from callers) (scripts : List Asked) (told : List Entry)
      (talk : IsTalk store.fixed.opening entries_of (KeepsAll w) (StaysKept w) tells said agents begun now store (ended ≡ state.On) scripts told) where
    -- the scripts are of the same agents
    who : map caller_by callers ≡ map who_of scripts
    who = same ∙ sym (ap (λ (l : List Asked). map who_of l) talk.scripts_are ∙ after-who (talk.talk ++ talk.left) agents)

    opens : store.fixed.opening ≡ opening_over w from scripts
    opens = ap (λ f. f.opening) fixed ∙ same-opening w from callers scripts who

    -- over an image that was recovered
    pub served-over : (ended ≡ state.On → 0 < length talk.talk) → EachCut scripts (entries_of store) → (whole ≡ true → EachRuns scripts (entries_of store)) → (ended ≡ state.On → told ≡ entries_of store)
        → run.whole ≡ whole → run.history ≡ entries_of store → IsToldApart w.tells store.fixed.opening run.history → OnOk run.done (StandsWhole w store run.disk)
        → (w.tells → LeavesFront w store.fixed.opening run.history run.disk) → EndsFronts w store run.disk → EndsKept w store run.disk → EndsKeeping w store run.disk → KeepsSizes w store run.disk → EndsTime w store run.disk
        → RoseBy (disk_faults (entries_of store)) (w.faults store.fixed.begun) (w.faults run.disk) → OnErr run.done (RoseBy (disk_faults (entries_of store) + 1) (w.faults store.fixed.begun) (w.faults run.disk))
        → IsServedOver w tells said agents begun now from run ended
    served-over greeted cut runs all whole_is history apart stands left fronts keeps stays sizes time faults failed = record {
      scripts = scripts;
      over = run-over w reads store scripts run history from callers who fixed cut (λ is. runs (sym whole_is ∙ is)) apart stands left fronts keeps sizes time faults failed;
      talked = conversation w store run.disk stays (opening_over w from scripts) run.history opens history tells said agents begun now ended scripts told talk greeted all;
    }

  -- over the one that a disk held, from which it was recovered
  pub served-on : (falls : w.tells → (d : D) (t u : ℕ) (c : List ℕ) → t ≤ u → w.since d u c → w.since d t c) (old : D) → OnlyRead w old from.journal.disk
      → IsServedOver w tells said agents begun now from run ended → IsServedOn w tells said agents begun now old run ended
  served-on falls old only is = record {
    scripts = is.scripts;
    on = record {
      geometry = from.geometry;
      before = (opening_over w from is.scripts).stored;
      stood = λ t.
          subst (λ (c : List ℕ). IsImageOf from.geometry (opening_over w from is.scripts).stored c) (only.told t).same
          (record { built = built_in from.tree from.shed; reads = (from.image_of t).reads; stands = refl });
      over = run-before w falls old from.journal.disk only from.geometry (opening_over w from is.scripts) is.scripts run is.over;
    };
    talked = is.talked;
  }
