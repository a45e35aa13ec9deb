-- What a run and its end give.
use Rattle.std.proofs.Common.{◌≡◌, ◌≤◌, ℕ, ◌+◌, ◌-◌, ◌^◌, Bool, true, List, map, length, All, inl, inr, sym, ap, ◌∙◌, subst, arith}
use Rattle.std.specs.Prelude.{Result, Ok, Err, OnOk, OnErr}
use Rattle.std.proofs.lemmas.List.{length-map}
use Rattle.opfs_desk.specs.Apart.{IsToldApart}
use Rattle.opfs_desk.specs.Ending.{EndsFronts, EndsKept, EndsTime, KeepsSizes, LeavesFront, StandsWhole}
use Rattle.opfs_desk.specs.Seen.{DeskSeen, entries_of}
use Rattle.opfs_hist.specs.Faults.{disk_faults}
use Rattle.opfs_hist.specs.declared.entry.Entry.{Entry}
use Rattle.opfs_image.specs.declared.geometry.Geometry.{Geometry}
use Rattle.opfs_image.specs.declared.recovered.Recovered.{Recovered}
use Rattle.opfs_journal.specs.declared.refusal.DiskFault.{DiskFault}
use Rattle.opfs_machine.specs.Changes.{changes, durable}
use Rattle.opfs_machine.specs.Histories.{Legal}
use Rattle.opfs_machine.specs.Openings.{Opening}
use Rattle.opfs_machine.specs.Openings.{Who as Caller}
use Rattle.opfs_books.specs.Openings.Openings.{caller_by, fixed_by}
use Rattle.opfs_outside.specs.Faults.{Rose, RoseBy}
use Rattle.opfs_outside.specs.declared.disk.Disk.{Ghosts as DiskWords}
use Rattle.opfs_script.specs.Scripts.{Asked}
use Rattle.opfs_register.specs.declared.seat.Who.{Who}
use Rattle.opfs_script_run.specs.Stage.Openings.{who_of}
use Rattle.opfs_script_run.specs.Stage.Runs.{EachAlone, EachCut, EachRuns}
use Rattle.opfs_desk_runs.specs.Runs.{IsHistoryOf, IsImageOf, IsLeft, IsRunOver, LeavesFronts, opening_over}
use Rattle.opfs_desk_runs.specs.declared.running.Completion.{Completion}
use Rattle.opfs_desk_runs.proofs.Sized.{sized}
use Rattle.opfs_desk_runs.proofs.Within.{within}

-- one fault more, where the count rose behind those that are counted
pub one-fault : (n begun mid new : ℕ) → RoseBy n begun mid → mid ≤ new → new ≤ 2 ^ 64 - 1 → Rose mid new → RoseBy (n + 1) begun new
one-fault n begun mid new counted later most (inr top) = inr top
one-fault n begun mid new (inl counted) later most (inl rose) = inl (omega (arith, counted, rose))
one-fault n begun mid new (inr full) later most (inl rose) = inr (omega (arith, full, later, most))

pub on-err : {A E : Type 0} (r : Result A E) (P Q : Type 0) → (P → Q) → OnErr r P → OnErr r Q
on-err (Ok a) P Q f is = tt
on-err (Err e) P Q f is = f is

on-ok : {A E : Type 0} (r : Result A E) (P Q : Type 0) → (P → Q) → OnOk r P → OnOk r Q
on-ok (Ok a) P Q f is = f is
on-ok (Err e) P Q f is = tt

-- the end failed, and its fault is counted behind those of the history
pub end-counted : (r : Result (Unit {0}) DiskFault) (n begun mid new : ℕ) → RoseBy n begun mid → mid ≤ new → new ≤ 2 ^ 64 - 1 → OnErr r (Rose mid new) → OnErr r (RoseBy (n + 1) begun new)
end-counted r n begun mid new counted later most cause = on-err r _ _ (λ rose. one-fault n begun mid new counted later most rose) cause

-- the opening of a desk is that of the run
pub same-opening : {D : Type 0} (w : DiskWords D) (from : Recovered D w) (agents : List Who) (script : List Asked) → map caller_by agents ≡ map who_of script → (fixed_by w from agents).opening ≡ opening_over w from script
same-opening w from agents script same =
    ap (λ (as_ : List Caller). record { stored = (opening_over w from script).stored; agents = as_; limits = (opening_over w from script).limits }) same

-- one history of scripts
is-history : (tells : Type 0) (whole : Bool) (o : Opening) (script : List Asked) (h : List Entry) → o.agents ≡ map who_of script → EachCut script h → (whole ≡ true → EachRuns script h) → IsToldApart tells o h
    → IsHistoryOf tells whole o script h
is-history tells whole o script h agents cut runs apart = record {
  cut = cut;
  runs = runs;
  agents = subst (λ (n : ℕ). All (λ e. e.agent ≤ n) h) (ap length agents ∙ length-map script who_of) (within o h apart.told.real apart.told.alike apart.told.legal);
  apart = apart;
  legal = λ t. subst (λ (es : List Entry). Legal o es) (sym (apart.told.told t)) apart.told.legal;
  alone = λ t. subst (λ (es : List Entry). EachAlone o es) (sym (apart.told.told t)) apart.alone;
}

module _ {D : Type 0} (w : DiskWords D) (reads : w.crashes → (d : D) → w.since d (w.moment d) (w.content d))
    (d : DeskSeen D) (script : List Asked) (run : Completion D) (history : run.history ≡ entries_of d) where
  abbrev o : Opening
  o = d.fixed.opening

  is-left : LeavesFront w o run.history run.disk → w.crashes → IsLeft o run.history (w.content run.disk)
  is-left left may = record { place = left.place; recent = left.recent; shown = left.shown (w.content run.disk) (reads may run.disk) }

  is-image : KeepsSizes w d run.disk → StandsWhole w d run.disk → w.tells → IsImageOf d.fixed.geometry (durable o (changes o run.history)) (w.content run.disk)
  is-image sizes stands t =
      subst (λ (es : List Entry). IsImageOf d.fixed.geometry (durable o (changes o es)) (w.content run.disk)) (sym history)
      (sized d.fixed.geometry (durable o (changes o (entries_of d))) (w.content run.disk) (sizes t) (stands t))

  leaves-fronts : EndsTime w d run.disk → EndsFronts w d run.disk → EndsKept w d run.disk → w.tells → LeavesFronts w o run.history d.fixed.begun run.disk
  leaves-fronts time fronts keeps t =
      subst (λ (es : List Entry). LeavesFronts w o es d.fixed.begun run.disk) (sym history)
      (record {
        fronts = λ at c le left. elim ((time t).split at c le left) [
          | inl was ↦ inl was
          | inr is ↦ inr (fronts t c is)
        ];
        keeps = keeps t;
      })

  run-ended : o.agents ≡ map who_of script → EachCut script (entries_of d) → (run.whole ≡ true → EachRuns script (entries_of d)) → IsToldApart w.tells o run.history
      → OnOk run.done (StandsWhole w d run.disk) → (w.tells → LeavesFront w o run.history run.disk) → EndsFronts w d run.disk → EndsKept w d run.disk → KeepsSizes w d run.disk → EndsTime w d run.disk
      → RoseBy (disk_faults (entries_of d)) (w.faults d.fixed.begun) (w.faults run.disk) → OnErr run.done (RoseBy (disk_faults (entries_of d) + 1) (w.faults d.fixed.begun) (w.faults run.disk))
      → IsRunOver w d.fixed.geometry o script d.fixed.begun run
  run-ended agents cut runs apart stands left fronts keeps sizes time faults failed = record {
    history =
        is-history w.tells run.whole o script run.history agents (subst (λ (es : List Entry). EachCut script es) (sym history) cut)
        (λ whole. subst (λ (es : List Entry). EachRuns script es) (sym history) (runs whole)) apart;
    stands = on-ok run.done _ _ (λ whole. is-image sizes whole) stands;
    left = λ t may. is-left (left t) may;
    stops = leaves-fronts time fronts keeps;
    faults = subst (λ (es : List Entry). RoseBy (disk_faults es) (w.faults d.fixed.begun) (w.faults run.disk)) (sym history) faults;
    failed = subst (λ (es : List Entry). OnErr run.done (RoseBy (disk_faults es + 1) (w.faults d.fixed.begun) (w.faults run.disk))) (sym history) failed;
  }

  -- a desk that began over an image
  module _ (from : Recovered D w) (agents : List Who) (same : map caller_by agents ≡ map who_of script) (fixed : d.fixed ≡ fixed_by w from agents) where
    opens : o ≡ opening_over w from script
    opens = ap (λ f. f.opening) fixed ∙ same-opening w from agents script same

    pub run-over : EachCut script (entries_of d) → (run.whole ≡ true → EachRuns script (entries_of d)) → IsToldApart w.tells o run.history
        → OnOk run.done (StandsWhole w d run.disk) → (w.tells → LeavesFront w o run.history run.disk) → EndsFronts w d run.disk → EndsKept w d run.disk → KeepsSizes w d run.disk → EndsTime w d run.disk
        → RoseBy (disk_faults (entries_of d)) (w.faults d.fixed.begun) (w.faults run.disk) → OnErr run.done (RoseBy (disk_faults (entries_of d) + 1) (w.faults d.fixed.begun) (w.faults run.disk))
        → IsRunOver w from.geometry (opening_over w from script) script from.journal.disk run
    run-over cut runs apart stands left fronts keeps sizes time faults failed =
        subst (λ (g : Geometry). IsRunOver w g (opening_over w from script) script from.journal.disk run) (ap (λ f. f.geometry) fixed)
        (subst (λ (x : Opening). IsRunOver w d.fixed.geometry x script from.journal.disk run) opens
        (subst (λ (x : D). IsRunOver w d.fixed.geometry o script x run) (ap (λ f. f.begun) fixed)
        (run-ended (ap (λ x. x.agents) opens) cut runs apart stands left fronts keeps sizes time faults failed)))
