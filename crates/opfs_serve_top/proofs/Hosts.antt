-- A conversation over a disk that was fetched and given back.
use Rattle.std.proofs.Common.{◌≡◌, ◌⊎◌, ℕ, ◌+◌, ◌-◌, ◌^◌, ◌≤◌, Bool, true, false, List, inl, inr, sym, ◌∙◌, subst, arith}
use Rattle.std.specs.Prelude.{Result, Ok, Err, IsOk, IsErr, IfOk, OnOk, OnErr}
use Rattle.std.specs.declared.alloc.AllocError.{AllocError}
use Rattle.opfs_base.specs.Texts.{Text}
use Rattle.opfs_books.specs.Laws.Fronts.{IsShownOnce}
use Rattle.opfs_commands.proofs.Hosting.{rose_later}
use Rattle.opfs_commands.proofs.Making.{read_back}
use Rattle.opfs_commands.proofs.RunHosts.{IsFetched}
use Rattle.opfs_commands.specs.Ran.{IsNotRun, IsOldOrLeft, IsRunAt, LeavesFronts}
use Rattle.opfs_desk.specs.Seen.{DeskSeen}
use Rattle.opfs_desk_runs.proofs.Fronts.{first-shown}
use Rattle.opfs_desk_runs.specs.Runs.{IsHistoryOf, IsKeptSince, IsRunOn, opening_in}
use Rattle.opfs_desk_runs.specs.declared.running.Completion.{Completion}
use Rattle.opfs_hist.specs.Faults.{disk_faults}
use Rattle.opfs_hist.specs.declared.entry.Entry.{Entry}
use Rattle.opfs_journal.specs.Walking.{OnlyRead}
use Rattle.opfs_machine.specs.Openings.{Opening}
use Rattle.opfs_outside.specs.Faults.{Rose, RoseBy}
use Rattle.opfs_outside.specs.Turns.{of_host, GivenBack, HostFailed, HostServed, HostTurn, IsReturned}
use Rattle.opfs_outside.specs.declared.disk.Disk.{Ghosts as DiskWords}
use Rattle.opfs_outside.specs.declared.host.Host.{Ghosts as HostWords}
use Rattle.opfs_port.specs.Said.{Said}
use Rattle.opfs_script.specs.Scripts.{Asked}
use Rattle.opfs_serve_runs.specs.Conversations.{IsServedOn}
use Rattle.opfs_serve_top.proofs.Moved.{talked-on}
use Rattle.opfs_serve_top.specs.Endings.{IsEnding, IsServedAt, IsUnserved}
use Rattle.opfs_serve_top.specs.Ends.{broken_end, EndedOn, HasNotHeld, IsGivenOr}
use Rattle.opfs_serve_top.specs.declared.host.Ending.{Ending}
use Rattle.opfs_serve_top.specs.declared.host.Ending.TheVariants as ending
use Rattle.opfs_serving.specs.declared.progress.State.{State}

-- ---- counts

-- the faults of a disk are counted among those of its host
on-host : (n f0 f1 k old mid new : ℕ) → f0 ≡ 0 → (old ≤ mid) ⊎ (mid ≡ 2 ^ 64 - 1) → new ≤ 2 ^ 64 - 1 → RoseBy n f0 f1 → RoseBy (f1 + k) mid new → RoseBy n old new
on-host n f0 f1 k old mid new fresh first most disk (inr full) = inr full
on-host n f0 f1 k old mid new fresh first most (inr top) (inl more) = inr (omega (arith, top, more, most))
on-host n f0 f1 k old mid new fresh (inr full) most (inl disk) (inl more) = inr (omega (arith, full, more, most))
on-host n f0 f1 k old mid new fresh (inl le) most (inl disk) (inl more) = inl (omega (arith, fresh, le, disk, more))

by_rose : (n old new : ℕ) → RoseBy (n + 1) old new → Rose old new
by_rose n old new (inl h) = inl (omega (arith, h))
by_rose n old new (inr h) = inr h

by_one : (old new : ℕ) → Rose old new → RoseBy 1 old new
by_one old new (inl h) = inl (omega (arith, h))
by_one old new (inr h) = inr h

-- what is so of a result by its end
ok-of : {A E P : Type 0} (r : Result A E) → IsOk r → OnOk r P → P
ok-of (Ok a) ok is = is
ok-of (Err e) ok is = let never : false ≡ true = ok in absurd (cc never)

err-of : {A E P : Type 0} (r : Result A E) → IsErr r → OnErr r P → P
err-of (Ok a) err is = let never : false ≡ true = err in absurd (cc never)
err-of (Err e) err is = is

unless-err : {A E P Q : Type 0} (r : Result A E) → OnOk r P → OnErr r Q → (Q → ⊥) → P
unless-err (Ok a) ok err never = ok
unless-err (Err e) ok err never = absurd (never err)

-- where a host tells, its disks do
told-less : (tells dtells : Type 0) (to : tells → dtells) (whole : Bool) (o : Opening) (script : List Asked) (h : List Entry) → IsHistoryOf dtells whole o script h → IsHistoryOf tells whole o script h
told-less tells dtells to whole o script h is = record {
  cut = is.cut;
  runs = is.runs;
  agents = is.agents;
  apart = record { told = record { real = is.apart.told.real; legal = is.apart.told.legal; alike = is.apart.told.alike; told = λ t. is.apart.told.told (to t) }; alone = is.apart.alone };
  legal = λ t. is.legal (to t);
  alone = λ t. is.alone (to t);
}

module _ {H D M : Type 0} (h : HostWords H D M) (w : DiskWords D) (path : Text) (old mid new : H) (first : D) (fetched : IsFetched h w path old mid first) where
  abbrev turn : HostTurn
  turn = of_host h old new

  abbrev Later : D → Type 0
  Later now = RoseBy (w.faults now + (h.own_faults new - h.own_faults mid)) (h.faults mid) (h.faults new)

  abbrev Given : D → Type 0
  Given now = GivenBack (of_host h mid new) path (w.content now) (w.moment now) (w.since now)

  abbrev Backs : D → Type 0
  Backs now = h.tells → HostServed (of_host h mid new) → Given now

  abbrev Returned : D → Type 0
  Returned now = h.tells → IsReturned (of_host h mid new) path (w.content now) (w.since now 0)

  counted : (now : D) → Later now → (n : ℕ) → RoseBy n (w.faults first) (w.faults now) → RoseBy n (h.faults old) (h.faults new)
  counted now later n disk = on-host n (w.faults first) (w.faults now) (h.own_faults new - h.own_faults mid) (h.faults old) (h.faults mid) (h.faults new) fetched.fresh fetched.later (fetched.counted new) disk later

  own-rose : Rose (h.own_faults mid) (h.own_faults new) → Rose (h.own_faults old) (h.own_faults new)
  own-rose rose = rose_later (h.own_faults old) (h.own_faults mid) (h.own_faults new) fetched.own rose

  -- ---- the disk was only read

  stays : (now : D) → OnlyRead w first now → Returned now → IsNotRun turn path
  stays now only returned t =
      let read = only.told (fetched.to_disk t) in
      (read_back h old mid new path (w.content first) (w.content now) (w.moment first) (w.since first) (w.since now) (fetched.images t) (fetched.trails t) (fetched.there t)
      fetched.first (fetched.one (fetched.to_disk t)) read.same read.moments (returned t)).stays

  unserved : {P : Type 0} (begun last : P) (now : D) (Why : Type 0) → Returned now → HasNotHeld w begun last first now Why → IsUnserved turn path begun last
  unserved begun last now Why returned is = record { not = stays now is.only returned; unsaid = is.unsaid }

  -- ---- a conversation was held

  -- what the image stood for is the first front
  first-front : (run : Completion D) (script : List Asked) (on : IsRunOn w script first run) → h.tells → (c : Text) → w.since first 0 c → IsShownOnce (opening_in on.geometry on.before script) 0 run.history c
  first-front run script on t c left =
      subst (λ (x : Text). IsShownOnce (opening_in on.geometry on.before script) 0 run.history x) (sym (fetched.one (fetched.to_disk t) c left))
      (first-shown on.geometry on.before script run.history (w.content first) (on.stood (fetched.to_disk t)))

  -- the moments of the disk are those of the path
  kept-at : (now : D) (o : Opening) (history : List Entry) (g : Given now) (n : ℕ) → IsKeptSince (w.moment now) (w.since now) o history n → IsKeptSince (h.moment new path) (h.since new path) o history n
  kept-at now o history g n is = record {
    moment = is.moment;
    passed = subst (λ (m : ℕ). is.moment ≤ m) (sym g.moment) is.passed;
    image = (is.image.0, (g.since is.moment is.image.0).1 is.image.1, is.image.2);
    since = λ c left. is.since c ((g.since is.moment c).0 left);
  }

  -- what stands at the path, also where the disk was not given back
  old-or-left : (run : Completion D) → Returned run.disk → (script : List Asked) (on : IsRunOn w script first run) → h.tells → IsOldOrLeft turn path (opening_in on.geometry on.before script) run.history
  old-or-left run returned script on t = record {
    image = elim (returned t).image [
      | inl stays ↦ inl (stays ∙ fetched.images t path)
      | inr back ↦ inr (w.content run.disk, back, on.over.left (fetched.to_disk t) (fetched.crashes t))
    ];
    trail = λ c trail. elim ((returned t).trail c trail) [
      | inl was ↦ inl ((fetched.trails t path c).0 was)
      | inr since ↦ elim ((on.over.stops (fetched.to_disk t)).fronts 0 c (omega arith) since) [
        | inl at ↦ inr (first-front run script on t c at)
        | inr front ↦ inr front
      ]
    ];
  }

  stops-by : (run : Completion D) → Returned run.disk → (script : List Asked) (on : IsRunOn w script first run) → h.tells → Given run.disk → LeavesFronts turn path (opening_in on.geometry on.before script) run.history
  stops-by run returned script on t g =
      let left = on.over.stops (fetched.to_disk t) in
      record {
        fronts = (old-or-left run returned script on t).trail;
        moments = λ at c since. (g.trail c).1 (inr (fetched.falls (fetched.to_disk t) run.disk 0 at c (omega arith) ((g.since at c).0 since)));
        keeps = λ n content. kept-at run.disk (opening_in on.geometry on.before script) run.history g n (left.keeps (fetched.crashes t) n content);
      }

  run-at : (run : Completion D) (later : Later run.disk) (returned : Returned run.disk) (Back : Type 0) (given : h.tells → Back → Given run.disk) (script : List Asked) (on : IsRunOn w script first run) → IsRunAt turn path Back run.whole script run.history
  run-at run later returned Back given script on = record {
    geometry = on.geometry;
    before = on.before;
    stood = λ t. (w.content first, sym (fetched.images t path) ∙ fetched.there t, on.stood (fetched.to_disk t));
    is = told-less h.tells w.tells fetched.to_disk run.whole (opening_in on.geometry on.before script) script run.history on.over.history;
    anyway = old-or-left run returned script on;
    left = λ t back. (w.content run.disk, (given t back).image, on.over.left (fetched.to_disk t) (fetched.crashes t));
    stands = λ t back never. (
      w.content run.disk,
      (given t back).image,
      unless-err run.done on.over.stands on.over.failed
          (λ failed. never (by_rose (disk_faults run.history) (h.faults old) (h.faults new) (counted run.disk later (disk_faults run.history + 1) failed))) (fetched.to_disk t),
    );
    stops = λ t back. stops-by run returned script on t (given t back);
    faults = counted run.disk later (disk_faults run.history) on.over.faults;
  }

  module _ {P : Type 0} (tells : Type 0) (said : P → List (Said (DeskSeen D))) (agents : List Asked) (begun last : P) where
    served-at : (run : Completion D) (later : Later run.disk) (returned : Returned run.disk) (Back : Type 0) (given : h.tells → Back → Given run.disk) (ended : State) → IsServedOn w tells said agents begun last first run ended
        → IsServedAt w turn path Back tells said agents begun last run.whole ended
    unfolding run-at
    served-at run later returned Back given ended is = record {
      scripts = is.scripts;
      history = run.history;
      at = run-at run later returned Back given is.scripts is.on;
      talked = talked-on w (opening_in is.on.geometry is.on.before is.scripts) run.history w.tells (h.tells × Back) (w.moment run.disk) (h.moment new path) (w.since run.disk) (h.since new path)
          (λ k. fetched.to_disk k.0) (λ k. (given k.0 k.1).moment) (λ k t c. ((given k.0 k.1).since t c).0) tells said agents begun last ended is.scripts is.talked;
    }

    held : (run : Completion D) → Later run.disk → Returned run.disk → (h.tells → Given run.disk) → (ended : State) → IsServedOn w tells said agents begun last first run ended → IsOk run.done → IsEnding w turn path tells said agents begun last (ending.Held ended)
    unfolding run-at served-at
    held run later returned given ended is ok = record {
      whole = run.whole;
      served = served-at run later returned (Unit {0}) (λ t x. given t) ended is;
      stands = λ t. (w.content run.disk, (given t).image, ok-of run.done ok is.on.over.stands (fetched.to_disk t));
    }

    broken : (run : Completion D) → Later run.disk → Returned run.disk → Backs run.disk → (ended : State) → IsServedOn w tells said agents begun last first run ended → HostFailed turn → IsEnding w turn path tells said agents begun last (ending.Broken ended)
    broken run later returned back ended is failed = record {
      whole = run.whole;
      served = served-at run later returned (HostServed turn) (λ t quiet. back t (λ rose. quiet (own-rose rose))) ended is;
      failed = failed;
    }

    end-fault : (run : Completion D) (script : List Asked) → Later run.disk → IsRunOn w script first run → IsErr run.done → HostFailed turn
    end-fault run script later on err = inr (by_rose (disk_faults run.history) (h.faults old) (h.faults new) (counted run.disk later (disk_faults run.history + 1) (err-of run.done err on.over.failed)))

    -- ---- by how it ended

    module _ (now : D) (later : Later now) (returned : Returned now) (back : Backs now) where
      abbrev Fault : Type 0
      Fault = Rose (h.own_faults mid) (h.own_faults new)

      abbrev Ended : Result Ending AllocError → Type 0
      Ended r = EndedOn w tells said agents begun last first now r

      -- the disk was given back
      given-end : (h.tells → Given now) → (e : Ending) → Ended (Ok e) → IsEnding w turn path tells said agents begun last e
      given-end given (ending.Held ended) is = held is.run (subst Later (sym is.same) later) (subst Returned (sym is.same) returned) (λ t. subst Given (sym is.same) (given t)) ended is.on is.done
      given-end given (ending.Broken ended) is =
          let later' = subst Later (sym is.same) later in
          broken is.run later' (subst Returned (sym is.same) returned) (subst Backs (sym is.same) back) ended is.on (end-fault is.run is.on.scripts later' is.on.on is.done)
      given-end given (ending.Refused why) is = record {
        unserved = unserved begun last now _ returned is;
        stays = stays now is.only returned;
        refused = λ t. (w.content first, sym (fetched.images t path) ∙ fetched.there t, is.why (fetched.to_disk t));
      }
      given-end given ending.Failed is = (unserved begun last now _ returned is, inr (by_rose 0 (h.faults old) (h.faults new) (counted now later 1 (by_one (w.faults first) (w.faults now) is.why))))

      -- it was not
      fault-end : Fault → (r : Result Ending AllocError) → Ended r → IsEnding w turn path tells said agents begun last (broken_end r)
      fault-end rose (Ok (ending.Held ended)) is = broken is.run (subst Later (sym is.same) later) (subst Returned (sym is.same) returned) (subst Backs (sym is.same) back) ended is.on (inl (own-rose rose))
      fault-end rose (Ok (ending.Broken ended)) is = broken is.run (subst Later (sym is.same) later) (subst Returned (sym is.same) returned) (subst Backs (sym is.same) back) ended is.on (inl (own-rose rose))
      fault-end rose (Ok (ending.Refused why)) is = (unserved begun last now _ returned is, inl (own-rose rose))
      fault-end rose (Ok ending.Failed) is = (unserved begun last now _ returned is, inl (own-rose rose))
      fault-end rose (Err e) is = (unserved begun last now _ returned is, inl (own-rose rose))

      abbrev IsDone : Result Ending AllocError → Type 0
      IsDone r = IfOk r (λ e. IsEnding w turn path tells said agents begun last e)

      done-by : (h.tells → Given now) → (r : Result Ending AllocError) → Ended r → IsDone r
      done-by given (Ok e) is = given-end given e is
      done-by given (Err x) is = tt

      pub ended-at : (r s : Result Ending AllocError) → Ended r → IsGivenOr (h.tells → Given now) Fault r s → IsDone s
      ended-at r s is how = elim how [
        | inl given ↦ subst IsDone (sym given.0) (done-by given.1 r is)
        | inr fault ↦ subst IsDone (sym fault.1) (fault-end fault.0 r is)
      ]

      abbrev IsNone : Result Ending AllocError → Type 0
      IsNone r = OnErr r (IsUnserved turn path begun last)

      none-by : (r : Result Ending AllocError) → Ended r → IsNone r
      none-by (Ok e) is = tt
      none-by (Err x) is = unserved begun last now _ returned is

      pub unserved-at : (r s : Result Ending AllocError) → Ended r → IsGivenOr (h.tells → Given now) Fault r s → IsNone s
      unserved-at r s is how = elim how [
        | inl given ↦ subst IsNone (sym given.0) (none-by r is)
        | inr fault ↦ subst IsNone (sym fault.1) tt
      ]
