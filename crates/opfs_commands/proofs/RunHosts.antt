-- A run over a disk that was fetched and given back.
use Rattle.std.proofs.Common.{◌≡◌, ◌⊎◌, ◌↔◌, ℕ, ◌+◌, ◌-◌, ◌^◌, ◌<◌, ◌≤◌, Bool, true, false, List, [], ◌++◌, inl, inr, refl, sym, ap, ◌∙◌, subst, append_assoc, append-nil, arith}
use Rattle.std.specs.Prelude.{Some, Result, Ok, Err, IfOk, IsOk, IsErr, OnOk, OnErr}
use Rattle.std.specs.declared.alloc.AllocError.{AllocError}
use Rattle.opfs_base.specs.Texts.{Text}
use Rattle.opfs_books.specs.Laws.Fronts.{IsShownOnce}
use Rattle.opfs_desk_runs.specs.Runs.{IsHistoryOf, IsImageOf, IsKeptSince, IsLeft, IsRunOn, opening_in}
use Rattle.opfs_desk_runs.proofs.Fronts.{first-shown}
use Rattle.opfs_desk_runs.specs.declared.running.Completion.{Completion}
use Rattle.opfs_hist.specs.Faults.{disk_faults}
use Rattle.opfs_hist.specs.declared.entry.Entry.{Entry}
use Rattle.opfs_journal.specs.Walking.{OnlyRead}
use Rattle.opfs_machine.specs.Changes.{changes, durable}
use Rattle.opfs_machine.specs.Openings.{Opening}
use Rattle.opfs_outside.specs.Faults.{Rose, RoseBy}
use Rattle.opfs_outside.specs.Turns.{of_host, of_sink, GivenBack, HostFailed, HostServed, HostTurn, IsReturned, OthersAsBefore, SinkFailed, SinkTurn, Took, TookFront, TookNothing}
use Rattle.opfs_outside.specs.declared.disk.Disk.{Ghosts as DiskWords}
use Rattle.opfs_outside.specs.declared.host.Host.{Ghosts as HostWords}
use Rattle.opfs_outside.specs.declared.stream.Sink.{Ghosts as SinkWords}
use Rattle.opfs_print.specs.Lines.{text_of}
use Rattle.opfs_print.specs.Status.{status_text}
use Rattle.opfs_print.specs.declared.end.End.TheVariants as end
use Rattle.opfs_script.specs.Scripts.{Asked}
use Rattle.opfs_commands.specs.Ran.{HasImage, IsAnswerOf, IsFaultLine, IsFaultOf, IsGivenOr, IsNoRun, IsNotRun, IsOldOrLeft, IsRunAt, IsRunDone, IsRunFailed, IsRunShort, IsRunText, LeavesFronts, RanAt, RanBehind, RanOn, RanTo}
use Rattle.opfs_commands.specs.Telling.{IsBegun}
use Rattle.opfs_commands.specs.declared.answers.ToolAnswer.{ToolAnswer}
use Rattle.opfs_commands.specs.declared.answers.ToolEnd.{ToolEnd}
use Rattle.opfs_commands.specs.declared.answers.ToolEnd.TheVariants as tool_end
use Rattle.opfs_commands.specs.declared.runs.RunEnd.{RunEnd}
use Rattle.opfs_commands.specs.declared.runs.RunEnd.TheVariants as run_end
use Rattle.opfs_commands.proofs.Hosting.{host_rose, others_stay, rose_later}
use Rattle.opfs_commands.proofs.Making.{read_back}

-- ---- counts

by_less : (n k old new : ℕ) → RoseBy (n + k) old new → RoseBy n old new
by_less n k old new (inl h) = inl (omega (arith, h))
by_less n k old new (inr h) = inr h

by_rose : (n old new : ℕ) → RoseBy (n + 1) old new → Rose old new
by_rose n old new (inl h) = inl (omega (arith, h))
by_rose n old new (inr h) = inr h

by_part : (n a b old new : ℕ) → a < b → RoseBy (n + (b - a)) old new → RoseBy (n + 1) old new
by_part n a b old new less (inl h) = inl (omega (arith, less, h))
by_part n a b old new less (inr h) = inr h

-- the faults of a disk are counted among those of its host
on-host : (n f0 f1 k old mid new : ℕ) → f0 ≡ 0 → (old ≤ mid) ⊎ (mid ≡ 2 ^ 64 - 1) → new ≤ 2 ^ 64 - 1 → RoseBy n f0 f1 → RoseBy (f1 + k) mid new → RoseBy (n + k) old new
on-host n f0 f1 k old mid new fresh first most disk (inr full) = inr full
on-host n f0 f1 k old mid new fresh first most (inr top) (inl more) = inr (omega (arith, top, more, most))
on-host n f0 f1 k old mid new fresh (inr full) most (inl disk) (inl more) = inr (omega (arith, full, more, most))
on-host n f0 f1 k old mid new fresh (inl le) most (inl disk) (inl more) = inl (omega (arith, fresh, le, disk, more))

-- what is so of a result by its end
ok-of : {A E P : Type 0} (r : Result A E) → IsOk r → OnOk r P → P
ok-of (Ok a) ok is = is
ok-of (Err e) ok is = let never : false ≡ true = ok in absurd (cc never)

err-of : {A E P : Type 0} (r : Result A E) → IsErr r → OnErr r P → P
err-of (Ok a) err is = let never : false ≡ true = err in absurd (cc never)
err-of (Err e) err is = is

ok-or-err : {A E : Type 0} (r : Result A E) → IsOk r ⊎ IsErr r
ok-or-err (Ok a) = inl refl
ok-or-err (Err e) = inr refl

unless-err : {A E P Q : Type 0} (r : Result A E) → OnOk r P → OnErr r Q → (Q → ⊥) → P
unless-err (Ok a) ok err never = ok
unless-err (Err e) ok err never = absurd (never err)

-- where a host tells, its disks do
told-less : (tells dtells : Type 0) (to : tells → dtells) (whole : Bool) (o : Opening) (script : List Asked) (h : List Entry) → IsHistoryOf dtells whole o script h → IsHistoryOf tells whole o script h
told-less tells dtells to whole o script h is = record {
  cut = is.cut;
  runs = is.runs;
  agents = is.agents;
  apart = record { told = record { real = is.apart.told.real; legal = is.apart.told.legal; alike = is.apart.told.alike; told = λ t. is.apart.told.told (to t) }; alone = is.apart.alone };
  legal = λ t. is.legal (to t);
  alone = λ t. is.alone (to t);
}

-- The agents did not run, since no disk was fetched.
module _ {H D M K : Type 0} (h : HostWords H D M) (s : SinkWords K) (sink : K) (path : Text) (script : List Asked) (old new : H) (images : h.tells → (p : Text) → h.image new p ≡ h.image old p)
    (trails : h.tells → (p c : Text) → h.trail new p c ↔ h.trail old p c) where
  not-fetched : IsNotRun (of_host h old new) path
  not-fetched t = record { image = images t path; trail = λ c left. inl ((trails t path c).0 left) }

  none-put : IsBegun (of_sink s sink sink) (IsRunText (of_host h old new) path script) []
  none-put = record { took = λ t. sym (append-nil (s.written sink)); begun = inl refl }

  pub fetch-short : (x : AllocError) → RanAt (of_host h old new) (of_sink s sink sink) path script (Err x)
  fetch-short x = record { front = []; begun = none-put; ended = tt; short = inl not-fetched }

  pub fetch-failed : (r : Result ToolAnswer AllocError) → Rose (h.own_faults old) (h.own_faults new) → IfOk r (λ a. a.end ≡ tool_end.Host) → IfOk r (λ a. a.text ≡ status_text end.Host) → RanAt (of_host h old new) (of_sink s sink sink) path script r
  fetch-failed (Ok a) rose host line = record {
    front = [];
    begun = none-put;
    ended = subst (λ (e : ToolEnd). RanBehind (of_host h old new) (of_sink s sink sink) path script [] e a.text) (sym host) (inl (record { not = not-fetched; failed = inl rose; line = line }));
    short = tt;
  }
  fetch-failed (Err x) rose host line = fetch-short x

-- A disk that was fetched and given back, with what the host's calls say.
pub record IsFetched {H D M : Type 0} (h : HostWords H D M) (w : DiskWords D) (path : Text) (old mid : H) (disk : D) : Type 0 where
  pub to_disk : h.tells → w.tells
  pub crashes : h.tells → w.crashes
  pub counted : (x : H) → h.faults x ≤ 2 ^ 64 - 1
  pub disk_counted : (d : D) → w.faults d ≤ 2 ^ 64 - 1
  pub fresh : w.faults disk ≡ 0
  pub falls : w.tells → (d : D) (t u : ℕ) (c : Text) → t ≤ u → w.since d u c → w.since d t c
  pub first : w.moment disk ≡ 0
  pub one : w.tells → (c : Text) → w.since disk 0 c → c ≡ w.content disk
  pub there : h.tells → h.image mid path ≡ Some (w.content disk)
  pub images : h.tells → (p : Text) → h.image mid p ≡ h.image old p
  pub trails : h.tells → (p c : Text) → h.trail mid p c ↔ h.trail old p c
  pub own : h.own_faults old ≤ h.own_faults mid
  pub later : (h.faults old ≤ h.faults mid) ⊎ (h.faults mid ≡ 2 ^ 64 - 1)

module _ {H D M : Type 0} (h : HostWords H D M) (w : DiskWords D) (k : SinkTurn) (path : Text) (script : List Asked) (old mid new : H) (first now : D) (fetched : IsFetched h w path old mid first)
    (later : RoseBy (w.faults now + (h.own_faults new - h.own_faults mid)) (h.faults mid) (h.faults new)) (returned : h.tells → IsReturned (of_host h mid new) path (w.content now) (w.since now 0)) where
  abbrev turn : HostTurn
  turn = of_host h old new

  abbrev Given : Type 0
  Given = h.tells → GivenBack (of_host h mid new) path (w.content now) (w.moment now) (w.since now)

  disk-rose : Rose (w.faults first) (w.faults now) → Rose (h.faults old) (h.faults new)
  disk-rose rose = elim (host_rose ⊥ (h.faults old) (h.faults mid) (h.faults new) (w.faults first) (w.faults now) fetched.fresh fetched.later (by_less (w.faults now) (h.own_faults new - h.own_faults mid) (h.faults mid) (h.faults new) later)
      (fetched.counted mid) (fetched.counted new) (fetched.disk_counted now) rose) [
        | inl never ↦ absurd never
        | inr is ↦ is
      ]

  counted-on : (n : ℕ) → RoseBy n (w.faults first) (w.faults now) → RoseBy (n + (h.own_faults new - h.own_faults mid)) (h.faults old) (h.faults new)
  counted-on n disk = on-host n (w.faults first) (w.faults now) (h.own_faults new - h.own_faults mid) (h.faults old) (h.faults mid) (h.faults new) fetched.fresh fetched.later (fetched.counted new) disk later

  counted-all : (n : ℕ) → RoseBy n (w.faults first) (w.faults now) → RoseBy n (h.faults old) (h.faults new)
  counted-all n disk = by_less n (h.own_faults new - h.own_faults mid) (h.faults old) (h.faults new) (counted-on n disk)

  own-rose : Rose (h.own_faults mid) (h.own_faults new) → Rose (h.own_faults old) (h.own_faults new)
  own-rose rose = rose_later (h.own_faults old) (h.own_faults mid) (h.own_faults new) fetched.own rose

  served : HostServed turn → HostServed (of_host h mid new)
  served quiet rose = quiet (own-rose rose)

  -- ---- the disk was only read

  not-run : OnlyRead w first now → IsNotRun turn path
  not-run only t =
      let read = only.told (fetched.to_disk t) in
      (read_back h old mid new path (w.content first) (w.content now) (w.moment first) (w.since first) (w.since now) (fetched.images t) (fetched.trails t) (fetched.there t)
      fetched.first (fetched.one (fetched.to_disk t)) read.same read.moments (returned t)).stays

  -- ---- the agents ran

  module _ (run : Completion D) (same : run.disk ≡ now) (on : IsRunOn w script first run) where
    abbrev o : Opening
    o = opening_in on.geometry on.before script

    image-now : (P : Text → Type 0) → P (w.content run.disk) → P (w.content now)
    image-now P is = subst (λ (d : D). P (w.content d)) same is

    disk-now : (P : D → Type 0) → P run.disk → P now
    disk-now P is = subst P same is

    -- what the image stood for is the first front
    first-front : h.tells → (c : Text) → w.since first 0 c → IsShownOnce o 0 run.history c
    first-front t c left =
        subst (λ (x : Text). IsShownOnce o 0 run.history x) (sym (fetched.one (fetched.to_disk t) c left))
        (first-shown on.geometry on.before script run.history (w.content first) (on.stood (fetched.to_disk t)))

    -- what may have been left of the disk is a front
    since-front : h.tells → (c : Text) → w.since now 0 c → IsShownOnce o 0 run.history c
    since-front t c since = elim ((on.over.stops (fetched.to_disk t)).fronts 0 c (omega arith) (subst (λ (d : D). w.since d 0 c) (sym same) since)) [
      | inl at ↦ first-front t c at
      | inr front ↦ front
    ]

    -- what stands at the path, also where the disk was not given back
    old-or-left : h.tells → IsOldOrLeft turn path o run.history
    old-or-left t = record {
      image = elim (returned t).image [
        | inl stays ↦ inl (stays ∙ fetched.images t path)
        | inr back ↦ inr (w.content now, back, image-now (λ c. IsLeft o run.history c) (on.over.left (fetched.to_disk t) (fetched.crashes t)))
      ];
      trail = λ c trail. elim ((returned t).trail c trail) [ inl was ↦ inl ((fetched.trails t path c).0 was) | inr since ↦ inr (since-front t c since) ];
    }

    module _ (Back : Type 0) (given : h.tells → Back → GivenBack (of_host h mid new) path (w.content now) (w.moment now) (w.since now)) where
      stands-by : h.tells → Back → IsImageOf on.geometry (durable o (changes o run.history)) (w.content run.disk) → HasImage on.geometry (durable o (changes o run.history)) (h.image new path)
      stands-by t back is = (w.content now, (given t back).image, image-now (IsImageOf on.geometry (durable o (changes o run.history))) is)

      -- the moments of the disk are those of the path
      kept-at : (g : GivenBack (of_host h mid new) path (w.content now) (w.moment now) (w.since now)) (n : ℕ) → IsKeptSince (w.moment now) (w.since now) o run.history n → IsKeptSince (h.moment new path) (h.since new path) o run.history n
      kept-at g n is = record {
        moment = is.moment;
        passed = subst (λ (m : ℕ). is.moment ≤ m) (sym g.moment) is.passed;
        image = (is.image.0, (g.since is.moment is.image.0).1 is.image.1, is.image.2);
        since = λ c left. is.since c ((g.since is.moment c).0 left);
      }

      stops-by : h.tells → Back → LeavesFronts turn path o run.history
      stops-by t back =
          let left = on.over.stops (fetched.to_disk t) in
          let g = given t back in
          record {
            fronts = (old-or-left t).trail;
            moments = λ at c since. (g.trail c).1 (inr (fetched.falls (fetched.to_disk t) now 0 at c (omega arith) ((g.since at c).0 since)));
            keeps = λ n content. kept-at g n (disk-now (λ (d : D). IsKeptSince (w.moment d) (w.since d) o run.history n) (left.keeps (fetched.crashes t) n content));
          }

      run-at : (whole : Bool) → run.whole ≡ whole → IsRunAt turn path Back whole script run.history
      run-at whole is = record {
        geometry = on.geometry;
        before = on.before;
        stood = λ t. (w.content first, sym (fetched.images t path) ∙ fetched.there t, on.stood (fetched.to_disk t));
        is = told-less h.tells w.tells fetched.to_disk whole o script run.history (subst (λ (b : Bool). IsHistoryOf w.tells b o script run.history) is on.over.history);
        anyway = old-or-left;
        left = λ t back. (w.content now, (given t back).image, image-now (λ c. IsLeft o run.history c) (on.over.left (fetched.to_disk t) (fetched.crashes t)));
        stands = λ t back never.
            stands-by t back
            (unless-err run.done on.over.stands on.over.failed
            (λ failed. never (by_rose (disk_faults run.history) (h.faults old) (h.faults new) (counted-all (disk_faults run.history + 1) (disk-now (λ (d : D). RoseBy (disk_faults run.history + 1) (w.faults first) (w.faults d)) failed)))) (fetched.to_disk t));
        stops = stops-by;
        faults = counted-all (disk_faults run.history) (disk-now (λ (d : D). RoseBy (disk_faults run.history) (w.faults first) (w.faults d)) on.over.faults);
      }

    -- where the end went well, and the disk was given back
    run-done : (text : Text) → Given → run.whole ≡ true → IsOk run.done → text ≡ text_of run.history → IsRunDone turn path script text
    unfolding run-at
    run-done text given whole ok printed = record {
      history = run.history;
      at = run-at (Unit {0}) (λ t x. given t) true whole;
      printed = printed;
      stands = λ t. stands-by (Unit {0}) (λ t2 y. given t2) t tt (ok-of run.done ok on.over.stands (fetched.to_disk t));
    }

    -- where it did not
    run-failed : (text : Text) → (h.tells → HostServed (of_host h mid new) → GivenBack (of_host h mid new) path (w.content now) (w.moment now) (w.since now)) → run.whole ≡ true → text ≡ text_of run.history ++ status_text end.Host
        → HostFailed turn → RoseBy (disk_faults run.history + 1) turn.faults turn.faults_after ⊎ (turn.own_after ≡ 2 ^ 64 - 1) → IsRunFailed turn path script text
    run-failed text back whole printed failed counted = record {
      history = run.history;
      at = run-at (HostServed turn) (λ t quiet. back t (served quiet)) true whole;
      printed = printed;
      failed = failed;
      counted = counted;
    }

    -- whether it was whole or not
    run-text : (text : Text) → (h.tells → HostServed (of_host h mid new) → GivenBack (of_host h mid new) path (w.content now) (w.moment now) (w.since now)) → text ≡ text_of run.history → IsRunText turn path script text
    run-text text back lines = record { whole = run.whole; history = run.history; at = run-at (HostServed turn) (λ t quiet. back t (served quiet)) run.whole refl; lines = lines }

    run-short : (h.tells → HostServed (of_host h mid new) → GivenBack (of_host h mid new) path (w.content now) (w.moment now) (w.since now)) → IsRunShort turn path script
    run-short back = inr (run.whole, run.history, run-at (HostServed turn) (λ t quiet. back t (served quiet)) run.whole refl)

    -- the fault of the end, and one of the host at giving back
    end-fault : IsErr run.done → HostFailed turn × (RoseBy (disk_faults run.history + 1) turn.faults turn.faults_after ⊎ (turn.own_after ≡ 2 ^ 64 - 1))
    end-fault err =
        let counted = counted-all (disk_faults run.history + 1) (disk-now (λ (d : D). RoseBy (disk_faults run.history + 1) (w.faults first) (w.faults d)) (err-of run.done err on.over.failed)) in
        (inr (by_rose (disk_faults run.history) (h.faults old) (h.faults new) counted), inl counted)

    back-fault : Rose (h.own_faults mid) (h.own_faults new) → HostFailed turn × (RoseBy (disk_faults run.history + 1) turn.faults turn.faults_after ⊎ (turn.own_after ≡ 2 ^ 64 - 1))
    back-fault rose = (
      inl (own-rose rose),
      elim rose [
        | inl less ↦ inl (by_part (disk_faults run.history) (h.own_faults mid) (h.own_faults new) (h.faults old) (h.faults new) less
            (counted-on (disk_faults run.history) (disk-now (λ (d : D). RoseBy (disk_faults run.history) (w.faults first) (w.faults d)) on.over.faults)))
        | inr full ↦ inr full
      ],
    )

  -- ---- the answer, by how the run ended

  module _ (back : h.tells → HostServed (of_host h mid new) → GivenBack (of_host h mid new) path (w.content now) (w.moment now) (w.since now)) where
    abbrev Fault : Type 0
    Fault = Rose (h.own_faults mid) (h.own_faults new)

    abbrev Begun : Text → Type 0
    Begun front = IsBegun k (IsRunText turn path script) front

    -- no memory was found
    short : (e : Result RunEnd AllocError) → RanOn w k script first now e → IsRunShort turn path script
    short (Ok run_end.Done) is = run-short is.run is.same is.on back
    short (Ok run_end.Failed) is = run-short is.run is.same is.on back
    short (Ok run_end.Cut) is = run-short is.run is.same is.on back
    short (Ok (run_end.Before a)) is = inl (not-run is.0.only)
    short (Err e) is = elim is [ inl only ↦ inl (not-run only.0) | inr ran ↦ run-short ran.run ran.same ran.on back ]

    -- ---- what was put out

    none-begun : TookNothing k → Begun []
    none-begun nothing = record { took = λ t. nothing t ∙ sym (append-nil k.written); begun = inl refl }

    module _ (run : Completion D) (same : run.disk ≡ now) (on : IsRunOn w script first run) where
      all-begun : Took k (text_of run.history) → Begun (text_of run.history)
      all-begun took = record { took = took; begun = inr ([], run-text run same on (text_of run.history ++ []) back (append-nil (text_of run.history))) }

      front-begun : (rest : Text) (put : TookFront k (text_of run.history) rest) → Begun put.front
      front-begun rest put = record { took = put.took; begun = inr (rest, run-text run same on (put.front ++ rest) back (sym put.whole)) }

    begun : (e : Result RunEnd AllocError) → RanOn w k script first now e → (front : Text) × Begun front
    begun (Ok run_end.Done) is = (text_of is.run.history, all-begun is.run is.same is.on is.put)
    begun (Ok run_end.Failed) is = (text_of is.run.history, all-begun is.run is.same is.on is.put)
    begun (Ok run_end.Cut) is = (is.put.0.1.front, front-begun is.run is.same is.on is.put.0.0 is.put.0.1)
    begun (Ok (run_end.Before a)) is = ([], none-begun is.1)
    begun (Err e) is = elim is [ inl only ↦ ([], none-begun only.1) | inr ran ↦ (ran.put.1.front, front-begun ran.run ran.same ran.on ran.put.0 ran.put.1) ]

    -- ---- what is put out behind it

    -- the line of a fault behind the transcript
    module _ (run : Completion D) (same : run.disk ≡ now) (on : IsRunOn w script first run) (whole : run.whole ≡ true) where
      abbrev Fails : Type 0
      Fails = HostFailed turn × (RoseBy (disk_faults run.history + 1) turn.faults turn.faults_after ⊎ (turn.own_after ≡ 2 ^ 64 - 1))

      done-behind : (a : ToolAnswer) → Given → IsOk run.done → (a.end ≡ tool_end.Done) × (a.text ≡ []) → RanBehind turn k path script (text_of run.history) a.end a.text
      done-behind a given ok is =
          let printed : text_of run.history ++ a.text ≡ text_of run.history = ap (λ (x : Text). text_of run.history ++ x) is.1 ∙ append-nil (text_of run.history) in
          subst (λ (e : ToolEnd). RanBehind turn k path script (text_of run.history) e a.text) (sym is.0) (run-done run same on (text_of run.history ++ a.text) given whole ok printed)

      failed-behind : (a : ToolAnswer) → Fails → IsFaultLine a → RanBehind turn k path script (text_of run.history) a.end a.text
      failed-behind a fails is =
          subst (λ (e : ToolEnd). RanBehind turn k path script (text_of run.history) e a.text) (sym is.0)
          (inr (run-failed run same on (text_of run.history ++ a.text) back whole (ap (λ (x : Text). text_of run.history ++ x) is.1) fails.0 fails.1))

      -- what the sink would have taken, had it not failed
      module _ (rest : Text) (put : TookFront k (text_of run.history) rest) where
        cut-failed : Fails → (ended : ToolEnd) × (left : Text) × RanTo turn path script ended (put.front ++ left)
        cut-failed fails =
            let printed : put.front ++ (rest ++ status_text end.Host) ≡ text_of run.history ++ status_text end.Host =
            sym (append_assoc put.front rest (status_text end.Host)) ∙ ap (λ (x : Text). x ++ status_text end.Host) (sym put.whole) in
            (tool_end.Host, rest ++ status_text end.Host, inr (run-failed run same on (put.front ++ (rest ++ status_text end.Host)) back whole printed fails.0 fails.1))

        cut-given : Given → IsOk run.done ⊎ IsErr run.done → (ended : ToolEnd) × (left : Text) × RanTo turn path script ended (put.front ++ left)
        cut-given given (inl ok) = (tool_end.Done, rest, run-done run same on (put.front ++ rest) given whole ok (sym put.whole))
        cut-given given (inr err) = cut-failed (end-fault run same on err)

        cut-behind : (a : ToolAnswer) → SinkFailed k → (a.end ≡ tool_end.Sink) × (a.text ≡ []) → ((ended : ToolEnd) × (left : Text) × RanTo turn path script ended (put.front ++ left)) → RanBehind turn k path script put.front a.end a.text
        cut-behind a failed is would = subst (λ (e : ToolEnd). RanBehind turn k path script put.front e a.text) (sym is.0) (failed, is.1, would)

    no-run : (only : OnlyRead w first now) (e : ToolEnd) (text : Text) → IsNoRun w first now e text → RanBehind turn k path script [] e text
    no-run only tool_end.Done text is = absurd is
    no-run only tool_end.Image text is = record {
      refused = λ t. record { image = w.content first; there = sym (fetched.images t path) ∙ fetched.there t; kind = is (fetched.to_disk t) };
      stays = not-run only;
    }
    no-run only tool_end.Host text is = inl (record { not = not-run only; failed = inr (disk-rose is.0); line = is.1 })
    no-run only tool_end.Sink text is = absurd is

    answered : (e : RunEnd) (a : ToolAnswer) (is : RanOn w k script first now (Ok e)) → (Given × IsAnswerOf e a) ⊎ (Fault × IsFaultOf e a) → (front : Text) × Begun front × RanBehind turn k path script front a.end a.text
    answered run_end.Done a is how = (
      text_of is.run.history,
      all-begun is.run is.same is.on is.put,
      elim how [
        | inl given ↦ done-behind is.run is.same is.on is.whole a given.0 is.ended given.1
        | inr fault ↦ failed-behind is.run is.same is.on is.whole a (back-fault is.run is.same is.on fault.0) fault.1
      ],
    )
    answered run_end.Failed a is how = (
      text_of is.run.history,
      all-begun is.run is.same is.on is.put,
      failed-behind is.run is.same is.on is.whole a (end-fault is.run is.same is.on is.ended) (elim how [ inl given ↦ given.1 | inr fault ↦ fault.1 ]),
    )
    answered run_end.Cut a is how = (
      is.put.0.1.front,
      front-begun is.run is.same is.on is.put.0.0 is.put.0.1,
      elim how [
        | inl given ↦ cut-behind is.run is.same is.on is.whole is.put.0.0 is.put.0.1 a is.put.1 given.1 (cut-given is.run is.same is.on is.whole is.put.0.0 is.put.0.1 given.0 (ok-or-err is.run.done))
        | inr fault ↦ cut-behind is.run is.same is.on is.whole is.put.0.0 is.put.0.1 a is.put.1 fault.1 (cut-failed is.run is.same is.on is.whole is.put.0.0 is.put.0.1 (back-fault is.run is.same is.on fault.0))
      ],
    )
    answered (run_end.Before b) a is how = (
      [],
      none-begun is.1,
      elim how [
        | inl given ↦ subst (λ (x : ToolAnswer). RanBehind turn k path script [] x.end x.text) (sym given.1) (no-run is.0.only b.end b.text is.0.answer)
        | inr fault ↦ subst (λ (e : ToolEnd). RanBehind turn k path script [] e a.text) (sym fault.1.0) (inl (record { not = not-run is.0.only; failed = inl (own-rose fault.0); line = fault.1.1 }))
      ],
    )

    pub ran-at : (e : Result RunEnd AllocError) (r : Result ToolAnswer AllocError) → RanOn w k script first now e → IsGivenOr Given Fault e r → RanAt turn k path script r
    ran-at (Ok e) (Ok a) is how =
        let told = answered e a is how in
        record { front = told.0; begun = told.1; ended = told.2; short = tt }
    ran-at (Err e) (Ok a) is how = absurd how
    ran-at e (Err x) is how =
        let told = begun e is in
        record { front = told.0; begun = told.1; ended = tt; short = short e is }

  -- the other paths
  pub others-at : h.tells → OthersAsBefore turn path
  others-at t = others_stay h old mid new path (λ p other. record { image = fetched.images t p; trail = fetched.trails t p }) (returned t).others
