-- What a call leaves of an agent that is ready.
use Rattle.std.proofs.Common.{◌≡◌, ℕ, ◌+◌, ◌≤◌, true, false, Option, Some, None, Result, Ok, Err, IfOk, IfErr, OnErr, OnOk, refl, sym, ap, ◌∙◌, subst, inl, inr, arith}
use Rattle.std.specs.Prelude.{IsTrue}
use Rattle.std.specs.Cmp.Lexicographic.{nat_list_eq_equiv}
use Rattle.opfs_store.specs.declared.acts.acted.Gift.{Gift}
use Rattle.opfs_base.proofs.UnitLemmas.{origin_of-unit_of, plain-from_is_origin}
use Rattle.opfs_base.specs.Keys.{is_origin}
use Rattle.opfs_base.specs.Places.{child_of}
use Rattle.opfs_base.specs.Texts.{Text, same_text}
use Rattle.opfs_base.specs.Units.{origin_of, unit_of}
use Rattle.opfs_base.specs.declared.locator.Kind.TheVariants as kind
use Rattle.opfs_base.specs.declared.locator.Locator.{Locator}
use Rattle.opfs_agent.specs.Entries.{root_of}
use Rattle.opfs_turns.specs.Asking.Answers.{IsOwn, Shared}
use Rattle.opfs_turns.specs.Asking.Rows.{HandleSeen, HasClosedHandle, HasHandle}
use Rattle.opfs_turns.specs.declared.asking.stop.Stop.{Stop}
use Rattle.opfs_turns.specs.declared.asking.stop.Stop.TheVariants as stop
use Rattle.opfs_turns.proofs.asking.Rowed.{entered-moved, own_agent, stopped-own}
use Rattle.opfs_hall.specs.Seen.{HallSeen}
use Rattle.opfs_hist.specs.Sums.{asks_for_row}
use Rattle.opfs_hist.specs.declared.op.Mode.TheVariants as mode
use Rattle.opfs_hist.specs.declared.op.Op.{Op}
use Rattle.opfs_hist.specs.declared.op.Op.TheVariants as op
use Rattle.opfs_hist.specs.declared.reply.Reply.{Reply}
use Rattle.opfs_hist.specs.declared.reply.Reply.TheVariants as reply
use Rattle.opfs_laws.specs.Leaving.{asks_nobody, row_used}
use Rattle.opfs_machine.specs.Agents.{is_open_row, own_of}
use Rattle.opfs_machine.specs.Contents.{outline_of}
use Rattle.opfs_machine.specs.Histories.{is_of_origin}
use Rattle.opfs_machine.specs.declared.own.Own.TheVariants as own
use Rattle.opfs_machine.specs.declared.own.Own.{Own}
use Rattle.opfs_machine.specs.declared.state.Agent.{Agent}
use Rattle.opfs_kv.specs.Opening.{OnlyReads}
use Rattle.opfs_kv.specs.Records.Maps.{Map}
use Rattle.opfs_kv.specs.Seen.{Closes, Flushes, HasPlaces, KvSeen, Serves, Stands as KvStands}
use Rattle.opfs_agent.specs.HandleCalls.Ends.{IsClosed}
use Rattle.opfs_sync_files.specs.Entries.{GoesOn}
use Rattle.opfs_sync_files.specs.Resting.{LeavesRest}
use Rattle.opfs_sync_files.proofs.Behind.{entered-goes}
use Rattle.opfs_sync_files.proofs.Resting.{rest-entered, rest-shared, rests-closed, rests-more, rests-on}
use Rattle.opfs_sync_files.proofs.Served.{shared-goes}
use Rattle.opfs_turns.specs.Agents.{AgentSeen, IsAgent, own_row}
use Rattle.opfs_turns.specs.Calls.{HasLooked, HasRoom, IsEntered}
use Rattle.opfs_notebook.specs.Ready.{Goes, HasMade, Holds, HoldsNotes, IsMine, IsReady}

-- ---- what is an agent's own

same-self : (t : Text) → same_text t t ≡ true
same-self t = nat_list_eq_equiv.refl t

-- The root of a bucket is of the agent's origin.
pub root-mine : (origin bucket : Text) (key : Option Text) (at : Locator) → key ≡ Some origin → IsTrue (is_origin origin) → Some at ≡ root_of key bucket → IsTrue (is_of_origin key at)
root-mine origin bucket key at named plain is =
    let there : Some at ≡ root_of (Some origin) bucket = is ∙ ap (λ (k : Option Text). root_of k bucket) named in
    let unit : at.key ≡ unit_of origin bucket = ap (λ (l : Locator). l.key) (some-same there) in
    ap (λ (k : Option Text). is_of_origin k at) named
    ∙ ap (λ (t : Text). same_text origin (origin_of t)) unit
    ∙ ap (same_text origin) (origin_of-unit_of origin bucket (plain-from_is_origin origin plain))
    ∙ same-self origin
  where
    some-same : {X : Type 0} {x y : X} → Some x ≡ Some y → x ≡ y
    some-same e = cc

-- A child is, where its directory is.
child-mine : (key : Option Text) (dir : Locator) (name : Text) → IsTrue (is_of_origin key dir) → IsTrue (is_of_origin key (child_of dir name kind.File))
child-mine None dir name mine = mine
child-mine (Some origin) dir name mine = mine

-- What is so by the key that an agent has is so by its own.
pub own-mine : {O : Type 0} (tells : Type 0) (a : AgentSeen O) (at : Locator) → IsAgent tells a → IsMine a at → IsOwn a at
own-mine tells a at kept mine = ap (λ (k : Option Text). is_of_origin k at) kept.own_key ∙ mine

-- ---- numbers

pub goes-most : {O : Type 0} (a b : AgentSeen O) (few many : ℕ) → few ≤ many → Goes a b few → Goes a b many
goes-most a b few many less h = record { agent = h.agent; key = h.key; rows = omega (arith, less, h.rows); entries = omega (arith, less, h.entries) }

pub room-of : {O : Type 0} (a : AgentSeen O) (most : ℕ) → most ≤ 60000000 → HasMade a most → HasRoom a
room-of a most less h = record { rows = omega (arith, less, h.rows); entries = omega (arith, less, h.entries) }

pub places-of : {O : Type 0} (a : AgentSeen O) (most : ℕ) → most ≤ 59000000 → HasMade a most → HasPlaces a
places-of a most less h = record { rows = omega (arith, less, h.rows); entries = omega (arith, less, h.entries) }

pub made-then : {O : Type 0} (a b : AgentSeen O) (most count more : ℕ) → most + count ≤ more → HasMade a most → Goes a b count → HasMade b more
made-then a b most count more less h g = record { rows = omega (arith, less, h.rows, g.rows); entries = omega (arith, less, h.entries, g.entries) }

pub goes-then : {O : Type 0} (a b c : AgentSeen O) (one two count : ℕ) → one + two ≤ count → Goes a b one → Goes b c two → Goes a c count
goes-then a b c one two count less g h = record {
  agent = h.agent ∙ g.agent;
  key = h.key ∙ g.key;
  rows = omega (arith, less, g.rows, h.rows);
  entries = omega (arith, less, g.entries, h.entries);
}

pub mine-then : {O : Type 0} (a b : AgentSeen O) (count : ℕ) (at : Locator) → Goes a b count → IsMine a at → IsMine b at
mine-then a b count at g mine = ap (λ (k : Option Text). is_of_origin k at) g.key ∙ mine

-- ---- what calls give

abbrev pub GivesRoot : {O : Type 0} → AgentSeen O → Text → Locator → Reply → Gift → Type 0
GivesRoot a bucket at answered given = (Some at ≡ root_of a.key bucket) × (answered ≡ reply.Done)

abbrev pub GivesChild : Locator → Text → Locator → Reply → Gift → Type 0
GivesChild dir name at answered given = (at ≡ child_of dir name kind.File) × (answered ≡ reply.Done)

abbrev pub GivesHandle : {O : Type 0} → Type 0 → AgentSeen O → Locator → HandleSeen → Reply → Gift → Type 0
GivesHandle tells b at x answered given = (x.row ≡ b.rows) × (x.file ≡ at) × (x.mode ≡ mode.ReadWrite) × (answered ≡ reply.Done) × HasHandle tells b x

-- ---- calls

module _ {O : Type 0} (tells : Type 0) (hall : HallSeen O) (a b : AgentSeen O) (kept : IsAgent tells a) (later : IsAgent tells b) where
  pub ready-on : (n count : ℕ) → GoesOn a b count → LeavesRest tells a b n → IsReady hall a n → IsReady hall b n
  ready-on n count goes left r = record {
    own = goes.hall ∙ r.own;
    origin = r.origin;
    key = left.key ∙ r.key;
    plain = r.plain;
    rests = rests-on tells a b kept later n goes.rows left r.rests;
  }

  pub goes-on : (n few count : ℕ) → few ≤ count → GoesOn a b few → LeavesRest tells a b n → Goes a b count
  goes-on n few count less goes left = record {
    agent = goes.agent;
    key = left.key;
    rows = let same = goes.rows in omega (arith, same);
    entries = omega (arith, less, goes.entries);
  }

  -- A call under the turn that makes no row.
  module _ {T : Type 0} (called : Op) (Gives : T → Reply → Gift → Type 0) (r : Result T Stop) (plain : asks_for_row called ≡ false) (h : Shared tells a b called Gives r) where
    pub shared-ready : (n : ℕ) → row_used called ≡ n → IsReady hall a n → IsReady hall b n
    shared-ready n used ready =
        ready-on n 1 (shared-goes tells a b kept later called Gives r plain h)
        (subst (LeavesRest tells a b) used (rest-shared tells a b kept later called Gives r h)) ready

    pub shared-on : Goes a b 1
    shared-on = goes-on (row_used called) 1 1 (omega arith) (shared-goes tells a b kept later called Gives r plain h) (rest-shared tells a b kept later called Gives r h)

  pub root-told : (bucket : Text) (r : Result Locator Stop) → IsReady hall a 0 → Shared tells a b (op.GetDirectory bucket) (GivesRoot a bucket) r → IfOk r (λ at. IsMine b at)
  root-told bucket (Ok at) ready h =
      mine-then a b 1 at (shared-on (op.GetDirectory bucket) (GivesRoot a bucket) (Ok at) refl h) (root-mine ready.origin bucket a.key at ready.key ready.plain h.gives.0)
  root-told bucket (Err why) ready h = tt

  pub child-told : (dir : Locator) (name : Text) (r : Result Locator Stop) → IsMine a dir → Shared tells a b (op.GetFileHandle dir name true) (GivesChild dir name) r → IfOk r (λ at. IsMine b at)
  child-told dir name (Ok at) mine h =
      mine-then a b 1 at (shared-on (op.GetFileHandle dir name true) (GivesChild dir name) (Ok at) refl h) (ap (λ (l : Locator). is_of_origin a.key l) h.gives.0 ∙ child-mine a.key dir name mine)
  child-told dir name (Err why) mine h = tt

  -- Any call under the turn.
  pub entered-more : (called : Op) (answered : Reply) (given : Gift) → IsEntered tells a b called answered given → Goes a b 1
  entered-more called answered given e = record {
    agent = ap (λ (x : AgentSeen O). x.pass.agent) e.rest;
    key = ap (λ (x : AgentSeen O). x.key) e.rest;
    rows = elim (entered-moved tells a b kept called answered given e).more [
      | inl same ↦ let now = later.made in let was = kept.made in omega (arith, now, same, was)
      | inr more ↦ let now = later.made in let was = kept.made in let one = more.0 in omega (arith, now, one, was)
    ];
    entries = let is = ap (λ (x : AgentSeen O). x.entries) e.rest in omega (arith, is);
  }

  looked-more : HasLooked a b → Goes a b 1
  looked-more l = record {
    agent = ap (λ (x : AgentSeen O). x.pass.agent) l.rest;
    key = ap (λ (x : AgentSeen O). x.key) l.rest;
    rows = let is = ap (λ (x : AgentSeen O). x.rows) l.rest in omega (arith, is);
    entries = let is = ap (λ (x : AgentSeen O). x.entries) l.rest in omega (arith, is);
  }

  pub shared-more : {T : Type 0} (called : Op) (Gives : T → Reply → Gift → Type 0) (r : Result T Stop) → Shared tells a b called Gives r → Goes a b 1
  shared-more called Gives (Ok x) h = entered-more called h.answered h.given h.entered
  shared-more called Gives (Err (stop.No r)) h = entered-more called (reply.No r) h.given h.entered
  shared-more called Gives (Err stop.NoMemory) h = looked-more h

  -- One that was refused, or not made.
  stopped-hall : {T : Type 0} (called : Op) (Gives : T → Reply → Gift → Type 0) (why : Stop) → Shared tells a b called Gives (Err why) → b.pass.hall ≡ a.pass.hall
  stopped-hall called Gives (stop.No r) h = ap (λ (x : AgentSeen O). x.pass.hall) h.entered.rest
  stopped-hall called Gives stop.NoMemory h = ap (λ (x : AgentSeen O). x.pass.hall) h.rest

  pub stopped-ready : {T : Type 0} (called : Op) (Gives : T → Reply → Gift → Type 0) (why : Stop) (n : ℕ) → asks_nobody called ≡ true → Shared tells a b called Gives (Err why) → IsReady hall a n → IsReady hall b n
  stopped-ready called Gives why n nobody h ready =
      let same : own_agent b ≡ own_agent a = stopped-own tells a b called Gives why kept nobody h in
      record {
        own = stopped-hall called Gives why h ∙ ready.own;
        origin = ready.origin;
        key = (shared-more called Gives (Err why) h).key ∙ ready.key;
        plain = ready.plain;
        rests = λ m r apart is. ready.rests m r apart (sym (ap (λ (x : Agent Own). own_of x m) same) ∙ is);
      }

  -- One that makes a row.
  pub made-ready : (called : Op) (answered : Reply) (given : Gift) → row_used called ≡ 0 → IsEntered tells a b called answered given → IsReady hall a 0 → IsReady hall b b.rows
  made-ready called answered given used e ready = record {
    own = ap (λ (x : AgentSeen O). x.pass.hall) e.rest ∙ ready.own;
    origin = ready.origin;
    key = ap (λ (x : AgentSeen O). x.key) e.rest ∙ ready.key;
    plain = ready.plain;
    rests = rests-more tells a b kept later (entered-more called answered given e).rows (subst (LeavesRest tells a b) used (rest-entered tells a b kept later called answered given e)) ready.rests;
  }

  pub closed-ready : (n : ℕ) (c : Own) → own_row b n ≡ Some c → is_open_row (outline_of c) ≡ false → IsReady hall b n → IsReady hall b 0
  closed-ready n c there closed ready = record {
    own = ready.own;
    origin = ready.origin;
    key = ready.key;
    plain = ready.plain;
    rests = rests-closed b n c ready.rests there closed;
  }

  pub ready-closed : (row closed : ℕ) → closed ≡ row → HasClosedHandle b closed → IsReady hall b row → IsReady hall b 0
  ready-closed row closed same there ready = closed-ready row own.ClosedHandle (subst (λ n. own_row b n ≡ Some own.ClosedHandle) same there) refl ready

  -- ---- access handles

  pub opened-holds : (at : Locator) (r : Result HandleSeen Stop) → Shared tells a b (op.CreateSyncAccessHandle at mode.ReadWrite) (GivesHandle tells b at) r → IsReady hall a 0 → IfOk r (λ x. Holds tells hall b x)
  opened-holds at (Ok x) h ready = record {
    ready = subst (IsReady hall b) (sym h.gives.0) (made-ready (op.CreateSyncAccessHandle at mode.ReadWrite) h.answered h.given refl h.entered ready);
    has = h.gives.4;
    writes = h.gives.2;
  }
  opened-holds at (Err why) h ready = tt

  pub opened-not : (at : Locator) (r : Result HandleSeen Stop) → Shared tells a b (op.CreateSyncAccessHandle at mode.ReadWrite) (GivesHandle tells b at) r → IsReady hall a 0 → IfErr r (λ _. IsReady hall b 0)
  opened-not at (Ok x) h ready = tt
  opened-not at (Err why) h ready = stopped-ready (op.CreateSyncAccessHandle at mode.ReadWrite) (GivesHandle tells b at) why 0 refl h ready

  -- One that is discarded.
  pub spent-ready : (called : Op) (n closed : ℕ) → asks_for_row called ≡ false → row_used called ≡ n → IsClosed tells a b called n closed → IsReady hall a n → IsReady hall b 0
  spent-ready called n closed plain used h ready =
      let on = ready-on n 1 (entered-goes tells a b kept later called reply.Done h.given h.entered plain)
      (subst (LeavesRest tells a b) used (rest-entered tells a b kept later called reply.Done h.given h.entered)) ready in
      ready-closed n closed h.same h.has on

  pub spent-more : (called : Op) (row closed : ℕ) → IsClosed tells a b called row closed → Goes a b 1
  spent-more called row closed h = entered-more called reply.Done h.given h.entered

  -- ---- notebooks

  pub opened-notes : (old : HandleSeen) (kv : KvSeen) → OnlyReads tells a b old kv.handle 261 → KvStands tells b kv → Holds tells hall a old → HoldsNotes tells hall b kv
  opened-notes old kv reads stands h = record { ready = subst (IsReady hall b) (sym reads.row) (ready-on old.row (261) reads.goes reads.others h.ready); stands = stands }

  pub unopened-notes : (old new : HandleSeen) → OnlyReads tells a b old new 261 → Holds tells hall a old → Holds tells hall b new
  unopened-notes old new reads h = record { ready = subst (IsReady hall b) (sym reads.row) (ready-on old.row (261) reads.goes reads.others h.ready); has = reads.has; writes = reads.mode_is ∙ h.writes }

  pub read-more : (old new : HandleSeen) → OnlyReads tells a b old new 261 → Goes a b 261
  read-more old new reads = goes-on old.row (261) 261 (omega arith) reads.goes reads.others

  module _ (old new : KvSeen) where
    pub served-notes : (n : ℕ) (m : Map) → Serves tells a b old new n m → HoldsNotes tells hall a old → HoldsNotes tells hall b new
    served-notes n m s h = record { ready = subst (IsReady hall b) (sym s.row) (ready-on old.handle.row n s.goes s.others h.ready); stands = s.stands }

    pub served-more : (n : ℕ) (m : Map) → Serves tells a b old new n m → Goes a b n
    served-more n m s = goes-on old.handle.row n n (omega arith) s.goes s.others

    -- A call that was done or refused.
    pub ended-notes : {T E : Type 0} (n : ℕ) (d e : Map) (r : Result T E) → OnOk r (Serves tells a b old new n d) → OnErr r (Serves tells a b old new n e) → HoldsNotes tells hall a old → HoldsNotes tells hall b new
    ended-notes n d e (Ok x) done left h = served-notes n d done h
    ended-notes n d e (Err x) done left h = served-notes n e left h

    pub ended-more : {T E : Type 0} (n : ℕ) (d e : Map) (r : Result T E) → OnOk r (Serves tells a b old new n d) → OnErr r (Serves tells a b old new n e) → Goes a b n
    ended-more n d e (Ok x) done left = served-more n d done
    ended-more n d e (Err x) done left = served-more n e left

    pub flushed-notes : {T E : Type 0} (n : ℕ) (d e : Map) (r : Result T E) → OnOk r (Flushes tells a b old new n d) → OnErr r (Serves tells a b old new n e) → HoldsNotes tells hall a old → HoldsNotes tells hall b new
    flushed-notes n d e (Ok x) done left h = record { ready = subst (IsReady hall b) (sym done.row) (ready-on old.handle.row n done.goes done.others h.ready); stands = done.stands }
    flushed-notes n d e (Err x) done left h = served-notes n e left h

    pub flushed-more : {T E : Type 0} (n : ℕ) (d e : Map) (r : Result T E) → OnOk r (Flushes tells a b old new n d) → OnErr r (Serves tells a b old new n e) → Goes a b n
    flushed-more n d e (Ok x) done left = goes-on old.handle.row n n (omega arith) done.goes done.others
    flushed-more n d e (Err x) done left = served-more n e left

  pub closed-notes : (row n : ℕ) (old : KvSeen) (m : Map) → Closes tells a b old row n m → HoldsNotes tells hall a old → IsReady hall b 0
  closed-notes row n old m s h = ready-closed old.handle.row row s.same s.closed (ready-on old.handle.row n s.goes s.others h.ready)

  pub closed-more : (row n : ℕ) (old : KvSeen) (m : Map) → Closes tells a b old row n m → Goes a b n
  closed-more row n old m s = goes-on old.handle.row n n (omega arith) s.goes s.others

pub given-back : {O : Type 0} (tells : Type 0) (hall : HallSeen O) (a : AgentSeen O) (kv : KvSeen) → HoldsNotes tells hall a kv → Holds tells hall a kv.handle
given-back tells hall a kv h = record { ready = h.ready; has = h.stands.has; writes = h.stands.writes }
