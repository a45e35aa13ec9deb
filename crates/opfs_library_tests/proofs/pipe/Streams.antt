-- What a call on a stream or on a snapshot leaves of an agent that is ready.
use Rattle.std.proofs.Common.{◌≡◌, ℕ, false, Some, Result, Ok, Err, IfOk, IfErr, refl, sym, subst, arith, length}
use Rattle.opfs_store.specs.declared.acts.acted.Gift.{Gift}
use Rattle.opfs_base.specs.declared.locator.Locator.{Locator}
use Rattle.opfs_agent.specs.StreamCalls.Ends.{GivesBack, IsClosed, WasStopped}
use Rattle.opfs_turns.specs.Asking.Answers.{Shared}
use Rattle.opfs_turns.specs.Asking.Locals.{Local}
use Rattle.opfs_turns.specs.Asking.Rows.{HasClosedStream, HasSnapshot, HasStream, SnapshotSeen, StreamSeen}
use Rattle.opfs_turns.specs.declared.asking.stop.Stop.{Stop}
use Rattle.opfs_turns.specs.declared.asking.stop.Stop.TheVariants as stop
use Rattle.opfs_hall.specs.Seen.{HallSeen}
use Rattle.opfs_hist.specs.Sums.{asks_for_row}
use Rattle.opfs_hist.specs.declared.op.Op.{Op}
use Rattle.opfs_hist.specs.declared.op.Op.TheVariants as op
use Rattle.opfs_hist.specs.declared.reply.Reply.{Reply}
use Rattle.opfs_hist.specs.declared.reply.Reply.TheVariants as reply
use Rattle.opfs_laws.specs.Leaving.{row_used}
use Rattle.opfs_machine.specs.declared.own.Own.TheVariants as own
use Rattle.opfs_notebook.specs.Ready.{Goes, IsReady}
use Rattle.opfs_notebook.proofs.Going.{closed-ready, entered-more, goes-on, made-ready, ready-on, shared-more, stopped-ready}
use Rattle.opfs_pipe.proofs.Opened.{GivesStream}
use Rattle.opfs_sync_files.specs.Resting.{LeavesRest}
use Rattle.opfs_sync_files.proofs.Behind.{entered-goes}
use Rattle.opfs_sync_files.proofs.Resting.{rest-entered, rest-local}
use Rattle.opfs_sync_files.proofs.Served.{local-goes}
use Rattle.opfs_turns.specs.Agents.{AgentSeen, IsAgent, own_row}

abbrev pub GivesSnapshot : {O : Type 0} → Type 0 → AgentSeen O → SnapshotSeen → Reply → Gift → Type 0
GivesSnapshot tells b x answered given = (x.row ≡ b.rows) × (answered ≡ reply.FileInfo (length x.bytes) x.stamp) × HasSnapshot tells b x

module _ {O : Type 0} (tells : Type 0) (hall : HallSeen O) (a b : AgentSeen O) (kept : IsAgent tells a) (later : IsAgent tells b) where
  -- ---- streams

  pub ready-closed : (row closed : ℕ) → closed ≡ row → HasClosedStream b closed → IsReady hall b row → IsReady hall b 0
  ready-closed row closed same there ready = closed-ready tells hall a b kept later row own.ClosedStream (subst (λ n. own_row b n ≡ Some own.ClosedStream) same there) refl ready

  pub opened-ready : (at : Locator) (r : Result StreamSeen Stop) → Shared tells a b (op.CreateWritable at false) (GivesStream tells b at) r → IsReady hall a 0 → IfOk r (λ x. IsReady hall b x.row)
  opened-ready at (Ok x) h ready = subst (IsReady hall b) (sym h.gives.0) (made-ready tells hall a b kept later (op.CreateWritable at false) h.answered h.given refl h.entered ready)
  opened-ready at (Err why) h ready = tt

  pub opened-not : (at : Locator) (r : Result StreamSeen Stop) → Shared tells a b (op.CreateWritable at false) (GivesStream tells b at) r → IsReady hall a 0 → IfErr r (λ _. IsReady hall b 0)
  opened-not at (Ok x) h ready = tt
  opened-not at (Err why) h ready = stopped-ready tells hall a b kept later (op.CreateWritable at false) (GivesStream tells b at) why 0 refl h ready

  pub opened-has : (at : Locator) (r : Result StreamSeen Stop) → Shared tells a b (op.CreateWritable at false) (GivesStream tells b at) r → IfOk r (λ x. HasStream tells b x)
  opened-has at (Ok x) h = h.gives.3
  opened-has at (Err why) h = tt

  -- A close or an abort.
  pub spent-ready : (called : Op) (n closed : ℕ) → asks_for_row called ≡ false → row_used called ≡ n → IsClosed tells a b called n closed → IsReady hall a n → IsReady hall b 0
  spent-ready called n closed plain used h ready =
      let on = ready-on tells hall a b kept later n 1 (entered-goes tells a b kept later called reply.Done h.given h.entered plain)
      (subst (LeavesRest tells a b) used (rest-entered tells a b kept later called reply.Done h.given h.entered)) ready in
      ready-closed n closed h.same h.has on

  pub spent-more : (called : Op) (row closed : ℕ) → IsClosed tells a b called row closed → Goes a b 1
  spent-more called row closed h = entered-more tells hall a b kept later called reply.Done h.given h.entered

  stopped-as : (called : Op) (why : Stop) → WasStopped tells a b called why → Shared {T = Unit {0}} tells a b called (λ x answered given. Unit {0}) (Err why)
  stopped-as called (stop.No r) h = h
  stopped-as called stop.NoMemory h = h

  pub back-ready : (x back : StreamSeen) (why : Stop) → GivesBack tells a b (op.Close x.row) x back why → IsReady hall a x.row → IsReady hall b back.row
  back-ready x back why h ready =
      subst (IsReady hall b) (sym h.row)
      (stopped-ready tells hall a b kept later {T = Unit {0}} (op.Close x.row) (λ y answered given. Unit {0}) why x.row refl (stopped-as (op.Close x.row) why h.stopped) ready)

  pub back-more : (x back : StreamSeen) (why : Stop) → GivesBack tells a b (op.Close x.row) x back why → Goes a b 1
  back-more x back why h = shared-more tells hall a b kept later {T = Unit {0}} (op.Close x.row) (λ y answered given. Unit {0}) (Err why) (stopped-as (op.Close x.row) why h.stopped)

  -- ---- snapshots

  pub taken-ready : (at : Locator) (r : Result SnapshotSeen Stop) → Shared tells a b (op.GetFile at) (GivesSnapshot tells b) r → IsReady hall a 0 → IsReady hall b 0
  taken-ready at (Ok x) h ready =
      let has : HasSnapshot tells b x = h.gives.2 in
      closed-ready tells hall a b kept later b.rows (own.Snapshot has.bytes) (subst (λ n. own_row b n ≡ Some (own.Snapshot has.bytes)) h.gives.0 has.there) refl
      (made-ready tells hall a b kept later (op.GetFile at) h.answered h.given refl h.entered ready)
  taken-ready at (Err why) h ready = stopped-ready tells hall a b kept later (op.GetFile at) (GivesSnapshot tells b) why 0 refl h ready

  pub taken-has : (at : Locator) (r : Result SnapshotSeen Stop) → Shared tells a b (op.GetFile at) (GivesSnapshot tells b) r → IfOk r (λ x. HasSnapshot tells b x)
  taken-has at (Ok x) h = h.gives.2
  taken-has at (Err why) h = tt

  -- A call with no turn.
  pub local-used : {T : Type 0} (called : Op) (Gives : T → Reply → Type 0) (r : Result T Stop) (n : ℕ) → row_used called ≡ n → Local tells a b called 0 Gives r → IsReady hall a n → IsReady hall b n
  local-used called Gives r n used h ready =
      ready-on tells hall a b kept later n 1 (local-goes tells a b kept later called Gives r h) (subst (LeavesRest tells a b) used (rest-local tells a b kept later called Gives r h)) ready

  -- A part of a snapshot.
  pub local-ready : {T : Type 0} (called : Op) (Gives : T → Reply → Type 0) (r : Result T Stop) → row_used called ≡ 0 → Local tells a b called 0 Gives r → IsReady hall a 0 → IsReady hall b 0
  local-ready called Gives r used h ready = local-used called Gives r 0 used h ready

  pub local-on : {T : Type 0} (called : Op) (Gives : T → Reply → Type 0) (r : Result T Stop) → Local tells a b called 0 Gives r → Goes a b 1
  local-on called Gives r h = goes-on tells hall a b kept later (row_used called) 1 1 (omega arith) (local-goes tells a b kept later called Gives r h) (rest-local tells a b kept later called Gives r h)
