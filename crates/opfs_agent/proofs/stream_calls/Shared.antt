-- What shared calls leave of a stream.
use Rattle.std.proofs.Common.{◌≡◌, ℕ, Bool, true, if◌then◌else◌, [], ◌∷◌, ◌++◌, Option, Some, Result, Ok, Err, OnOk, OnErr, refl, sym, ap, ◌∙◌, subst}
use Rattle.opfs_base.specs.Places.{Place, place_of}
use Rattle.opfs_base.specs.Texts.{Text}
use Rattle.opfs_base.specs.declared.locator.Locator.{Locator}
use Rattle.opfs_hist.specs.declared.op.Op.{Op}
use Rattle.opfs_hist.specs.declared.op.Op.TheVariants as op
use Rattle.opfs_hist.specs.declared.reply.Reply.{Reply}
use Rattle.opfs_hist.specs.declared.reply.Reply.TheVariants as reply
use Rattle.opfs_hist.specs.declared.reply.Refusal.TheVariants as refusal
use Rattle.opfs_machine.specs.declared.own.StreamOutline.{StreamOutline}
use Rattle.opfs_machine.specs.declared.own.StreamRow.{StreamRow}
use Rattle.opfs_machine.specs.declared.own.Own.{Own}
use Rattle.opfs_machine.specs.declared.own.Own.TheVariants as own
use Rattle.opfs_machine.specs.declared.state.Agent.{Agent}
use Rattle.opfs_machine.specs.declared.state.FileRow.{FileRow}
use Rattle.opfs_machine.specs.declared.state.State.{State}
use Rattle.opfs_machine.specs.Agents.{agent_of, own_of, open_stream, of_row, stream_in}
use Rattle.opfs_machine.specs.Contents.{in_bytes, outline_of, written_row, truncated_row}
use Rattle.opfs_machine.specs.Effects.{effect, with_changed, opens_stream, closes_stream, aborts_stream, replaced, content_of, moment_of, unlocked, with_lock}
use Rattle.opfs_machine.specs.Histories.{is_disk_op}
use Rattle.opfs_machine.specs.Replies.{answer, sizes_of}
use Rattle.opfs_machine.specs.declared.state.Sizes.{Sizes}
use Rattle.opfs_machine.specs.Rows.{with_file}
use Rattle.opfs_machine.specs.Ruled.{◌>>=◌, some_or}
use Rattle.opfs_machine.specs.Rulings.{ruling, stream_ruling, first_reserve, start_of, size_written, reserve_for}
use Rattle.opfs_machine.specs.Steps.{is_refusal}
use Rattle.opfs_machine.specs.Sums.{no_need, reserve_of}
use Rattle.opfs_locks.specs.declared.Want.TheVariants as want
use Rattle.opfs_laws.proofs.Numbers.{IsNumber}
use Rattle.opfs_laws.specs.Leaving.{asks_nobody}
use Rattle.opfs_laws.proofs.Allowed.{IsLockGiven}
use Rattle.opfs_store.specs.declared.acts.acted.Gift.{Gift}
use Rattle.opfs_store.specs.Acts.Acting.{IsSameCopy, StandsForLeft, row_left}
use Rattle.opfs_store.specs.Copies.Copies.{StandsFor}
use Rattle.opfs_turns.specs.Agents.{AgentSeen, IsAgent, known, own_row}
use Rattle.opfs_turns.specs.Calls.{IsEntered}
use Rattle.opfs_turns.specs.Asking.Answers.{HasAnswer, IsAnsweredBy, Shared}
use Rattle.opfs_turns.specs.Asking.Rows.{HasStream, HasClosedStream, StreamSeen}
use Rattle.opfs_turns.specs.declared.asking.stop.Stop.{Stop}
use Rattle.opfs_turns.specs.declared.asking.stop.Stop.TheVariants as stop
use Rattle.opfs_turns.proofs.asking.Entered.{s, t, row-there, number, allowed}
use Rattle.opfs_turns.proofs.asking.Rowed.{own_agent, accepted-own, stopped-own, sure-answer}
use Rattle.opfs_turns.proofs.asking.RowsAfter.{own-set, own-changed, own-added, last-own, left-stands, some-number}
use Rattle.opfs_turns.proofs.asking.Stands.{same-stands, stopped-stands}
use Rattle.opfs_work.specs.Works.{WorkingCopy}
use Rattle.opfs_agent.specs.StreamCalls.Ends.{GivesBack, IsClosed, WasStopped}
use Rattle.opfs_agent.proofs.stream_calls.Facts.{facts, row-is, has-row}

-- A call that was done.
abbrev pub IsDone : Unit {0} → Reply → Gift → Type 0
IsDone x answered given = answered ≡ reply.Done

-- ---- what gives nothing

pub stopped-has : {O : Type 0} (tells : Type 0) (before after : AgentSeen O) (called : Op) (why : Stop) (x : StreamSeen) (work : WorkingCopy) → IsAgent tells before → IsAgent tells after → asks_nobody called ≡ true
    → Shared tells before after called IsDone (Err why) → HasStream tells before x → IsSameCopy x.work work → HasStream tells after (record x { work = work })
stopped-has tells before after called why x work kept later nobody h has same =
    let f = facts tells before x has in
    has-row tells after x.row x.file work f.w
    (same-stands tells after.opening (known after) after.pass.agent x.row x.work work same (stopped-stands tells before after called IsDone why x.row x.work kept later nobody h has.stands))
    (ap (λ (a : Agent Own). own_of a x.row) (stopped-own tells before after called IsDone why kept nobody h) ∙ row-is tells before x has)
    f.file_is

-- ---- calls that were not refused

module _ {O : Type 0} (tells : Type 0) (before after : AgentSeen O) (kept : IsAgent tells before) (called : Op) (h : HasAnswer tells before after called IsDone tt) where
  abbrev k : ℕ
  k = before.pass.agent

  abbrev turn : State Text Own
  turn = s tells before after kept called h.answered h.given h.entered

  abbrev cleared : State Text Own
  cleared = t tells before after kept called h.answered h.given h.entered

  numbered : IsNumber cleared k
  numbered = number tells before after kept called h.answered h.given h.entered

  pub own-then : own_agent after ≡ agent_of (effect in_bytes cleared (sizes_of cleared k called) k called) k
  own-then = accepted-own tells before after kept called h.answered h.given h.entered h.accepted

  row-cleared : (n : ℕ) (r : Own) → own_row before n ≡ Some r → own_of (agent_of cleared k) n ≡ Some r
  row-cleared n r is = row-there tells before after kept called h.answered h.given h.entered n ∙ is

  -- A call that changes a stream leaves one on the same file.
  pub changed-row : (n : ℕ) (w v : StreamRow) (change : Own → Own) → own_row before n ≡ Some (own.Stream w)
      → own_agent after ≡ agent_of (with_changed cleared k n change) k → change (own.Stream w) ≡ own.Stream v → own_row after n ≡ Some (own.Stream v)
  changed-row n w v change is same to =
      ap (λ (a : Agent Own). own_of a n) same ∙ own-changed cleared k numbered n (own.Stream w) (row-cleared n (own.Stream w) is) change ∙ ap Some to

  -- The copy of the row that is left open.
  pub left-has : (x : StreamSeen) (work : WorkingCopy) (v : StreamRow) → StandsForLeft tells after.opening (known after) after.pass.agent x.row work → own_row after x.row ≡ Some (own.Stream v) → v.file ≡ place_of x.file
      → HasStream tells after (record x { work = work })
  left-has x work v left is file_is =
      has-row tells after x.row x.file work v
      (left-stands tells after.opening (known after) after.pass.agent x.row work (some-number (own_agent after) x.row (own.Stream v) is) left) is file_is

pub written-has : {O : Type 0} (tells : Type 0) (before after : AgentSeen O) (kept : IsAgent tells before) (x : StreamSeen) (work : WorkingCopy) (bytes : Text) (position : Option ℕ)
    → HasStream tells before x → HasAnswer tells before after (op.Write x.row bytes position) IsDone tt
    → StandsForLeft tells after.opening (known after) after.pass.agent (row_left after.rows (op.Write x.row bytes position)) work → HasStream tells after (record x { work = work })
unfolding effect
written-has tells before after kept x work bytes position has h left =
    let f = facts tells before x has in
    let called = op.Write x.row bytes position in
    let u = t tells before after kept called h.answered h.given h.entered in
    let z = sizes_of u before.pass.agent called in
    left-has tells before after kept called h x work _ left
    (changed-row tells before after kept called h x.row f.w _ (λ r. written_row r (start_of z position) bytes (reserve_for (reserve_of (outline_of r)) (size_written z position bytes))) (row-is tells before x has)
    (own-then tells before after kept called h) refl)
    f.file_is

pub truncated-has : {O : Type 0} (tells : Type 0) (before after : AgentSeen O) (kept : IsAgent tells before) (x : StreamSeen) (work : WorkingCopy) (size : ℕ)
    → HasStream tells before x → HasAnswer tells before after (op.Truncate x.row size) IsDone tt
    → StandsForLeft tells after.opening (known after) after.pass.agent (row_left after.rows (op.Truncate x.row size)) work → HasStream tells after (record x { work = work })
unfolding effect
truncated-has tells before after kept x work size has h left =
    let f = facts tells before x has in
    let called = op.Truncate x.row size in
    left-has tells before after kept called h x work _ left
    (changed-row tells before after kept called h x.row f.w _ (λ r. truncated_row r size (reserve_for (reserve_of (outline_of r)) size)) (row-is tells before x has)
    (own-then tells before after kept called h) refl)
    f.file_is

-- These are answered by Done alone.
pub write-done : (n : ℕ) (bytes : Text) (position : Option ℕ) → IsAnsweredBy (op.Write n bytes position) (λ answered. answered ≡ reply.Done)
unfolding answer
write-done n bytes position s z k = refl

pub truncate-done : (n size : ℕ) → IsAnsweredBy (op.Truncate n size) (λ answered. answered ≡ reply.Done)
unfolding answer
truncate-done n size s z k = refl

pub close-done : (n : ℕ) → IsAnsweredBy (op.Close n) (λ answered. answered ≡ reply.Done)
unfolding answer
close-done n s z k = refl

pub open-done : (at : Locator) (keep : Bool) → IsAnsweredBy (op.CreateWritable at keep) (λ answered. answered ≡ reply.Done)
unfolding answer
open-done at keep s z k = refl

-- ---- a new stream

module _ {O : Type 0} (tells : Type 0) (before after : AgentSeen O) (kept : IsAgent tells before) (later : IsAgent tells after) (at : Locator) (keep : Bool)
    (h : HasAnswer tells before after (op.CreateWritable at keep) IsDone tt) where
  abbrev made_in : State Text Own
  made_in = t tells before after kept (op.CreateWritable at keep) h.answered h.given h.entered

  lock : IsLockGiven made_in (place_of at) want.Shared
  lock = allowed tells before after kept (op.CreateWritable at keep) h.answered h.given h.entered h.accepted

  abbrev new_row : StreamRow
  new_row = record { file = place_of at; buffer = if keep then lock.held.present else []; offset = 0; reserve = first_reserve in_bytes made_in at keep }

  own-opened : (own_agent after).own ≡ (agent_of made_in before.pass.agent).own ++ own.Stream new_row ∷ []
  unfolding effect
  own-opened =
      ap (λ (a : Agent Own). a.own) (own-then tells before after kept (op.CreateWritable at keep) h)
      ∙ ap (λ f. (agent_of (opens_stream in_bytes made_in before.pass.agent (place_of at) (first_reserve in_bytes made_in at keep) keep f) before.pass.agent).own) lock.stands
      ∙ own-added (with_file made_in (place_of at) (with_lock want.Shared)) before.pass.agent (numbered-there (numbered tells before after kept (op.CreateWritable at keep) h)) (own.Stream new_row)
    where
      numbered-there : IsNumber made_in before.pass.agent → IsNumber (with_file made_in (place_of at) (with_lock want.Shared)) before.pass.agent
      numbered-there n = record { index = n.index; is = n.is; within = n.within }

  pub opened-has : (row : ℕ) (file : Locator) (work : WorkingCopy) → row ≡ after.rows → file ≡ at
      → StandsForLeft tells after.opening (known after) after.pass.agent (row_left after.rows (op.CreateWritable at keep)) work → HasStream tells after (record { row = row; file = file; work = work })
  opened-has row file work row_is file_is left =
      let last : own_row after row ≡ Some (own.Stream new_row) = ap (own_of (own_agent after)) (row_is ∙ later.made) ∙ last-own (own_agent after) (agent_of made_in before.pass.agent).own (own.Stream new_row) own-opened in
      has-row tells after row file work new_row
      (subst (λ n. StandsFor tells after.opening (known after) after.pass.agent n work) (sym row_is)
      (left-stands tells after.opening (known after) after.pass.agent after.rows work
      (some-number (own_agent after) after.rows (own.Stream new_row) (ap (own_of (own_agent after)) (sym row_is) ∙ last)) left))
      last (ap place_of (sym file_is))

  pub opened-answer : (row : ℕ) (named file : Locator) (work : WorkingCopy) → row ≡ after.rows → at ≡ named → file ≡ named
      → StandsForLeft tells after.opening (known after) after.pass.agent (row_left after.rows (op.CreateWritable at keep)) work
      → HasAnswer tells before after (op.CreateWritable named keep) (λ (x : StreamSeen) answered _. (x.row ≡ after.rows) × (x.file ≡ named) × (answered ≡ reply.Done) × HasStream tells after x)
      (record { row = row; file = file; work = work })
  opened-answer row named file work row_is at_is file_is left =
      subst (λ l. HasAnswer tells before after (op.CreateWritable l keep) (λ (x : StreamSeen) answered _. (x.row ≡ after.rows) × (x.file ≡ named) × (answered ≡ reply.Done) × HasStream tells after x)
      (record { row = row; file = file; work = work })) at_is
      (record {
        answered = h.answered;
        given = h.given;
        entered = h.entered;
        accepted = h.accepted;
        gives = (row_is, file_is, h.gives, opened-has row file work row_is (file_is ∙ sym at_is) left);
      })

-- ---- ends

-- The state of files does not matter to the agents.
filed : (u : State Text Own) (k : ℕ) (p : Place) (change : FileRow Text → FileRow Text) → IsNumber u k → IsNumber (with_file u p change) k
filed u k p change n = record { index = n.index; is = n.is; within = n.within }

closed-row : (u : State Text Own) (k n : ℕ) (w : StreamRow) (z : Sizes) → IsNumber u k → own_of (agent_of u k) n ≡ Some (own.Stream w)
    → own_of (agent_of (closes_stream in_bytes u z k n (open_stream in_bytes u k n)) k) n ≡ Some own.ClosedStream
closed-row u k n w z number is =
    let o : StreamOutline = record { file = w.file; reserve = w.reserve } in
    let change = replaced (content_of in_bytes (own_of (agent_of u k) n) z.size) (moment_of u k) in
    ap (λ x. own_of (agent_of (closes_stream in_bytes u z k n x) k) n) (ap (of_row (λ r. stream_in (outline_of r))) is)
    ∙ own-set (with_file (with_file u o.file change) o.file unlocked) k (filed (with_file u o.file change) k o.file unlocked (filed u k o.file change number)) n (own.Stream w) is own.ClosedStream

aborted-row : (u : State Text Own) (k n : ℕ) (w : StreamRow) → IsNumber u k → own_of (agent_of u k) n ≡ Some (own.Stream w)
    → own_of (agent_of (aborts_stream in_bytes u k n (open_stream in_bytes u k n)) k) n ≡ Some own.ClosedStream
aborted-row u k n w number is =
    ap (λ x. own_of (agent_of (aborts_stream in_bytes u k n x) k) n) (ap (of_row (λ r. stream_in (outline_of r))) is)
    ∙ own-set (with_file u w.file unlocked) k (filed u k w.file unlocked number) n (own.Stream w) is own.ClosedStream

pub closed-has : {O : Type 0} (tells : Type 0) (before after : AgentSeen O) (kept : IsAgent tells before) (x : StreamSeen) (row : ℕ) → row ≡ x.row → HasStream tells before x
    → HasAnswer tells before after (op.Close x.row) IsDone tt → IsClosed tells before after (op.Close x.row) x.row row
unfolding effect
closed-has tells before after kept x row row_is has h =
    let f = facts tells before x has in
    let called = op.Close x.row in
    let u = t tells before after kept called h.answered h.given h.entered in
    let there : own_row after x.row ≡ Some own.ClosedStream =
    ap (λ (a : Agent Own). own_of a x.row) (own-then tells before after kept called h)
    ∙ closed-row u before.pass.agent x.row f.w (sizes_of u before.pass.agent called) (number tells before after kept called h.answered h.given h.entered)
    (row-there tells before after kept called h.answered h.given h.entered x.row ∙ row-is tells before x has)
    in
    record {
      given = h.given;
      entered = subst (λ r. IsEntered tells before after called r h.given) h.gives h.entered;
      same = row_is;
      has = subst (HasClosedStream after) (sym row_is) there;
    }

pub was-stopped : {O : Type 0} (tells : Type 0) (before after : AgentSeen O) (called : Op) (why : Stop) → Shared tells before after called IsDone (Err why) → WasStopped tells before after called why
was-stopped tells before after called (stop.No r) h = h
was-stopped tells before after called stop.NoMemory h = h

pub gives-back : {O : Type 0} (tells : Type 0) (before after : AgentSeen O) (called : Op) (why : Stop) (x : StreamSeen) (work : WorkingCopy) → IsAgent tells before → IsAgent tells after → asks_nobody called ≡ true
    → Shared tells before after called IsDone (Err why) → HasStream tells before x → IsSameCopy x.work work → GivesBack tells before after called x (record x { work = work }) why
gives-back tells before after called why x work kept later nobody h has same = record {
  stopped = was-stopped tells before after called why h;
  row = refl;
  file = refl;
  copy = same;
  open_still = stopped-has tells before after called why x work kept later nobody h has same;
}

-- An abort is never refused.
module _ {O : Type 0} (tells : Type 0) (before after : AgentSeen O) (kept : IsAgent tells before) (x : StreamSeen) (has : HasStream tells before x) (answered : Reply) (given : Gift)
    (e : IsEntered tells before after (op.Abort x.row) answered given) where
  abbrev in_turn : State Text Own
  in_turn = s tells before after kept (op.Abort x.row) answered given e

  abort-ruled : ruling in_bytes in_turn (sizes_of in_turn before.pass.agent (op.Abort x.row)) before.pass.agent (op.Abort x.row) ≡ Ok no_need
  unfolding ruling stream_ruling ◌>>=◌
  abort-ruled =
      ap (λ (o : Option StreamOutline). some_or o refusal.TypeError >>= (λ w. Ok no_need))
      (ap (of_row (λ r. stream_in (outline_of r))) (ap (λ y. own_of y.0 x.row) e.own ∙ row-is tells before x has))

  abort-done : answered ≡ reply.Done
  unfolding answer is_disk_op
  abort-done = sure-answer tells before after kept (op.Abort x.row) answered given e refl abort-ruled refl

  pub aborted-has : (row : ℕ) → row ≡ x.row → IsClosed tells before after (op.Abort x.row) x.row row
  unfolding effect
  aborted-has row row_is =
      let f = facts tells before x has in
      let u = t tells before after kept (op.Abort x.row) answered given e in
      let there : own_row after x.row ≡ Some own.ClosedStream =
      ap (λ (a : Agent Own). own_of a x.row) (accepted-own tells before after kept (op.Abort x.row) answered given e (ap is_refusal abort-done))
      ∙ aborted-row u before.pass.agent x.row f.w (number tells before after kept (op.Abort x.row) answered given e)
      (row-there tells before after kept (op.Abort x.row) answered given e x.row ∙ row-is tells before x has)
      in
      record {
        given = given;
        entered = subst (λ r. IsEntered tells before after (op.Abort x.row) r given) abort-done e;
        same = row_is;
        has = subst (HasClosedStream after) (sym row_is) there;
      }

-- ---- whatever was answered

pub written-either : {O : Type 0} (tells : Type 0) (before after : AgentSeen O) (kept : IsAgent tells before) (later : IsAgent tells after) (x : StreamSeen) (work : WorkingCopy) (bytes : Text) (position : Option ℕ)
    (r : Result (Unit {0}) Stop) → HasStream tells before x → Shared tells before after (op.Write x.row bytes position) IsDone r
    → OnOk r (StandsForLeft tells after.opening (known after) after.pass.agent (row_left after.rows (op.Write x.row bytes position)) work) → OnErr r (IsSameCopy x.work work) → HasStream tells after (record x { work = work })
written-either tells before after kept later x work bytes position (Ok u) has h left same = written-has tells before after kept x work bytes position has h left
written-either tells before after kept later x work bytes position (Err why) has h left same = stopped-has tells before after (op.Write x.row bytes position) why x work kept later refl h has same

pub truncated-either : {O : Type 0} (tells : Type 0) (before after : AgentSeen O) (kept : IsAgent tells before) (later : IsAgent tells after) (x : StreamSeen) (work : WorkingCopy) (size : ℕ)
    (r : Result (Unit {0}) Stop) → HasStream tells before x → Shared tells before after (op.Truncate x.row size) IsDone r
    → OnOk r (StandsForLeft tells after.opening (known after) after.pass.agent (row_left after.rows (op.Truncate x.row size)) work) → OnErr r (IsSameCopy x.work work) → HasStream tells after (record x { work = work })
truncated-either tells before after kept later x work size (Ok u) has h left same = truncated-has tells before after kept x work size has h left
truncated-either tells before after kept later x work size (Err why) has h left same = stopped-has tells before after (op.Truncate x.row size) why x work kept later refl h has same
