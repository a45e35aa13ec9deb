-- What shared calls leave of an access handle.
use Rattle.std.proofs.Common.{◌≡◌, ℕ, ◌+◌, min, true, [], ◌∷◌, ◌++◌, length, Option, Some, Result, Ok, Err, OnOk, OnErr, refl, sym, ap, ◌∙◌, subst}
use Rattle.opfs_base.specs.Places.{Place, place_of}
use Rattle.opfs_base.specs.Texts.{Text}
use Rattle.opfs_base.specs.declared.locator.Locator.{Locator}
use Rattle.opfs_hist.specs.declared.op.Mode.{Mode}
use Rattle.opfs_hist.specs.declared.op.Mode.TheVariants as mode
use Rattle.opfs_hist.specs.declared.op.Op.{Op}
use Rattle.opfs_hist.specs.declared.op.Op.TheVariants as op
use Rattle.opfs_hist.specs.declared.reply.Reply.{Reply}
use Rattle.opfs_hist.specs.declared.reply.Reply.TheVariants as reply
use Rattle.opfs_machine.specs.declared.own.HandleOutline.{HandleOutline}
use Rattle.opfs_machine.specs.declared.own.HandleRow.{HandleRow}
use Rattle.opfs_machine.specs.declared.own.Own.{Own}
use Rattle.opfs_machine.specs.declared.own.Own.TheVariants as own
use Rattle.opfs_machine.specs.declared.state.Agent.{Agent}
use Rattle.opfs_machine.specs.declared.state.FileRow.{FileRow}
use Rattle.opfs_machine.specs.declared.state.Sizes.{Sizes}
use Rattle.opfs_machine.specs.declared.state.State.{State}
use Rattle.opfs_machine.specs.Agents.{agent_of, own_of, open_handle, of_row, handle_in}
use Rattle.opfs_machine.specs.Contents.{in_bytes, outline_of, moved_row}
use Rattle.opfs_machine.specs.Effects.{effect, changes_file, closes_handle, cursor_after_read, discards, flushed, flushes, moment_of, undone, unlocked, with_lock, with_written}
use Rattle.opfs_machine.specs.Histories.{is_disk_op}
use Rattle.opfs_machine.specs.Replies.{answer, sizes_of}
use Rattle.opfs_machine.specs.Rows.{with_file}
use Rattle.opfs_machine.specs.Rulings.{ruling, reserve_for, size_written, start_of, want_of}
use Rattle.opfs_machine.specs.Steps.{is_refusal}
use Rattle.opfs_machine.specs.Sums.{reserve_of}
use Rattle.opfs_laws.proofs.Numbers.{IsNumber}
use Rattle.opfs_laws.specs.Leaving.{asks_nobody}
use Rattle.opfs_store.specs.declared.acts.acted.Gift.{Gift}
use Rattle.opfs_store.specs.Acts.Acting.{IsSameCopy, StandsForLeft, row_left}
use Rattle.opfs_store.specs.Copies.Copies.{StandsFor}
use Rattle.opfs_turns.specs.Agents.{AgentSeen, IsAgent, known, own_row}
use Rattle.opfs_turns.specs.Calls.{IsEntered}
use Rattle.opfs_turns.specs.Asking.Answers.{HasAnswer, IsAnsweredBy, IsLength, IsRead, Shared}
use Rattle.opfs_turns.specs.Asking.Rows.{HasHandle, HasClosedHandle, HandleSeen}
use Rattle.opfs_turns.specs.declared.asking.stop.Stop.{Stop}
use Rattle.opfs_turns.specs.declared.asking.stop.Stop.TheVariants as stop
use Rattle.opfs_turns.proofs.asking.Entered.{s, t, row-there, number}
use Rattle.opfs_turns.proofs.asking.Rowed.{own_agent, accepted-own, stopped-own, sure-answer}
use Rattle.opfs_turns.proofs.asking.RowsAfter.{own-set, own-changed, own-added, last-own, left-stands, some-number}
use Rattle.opfs_turns.proofs.asking.Stands.{same-stands, stopped-stands}
use Rattle.opfs_work.specs.Works.{WorkingCopy}
use Rattle.opfs_agent.specs.HandleCalls.Ends.{GivesBack, IsClosed, WasStopped}
use Rattle.opfs_agent.proofs.handle_calls.Facts.{facts, row-is, has-row}

-- ---- what gives nothing

module _ {O T : Type 0} (tells : Type 0) (before after : AgentSeen O) (called : Op) (Gives : T → Reply → Gift → Type 0) (why : Stop) (x : HandleSeen) (work : WorkingCopy) (kept : IsAgent tells before) (later : IsAgent tells after)
    (nobody : asks_nobody called ≡ true) (h : Shared tells before after called Gives (Err why)) (has : HasHandle tells before x) (same : IsSameCopy x.work work) where
  pub stopped-has : HasHandle tells after (record x { work = work })
  stopped-has =
      let f = facts tells before x has in
      has-row tells after x.row x.file x.mode work f.h
      (same-stands tells after.opening (known after) after.pass.agent x.row x.work work same (stopped-stands tells before after called Gives why x.row x.work kept later nobody h has.stands))
      (ap (λ (a : Agent Own). own_of a x.row) (stopped-own tells before after called Gives why kept nobody h) ∙ row-is tells before x has)
      f.file_is f.mode_is

-- ---- rows after effects

written-number : (u : State Text Own) (k : ℕ) (m : Mode) (p : Place) (change : FileRow Text → FileRow Text) → IsNumber u k → IsNumber (with_written u m p change) k
written-number u k mode.ReadWrite p change n = record { index = n.index; is = n.is; within = n.within }
written-number u k mode.ReadOnly p change n = n

written-agent : (u : State Text Own) (k : ℕ) (m : Mode) (p : Place) (change : FileRow Text → FileRow Text) → agent_of (with_written u m p change) k ≡ agent_of u k
written-agent u k mode.ReadWrite p change = refl
written-agent u k mode.ReadOnly p change = refl

filed : (u : State Text Own) (k : ℕ) (p : Place) (change : FileRow Text → FileRow Text) → IsNumber u k → IsNumber (with_file u p change) k
filed u k p change n = record { index = n.index; is = n.is; within = n.within }

module _ (u : State Text Own) (k n : ℕ) (h : HandleRow) (numbered : IsNumber u k) (is : own_of (agent_of u k) n ≡ Some (own.Handle h)) where
  abbrev seen : HandleOutline
  seen = record { file = h.file; mode = h.mode; reserve = h.reserve }

  opened : open_handle in_bytes u k n ≡ Some (record { file = h.file; mode = h.mode; reserve = h.reserve })
  opened = ap (of_row (λ r. handle_in (outline_of r))) is

  pub altered-row : (change : Text → Text) (cursor size : ℕ)
      → own_of (agent_of (changes_file in_bytes u k n change cursor size (open_handle in_bytes u k n)) k) n ≡ Some (own.Handle (record h { cursor = cursor; reserve = reserve_for h.reserve size }))
  unfolding changes_file
  altered-row change cursor size =
      ap (λ o. own_of (agent_of (changes_file in_bytes u k n change cursor size o) k) n) opened
      ∙ own-changed (with_file u h.file (λ f. record f { present = change f.present; stamp = moment_of u k })) k (filed u k h.file _ numbered) n (own.Handle h) is (λ r. moved_row r cursor (reserve_for h.reserve size))

  pub flushed-row : (z : Sizes) → own_of (agent_of (flushes in_bytes u z k n (open_handle in_bytes u k n)) k) n ≡ Some (own.Handle (record h { cursor = z.position; reserve = 0 }))
  flushed-row z =
      ap (λ o. own_of (agent_of (flushes in_bytes u z k n o) k) n) opened
      ∙ own-changed (with_written u h.mode h.file flushed) k (written-number u k h.mode h.file flushed numbered) n (own.Handle h)
      (ap (λ (a : Agent Own). own_of a n) (written-agent u k h.mode h.file flushed) ∙ is) (λ r. moved_row r z.position 0)

  pub closed-row : own_of (agent_of (closes_handle in_bytes u k n (open_handle in_bytes u k n)) k) n ≡ Some own.ClosedHandle
  closed-row =
      ap (λ o. own_of (agent_of (closes_handle in_bytes u k n o) k) n) opened
      ∙ own-set (with_file (with_written u h.mode h.file flushed) h.file unlocked) k (filed (with_written u h.mode h.file flushed) k h.file unlocked (written-number u k h.mode h.file flushed numbered)) n (own.Handle h)
      (ap (λ (a : Agent Own). own_of a n) (written-agent u k h.mode h.file flushed) ∙ is) own.ClosedHandle

  pub discarded-row : own_of (agent_of (discards in_bytes u k n (open_handle in_bytes u k n)) k) n ≡ Some own.ClosedHandle
  discarded-row =
      ap (λ o. own_of (agent_of (discards in_bytes u k n o) k) n) opened
      ∙ own-set (with_file (with_written u h.mode h.file undone) h.file unlocked) k (filed (with_written u h.mode h.file undone) k h.file unlocked (written-number u k h.mode h.file undone numbered)) n (own.Handle h)
      (ap (λ (a : Agent Own). own_of a n) (written-agent u k h.mode h.file undone) ∙ is) own.ClosedHandle

-- ---- calls that were not refused

module _ {O T : Type 0} (tells : Type 0) (before after : AgentSeen O) (kept : IsAgent tells before) (x : HandleSeen) (work : WorkingCopy) (has : HasHandle tells before x) (Gives : T → Reply → Gift → Type 0) (y : T) where
  left-has : (v : HandleRow) → StandsForLeft tells after.opening (known after) after.pass.agent x.row work → own_row after x.row ≡ Some (own.Handle v) → v.file ≡ place_of x.file → v.mode ≡ x.mode
      → HasHandle tells after (record x { work = work })
  left-has v left is file_is mode_is =
      has-row tells after x.row x.file x.mode work v
      (left-stands tells after.opening (known after) after.pass.agent x.row work (some-number (own_agent after) x.row (own.Handle v) is) left) is file_is mode_is

  pub read-has : (len : ℕ) (at : Option ℕ) → HasAnswer tells before after (op.SyncRead x.row len at) Gives y
      → StandsForLeft tells after.opening (known after) after.pass.agent (row_left after.rows (op.SyncRead x.row len at)) work → HasHandle tells after (record x { work = work })
  unfolding effect
  read-has len at h left =
      let f = facts tells before x has in
      let called = op.SyncRead x.row len at in
      let u = t tells before after kept called h.answered h.given h.entered in
      let z = sizes_of u before.pass.agent called in
      left-has (record f.h { cursor = cursor_after_read z len at; reserve = f.h.reserve }) left
      (ap (λ (a : Agent Own). own_of a x.row) (accepted-own tells before after kept called h.answered h.given h.entered h.accepted)
      ∙ own-changed u before.pass.agent (number tells before after kept called h.answered h.given h.entered) x.row (own.Handle f.h)
      (row-there tells before after kept called h.answered h.given h.entered x.row ∙ row-is tells before x has) (λ r. moved_row r (cursor_after_read z len at) (reserve_of (outline_of r))))
      f.file_is f.mode_is

  pub written-has : (bytes : Text) (at : Option ℕ) → HasAnswer tells before after (op.SyncWrite x.row bytes at) Gives y
      → StandsForLeft tells after.opening (known after) after.pass.agent (row_left after.rows (op.SyncWrite x.row bytes at)) work → HasHandle tells after (record x { work = work })
  unfolding effect
  written-has bytes at h left =
      let f = facts tells before x has in
      let called = op.SyncWrite x.row bytes at in
      let u = t tells before after kept called h.answered h.given h.entered in
      let z = sizes_of u before.pass.agent called in
      left-has (record f.h { cursor = start_of z at + length bytes; reserve = reserve_for f.h.reserve (size_written z at bytes) }) left
      (ap (λ (a : Agent Own). own_of a x.row) (accepted-own tells before after kept called h.answered h.given h.entered h.accepted)
      ∙ altered-row u before.pass.agent x.row f.h (number tells before after kept called h.answered h.given h.entered)
      (row-there tells before after kept called h.answered h.given h.entered x.row ∙ row-is tells before x has) (λ c. in_bytes.overwritten c (start_of z at) bytes) (start_of z at + length bytes) (size_written z at bytes))
      f.file_is f.mode_is

  pub truncated-has : (size : ℕ) → HasAnswer tells before after (op.SyncTruncate x.row size) Gives y
      → StandsForLeft tells after.opening (known after) after.pass.agent (row_left after.rows (op.SyncTruncate x.row size)) work → HasHandle tells after (record x { work = work })
  unfolding effect
  truncated-has size h left =
      let f = facts tells before x has in
      let called = op.SyncTruncate x.row size in
      let u = t tells before after kept called h.answered h.given h.entered in
      let z = sizes_of u before.pass.agent called in
      left-has (record f.h { cursor = min z.position size; reserve = reserve_for f.h.reserve size }) left
      (ap (λ (a : Agent Own). own_of a x.row) (accepted-own tells before after kept called h.answered h.given h.entered h.accepted)
      ∙ altered-row u before.pass.agent x.row f.h (number tells before after kept called h.answered h.given h.entered)
      (row-there tells before after kept called h.answered h.given h.entered x.row ∙ row-is tells before x has) (λ c. in_bytes.cut c size) (min z.position size) size)
      f.file_is f.mode_is

  pub flushed-has : HasAnswer tells before after (op.SyncFlush x.row) Gives y
      → StandsForLeft tells after.opening (known after) after.pass.agent (row_left after.rows (op.SyncFlush x.row)) work → HasHandle tells after (record x { work = work })
  unfolding effect
  flushed-has h left =
      let f = facts tells before x has in
      let called = op.SyncFlush x.row in
      let u = t tells before after kept called h.answered h.given h.entered in
      let z = sizes_of u before.pass.agent called in
      left-has (record f.h { cursor = z.position; reserve = 0 }) left
      (ap (λ (a : Agent Own). own_of a x.row) (accepted-own tells before after kept called h.answered h.given h.entered h.accepted)
      ∙ flushed-row u before.pass.agent x.row f.h (number tells before after kept called h.answered h.given h.entered)
      (row-there tells before after kept called h.answered h.given h.entered x.row ∙ row-is tells before x has) z)
      f.file_is f.mode_is

-- ---- whatever was answered

module _ {O T : Type 0} (tells : Type 0) (before after : AgentSeen O) (kept : IsAgent tells before) (later : IsAgent tells after) (x : HandleSeen) (work : WorkingCopy) (has : HasHandle tells before x)
    (Gives : T → Reply → Gift → Type 0) where
  abbrev LeftBy : Op → Type 0
  LeftBy called = StandsForLeft tells after.opening (known after) after.pass.agent (row_left after.rows called) work

  pub read-either : (len : ℕ) (at : Option ℕ) (r : Result T Stop) → Shared tells before after (op.SyncRead x.row len at) Gives r → OnOk r (LeftBy (op.SyncRead x.row len at)) → OnErr r (IsSameCopy x.work work)
      → HasHandle tells after (record x { work = work })
  read-either len at (Ok y) h left same = read-has tells before after kept x work has Gives y len at h left
  read-either len at (Err why) h left same = stopped-has tells before after (op.SyncRead x.row len at) Gives why x work kept later refl h has same

  pub written-either : (bytes : Text) (at : Option ℕ) (r : Result T Stop) → Shared tells before after (op.SyncWrite x.row bytes at) Gives r → OnOk r (LeftBy (op.SyncWrite x.row bytes at)) → OnErr r (IsSameCopy x.work work)
      → HasHandle tells after (record x { work = work })
  written-either bytes at (Ok y) h left same = written-has tells before after kept x work has Gives y bytes at h left
  written-either bytes at (Err why) h left same = stopped-has tells before after (op.SyncWrite x.row bytes at) Gives why x work kept later refl h has same

  pub truncated-either : (size : ℕ) (r : Result T Stop) → Shared tells before after (op.SyncTruncate x.row size) Gives r → OnOk r (LeftBy (op.SyncTruncate x.row size)) → OnErr r (IsSameCopy x.work work)
      → HasHandle tells after (record x { work = work })
  truncated-either size (Ok y) h left same = truncated-has tells before after kept x work has Gives y size h left
  truncated-either size (Err why) h left same = stopped-has tells before after (op.SyncTruncate x.row size) Gives why x work kept later refl h has same

  pub flushed-either : (r : Result T Stop) → Shared tells before after (op.SyncFlush x.row) Gives r → OnOk r (LeftBy (op.SyncFlush x.row)) → OnErr r (IsSameCopy x.work work)
      → HasHandle tells after (record x { work = work })
  flushed-either (Ok y) h left same = flushed-has tells before after kept x work has Gives y h left
  flushed-either (Err why) h left same = stopped-has tells before after (op.SyncFlush x.row) Gives why x work kept later refl h has same

-- ---- what they answer

pub read-told : (n len : ℕ) (at : Option ℕ) → IsAnsweredBy (op.SyncRead n len at) IsRead
unfolding answer
read-told n len at s z k = (_, refl)

pub write-told : (n : ℕ) (bytes : Text) (at : Option ℕ) → IsAnsweredBy (op.SyncWrite n bytes at) IsLength
unfolding answer
write-told n bytes at s z k = (_, refl)

pub truncate-done : (n size : ℕ) → IsAnsweredBy (op.SyncTruncate n size) (λ answered. answered ≡ reply.Done)
unfolding answer
truncate-done n size s z k = refl

pub flush-done : (n : ℕ) → IsAnsweredBy (op.SyncFlush n) (λ answered. answered ≡ reply.Done)
unfolding answer
flush-done n s z k = refl

pub close-done : (n : ℕ) → IsAnsweredBy (op.SyncClose n) (λ answered. answered ≡ reply.Done)
unfolding answer
close-done n s z k = refl

pub open-done : (at : Locator) (m : Mode) → IsAnsweredBy (op.CreateSyncAccessHandle at m) (λ answered. answered ≡ reply.Done)
unfolding answer
open-done at m s z k = refl

-- A call that was done.
abbrev pub IsDone : Unit {0} → Reply → Gift → Type 0
IsDone x answered given = answered ≡ reply.Done

-- ---- a new access handle

module _ {O : Type 0} (tells : Type 0) (before after : AgentSeen O) (kept : IsAgent tells before) (later : IsAgent tells after) (at : Locator) (m : Mode)
    (h : HasAnswer tells before after (op.CreateSyncAccessHandle at m) IsDone tt) where
  abbrev made_in : State Text Own
  made_in = t tells before after kept (op.CreateSyncAccessHandle at m) h.answered h.given h.entered

  abbrev new_row : HandleRow
  new_row = record { file = place_of at; mode = m; cursor = 0; reserve = 0 }

  own-opened : (own_agent after).own ≡ (agent_of made_in before.pass.agent).own ++ own.Handle new_row ∷ []
  unfolding effect
  own-opened =
      ap (λ (a : Agent Own). a.own) (accepted-own tells before after kept (op.CreateSyncAccessHandle at m) h.answered h.given h.entered h.accepted)
      ∙ own-added (with_file made_in (place_of at) (with_lock (want_of m))) before.pass.agent
      (filed made_in before.pass.agent (place_of at) (with_lock (want_of m)) (number tells before after kept (op.CreateSyncAccessHandle at m) h.answered h.given h.entered)) (own.Handle new_row)

  opened-has : (row : ℕ) (file : Locator) (work : WorkingCopy) → row ≡ after.rows → file ≡ at
      → StandsForLeft tells after.opening (known after) after.pass.agent (row_left after.rows (op.CreateSyncAccessHandle at m)) work → HasHandle tells after (record { row = row; file = file; mode = m; work = work })
  opened-has row file work row_is file_is left =
      let last : own_row after row ≡ Some (own.Handle new_row) = ap (own_of (own_agent after)) (row_is ∙ later.made) ∙ last-own (own_agent after) (agent_of made_in before.pass.agent).own (own.Handle new_row) own-opened in
      has-row tells after row file m work new_row
      (subst (λ n. StandsFor tells after.opening (known after) after.pass.agent n work) (sym row_is)
      (left-stands tells after.opening (known after) after.pass.agent after.rows work
      (some-number (own_agent after) after.rows (own.Handle new_row) (ap (own_of (own_agent after)) (sym row_is) ∙ last)) left))
      last (ap place_of (sym file_is)) refl

  pub opened-answer : (row : ℕ) (named file : Locator) (work : WorkingCopy) → row ≡ after.rows → at ≡ named → file ≡ named
      → StandsForLeft tells after.opening (known after) after.pass.agent (row_left after.rows (op.CreateSyncAccessHandle at m)) work
      → HasAnswer tells before after (op.CreateSyncAccessHandle named m) (λ (x : HandleSeen) answered _. (x.row ≡ after.rows) × (x.file ≡ named) × (x.mode ≡ m) × (answered ≡ reply.Done) × HasHandle tells after x)
      (record { row = row; file = file; mode = m; work = work })
  opened-answer row named file work row_is at_is file_is left =
      subst (λ l. HasAnswer tells before after (op.CreateSyncAccessHandle l m) (λ (x : HandleSeen) answered _. (x.row ≡ after.rows) × (x.file ≡ named) × (x.mode ≡ m) × (answered ≡ reply.Done) × HasHandle tells after x)
      (record { row = row; file = file; mode = m; work = work })) at_is
      (record {
        answered = h.answered;
        given = h.given;
        entered = h.entered;
        accepted = h.accepted;
        gives = (row_is, file_is, refl, h.gives, opened-has row file work row_is (file_is ∙ sym at_is) left);
      })

-- ---- ends

pub closed-has : {O : Type 0} (tells : Type 0) (before after : AgentSeen O) (kept : IsAgent tells before) (x : HandleSeen) (row : ℕ) → row ≡ x.row → HasHandle tells before x
    → HasAnswer tells before after (op.SyncClose x.row) IsDone tt → IsClosed tells before after (op.SyncClose x.row) x.row row
unfolding effect
closed-has tells before after kept x row row_is has h =
    let f = facts tells before x has in
    let called = op.SyncClose x.row in
    let u = t tells before after kept called h.answered h.given h.entered in
    let there : own_row after x.row ≡ Some own.ClosedHandle =
    ap (λ (a : Agent Own). own_of a x.row) (accepted-own tells before after kept called h.answered h.given h.entered h.accepted)
    ∙ closed-row u before.pass.agent x.row f.h (number tells before after kept called h.answered h.given h.entered)
    (row-there tells before after kept called h.answered h.given h.entered x.row ∙ row-is tells before x has)
    in
    record {
      given = h.given;
      entered = subst (λ r. IsEntered tells before after called r h.given) h.gives h.entered;
      same = row_is;
      has = subst (HasClosedHandle after) (sym row_is) there;
    }

was-stopped : {O : Type 0} (tells : Type 0) (before after : AgentSeen O) (called : Op) (why : Stop) → Shared tells before after called IsDone (Err why) → WasStopped tells before after called why
was-stopped tells before after called (stop.No r) h = h
was-stopped tells before after called stop.NoMemory h = h

pub gives-back : {O : Type 0} (tells : Type 0) (before after : AgentSeen O) (called : Op) (why : Stop) (x : HandleSeen) (work : WorkingCopy) → IsAgent tells before → IsAgent tells after → asks_nobody called ≡ true
    → Shared tells before after called IsDone (Err why) → HasHandle tells before x → IsSameCopy x.work work → GivesBack tells before after called x (record x { work = work }) why
gives-back tells before after called why x work kept later nobody h has same = record {
  stopped = was-stopped tells before after called why h;
  row = refl;
  file = refl;
  mode = refl;
  copy = same;
  open_still = stopped-has tells before after called IsDone why x work kept later nobody h has same;
}

-- A discard is never refused.
module _ {O : Type 0} (tells : Type 0) (before after : AgentSeen O) (kept : IsAgent tells before) (x : HandleSeen) (has : HasHandle tells before x) (answered : Reply) (given : Gift)
    (e : IsEntered tells before after (op.Discard x.row) answered given) where
  abbrev in_turn : State Text Own
  in_turn = s tells before after kept (op.Discard x.row) answered given e

  discard-done : answered ≡ reply.Done
  unfolding answer is_disk_op ruling
  discard-done = sure-answer tells before after kept (op.Discard x.row) answered given e refl refl refl

  pub discarded-has : (row : ℕ) → row ≡ x.row → IsClosed tells before after (op.Discard x.row) x.row row
  unfolding effect
  discarded-has row row_is =
      let f = facts tells before x has in
      let u = t tells before after kept (op.Discard x.row) answered given e in
      let there : own_row after x.row ≡ Some own.ClosedHandle =
      ap (λ (a : Agent Own). own_of a x.row) (accepted-own tells before after kept (op.Discard x.row) answered given e (ap is_refusal discard-done))
      ∙ discarded-row u before.pass.agent x.row f.h (number tells before after kept (op.Discard x.row) answered given e)
      (row-there tells before after kept (op.Discard x.row) answered given e x.row ∙ row-is tells before x has)
      in
      record {
        given = given;
        entered = subst (λ r. IsEntered tells before after (op.Discard x.row) r given) discard-done e;
        same = row_is;
        has = subst (HasClosedHandle after) (sym row_is) there;
      }
