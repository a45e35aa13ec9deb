-- What each call on an access handle leaves of its file.
use Rattle.std.proofs.Common.{◌≡◌, ℕ, ◌+◌, min, true, false, List, [], ◌∷◌, ◌++◌, append-nil, length, replicate, Option, Some, Result, Ok, Err, IfOk, IfErr, OnOk, OnErr, refl, sym, ap, ◌∙◌, subst, inl, inr, arith}
use Rattle.std.proofs.lemmas.List.{length-replicate}
use Rattle.std.proofs.lemmas.List.Sums.{fold-append}
use Rattle.opfs_store.specs.declared.acts.acted.Gift.{Gift}
use Rattle.opfs_base.specs.Places.{place_of}
use Rattle.opfs_base.specs.Texts.{Text}
use Rattle.opfs_turns.specs.Asking.Answers.{HasAnswer, Shared}
use Rattle.opfs_turns.specs.Asking.Locals.{IsMade, Local}
use Rattle.opfs_turns.specs.Asking.Rows.{HandleSeen, HasHandle}
use Rattle.opfs_turns.specs.declared.asking.stop.Stop.{Stop}
use Rattle.opfs_turns.specs.declared.asking.stop.Stop.TheVariants as stop
use Rattle.opfs_turns.proofs.asking.Answered.{real_answered}
use Rattle.opfs_turns.proofs.asking.Entered.{s}
use Rattle.opfs_turns.proofs.asking.Granted.{granted-answer}
use Rattle.opfs_turns.proofs.asking.RowsAfter.{some-same}
use Rattle.opfs_agent.specs.declared.handle_calls.handle.ClosedSync.{ClosedSync}
use Rattle.opfs_agent.specs.HandleCalls.Ends.{GivesBack, IsClosed, WasStopped}
use Rattle.opfs_agent.proofs.handle_calls.Facts.{HandleFacts, facts, row-is}
use Rattle.opfs_hist.specs.Sums.{asks_for_row}
use Rattle.opfs_hist.specs.declared.entry.Entry.{Entry}
use Rattle.opfs_hist.specs.declared.op.Op.{Op}
use Rattle.opfs_hist.specs.declared.op.Op.TheVariants as op
use Rattle.opfs_hist.specs.declared.reply.Refusal.TheVariants as refusal
use Rattle.opfs_hist.specs.declared.reply.Reply.{Reply}
use Rattle.opfs_hist.specs.declared.reply.Reply.TheVariants as reply
use Rattle.opfs_laws.specs.Histories.Unread.{IsTold, unread}
use Rattle.opfs_laws.specs.Leaving.{asks_nobody, row_used}
use Rattle.opfs_machine.specs.declared.own.HandleOutline.{HandleOutline}
use Rattle.opfs_machine.specs.declared.own.Own.{Own}
use Rattle.opfs_machine.specs.declared.own.Own.TheVariants as own
use Rattle.opfs_machine.specs.declared.state.State.{State}
use Rattle.opfs_machine.specs.Agents.{agent_of, own_of, of_row, handle_in, open_handle}
use Rattle.opfs_machine.specs.Changes.{stored_by, changes}
use Rattle.opfs_machine.specs.Contents.{in_bytes, outline_of}
use Rattle.opfs_machine.specs.Effects.{effect}
use Rattle.opfs_machine.specs.Histories.{after_entry, state_after}
use Rattle.opfs_machine.specs.Openings.{begun}
use Rattle.opfs_machine.specs.Replies.{answer, bytes_at, handle_bytes, sizes_of}
use Rattle.opfs_machine.specs.Ruled.{◌>>=◌, some_or}
use Rattle.opfs_machine.specs.Rulings.{handle_ruling, ruling, size_written}
use Rattle.opfs_machine.specs.Steps.{is_refusal, step}
use Rattle.opfs_machine.specs.Sums.{no_need}
use Rattle.opfs_splice.specs.Splicing.{resize, splice, window}
use Rattle.opfs_laws.specs.Steady.Steady.{open_bytes}
use Rattle.opfs_laws.proofs.steady.Others.{bytes-alike}
use Rattle.opfs_turns.specs.Agents.{AgentSeen, IsAgent, known, state_of}
use Rattle.opfs_turns.specs.Calls.{IsEntered, HasLooked, kept_entry}
use Rattle.opfs_turns.proofs.Keeping.{state-after}
use Rattle.opfs_sync_files.specs.Doubts.{DoubtsStore}
use Rattle.opfs_sync_files.specs.Entries.{IsIn, HasEntry, IsCaused, GoesOn, TheCall}
use Rattle.opfs_sync_files.specs.Files.{contents_at, file_bytes, flushed_by, stored_of, written}
use Rattle.opfs_sync_files.specs.Still.{TheBytes, IsStill}
use Rattle.opfs_sync_files.specs.Resting.{LeavesRest}
use Rattle.opfs_sync_files.proofs.Behind.{u, entered-entry, entered-goes, row-here, file-here, bytes-here, refused-bytes, accepted-bytes, refused-stored, accepted-stored, altered-bytes, flushed-bytes, handle-contents, read-leaves, size-leaves}
use Rattle.opfs_sync_files.proofs.Faulted.{Decides, close-decides, local-doubts, shared-doubts}
use Rattle.opfs_sync_files.proofs.Holding.{file_held, held, pending-held}
use Rattle.opfs_sync_files.proofs.Knowing.{in-left, in-right, in-either, in-last, goes-none, goes-most}
use Rattle.opfs_sync_files.proofs.Resting.{rest-entered, rest-local, rest-shared}
use Rattle.opfs_sync_files.proofs.Storing.{told-none}

-- ---- bytes in replies

same-read : (a b : Text) → reply.Read a ≡ reply.Read b → a ≡ b
same-read a b is = ap by is
  where
    by : Reply → Text
    by (reply.Read bytes) = bytes
    by r = a

long-read : (a b : Text) → unread (reply.Read a) ≡ unread (reply.Read b) → length a ≡ length b
long-read a b is = sym (length-replicate (length a) 0) ∙ ap length (same-read (replicate (length a) 0) (replicate (length b) 0) is) ∙ length-replicate (length b) 0

-- What a read's answer is, in a state where the row is an access handle.
module _ (v : State Text Own) (k n : ℕ) (h : _) (is : own_of (agent_of v k) n ≡ Some (own.Handle h)) (len at : ℕ) where
  abbrev reads : Op
  reads = op.SyncRead n len (Some at)

  opened-at : open_handle in_bytes v k n ≡ Some (record { file = h.file; mode = h.mode; reserve = h.reserve })
  opened-at = ap (of_row (λ r. handle_in (outline_of r))) is

  pub read-answer : answer v (sizes_of v k (op.SyncRead n len (Some at))) k (op.SyncRead n len (Some at)) ≡ reply.Read (window (bytes_at v h.file) at len)
  unfolding answer
  read-answer = ap (λ (o : Option HandleOutline). reply.Read (window (handle_bytes v o) at len)) opened-at

  read-ruled : ruling in_bytes v (sizes_of v k (op.SyncRead n len (Some at))) k (op.SyncRead n len (Some at)) ≡ Ok no_need
  unfolding ruling handle_ruling ◌>>=◌
  read-ruled = ap (λ (o : Option HandleOutline). some_or o refusal.InvalidStateError >>= (λ x. Ok no_need)) opened-at

  pub step-reads : (step v k (op.SyncRead n len (Some at))).answered ≡ reply.Read (window (bytes_at v h.file) at len)
  step-reads = granted-answer v k (op.SyncRead n len (Some at)) read-ruled ∙ read-answer

module _ {O : Type 0} (tells : Type 0) (before after : AgentSeen O) (kept : IsAgent tells before) (later : IsAgent tells after) where
  abbrev k : ℕ
  k = before.pass.agent

  -- ---- nothing was entered

  looked-goes : HasLooked before after → GoesOn before after 1
  looked-goes l = record {
    hall = ap (λ (a : AgentSeen O). a.pass.hall) l.rest;
    agent = ap (λ (a : AgentSeen O). a.pass.agent) l.rest;
    opening_is = ap (λ (a : AgentSeen O). a.opening) l.rest;
    rows = ap (λ (a : AgentSeen O). a.rows) l.rest;
    entries = let is = ap (λ (a : AgentSeen O). a.entries) l.rest in omega (arith, is);
    number = let is = ap (λ (a : AgentSeen O). a.number) l.rest in omega (arith, is);
    knows = λ x h.
        subst (IsIn x) (λ i. sym l.grown i ++ ap (λ (a : AgentSeen O). a.pending) (sym l.rest) i)
        (elim (in-either x before.pass.base before.pending h) as (λ c. IsIn x ((before.pass.base ++ l.others) ++ before.pending)) [
          | inl a ↦ in-left x (before.pass.base ++ l.others) before.pending (in-left x before.pass.base l.others a)
          | inr b ↦ in-right x (before.pass.base ++ l.others) before.pending b
        ]);
    newer = l.others;
    grown = l.grown;
  }

  -- ---- a local call

  module _ (called : Op) (answered : Reply) (h : IsMade tells before after called answered 0) where
    pub made-state : state_of after ≡ after_entry (state_of before) (kept_entry before called answered)
    made-state = ap state_of h.kept ∙ state-after tells before kept called answered 0 h.local

    made-known : known after ≡ before.pass.base ++ (before.pending ++ kept_entry before called answered ∷ [])
    made-known = ap known h.kept

    pub made-goes : GoesOn before after 1
    made-goes = record {
      hall = ap (λ (a : AgentSeen O). a.pass.hall) h.kept;
      agent = ap (λ (a : AgentSeen O). a.pass.agent) h.kept;
      opening_is = ap (λ (a : AgentSeen O). a.opening) h.kept;
      rows = let is = ap (λ (a : AgentSeen O). a.rows) h.kept in omega (arith, is);
      entries = let is = ap (λ (a : AgentSeen O). a.entries) h.kept in omega (arith, is);
      number = let is = ap (λ (a : AgentSeen O). a.number) h.kept in omega (arith, is);
      knows = λ x in_known. subst (IsIn x) (sym made-known) (elim (in-either x before.pass.base before.pending in_known) as (λ c. IsIn x (before.pass.base ++ (before.pending ++ kept_entry before called answered ∷ []))) [
        | inl a ↦ in-left x before.pass.base (before.pending ++ kept_entry before called answered ∷ []) a
        | inr b ↦ in-right x before.pass.base (before.pending ++ kept_entry before called answered ∷ []) (in-left x before.pending (kept_entry before called answered ∷ []) b)
      ]);
      newer = [];
      grown = ap (λ (a : AgentSeen O). a.pass.base) h.kept ∙ sym (append-nil before.pass.base);
    }

    pub made-entry : HasEntry before after (TheCall called) answered
    made-entry = record {
      entry = kept_entry before called answered;
      there = subst (IsIn (kept_entry before called answered)) (sym made-known) (in-right _ before.pass.base _ (in-last _ before.pending));
      mine = refl;
      added = omega arith;
      asked = refl;
      told = refl;
    }

    pub made-stored : (x : HandleSeen) (y : HandleSeen) → y.file ≡ x.file → stored_of after y ≡ stored_of before x
    made-stored x y same = (λ i. contents_at (place_of (same i)) (changes (h.kept i).opening (h.kept i).pass.base))

  -- ---- whatever was answered

  pub shared-goes : {T : Type 0} (called : Op) (Gives : T → Reply → Gift → Type 0) (r : Result T Stop) → asks_for_row called ≡ false → Shared tells before after called Gives r → GoesOn before after 1
  shared-goes called Gives (Ok x) none h = entered-goes tells before after kept later called h.answered h.given h.entered none
  shared-goes called Gives (Err (stop.No r)) none h = entered-goes tells before after kept later called (reply.No r) h.given h.entered none
  shared-goes called Gives (Err stop.NoMemory) none h = looked-goes h

  pub shared-caused : {T : Type 0} (called : Op) (Gives : T → Reply → Gift → Type 0) (why : Stop) → Shared tells before after called Gives (Err why) → IsCaused before after (TheCall called) why
  shared-caused called Gives (stop.No r) h = entered-entry tells before after kept later called (reply.No r) h.given h.entered
  shared-caused called Gives stop.NoMemory h = tt

  pub local-goes : {T : Type 0} (called : Op) (Gives : T → Reply → Type 0) (r : Result T Stop) → Local tells before after called 0 Gives r → GoesOn before after 1
  local-goes called Gives (Ok x) h = made-goes called h.answered h.entered
  local-goes called Gives (Err (stop.No r)) h = made-goes called (reply.No r) h
  local-goes called Gives (Err stop.NoMemory) h = subst (λ a. GoesOn before a 1) (sym h) (goes-most before before 0 1 (omega arith) (goes-none before))

  pub local-caused : {T : Type 0} (called : Op) (Gives : T → Reply → Type 0) (why : Stop) → Local tells before after called 0 Gives (Err why) → IsCaused before after (TheCall called) why
  local-caused called Gives (stop.No r) h = made-entry called (reply.No r) h
  local-caused called Gives stop.NoMemory h = tt

  pub local-stored : {T : Type 0} (called : Op) (Gives : T → Reply → Type 0) (r : Result T Stop) (x y : HandleSeen) → y.file ≡ x.file → Local tells before after called 0 Gives r → stored_of after y ≡ stored_of before x
  local-stored called Gives (Ok v) x y same h = made-stored called h.answered h.entered x y same
  local-stored called Gives (Err (stop.No r)) x y same h = made-stored called (reply.No r) h x y same
  local-stored called Gives (Err stop.NoMemory) x y same h = λ i. contents_at (place_of (same i)) (changes (h i).opening (h i).pass.base)

  pub shared-cause : {T : Type 0} (called : Op) (Gives : T → Reply → Gift → Type 0) (r : Result T Stop) → Shared tells before after called Gives r → IfErr r (IsCaused before after (TheCall called))
  shared-cause called Gives (Ok v) h = tt
  shared-cause called Gives (Err why) h = shared-caused called Gives why h

  pub local-cause : {T : Type 0} (called : Op) (Gives : T → Reply → Type 0) (r : Result T Stop) → Local tells before after called 0 Gives r → IfErr r (IsCaused before after (TheCall called))
  local-cause called Gives (Ok v) h = tt
  local-cause called Gives (Err why) h = local-caused called Gives why h

  abbrev IsSame : HandleSeen → HandleSeen → Type 0
  IsSame x y = (y.row ≡ x.row) × (y.file ≡ x.file) × (y.mode ≡ x.mode)

  pub shared-still : {T : Type 0} (called : Op) (Gives : T → Reply → Gift → Type 0) (r : Result T Stop) → asks_for_row called ≡ false → Shared tells before after called Gives r → (x y : HandleSeen) → row_used called ≡ x.row → HasHandle tells after y → IsSame x y
      → HasHandle tells before x → (May : Text → Type 0) → Decides before x May called → IsStill tells before after x y May
  shared-still called Gives r none h x y used has same had May decides = record {
    has = has;
    row = same.0;
    file = same.1;
    mode_is = same.2;
    goes = shared-goes called Gives r none h;
    others = subst (LeavesRest tells before after) used (rest-shared tells before after kept later called Gives r h);
    doubts = shared-doubts tells before kept x had May after later called Gives r decides h;
  }

  pub local-still : {T : Type 0} (called : Op) (Gives : T → Reply → Type 0) (r : Result T Stop) → Local tells before after called 0 Gives r → (x y : HandleSeen) → row_used called ≡ x.row → HasHandle tells after y → IsSame x y
      → (May : Text → Type 0) → IsStill tells before after x y May
  local-still called Gives r h x y used has same May = record {
    has = has;
    row = same.0;
    file = same.1;
    mode_is = same.2;
    goes = local-goes called Gives r h;
    others = subst (LeavesRest tells before after) used (rest-local tells before after kept later called Gives r h);
    doubts = λ tell. local-doubts tells before after called Gives r (place_of x.file) May h;
  }

  module _ (x : HandleSeen) (has : HasHandle tells before x) (y : HandleSeen) (same : y.file ≡ x.file) where
    abbrev f : HandleFacts tells (state_of before) has.stands.row x.work x.file x.mode
    f = facts tells before x has

    looked-row : HasLooked before after → own_of (agent_of (state_of after) k) x.row ≡ Some (own.Handle f.h)
    looked-row l = ap (λ v. own_of v.0 x.row) l.own ∙ row-is tells before x has

    looked-bytes : HasLooked before after → bytes_at (state_of after) f.h.file ≡ bytes_at (state_of before) f.h.file
    looked-bytes l =
        some-same
        (sym (ap (open_bytes (state_of after)) (looked-row l))
        ∙ bytes-alike (state_of after) (state_of before) k x.row (ap (λ v. v.1) l.own)
        ∙ ap (open_bytes (state_of before)) (row-is tells before x has))

    here : (b : Text) → bytes_at (state_of after) f.h.file ≡ b → file_bytes after y ≡ b
    here b is = ap (λ l. bytes_at (state_of after) (place_of l)) same ∙ ap (bytes_at (state_of after)) (sym f.file_is) ∙ is

    there : bytes_at (state_of before) f.h.file ≡ file_bytes before x
    there = ap (bytes_at (state_of before)) f.file_is

    looked-stored : HasLooked before after → stored_of after y ≡ stored_of before x
    looked-stored l =
        let opening : after.opening ≡ before.opening = ap (λ (a : AgentSeen O). a.opening) l.rest in
        let told : IsTold tells before.opening (before.pass.base ++ l.others) = subst (IsTold tells before.opening) l.grown (subst (λ o. IsTold tells o after.pass.base) opening later.legal) in
        let waits : held (state_after before.opening before.pass.base) k x.row ≡ Some f.h.file =
        sym (pending-held tells (state_after before.opening before.pass.base) k x.row before.pending kept.local)
        ∙ ap (λ v. held v k x.row) (sym (fold-append after_entry (begun before.opening) before.pass.base before.pending))
        ∙ ap (of_row file_held) (row-is tells before x has)
        in
        (λ i. contents_at (place_of (same i)) (changes (opening i) (l.grown i)))
        ∙ ap (λ p. contents_at p (changes before.opening (before.pass.base ++ l.others))) (sym f.file_is)
        ∙ told-none tells before.opening f.h.file k x.row before.pass.base l.others told l.apart waits
        ∙ ap (λ p. contents_at p (changes before.opening before.pass.base)) f.file_is

    -- What gives nothing leaves the file.
    pub stopped-bytes : {T : Type 0} (called : Op) (Gives : T → Reply → Gift → Type 0) (why : Stop) → asks_nobody called ≡ true → Shared tells before after called Gives (Err why) → file_bytes after y ≡ file_bytes before x
    stopped-bytes called Gives (stop.No r) nobody h = here (file_bytes before x) (refused-bytes tells before after kept later called (reply.No r) h.given h.entered x has refl nobody ∙ there)
    stopped-bytes called Gives stop.NoMemory nobody h = here (file_bytes before x) (looked-bytes h ∙ there)

    pub stopped-stored : {T : Type 0} (called : Op) (Gives : T → Reply → Gift → Type 0) (why : Stop) → Shared tells before after called Gives (Err why) → stored_of after y ≡ stored_of before x
    stopped-stored called Gives (stop.No r) h = refused-stored tells before after kept later called (reply.No r) h.given h.entered x has y same refl
    stopped-stored called Gives stop.NoMemory h = looked-stored h

    -- ---- write

    module _ {T : Type 0} (Gives : T → Reply → Gift → Type 0) (bytes : Text) (at : ℕ) where
      pub wrote-bytes : (r : Result T Stop) → Shared tells before after (op.SyncWrite x.row bytes (Some at)) Gives r → OnOk r (file_bytes after y ≡ splice (file_bytes before x) at bytes)
      unfolding effect
      wrote-bytes (Ok v) h =
          let e = h.entered in
          let called = op.SyncWrite x.row bytes (Some at) in
          let w = u tells before after kept later called h.answered h.given e in
          let z = sizes_of w k called in
          let g = file-here tells before after kept later called h.answered h.given e x has in
          here (splice (file_bytes before x) at bytes)
          (accepted-bytes tells before after kept later called h.answered h.given e x has h.accepted
          ∙ altered-bytes w k x.row f.h g.0 (row-here tells before after kept later called h.answered h.given e x has) g.1 (λ c. splice c at bytes) (at + length bytes) (size_written z (Some at) bytes)
          ∙ ap (λ c. splice c at bytes) (bytes-here tells before after kept later called h.answered h.given e x has ∙ there))
      wrote-bytes (Err why) h = tt

      pub wrote-same : (r : Result T Stop) → Shared tells before after (op.SyncWrite x.row bytes (Some at)) Gives r → OnErr r (file_bytes after y ≡ file_bytes before x)
      wrote-same (Ok v) h = tt
      wrote-same (Err why) h = stopped-bytes (op.SyncWrite x.row bytes (Some at)) Gives why refl h

      pub wrote-stored : (r : Result T Stop) → Shared tells before after (op.SyncWrite x.row bytes (Some at)) Gives r → stored_of after y ≡ stored_of before x
      unfolding stored_by
      wrote-stored (Ok v) h = accepted-stored tells before after kept later (op.SyncWrite x.row bytes (Some at)) h.answered h.given h.entered x has y same h.accepted ∙ append-nil (stored_of before x)
      wrote-stored (Err why) h = stopped-stored (op.SyncWrite x.row bytes (Some at)) Gives why h

    -- ---- truncate

    module _ {T : Type 0} (Gives : T → Reply → Gift → Type 0) (size : ℕ) where
      pub cut-bytes : (r : Result T Stop) → Shared tells before after (op.SyncTruncate x.row size) Gives r → OnOk r (file_bytes after y ≡ resize (file_bytes before x) size)
      unfolding effect
      cut-bytes (Ok v) h =
          let e = h.entered in
          let called = op.SyncTruncate x.row size in
          let w = u tells before after kept later called h.answered h.given e in
          let z = sizes_of w k called in
          let g = file-here tells before after kept later called h.answered h.given e x has in
          here (resize (file_bytes before x) size)
          (accepted-bytes tells before after kept later called h.answered h.given e x has h.accepted
          ∙ altered-bytes w k x.row f.h g.0 (row-here tells before after kept later called h.answered h.given e x has) g.1 (λ c. resize c size) (min z.position size) size
          ∙ ap (λ c. resize c size) (bytes-here tells before after kept later called h.answered h.given e x has ∙ there))
      cut-bytes (Err why) h = tt

      pub cut-same : (r : Result T Stop) → Shared tells before after (op.SyncTruncate x.row size) Gives r → OnErr r (file_bytes after y ≡ file_bytes before x)
      cut-same (Ok v) h = tt
      cut-same (Err why) h = stopped-bytes (op.SyncTruncate x.row size) Gives why refl h

      pub cut-stored : (r : Result T Stop) → Shared tells before after (op.SyncTruncate x.row size) Gives r → stored_of after y ≡ stored_of before x
      unfolding stored_by
      cut-stored (Ok v) h = accepted-stored tells before after kept later (op.SyncTruncate x.row size) h.answered h.given h.entered x has y same h.accepted ∙ append-nil (stored_of before x)
      cut-stored (Err why) h = stopped-stored (op.SyncTruncate x.row size) Gives why h

    -- ---- flush

    module _ {T : Type 0} (Gives : T → Reply → Gift → Type 0) where
      pub flush-same : (r : Result T Stop) → Shared tells before after (op.SyncFlush x.row) Gives r → file_bytes after y ≡ file_bytes before x
      unfolding effect
      flush-same (Ok v) h =
          let e = h.entered in
          let called = op.SyncFlush x.row in
          let w = u tells before after kept later called h.answered h.given e in
          let g = file-here tells before after kept later called h.answered h.given e x has in
          here (file_bytes before x)
          (accepted-bytes tells before after kept later called h.answered h.given e x has h.accepted
          ∙ flushed-bytes w k x.row f.h g.0 (row-here tells before after kept later called h.answered h.given e x has) g.1 (sizes_of w k called)
          ∙ bytes-here tells before after kept later called h.answered h.given e x has
          ∙ there)
      flush-same (Err why) h = stopped-bytes (op.SyncFlush x.row) Gives why refl h

      flushed-all : (called : Op) (answered : Reply) (given : Gift) (e : IsEntered tells before after called answered given) → is_refusal answered ≡ false
          → contents_at f.h.file (stored_by (u tells before after kept later called answered given e) k called) ≡ contents_at f.h.file (stored_by (u tells before after kept later called answered given e) k (op.SyncFlush x.row))
          → stored_of after y ≡ stored_of before x ++ flushed_by x.mode (file_bytes before x)
      unfolding stored_by
      flushed-all called answered given e ok as_flush =
          let w = u tells before after kept later called answered given e in
          let g = file-here tells before after kept later called answered given e x has in
          accepted-stored tells before after kept later called answered given e x has y same ok
          ∙ ap (λ (ts : List Text). stored_of before x ++ ts)
          (as_flush
          ∙ handle-contents w k x.row f.h g.0 (row-here tells before after kept later called answered given e x has) g.1
          ∙ (λ i. flushed_by (f.mode_is i) ((bytes-here tells before after kept later called answered given e x has ∙ there) i)))

      pub flush-stored : (r : Result T Stop) → Shared tells before after (op.SyncFlush x.row) Gives r → OnOk r (stored_of after y ≡ stored_of before x ++ flushed_by x.mode (file_bytes before x))
      flush-stored (Ok v) h = flushed-all (op.SyncFlush x.row) h.answered h.given h.entered h.accepted refl
      flush-stored (Err why) h = tt

      pub flush-unstored : (r : Result T Stop) → Shared tells before after (op.SyncFlush x.row) Gives r → OnErr r (stored_of after y ≡ stored_of before x)
      flush-unstored (Ok v) h = tt
      flush-unstored (Err why) h = stopped-stored (op.SyncFlush x.row) Gives why h

      pub close-stored : (row : ℕ) → IsClosed tells before after (op.SyncClose x.row) x.row row → stored_of after y ≡ stored_of before x ++ flushed_by x.mode (file_bytes before x)
      unfolding stored_by
      close-stored row h = flushed-all (op.SyncClose x.row) reply.Done h.given h.entered refl refl

    -- ---- read

    module _ (len at : ℕ) where
      abbrev ReadTo : Text → Reply → Gift → Type 0
      ReadTo bytes answered given = answered ≡ reply.Read bytes

      abbrev KeptAs : Text → Reply → Type 0
      KeptAs bytes answered = answered ≡ reply.Read bytes

      abbrev part : Text
      part = window (file_bytes before x) at len

      -- The machine's own answer in the turn.
      far-answer : (bytes : Text) (h : HasAnswer tells before after (op.SyncRead x.row len (Some at)) ReadTo bytes) → h.entered.call.real.reply ≡ reply.Read part
      far-answer bytes h =
          let e = h.entered in
          let called = op.SyncRead x.row len (Some at) in
          let v = s tells before after kept called h.answered h.given e in
          let row : own_of (agent_of v k) x.row ≡ Some (own.Handle f.h) = ap (λ w. own_of w.0 x.row) e.own ∙ row-is tells before x has in
          let bytes-in : bytes_at v f.h.file ≡ file_bytes before x =
          some-same
          (sym (ap (open_bytes v) row)
          ∙ bytes-alike v (state_of before) k x.row (ap (λ w. w.1) e.own)
          ∙ ap (open_bytes (state_of before)) (row-is tells before x has))
          ∙ there
          in
          real_answered tells before after called h.answered h.given e h.accepted
          ∙ read-answer v k x.row f.h row len at
          ∙ ap (λ b. reply.Read (window b at len)) bytes-in

      pub far-read : (r : Result Text Stop) → Shared tells before after (op.SyncRead x.row len (Some at)) ReadTo r → IfOk r (λ bytes. tells → bytes ≡ part)
      far-read (Ok bytes) h = λ tell. same-read bytes part (sym h.gives ∙ ap (λ (e : Entry). e.reply) (h.entered.call.told tell) ∙ far-answer bytes h)
      far-read (Err why) h = tt

      pub far-long : (r : Result Text Stop) → Shared tells before after (op.SyncRead x.row len (Some at)) ReadTo r → IfOk r (λ bytes. length bytes ≡ length part)
      far-long (Ok bytes) h = long-read bytes part (ap unread (sym h.gives) ∙ ap (λ (e : Entry). e.reply) h.entered.call.alike ∙ ap unread (far-answer bytes h))
      far-long (Err why) h = tt

      pub far-same : (r : Result Text Stop) → Shared tells before after (op.SyncRead x.row len (Some at)) ReadTo r → file_bytes after y ≡ file_bytes before x
      unfolding effect
      far-same (Ok bytes) h =
          let e = h.entered in
          let called = op.SyncRead x.row len (Some at) in
          let w = u tells before after kept later called h.answered h.given e in
          here (file_bytes before x)
          (accepted-bytes tells before after kept later called h.answered h.given e x has h.accepted
          ∙ read-leaves w k x.row len (Some at) reply.Done f.h.file
          ∙ bytes-here tells before after kept later called h.answered h.given e x has
          ∙ there)
      far-same (Err why) h = stopped-bytes (op.SyncRead x.row len (Some at)) ReadTo why refl h

      pub far-stored : (r : Result Text Stop) → Shared tells before after (op.SyncRead x.row len (Some at)) ReadTo r → stored_of after y ≡ stored_of before x
      unfolding stored_by
      far-stored (Ok bytes) h = accepted-stored tells before after kept later (op.SyncRead x.row len (Some at)) h.answered h.given h.entered x has y same h.accepted ∙ append-nil (stored_of before x)
      far-stored (Err why) h = stopped-stored (op.SyncRead x.row len (Some at)) ReadTo why h

      near-step : (step (state_of before) k (op.SyncRead x.row len (Some at))).answered ≡ reply.Read part
      near-step = step-reads (state_of before) k x.row f.h (row-is tells before x has) len at ∙ ap (λ b. reply.Read (window b at len)) there

      pub near-read : (r : Result Text Stop) → Local tells before after (op.SyncRead x.row len (Some at)) 0 KeptAs r → IfOk r (λ bytes. tells → bytes ≡ part)
      near-read (Ok bytes) h = λ tell. same-read bytes part (sym h.gives ∙ h.entered.local.told tell ∙ near-step)
      near-read (Err why) h = tt

      pub near-long : (r : Result Text Stop) → Local tells before after (op.SyncRead x.row len (Some at)) 0 KeptAs r → IfOk r (λ bytes. length bytes ≡ length part)
      near-long (Ok bytes) h = long-read bytes part (ap unread (sym h.gives) ∙ h.entered.local.alike ∙ ap unread near-step)
      near-long (Err why) h = tt

      made-same : (answered : Reply) → IsMade tells before after (op.SyncRead x.row len (Some at)) answered 0 → file_bytes after y ≡ file_bytes before x
      made-same answered h =
          here (file_bytes before x)
          (ap (λ v. bytes_at v f.h.file) (made-state (op.SyncRead x.row len (Some at)) answered h)
          ∙ read-leaves (state_of before) k x.row len (Some at) answered f.h.file
          ∙ there)

      pub near-same : (r : Result Text Stop) → Local tells before after (op.SyncRead x.row len (Some at)) 0 KeptAs r → file_bytes after y ≡ file_bytes before x
      near-same (Ok bytes) h = made-same h.answered h.entered
      near-same (Err (stop.No r)) h = made-same (reply.No r) h
      near-same (Err stop.NoMemory) h = here (file_bytes before x) (ap (λ (a : AgentSeen O). bytes_at (state_of a) f.h.file) h ∙ there)

    -- ---- getSize

    sized-same : (answered : Reply) → IsMade tells before after (op.SyncGetSize x.row) answered 0 → file_bytes after y ≡ file_bytes before x
    sized-same answered h =
        here (file_bytes before x)
        (ap (λ v. bytes_at v f.h.file) (made-state (op.SyncGetSize x.row) answered h)
        ∙ size-leaves (state_of before) k x.row answered f.h.file
        ∙ there)

    pub size-same : {T : Type 0} (Gives : T → Reply → Type 0) (r : Result T Stop) → Local tells before after (op.SyncGetSize x.row) 0 Gives r → file_bytes after y ≡ file_bytes before x
    size-same Gives (Ok n) h = sized-same h.answered h.entered
    size-same Gives (Err (stop.No r)) h = sized-same (reply.No r) h
    size-same Gives (Err stop.NoMemory) h = here (file_bytes before x) (ap (λ (a : AgentSeen O). bytes_at (state_of a) f.h.file) h ∙ there)

    pub size-is : (n : ℕ) → n ≡ x.work.length → n ≡ length (file_bytes before x)
    size-is n is = is ∙ f.size ∙ ap length there

-- ---- a write, whatever number of bytes it tells

pub written-ok : (r : Result ℕ Stop) (P : Type 0) → OnOk r P → OnOk (written r) P
written-ok (Ok count) P h = h
written-ok (Err why) P h = h

pub written-err : (r : Result ℕ Stop) (P : Type 0) → OnErr r P → OnErr (written r) P
written-err (Ok count) P h = h
written-err (Err why) P h = h

pub written-cause : (r : Result ℕ Stop) (P : Stop → Type 0) → IfErr r P → IfErr (written r) P
written-cause (Ok count) P h = h
written-cause (Err why) P h = h

-- ---- close

abbrev IsAnyDone : Unit {0} → Reply → Gift → Type 0
IsAnyDone v answered given = answered ≡ reply.Done

as-shared : {O : Type 0} (tells : Type 0) (before after : AgentSeen O) (called : Op) (why : Stop) → WasStopped tells before after called why → Shared tells before after called IsAnyDone (Err why)
as-shared tells before after called (stop.No r) h = h
as-shared tells before after called stop.NoMemory h = h

module _ {O : Type 0} (tells : Type 0) (before after : AgentSeen O) (kept : IsAgent tells before) (later : IsAgent tells after) (x : HandleSeen) (has : HasHandle tells before x) where
  abbrev closing : Op
  closing = op.SyncClose x.row

  abbrev Done : Result ClosedSync (HandleSeen × Stop) → Type 0
  Done r = IfOk r (λ closed. IsClosed tells before after (op.SyncClose x.row) x.row closed.row)

  abbrev Back : Result ClosedSync (HandleSeen × Stop) → Type 0
  Back r = IfErr r (λ back. GivesBack tells before after (op.SyncClose x.row) x back.0 back.1)

  pub close-goes : (r : Result ClosedSync (HandleSeen × Stop)) → Done r → Back r → GoesOn before after 1
  close-goes (Ok closed) done back = entered-goes tells before after kept later (op.SyncClose x.row) reply.Done done.given done.entered refl
  close-goes (Err e) done back = shared-goes tells before after kept later (op.SyncClose x.row) IsAnyDone (Err e.1) refl (as-shared tells before after (op.SyncClose x.row) e.1 back.stopped)

  pub close-leaves : (r : Result ClosedSync (HandleSeen × Stop)) → Done r → Back r → LeavesRest tells before after x.row
  close-leaves (Ok closed) done back = rest-entered tells before after kept later (op.SyncClose x.row) reply.Done done.given done.entered
  close-leaves (Err e) done back = rest-shared tells before after kept later (op.SyncClose x.row) IsAnyDone (Err e.1) (as-shared tells before after (op.SyncClose x.row) e.1 back.stopped)

  pub close-stores : (r : Result ClosedSync (HandleSeen × Stop)) → Done r → IfOk r (λ closed. stored_of after x ≡ stored_of before x ++ flushed_by x.mode (file_bytes before x))
  close-stores (Ok closed) done = close-stored tells before after kept later x has x refl IsAnyDone closed.row done
  close-stores (Err e) done = tt

  pub close-doubts : (r : Result ClosedSync (HandleSeen × Stop)) → Done r → IfOk r (λ closed. tells → DoubtsStore before.opening before.pass.base after.pass.base (place_of x.file) (TheBytes (file_bytes before x)))
  close-doubts (Ok closed) done =
      shared-doubts tells before kept x has (TheBytes (file_bytes before x)) after later (op.SyncClose x.row) IsAnyDone (Ok tt) (close-decides before x)
      (record { answered = reply.Done; given = done.given; entered = done.entered; accepted = refl; gives = refl })
  close-doubts (Err e) done = tt

  pub close-still : (r : Result ClosedSync (HandleSeen × Stop)) → Back r → IfErr r (λ back. IsStill tells before after x back.0 (TheBytes (file_bytes before x)))
  close-still (Ok closed) back = tt
  close-still (Err e) back = record {
    has = back.open_still;
    row = back.row;
    file = back.file;
    mode_is = back.mode;
    goes = close-goes (Err e) tt back;
    others = close-leaves (Err e) tt back;
    doubts = shared-doubts tells before kept x has (TheBytes (file_bytes before x)) after later (op.SyncClose x.row) IsAnyDone (Err e.1) (close-decides before x) (as-shared tells before after (op.SyncClose x.row) e.1 back.stopped);
  }

  pub close-same : (r : Result ClosedSync (HandleSeen × Stop)) → Back r → IfErr r (λ back. file_bytes after back.0 ≡ file_bytes before x)
  close-same (Ok closed) back = tt
  close-same (Err e) back = stopped-bytes tells before after kept later x has e.0 back.file (op.SyncClose x.row) IsAnyDone e.1 refl (as-shared tells before after (op.SyncClose x.row) e.1 back.stopped)

  pub close-unstored : (r : Result ClosedSync (HandleSeen × Stop)) → Back r → IfErr r (λ back. stored_of after back.0 ≡ stored_of before x)
  close-unstored (Ok closed) back = tt
  close-unstored (Err e) back = stopped-stored tells before after kept later x has e.0 back.file (op.SyncClose x.row) IsAnyDone e.1 (as-shared tells before after (op.SyncClose x.row) e.1 back.stopped)

  pub close-cause : (r : Result ClosedSync (HandleSeen × Stop)) → Back r → IfErr r (λ back. IsCaused before after (TheCall (op.SyncClose x.row)) back.1)
  close-cause (Ok closed) back = tt
  close-cause (Err e) back = shared-caused tells before after kept later (op.SyncClose x.row) IsAnyDone e.1 (as-shared tells before after (op.SyncClose x.row) e.1 back.stopped)
