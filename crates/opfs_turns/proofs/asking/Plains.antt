-- Local calls, by their word: that they are local, and what they answer.
use Rattle.std.proofs.Common.{◌≡◌, ℕ, ◌-◌, min, Bool, true, [], ◌∷◌, ◌++◌, length, replicate, drop, Ok, Err, Option, None, refl, sym, ap, ◌∙◌, subst, arith}
use Rattle.std.proofs.lemmas.Bool.{false≢true}
use Rattle.std.proofs.lemmas.List.{length-append, length-take, length-drop}
use Rattle.opfs_base.specs.Places.{resolved, same_locator}
use Rattle.opfs_base.specs.Texts.{Text}
use Rattle.opfs_base.specs.declared.locator.Locator.{Locator}
use Rattle.opfs_hist.specs.declared.op.Op.{Op}
use Rattle.opfs_hist.specs.declared.op.Op.TheVariants as op
use Rattle.opfs_hist.specs.declared.op.Word.{Word}
use Rattle.opfs_hist.specs.declared.reply.Refusal.TheVariants as refusal
use Rattle.opfs_hist.specs.declared.reply.Reply.{Reply}
use Rattle.opfs_hist.specs.declared.reply.Reply.TheVariants as reply
use Rattle.opfs_machine.specs.declared.own.HandleOutline.{HandleOutline}
use Rattle.opfs_machine.specs.declared.own.StreamOutline.{StreamOutline}
use Rattle.opfs_machine.specs.declared.own.Own.{Own}
use Rattle.opfs_machine.specs.declared.state.State.{State}
use Rattle.opfs_machine.specs.Agents.{agent_of, open_stream, open_handle, stream_in, handle_in, of_row, adds_own, counted}
use Rattle.opfs_machine.specs.Contents.{in_bytes, outline_of}
use Rattle.opfs_machine.specs.Effects.{effect}
use Rattle.opfs_machine.specs.declared.state.Sizes.{Sizes}
use Rattle.opfs_machine.specs.Histories.{may_enter, is_own, is_snapshot, is_stream, is_handle}
use Rattle.opfs_machine.specs.OwnRows.{is_local, fits_stream, is_closed_stream, is_closed_handle}
use Rattle.opfs_machine.specs.Replies.{answer, path_reply, row_named, sizes_of, snapshot_in}
use Rattle.opfs_machine.specs.Ruled.{◌>>=◌, some_or}
use Rattle.opfs_machine.specs.Rulings.{ruling, stream_ruling, grow_stream_ruling, handle_ruling, grow_handle_ruling, reserve_for, size_written}
use Rattle.opfs_machine.specs.Steps.{step}
use Rattle.opfs_machine.specs.Sums.{no_need, keeps_blocks}
use Rattle.opfs_splice.specs.Splicing.{window}
use Rattle.opfs_laws.specs.Histories.Unread.{unread}
use Rattle.opfs_laws.proofs.Local.{grown}
use Rattle.opfs_laws.proofs.Numbers.{number-of}
use Rattle.opfs_turns.specs.Agents.{AgentSeen, IsAgent, state_of}
use Rattle.opfs_turns.specs.Calls.{IsLocal}
use Rattle.opfs_turns.specs.Asking.Locals.{is_stream_op, is_handle_op}
use Rattle.opfs_turns.specs.Asking.Rows.{HasSnapshot, HasClosedStream, HasClosedHandle, SnapshotSeen}
use Rattle.opfs_turns.proofs.asking.Granted.{granted-answer, granted-after, denied, local-call, plain-call}
use Rattle.opfs_turns.proofs.asking.RowsAfter.{own-added}

-- As many bytes are in the windows of as many bytes.
pub window-length : (bytes : Text) (at len : ℕ) → length (window bytes at len) ≡ min len (length bytes - at)
window-length bytes at len = length-take len (drop at bytes) ∙ ap (min len) (length-drop at bytes)

pub windows-alike : (a b : Text) (at len : ℕ) → length a ≡ length b → length (window a at len) ≡ length (window b at len)
windows-alike a b at len same = window-length a at len ∙ ap (λ n. min len (n - at)) same ∙ sym (window-length b at len)

pub reads-alike : (a b : Text) → length a ≡ length b → unread (reply.Read a) ≡ unread (reply.Read b)
reads-alike a b same = ap (λ n. reply.Read (replicate n 0)) same

module _ {O : Type 0} (tells : Type 0) (a : AgentSeen O) (kept : IsAgent tells a) where
  abbrev s : State Text Own
  s = state_of a

  abbrev k : ℕ
  k = a.pass.agent

  pub moment-local : (ms : ℕ) → IsLocal tells a (op.Moment ms) reply.Done 0
  unfolding is_local may_enter ruling answer
  moment-local ms = plain-call tells a kept (op.Moment ms) refl refl reply.Done refl (sym (granted-answer s k (op.Moment ms) refl))

  pub resolve-local : (dir entry : Locator) (r : Reply) → r ≡ path_reply (resolved dir entry) → IsLocal tells a (op.Resolve dir entry) r 0
  unfolding is_local may_enter ruling answer
  resolve-local dir entry r is = plain-call tells a kept (op.Resolve dir entry) refl refl r refl (is ∙ sym (granted-answer s k (op.Resolve dir entry) refl))

  pub same-local : (entry other : Locator) (flag : Bool) → flag ≡ same_locator entry other → IsLocal tells a (op.IsSameEntry entry other) (reply.Flag flag) 0
  unfolding is_local may_enter ruling answer
  same-local entry other flag is =
      plain-call tells a kept (op.IsSameEntry entry other) refl refl (reply.Flag flag) refl (ap reply.Flag is ∙ sym (granted-answer s k (op.IsSameEntry entry other) refl))

  pub unbound-local : (word : Word) → IsLocal tells a (op.Unbound word) (reply.No refusal.Unbound) 0
  unfolding is_local may_enter ruling
  unbound-local word = plain-call tells a kept (op.Unbound word) refl refl (reply.No refusal.Unbound) refl (sym (denied s k (op.Unbound word) refusal.Unbound refl))

  values-granted : (dir : Locator) → ruling in_bytes s (sizes_of s k (op.Values dir)) k (op.Values dir) ≡ Ok no_need
  unfolding ruling
  values-granted dir = refl

  pub values-after : (dir : Locator) → (step s k (op.Values dir)).after ≡ counted (adds_own s k (in_bytes.iterator dir)) k
  unfolding ruling effect
  values-after dir = granted-after s k (op.Values dir) (values-granted dir)

  pub values-own : (dir : Locator) → (agent_of (step s k (op.Values dir)).after k).own ≡ (agent_of s k).own ++ in_bytes.iterator dir ∷ []
  values-own dir = ap (λ t. (agent_of t k).own) (values-after dir) ∙ own-added s k (number-of s k kept.live) (in_bytes.iterator dir)

  pub values-local : (dir : Locator) → is_own s k dir ≡ true → IsLocal tells a (op.Values dir) reply.Done 1
  unfolding is_local may_enter ruling answer
  values-local dir mine =
      let is = sym (granted-answer s k (op.Values dir) (values-granted dir)) in
      let count = ap length (values-own dir) ∙ length-append (agent_of s k).own (in_bytes.iterator dir ∷ []) in
      record { local = refl; fitting = mine; alike = ap unread is; told = λ told. is; rows = omega (arith, count, kept.made) }

  pub slice-local : (x : SnapshotSeen) (at len : ℕ) (bytes : Text) → HasSnapshot tells a x → bytes ≡ window x.bytes at len → IsLocal tells a (op.Slice x.row at len) (reply.Read bytes) 0
  unfolding is_local may_enter ruling answer
  slice-local x at len bytes has is =
      let told : (step s k (op.Slice x.row at len)).answered ≡ reply.Read (window has.bytes at len) =
      granted-answer s k (op.Slice x.row at len) refl ∙ ap (λ r. reply.Read (window (snapshot_in r) at len)) has.there
      in
      local-call tells a kept (op.Slice x.row at len) refl (ap is_snapshot has.there) (reply.Read bytes) refl
      (reads-alike bytes (window has.bytes at len) (ap length is ∙ windows-alike x.bytes has.bytes at len has.size) ∙ ap unread (sym told))
      (λ tell. ap reply.Read (is ∙ ap (λ b. window b at len) (has.told tell)) ∙ sym told)

  -- ---- what is closed

  no-stream : (n : ℕ) → HasClosedStream a n → open_stream in_bytes s k n ≡ None
  no-stream n closed = ap (of_row (λ r. stream_in (outline_of r))) closed

  no-handle : (n : ℕ) → HasClosedHandle a n → open_handle in_bytes s k n ≡ None
  no-handle n closed = ap (of_row (λ r. handle_in (outline_of r))) closed

  shut : (n : ℕ) → HasClosedStream a n → stream_ruling in_bytes s k n ≡ Err refusal.TypeError
  unfolding stream_ruling ◌>>=◌
  shut n closed = ap (λ (o : Option StreamOutline). some_or o refusal.TypeError >>= (λ w. Ok no_need)) (no-stream n closed)

  shut-grow : (n size : ℕ) → HasClosedStream a n → grow_stream_ruling in_bytes s k n size ≡ Err refusal.TypeError
  unfolding grow_stream_ruling ◌>>=◌
  shut-grow n size closed = ap (λ (o : Option StreamOutline). some_or o refusal.TypeError >>= (λ w. Ok (keeps_blocks (reserve_for w.reserve size - w.reserve)))) (no-stream n closed)

  shut-handle : (n : ℕ) → HasClosedHandle a n → handle_ruling in_bytes s k n ≡ Err refusal.InvalidStateError
  unfolding handle_ruling ◌>>=◌
  shut-handle n closed = ap (λ (o : Option HandleOutline). some_or o refusal.InvalidStateError >>= (λ h. Ok no_need)) (no-handle n closed)

  shut-handle-grow : (z : Sizes) (n size : ℕ) → HasClosedHandle a n → grow_handle_ruling in_bytes s z k n size ≡ Err refusal.InvalidStateError
  unfolding grow_handle_ruling ◌>>=◌
  shut-handle-grow z n size closed = ap (λ (o : Option HandleOutline). some_or o refusal.InvalidStateError >>= grown s z size) (no-handle n closed)

  pub closed-stream-local : (n : ℕ) (o : Op) → HasClosedStream a n → is_stream_op o ≡ true → row_named o ≡ n → IsLocal tells a o (reply.No refusal.TypeError) 0
  unfolding is_local may_enter ruling
  closed-stream-local n (op.Write m bytes position) has is same =
      let closed : HasClosedStream a m = subst (HasClosedStream a) (sym same) has in
      let o = op.Write m bytes position in
      plain-call tells a kept o (ap (λ r. fits_stream r (size_written (sizes_of s k o) position bytes)) closed) (ap is_stream closed) (reply.No refusal.TypeError) refl
      (sym (denied s k o refusal.TypeError (shut-grow m (size_written (sizes_of s k o) position bytes) closed)))
  closed-stream-local n (op.Seek m position) has is same =
      let closed : HasClosedStream a m = subst (HasClosedStream a) (sym same) has in
      plain-call tells a kept (op.Seek m position) refl (ap is_stream closed) (reply.No refusal.TypeError) refl (sym (denied s k (op.Seek m position) refusal.TypeError (shut m closed)))
  closed-stream-local n (op.Truncate m size) has is same =
      let closed : HasClosedStream a m = subst (HasClosedStream a) (sym same) has in
      plain-call tells a kept (op.Truncate m size) (ap (λ r. fits_stream r size) closed) (ap is_stream closed) (reply.No refusal.TypeError) refl
      (sym (denied s k (op.Truncate m size) refusal.TypeError (shut-grow m size closed)))
  closed-stream-local n (op.Close m) has is same =
      let closed : HasClosedStream a m = subst (HasClosedStream a) (sym same) has in
      plain-call tells a kept (op.Close m) (ap is_closed_stream closed) (ap is_stream closed) (reply.No refusal.TypeError) refl (sym (denied s k (op.Close m) refusal.TypeError (shut m closed)))
  closed-stream-local n (op.Abort m) has is same =
      let closed : HasClosedStream a m = subst (HasClosedStream a) (sym same) has in
      plain-call tells a kept (op.Abort m) (ap is_closed_stream closed) (ap is_stream closed) (reply.No refusal.TypeError) refl (sym (denied s k (op.Abort m) refusal.TypeError (shut m closed)))
  closed-stream-local n o has is same = absurd (false≢true is)

  pub closed-handle-local : (n : ℕ) (o : Op) → HasClosedHandle a n → is_handle_op o ≡ true → row_named o ≡ n → IsLocal tells a o (reply.No refusal.InvalidStateError) 0
  unfolding is_local may_enter ruling
  closed-handle-local n (op.SyncRead m len at) has is same =
      let closed : HasClosedHandle a m = subst (HasClosedHandle a) (sym same) has in
      plain-call tells a kept (op.SyncRead m len at) refl (ap is_handle closed) (reply.No refusal.InvalidStateError) refl (sym (denied s k (op.SyncRead m len at) refusal.InvalidStateError (shut-handle m closed)))
  closed-handle-local n (op.SyncWrite m bytes at) has is same =
      let closed : HasClosedHandle a m = subst (HasClosedHandle a) (sym same) has in
      let o = op.SyncWrite m bytes at in
      plain-call tells a kept o (ap is_closed_handle closed) (ap is_handle closed) (reply.No refusal.InvalidStateError) refl
      (sym (denied s k o refusal.InvalidStateError (shut-handle-grow (sizes_of s k o) m (size_written (sizes_of s k o) at bytes) closed)))
  closed-handle-local n (op.SyncTruncate m size) has is same =
      let closed : HasClosedHandle a m = subst (HasClosedHandle a) (sym same) has in
      let o = op.SyncTruncate m size in
      plain-call tells a kept o (ap is_closed_handle closed) (ap is_handle closed) (reply.No refusal.InvalidStateError) refl
      (sym (denied s k o refusal.InvalidStateError (shut-handle-grow (sizes_of s k o) m size closed)))
  closed-handle-local n (op.SyncGetSize m) has is same =
      let closed : HasClosedHandle a m = subst (HasClosedHandle a) (sym same) has in
      plain-call tells a kept (op.SyncGetSize m) refl (ap is_handle closed) (reply.No refusal.InvalidStateError) refl (sym (denied s k (op.SyncGetSize m) refusal.InvalidStateError (shut-handle m closed)))
  closed-handle-local n (op.SyncFlush m) has is same =
      let closed : HasClosedHandle a m = subst (HasClosedHandle a) (sym same) has in
      plain-call tells a kept (op.SyncFlush m) (ap is_closed_handle closed) (ap is_handle closed) (reply.No refusal.InvalidStateError) refl (sym (denied s k (op.SyncFlush m) refusal.InvalidStateError (shut-handle m closed)))
  closed-handle-local n o has is same = absurd (false≢true is)

  pub closed-again-local : (n : ℕ) → HasClosedHandle a n → IsLocal tells a (op.SyncClose n) reply.Done 0
  unfolding is_local may_enter ruling answer
  closed-again-local n closed =
      plain-call tells a kept (op.SyncClose n) (ap is_closed_handle closed) (ap is_handle closed) reply.Done refl (sym (granted-answer s k (op.SyncClose n) refl))
