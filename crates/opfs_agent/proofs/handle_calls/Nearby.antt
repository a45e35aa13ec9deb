-- Local calls on an access handle.
use Rattle.std.proofs.Common.{◌≡◌, ℕ, ◌+◌, min, false, length, slice_index, unwrap_or, Option, Some, None, Ok, refl, sym, ap, ◌∙◌, subst, arith}
use Rattle.std.proofs.lemmas.List.FromFn.{length-map-range_with_len}
use Rattle.opfs_base.specs.Places.{Place}
use Rattle.opfs_base.specs.Texts.{Text}
use Rattle.opfs_hist.specs.declared.op.Op.{Op}
use Rattle.opfs_hist.specs.declared.op.Op.TheVariants as op
use Rattle.opfs_hist.specs.declared.reply.Refusal.TheVariants as refusal
use Rattle.opfs_hist.specs.declared.reply.Reply.{Reply}
use Rattle.opfs_hist.specs.declared.reply.Reply.TheVariants as reply
use Rattle.opfs_machine.specs.declared.own.HandleOutline.{HandleOutline}
use Rattle.opfs_machine.specs.declared.own.HandleRow.{HandleRow}
use Rattle.opfs_machine.specs.declared.own.Own.{Own}
use Rattle.opfs_machine.specs.declared.own.Own.TheVariants as own
use Rattle.opfs_machine.specs.declared.state.Sizes.{Sizes}
use Rattle.opfs_machine.specs.declared.state.State.{State}
use Rattle.opfs_machine.specs.Agents.{agent_of, own_of, with_own, open_handle, of_row, handle_in}
use Rattle.opfs_machine.specs.Contents.{in_bytes, outline_of, moved_row}
use Rattle.opfs_machine.specs.Effects.{effect, cursor_after_read, with_changed}
use Rattle.opfs_machine.specs.Histories.{may_enter, is_handle}
use Rattle.opfs_machine.specs.OwnRows.{is_local}
use Rattle.opfs_machine.specs.Replies.{answer, bytes_at, handle_bytes, sizes_in, sizes_of}
use Rattle.opfs_machine.specs.Ruled.{◌>>=◌, some_or}
use Rattle.opfs_machine.specs.Rulings.{ruling, handle_ruling, start_of}
use Rattle.opfs_machine.specs.Steps.{is_refusal, step}
use Rattle.opfs_machine.specs.Sums.{no_need, reserve_of}
use Rattle.opfs_splice.specs.Splicing.{window}
use Rattle.opfs_laws.specs.Histories.Unread.{unread}
use Rattle.opfs_laws.proofs.Numbers.{number-of}
use Rattle.opfs_store.specs.Copies.Copies.{IsCopyOf}
use Rattle.opfs_laws.specs.Steady.Steady.{row_bytes, open_bytes}
use Rattle.opfs_turns.specs.Agents.{AgentSeen, IsAgent, state_of}
use Rattle.opfs_turns.specs.Calls.{IsKept, IsLocal}
use Rattle.opfs_work.specs.Pages.{bytes_of, byte_at}
use Rattle.opfs_work.specs.Works.{WorkingCopy, contents, place_in}
use Rattle.opfs_turns.specs.Asking.Locals.{HasLocalAnswer}
use Rattle.opfs_turns.specs.Asking.Rows.{HasHandle, HandleSeen}
use Rattle.opfs_turns.proofs.asking.Granted.{granted-answer, granted-after, local-call, plain-call}
use Rattle.opfs_turns.proofs.asking.Plains.{reads-alike, window-length, windows-alike}
use Rattle.opfs_turns.proofs.asking.Rowed.{kept-own}
use Rattle.opfs_turns.proofs.asking.RowsAfter.{own-changed}
use Rattle.opfs_turns.proofs.asking.Stands.{local-same}
use Rattle.opfs_agent.proofs.handle_calls.Facts.{facts, row-is, has-row}

-- As many bytes as the copy says.
contents-length : (far : ℕ → ℕ) (work : WorkingCopy) → length (contents far work) ≡ work.length
unfolding bytes_of byte_at
contents-length far work = length-map-range_with_len (byte_at far work.pages) 0 work.length

-- A change of an own row leaves the files.
changed-bytes : (u : State Text Own) (k n : ℕ) (change : Own → Own) (p : Place) → bytes_at (with_changed u k n change) p ≡ bytes_at u p
unfolding with_changed
changed-bytes u k n change p =
    elim (own_of (agent_of u k) n) as (λ o. bytes_at (elim o as (λ x. State Text Own) [ Some r ↦ with_own u k n (change r) | None ↦ u ]) p ≡ bytes_at u p) [ Some r ↦ refl | None ↦ refl ]

-- A local call with its answer.
pub local-told : {O T : Type 0} (tells : Type 0) (before after : AgentSeen O) (called : Op) (r : Reply) (Gives : T → Reply → Type 0) (y : T) → IsLocal tells before called r 0 → IsKept before after called r 0
    → is_refusal r ≡ false → Gives y r → HasLocalAnswer tells before after called 0 Gives y
local-told tells before after called r Gives y local is ok gives = record { answered = r; entered = record { local = local; kept = is }; accepted = ok; gives = gives }

module _ {O : Type 0} (tells : Type 0) (a : AgentSeen O) (kept : IsAgent tells a) (x : HandleSeen) (has : HasHandle tells a x) where
  abbrev s : State Text Own
  s = state_of a

  abbrev k : ℕ
  k = a.pass.agent

  there : own_of (agent_of s k) x.row ≡ Some (own.Handle (facts tells a x has).h)
  there = row-is tells a x has

  sizes-are : sizes_in s (own_of (agent_of s k) x.row) ≡ record { size = length (bytes_at s (facts tells a x has).h.file); position = (facts tells a x has).h.cursor }
  sizes-are = ap (sizes_in s) there

  opened : open_handle in_bytes s k x.row ≡ Some (record { file = (facts tells a x has).h.file; mode = (facts tells a x has).h.mode; reserve = (facts tells a x has).h.reserve })
  opened = ap (of_row (λ r. handle_in (outline_of r))) there

  handle-ruled : handle_ruling in_bytes s k x.row ≡ Ok no_need
  unfolding handle_ruling ◌>>=◌
  handle-ruled = ap (λ (o : Option HandleOutline). some_or o refusal.InvalidStateError >>= (λ h. Ok no_need)) opened

  -- ---- read

  module _ (len : ℕ) (at : Option ℕ) (bytes : Text) (read : (far : ℕ → ℕ) → bytes ≡ window (contents far x.work) (place_in x.work at) len) where
    abbrev pub called : Op
    called = op.SyncRead x.row len at

    abbrev start : ℕ
    start = unwrap_or at (facts tells a x has).h.cursor

    abbrev whole : Text
    whole = bytes_at s (facts tells a x has).h.file

    start-is : place_in x.work at ≡ start
    start-is = ap (unwrap_or at) (facts tells a x has).position

    read-ruled : ruling in_bytes s (sizes_of s k called) k called ≡ Ok no_need
    unfolding ruling
    read-ruled = handle-ruled

    read-answer : (step s k called).answered ≡ reply.Read (window whole start len)
    unfolding answer
    read-answer =
        granted-answer s k called read-ruled
        ∙ (λ i. reply.Read (window (handle_bytes s (opened i)) (start_of (sizes-are i) at) len))

    long : length bytes ≡ length (window whole start len)
    long =
        ap length (read (λ _. 0))
        ∙ ap (λ n. length (window (contents (λ _. 0) x.work) n len)) start-is
        ∙ windows-alike (contents (λ _. 0) x.work) whole start len (contents-length (λ _. 0) x.work ∙ (facts tells a x has).size)

    pub read-local : IsLocal tells a called (reply.Read bytes) 0
    unfolding is_local may_enter
    read-local =
        local-call tells a kept called refl (ap is_handle there) (reply.Read bytes) refl (reads-alike bytes (window whole start len) long ∙ ap unread (sym read-answer))
        (λ tell. ap reply.Read (read (slice_index whole) ∙ (λ i. window ((facts tells a x has).same tell i) (start-is i) len)) ∙ sym read-answer)

    abbrev moved : HandleRow
    moved = record (facts tells a x has).h { cursor = cursor_after_read (record { size = length whole; position = (facts tells a x has).h.cursor }) len at; reserve = (facts tells a x has).h.reserve }

    read-row : own_of (agent_of (step s k called).after k) x.row ≡ Some (own.Handle moved)
    unfolding effect
    read-row =
        ap (λ u. own_of (agent_of u k) x.row) (granted-after s k called read-ruled)
        ∙ own-changed s k (number-of s k kept.live) x.row (own.Handle (facts tells a x has).h) there (λ r. moved_row r (cursor_after_read (sizes_of s k called) len at) (reserve_of (outline_of r)))
        ∙ ap (λ (z : Sizes). Some (own.Handle (record (facts tells a x has).h { cursor = cursor_after_read z len at; reserve = (facts tells a x has).h.reserve }))) sizes-are

    bytes-stay : bytes_at (step s k called).after (facts tells a x has).h.file ≡ whole
    unfolding effect
    bytes-stay =
        ap (λ u. bytes_at u (facts tells a x has).h.file) (granted-after s k called read-ruled)
        ∙ changed-bytes s k x.row (λ r. moved_row r (cursor_after_read (sizes_of s k called) len at) (reserve_of (outline_of r))) (facts tells a x has).h.file

    pub read-has : (after : AgentSeen O) (y : WorkingCopy) → IsKept a after called (reply.Read bytes) 0 → y ≡ record x.work { position = min (place_in x.work at) x.work.length + length bytes }
        → HasHandle tells after (record x { work = y })
    read-has after y is y_is =
        let f = facts tells a x has in
        let new : WorkingCopy = record x.work { position = min (place_in x.work at) x.work.length + length bytes } in
        let count = long ∙ window-length whole start len in
        let place : min (place_in x.work at) x.work.length + length bytes ≡ cursor_after_read (record { size = length whole; position = f.h.cursor }) len at = omega (arith, count, start-is, f.size) in
        let copy : IsCopyOf tells (step s k called).after (own.Handle moved) new = record {
          bytes = whole;
          open_row = ap Some bytes-stay;
          size = f.size;
          same = f.same;
          position = place;
          reserve = f.reserve;
        } in
        let rows : row_bytes (step s k called).after k x.row ≡ row_bytes s k x.row = ap (open_bytes (step s k called).after) read-row ∙ ap Some bytes-stay ∙ sym (ap (open_bytes s) there) in
        subst (λ w. HasHandle tells after (record x { work = w })) (sym y_is)
        (has-row tells after x.row x.file x.mode new moved
        (local-same tells a after kept called (reply.Read bytes) 0 read-local is x.row x.work new (own.Handle moved) has.stands read-row copy rows refl refl refl)
        (ap (λ b. own_of b x.row) (kept-own tells a after kept called (reply.Read bytes) 0 read-local is) ∙ read-row) f.file_is f.mode_is)

  -- ---- getSize

  abbrev pub sizing : Op
  sizing = op.SyncGetSize x.row

  size-ruled : ruling in_bytes s (sizes_of s k sizing) k sizing ≡ Ok no_need
  unfolding ruling
  size-ruled = handle-ruled

  pub size-local : (n : ℕ) → n ≡ x.work.length → IsLocal tells a sizing (reply.Length n) 0
  unfolding is_local may_enter answer
  size-local n n_is =
      plain-call tells a kept sizing refl (ap is_handle there) (reply.Length n) refl
      (sym (granted-answer s k sizing size-ruled ∙ ap (λ (z : Sizes). reply.Length z.size) sizes-are ∙ ap reply.Length (sym (facts tells a x has).size ∙ sym n_is)))

  size-row : own_of (agent_of (step s k sizing).after k) x.row ≡ Some (own.Handle (facts tells a x has).h)
  unfolding effect
  size-row = ap (λ u. own_of (agent_of u k) x.row) (granted-after s k sizing size-ruled) ∙ there

  size-bytes : bytes_at (step s k sizing).after (facts tells a x has).h.file ≡ bytes_at s (facts tells a x has).h.file
  unfolding effect
  size-bytes = ap (λ u. bytes_at u (facts tells a x has).h.file) (granted-after s k sizing size-ruled)

  pub size-has : (n : ℕ) (after : AgentSeen O) → n ≡ x.work.length → IsKept a after sizing (reply.Length n) 0 → HasHandle tells after x
  size-has n after n_is is =
      let f = facts tells a x has in
      let copy : IsCopyOf tells (step s k sizing).after (own.Handle f.h) x.work = record {
        bytes = bytes_at s f.h.file;
        open_row = ap Some size-bytes;
        size = f.size;
        same = f.same;
        position = f.position;
        reserve = f.reserve;
      } in
      let rows : row_bytes (step s k sizing).after k x.row ≡ row_bytes s k x.row = ap (open_bytes (step s k sizing).after) size-row ∙ ap Some size-bytes ∙ sym (ap (open_bytes s) there) in
      has-row tells after x.row x.file x.mode x.work f.h
      (local-same tells a after kept sizing (reply.Length n) 0 (size-local n n_is) is x.row x.work x.work (own.Handle f.h) has.stands size-row copy rows refl refl refl)
      (ap (λ b. own_of b x.row) (kept-own tells a after kept sizing (reply.Length n) 0 (size-local n n_is) is) ∙ size-row) f.file_is f.mode_is

-- A read that is taken back.
pub read-back : (old read back : WorkingCopy) (p b : ℕ) → read ≡ record old { position = p } → back ≡ record read { position = b } → b ≡ old.position → back ≡ old
read-back old read back p b read_is back_is b_is = back_is ∙ (λ i. record (read_is i) { position = b_is i })
