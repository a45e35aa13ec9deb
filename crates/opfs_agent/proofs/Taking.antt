-- A snapshot, and the row that it has; and the root of an agent's bucket.
use Rattle.std.proofs.Common.{◌≡◌, ℕ, false, List, [], ◌∷◌, ◌++◌, length, replicate, fold, Option, Some, None, Ok, refl, sym, ap, ◌∙◌}
use Rattle.std.proofs.lemmas.List.{length-replicate}
use Rattle.opfs_base.specs.Places.{place_of}
use Rattle.opfs_base.specs.Texts.{Text}
use Rattle.opfs_base.specs.declared.locator.Locator.{Locator}
use Rattle.opfs_hist.specs.declared.op.Op.TheVariants as op
use Rattle.opfs_hist.specs.declared.reply.Refusal.TheVariants as refusal
use Rattle.opfs_hist.specs.declared.reply.Reply.{Reply}
use Rattle.opfs_hist.specs.declared.reply.Reply.TheVariants as reply
use Rattle.opfs_machine.specs.declared.own.Own.{Own}
use Rattle.opfs_machine.specs.declared.own.Own.TheVariants as own
use Rattle.opfs_machine.specs.declared.state.Agent.{Agent}
use Rattle.opfs_machine.specs.declared.state.FileRow.{FileRow}
use Rattle.opfs_machine.specs.declared.state.State.{State}
use Rattle.opfs_machine.specs.Agents.{agent_of, own_of}
use Rattle.opfs_machine.specs.Contents.{in_bytes}
use Rattle.opfs_machine.specs.Effects.{effect, takes_snapshot}
use Rattle.opfs_machine.specs.Replies.{answer, bytes_in, file_reply, sizes_of}
use Rattle.opfs_machine.specs.Rows.{file_at}
use Rattle.opfs_machine.specs.Ruled.{some_or}
use Rattle.opfs_machine.specs.Rulings.{ruling, get_directory_ruling}
use Rattle.opfs_machine.specs.Steps.{evicted, judged, room_for}
use Rattle.opfs_machine.specs.Sums.{no_need}
use Rattle.opfs_laws.proofs.Gone.{bind-gave, some-gave}
use Rattle.opfs_store.specs.declared.acts.acted.Acted.{Acted}
use Rattle.opfs_store.specs.declared.acts.acted.Gift.{Gift}
use Rattle.opfs_store.specs.declared.acts.acted.Gift.TheVariants as gift
use Rattle.opfs_store.specs.Acts.Acting.{gift_of, unread_gift}
use Rattle.opfs_turns.specs.Agents.{AgentSeen, IsAgent, own_row}
use Rattle.opfs_turns.specs.Asking.Answers.{HasAnswer}
use Rattle.opfs_turns.specs.Asking.Rows.{HasSnapshot, SnapshotSeen}
use Rattle.opfs_turns.proofs.asking.Answered.{is_read, plain-answered, judged-there, turn_state}
use Rattle.opfs_turns.proofs.asking.Entered.{s, t, number}
use Rattle.opfs_turns.proofs.asking.Rowed.{own_agent, accepted-own, granted-none}
use Rattle.opfs_turns.proofs.asking.RowsAfter.{own-added, last-own}
use Rattle.opfs_agent.specs.Entries.{stamp_in}
use Rattle.opfs_agent.proofs.Located.{file-ruled}

plain-file : (f : Option (FileRow Text)) → is_read (file_reply f) ≡ false
plain-file None = refl
plain-file (Some f) = refl

no-child : (given : Gift) (zeros : Text) → unread_gift given ≡ gift.Bytes zeros → (bytes : Text) × (given ≡ gift.Bytes bytes) × (replicate {A = ℕ} (length bytes) 0 ≡ zeros)
no-child (gift.Bytes bytes) zeros h = (bytes, refl, zeros-same h)
  where
    zeros-same : gift.Bytes (replicate {A = ℕ} (length bytes) 0) ≡ gift.Bytes zeros → replicate {A = ℕ} (length bytes) 0 ≡ zeros
    zeros-same e = cc
no-child (gift.Child at name) zeros h = absurd cc
no-child gift.Nothing zeros h = absurd cc

bytes-same : (a b : Text) → gift.Bytes a ≡ gift.Bytes b → a ≡ b
bytes-same a b h = cc

module _ {O : Type 0} (tells : Type 0) (before after : AgentSeen O) (kept : IsAgent tells before) (then : IsAgent tells after) (at : Locator) (acted : Acted)
    (h : HasAnswer tells before after (op.GetFile at) (λ acted answered given. (acted.reply ≡ answered) × (acted.gift ≡ given)) acted) where
  abbrev st : State Text Own
  st = s tells before after kept (op.GetFile at) h.answered h.given h.entered

  abbrev cleared : State Text Own
  cleared = t tells before after kept (op.GetFile at) h.answered h.given h.entered

  ruled : (ruling in_bytes st (sizes_of st before.pass.agent (op.GetFile at)) before.pass.agent (op.GetFile at) ≡ Ok no_need) × ((f : FileRow Text) × (file_at st (place_of at) ≡ Some f))
  ruled = let there = judged-there tells before after (op.GetFile at) _ acted h in file-ruled st before.pass.agent at there.0 there.1

  none-gone : cleared ≡ st
  none-gone = ap (λ gone. fold evicted st gone) (granted-none tells before after kept (op.GetFile at) h.answered h.given h.entered h.accepted ruled.0)

  answered-so : h.answered ≡ reply.FileInfo (length ruled.1.0.present) ruled.1.0.stamp
  unfolding answer
  answered-so =
      plain-answered tells before after (op.GetFile at) h.answered h.given h.entered h.accepted (plain-file (file_at st (place_of at)))
      ∙ ap file_reply ruled.1.1

  gift-is : gift_of st (op.GetFile at) h.answered ≡ gift.Bytes ruled.1.0.present
  unfolding gift_of
  gift-is = ap (gift_of st (op.GetFile at)) answered-so ∙ ap (λ f. gift.Bytes (bytes_in f)) ruled.1.1

  bytes-there : (bytes : Text) × (acted.gift ≡ gift.Bytes bytes) × (replicate {A = ℕ} (length bytes) 0 ≡ replicate {A = ℕ} (length ruled.1.0.present) 0)
  bytes-there = no-child acted.gift (replicate {A = ℕ} (length ruled.1.0.present) 0) (ap unread_gift h.gives.1 ∙ h.entered.gift.alike ∙ ap unread_gift gift-is)

  pub some-bytes : (bytes : Text) × (acted.gift ≡ gift.Bytes bytes)
  some-bytes = (bytes-there.0, bytes-there.1)

  size-is : (bytes : Text) → acted.gift ≡ gift.Bytes bytes → length bytes ≡ length ruled.1.0.present
  size-is bytes is =
      let zeros : replicate {A = ℕ} (length bytes) 0 ≡ replicate {A = ℕ} (length ruled.1.0.present) 0 = ap (λ b. replicate {A = ℕ} (length b) 0) (bytes-same bytes bytes-there.0 (sym is ∙ bytes-there.1)) ∙ bytes-there.2 in
      sym (length-replicate {A = ℕ} (length bytes) 0) ∙ ap length zeros ∙ length-replicate {A = ℕ} (length ruled.1.0.present) 0

  own-after : (own_agent after).own ≡ (agent_of cleared before.pass.agent).own ++ own.Snapshot ruled.1.0.present ∷ []
  unfolding effect
  own-after =
      ap (λ (a : Agent Own). a.own) (accepted-own tells before after kept (op.GetFile at) h.answered h.given h.entered h.accepted)
      ∙ ap (λ f. (agent_of (takes_snapshot in_bytes cleared before.pass.agent f) before.pass.agent).own) (ap (λ (u : State Text Own). file_at u (place_of at)) none-gone ∙ ruled.1.1)
      ∙ own-added cleared before.pass.agent (number tells before after kept (op.GetFile at) h.answered h.given h.entered) (own.Snapshot ruled.1.0.present)

  pub snapshot-taken : (bytes : Text) (row stamp : ℕ) → acted.gift ≡ gift.Bytes bytes → row ≡ after.rows → stamp ≡ stamp_in acted.reply
      → HasAnswer tells before after (op.GetFile at) (λ (x : SnapshotSeen) answered _. (x.row ≡ after.rows) × (answered ≡ reply.FileInfo (length x.bytes) x.stamp) × HasSnapshot tells after x)
      (record { row = row; bytes = bytes; stamp = stamp })
  snapshot-taken bytes row stamp is row_is stamp_is =
      let stamped : stamp ≡ ruled.1.0.stamp = stamp_is ∙ ap stamp_in (h.gives.0 ∙ answered-so) in
      let there : own_row after row ≡ Some (own.Snapshot ruled.1.0.present) =
      ap (own_of (own_agent after)) (row_is ∙ then.made) ∙ last-own (own_agent after) (agent_of cleared before.pass.agent).own (own.Snapshot ruled.1.0.present) own-after
      in
      record {
        answered = h.answered;
        given = h.given;
        entered = h.entered;
        accepted = h.accepted;
        gives = (
          row_is,
          answered-so ∙ (λ i. reply.FileInfo (sym (size-is bytes is) i) (sym stamped i)),
          record {
            bytes = ruled.1.0.present;
            there = there;
            size = size-is bytes is;
            told = λ tell. bytes-same bytes ruled.1.0.present (sym is ∙ h.gives.1 ∙ h.entered.gift.told tell ∙ gift-is);
          },
        );
      }

-- ---- an agent that has a root has a key

key-given : (s : State Text Own) (k : ℕ) (bucket : Text) (units : List Text) → judged s k (op.GetDirectory bucket) ≡ Ok units → (origin : Text) × ((agent_of s k).key ≡ Some origin)
unfolding judged ruling get_directory_ruling
key-given s k bucket units h =
    let asked = bind-gave (get_directory_ruling s k bucket) (room_for in_bytes s (agent_of s k).key) units h in
    let first = bind-gave (some_or (agent_of s k).key refusal.SecurityError) _ asked.0 asked.1 in
    (first.0, some-gave (agent_of s k).key refusal.SecurityError first.0 first.1)

pub root-key : {O T : Type 0} (tells : Type 0) (before after : AgentSeen O) (kept : IsAgent tells before) (bucket : Text) (Gives : T → Reply → Gift → Type 0) (x : T)
    → HasAnswer tells before after (op.GetDirectory bucket) Gives x → (origin : Text) × (before.key ≡ Some origin)
root-key tells before after kept bucket Gives x h =
    let there = judged-there tells before after (op.GetDirectory bucket) Gives x h in
    let found = key-given (turn_state tells before after (op.GetDirectory bucket) h.answered h.given h.entered h.accepted) before.pass.agent bucket there.0 there.1 in
    (found.0, sym kept.own_key ∙ sym (ap (λ x. x.0.key) h.entered.own) ∙ found.1)
