-- The machine in lengths follows each entry.
use Rattle.std.proofs.Common.{◌≡◌, ℕ, Bool, true, false, List, [], ◌∷◌, fold, is_some, refl, sym, ap, ◌∙◌}
use Rattle.std.proofs.lemmas.Bool.{false≢true}
use Rattle.opfs_base.specs.Texts.{Text}
use Rattle.opfs_state_rows.specs.Changes.Asking.{makes_slot}
use Rattle.opfs_hist.specs.declared.entry.Entry.{Entry}
use Rattle.opfs_hist.specs.declared.op.Op.{Op}
use Rattle.opfs_hist.specs.declared.op.Op.TheVariants as op
use Rattle.opfs_hist.specs.declared.reply.Reply.{Reply}
use Rattle.opfs_laws.specs.Histories.Unread.{ArePendingFor, IsPendingFor, unread}
use Rattle.opfs_hist.specs.Sums.{set_moment}
use Rattle.opfs_hist.specs.declared.reply.Reply.TheVariants as reply
use Rattle.opfs_laws.proofs.Local.{room_for_nothing}
use Rattle.opfs_machine.specs.Agents.{agent_of, counted}
use Rattle.opfs_machine.specs.Rulings.{ruling}
use Rattle.opfs_machine.specs.Ruled.{◌>>=◌}
use Rattle.opfs_laws.proofs.Going.{not_evict}
use Rattle.opfs_laws.specs.Lengths.Bridge.{LengthsFollowEachCall, LocalCallsAreKnownByTheirWord}
use Rattle.opfs_laws.specs.Lengths.Outlines.{in_lengths_of, local_change}
use Rattle.opfs_machine.specs.declared.own.Own.{Own}
use Rattle.opfs_machine.specs.declared.state.Sizes.{Sizes}
use Rattle.opfs_machine.specs.declared.state.State.{State}
use Rattle.opfs_machine.specs.Changes.{Change, stored_by, entry_changes}
use Rattle.opfs_machine.specs.Contents.{in_bytes, in_lengths}
use Rattle.opfs_machine.specs.Effects.{effect, refused}
use Rattle.opfs_machine.specs.Histories.{after_entry, after_op}
use Rattle.opfs_machine.specs.OwnRows.{is_local}
use Rattle.opfs_machine.specs.Replies.{sizes_of, answer}
use Rattle.opfs_machine.specs.Steps.{after_reply, is_refusal, step, judged, outcome_of}
use Rattle.opfs_state_rows.specs.Standing.Seen.{Machine}
use Rattle.opfs_books.specs.Sharing.Noting.{noted, AreNotes, IsNote}

abbrev after_by : State Text Own → ℕ → Op → Bool → State Text Own
after_by s k o b = counted (elim b [ true ↦ refused s k o | false ↦ effect in_bytes s (sizes_of s k o) k o ]) k

module _ (follow : LengthsFollowEachCall) where
  -- A call that is answered.
  pub applied-follows : (s : State Text Own) (m new : Machine) (k : ℕ) (o : Op) (z : Sizes) (r : Reply) → m ≡ in_lengths_of s → z ≡ sizes_of s k o → is_refusal r ≡ false
      → new ≡ counted (effect in_lengths m z k o) k → new ≡ in_lengths_of (after_reply s k o r)
  applied-follows s m new k o z r same size plain is =
      is
      ∙ (λ i. counted (effect in_lengths (same i) (size i) k o) k)
      ∙ ap (λ x. counted x k) (follow.effect s k o)
      ∙ follow.counted (effect in_bytes s (sizes_of s k o) k o) k
      ∙ ap (λ b. in_lengths_of (after_by s k o b)) (sym plain)

  -- One that is refused.
  pub refused-follows : (s : State Text Own) (m new : Machine) (k : ℕ) (o : Op) (r : Reply) → m ≡ in_lengths_of s → is_refusal r ≡ true
      → new ≡ counted (refused m k o) k → new ≡ in_lengths_of (after_reply s k o r)
  refused-follows s m new k o r same refuses is =
      is
      ∙ ap (λ x. counted (refused x k o) k) same
      ∙ ap (λ x. counted x k) (follow.refused s k o)
      ∙ follow.counted (refused s k o) k
      ∙ ap (λ b. in_lengths_of (after_by s k o b)) (sym refuses)

  module _ (local : LocalCallsAreKnownByTheirWord) (tells : Type 0) (k : ℕ) where
    -- A local call that is refused changes nothing.
    local-refused : (s : State Text Own) (o : Op) → is_local s k o ≡ true → refused s k o ≡ s
    unfolding is_local
    local-refused s (op.Await tag) h = absurd (false≢true h)
    local-refused s o h = refl

    note-follows : (s : State Text Own) (e : Entry) → e.agent ≡ k → is_local s e.agent e.op ≡ true → counted (elim (is_refusal e.reply) [ true ↦ in_lengths_of s | false ↦ local_change (in_lengths_of s) k e.op ]) k ≡ in_lengths_of (after_reply s e.agent e.op e.reply)
    note-follows s e agent own =
        let here : is_local s k e.op ≡ true = ap (λ n. is_local s n e.op) (sym agent) ∙ own in
        (elim (is_refusal e.reply) as (λ b. counted (elim b [ true ↦ in_lengths_of s | false ↦ local_change (in_lengths_of s) k e.op ]) k ≡ in_lengths_of (after_by s k e.op b)) [
          | true ↦ follow.counted s k ∙ ap (λ x. in_lengths_of (counted x k)) (sym (local-refused s e.op here))
          | false ↦ ap (λ x. counted x k) (sym (local s k e.op here)) ∙ ap (λ x. counted x k) (follow.effect s k e.op) ∙ follow.counted (effect in_bytes s (sizes_of s k e.op) k e.op) k
        ])
        ∙ ap (λ n. in_lengths_of (after_reply s n e.op e.reply)) (sym agent)

    -- Pending calls.
    pub notes-follow : (s : State Text Own) (es : List Entry) → ArePendingFor tells s k es → noted (in_lengths_of s) k es ≡ in_lengths_of (fold after_entry s es)
    notes-follow s [] h = refl
    notes-follow s (e ∷ es) h =
        let plain = not_evict s e.agent e.op h.0.fitting in
        ap (λ x. noted x k es) (note-follows s e h.0.agent h.0.local ∙ ap in_lengths_of (sym (ap (after_op s e) plain)))
        ∙ notes-follow (after_entry s e) es h.1

    local-slot : (s : State Text Own) (o : Op) → is_local s k o ≡ true → makes_slot o ≡ false
    unfolding is_local
    local-slot s (op.GetFile at) h = absurd (false≢true h)
    local-slot s (op.CreateWritable at keep) h = absurd (false≢true h)
    local-slot s (op.CreateSyncAccessHandle at mode) h = absurd (false≢true h)
    local-slot s o h = refl

    -- A call that sets the moment needs nothing, so it is not refused.
    moment-told : (s : State Text Own) (n : ℕ) (o : Op) → is_some (set_moment o) ≡ true → is_refusal (step s n o).answered ≡ false
    unfolding step judged ruling outcome_of answer ◌>>=◌
    moment-told s n (op.Moment ms) sets = ap (λ u. is_refusal (outcome_of s n (op.Moment ms) u).answered) (room_for_nothing s (agent_of s n).key)
    moment-told s n o sets = absurd (false≢true sets)

    unread-refusal : (r : Reply) → is_refusal (unread r) ≡ is_refusal r
    unread-refusal (reply.Read bytes) = refl
    unread-refusal r = refl

    note : (s : State Text Own) (e : Entry) → IsPendingFor tells s k e → IsNote e
    note s e h = record {
      slot = local-slot s e.op (ap (λ n. is_local s n e.op) (sym h.agent) ∙ h.local);
      moment = λ sets. sym (unread-refusal e.reply) ∙ ap is_refusal h.alike ∙ unread-refusal (step s e.agent e.op).answered ∙ moment-told s e.agent e.op sets;
    }

    pub pending-notes : (s : State Text Own) (es : List Entry) → ArePendingFor tells s k es → AreNotes es
    pending-notes s [] h = tt
    pending-notes s (e ∷ es) h = (note s e h.0, pending-notes (after_entry s e) es h.1)

-- What an answered entry stores is what its call does.
pub answered-changes : (s : State Text Own) (e : Entry) → is_refusal e.reply ≡ false → entry_changes s e ≡ stored_by s e.agent e.op
answered-changes s e plain = ap (λ b. elim b as (λ y. List Change) [ true ↦ [] | false ↦ stored_by s e.agent e.op ]) plain

pub refused-changes : (s : State Text Own) (e : Entry) → is_refusal e.reply ≡ true → entry_changes s e ≡ []
refused-changes s e refuses = ap (λ b. elim b as (λ y. List Change) [ true ↦ [] | false ↦ stored_by s e.agent e.op ]) refuses
