-- The state that a call leaves, from what it does one after another.
use Rattle.std.proofs.Common.{◌≡◌, ℕ, Bool, true, false, List, [], ◌∷◌, ◌++◌, append_assoc, map, fold, Option, Some, None, Ok, Err, refl, sym, ap, ◌∙◌}
use Rattle.opfs_base.specs.Places.{Place, place_of, resolved}
use Rattle.opfs_base.specs.Texts.{Text}
use Rattle.opfs_hist.specs.declared.entry.Entry.{Entry}
use Rattle.opfs_hist.specs.declared.op.Op.{Op}
use Rattle.opfs_hist.specs.declared.op.Op.TheVariants.{Next, Resolve, GetFile}
use Rattle.opfs_hist.specs.declared.reply.Refusal.{Refusal}
use Rattle.opfs_hist.specs.declared.reply.Reply.{Reply}
use Rattle.opfs_hist.specs.declared.reply.Reply.TheVariants.{No}
use Rattle.opfs_machine.specs.declared.own.Own.{Own}
use Rattle.opfs_machine.specs.declared.state.FileRow.{FileRow}
use Rattle.opfs_machine.specs.declared.state.Sizes.{Sizes}
use Rattle.opfs_machine.specs.declared.state.State.{State}
use Rattle.opfs_machine.specs.Agents.{agent_of, own_of, counted}
use Rattle.opfs_machine.specs.Contents.{in_bytes, next_of}
use Rattle.opfs_machine.specs.Effects.{effect, refused}
use Rattle.opfs_machine.specs.Replies.{answer, sizes_of, child_reply, path_reply, file_reply, given_in}
use Rattle.opfs_machine.specs.Rows.{children_of, file_at}
use Rattle.opfs_machine.specs.Runs.{Call, eviction, group_of}
use Rattle.opfs_machine.specs.Steps.{is_refusal, evicted, outcome_of}

child-accepted : (s : State Text Own) (dir : Place) (name : Option Text) → is_refusal (child_reply s dir name) ≡ false
child-accepted s dir None = refl
child-accepted s dir (Some name) = refl

path-accepted : (names : Option (List Text)) → is_refusal (path_reply names) ≡ false
path-accepted None = refl
path-accepted (Some names) = refl

file-accepted : (f : Option (FileRow Text)) → is_refusal (file_reply f) ≡ false
file-accepted None = refl
file-accepted (Some f) = refl

-- What is answered where nothing refuses is no refusal.
answer-accepted : (s : State Text Own) (z : Sizes) (k : ℕ) (op : Op) → is_refusal (answer s z k op) ≡ false
unfolding answer
answer-accepted s z k (Next n dir) = child-accepted s (place_of dir) (next_of (given_in (own_of (agent_of s k) n)) (children_of s (place_of dir)))
answer-accepted s z k (Resolve dir entry) = path-accepted (resolved dir entry)
answer-accepted s z k (GetFile at) = file-accepted (file_at s (place_of at))
answer-accepted s z k op = refl

abbrev changed_where : State Text Own → ℕ → Op → Bool → State Text Own
changed_where s k op test = counted (elim test [ true ↦ refused s k op | false ↦ effect in_bytes s (sizes_of s k op) k op ]) k

-- An accepted call: the evictions, its effect, its count.
pub accepted-after : (s cleared changed counted_state : State Text Own) (k : ℕ) (op : Op) (units : List Text)
    → cleared ≡ fold evicted s units
    → changed ≡ effect in_bytes cleared (sizes_of cleared k op) k op
    → counted_state ≡ counted changed k
    → counted_state ≡ (outcome_of s k op (Ok units)).after
unfolding outcome_of
accepted-after s cleared changed counted_state k op units is_cleared is_changed is_counted =
    is_counted
    ∙ ap (λ t. counted t k) (is_changed ∙ ap (λ t. effect in_bytes t (sizes_of t k op) k op) is_cleared)
    ∙ ap (changed_where (fold evicted s units) k op) (sym (answer-accepted s (sizes_of s k op) k op))

-- A refused call: what it changes, its count.
pub refused-after : (s changed counted_state : State Text Own) (k : ℕ) (op : Op) (r : Refusal)
    → changed ≡ refused s k op → counted_state ≡ counted changed k
    → counted_state ≡ (outcome_of s k op (Err r)).after
unfolding outcome_of
refused-after s changed counted_state k op r is_changed is_counted = is_counted ∙ ap (λ t. counted t k) is_changed

-- The same, with the effect and the count in one.
pub performed-after : (s cleared counted_state : State Text Own) (k : ℕ) (op : Op) (units : List Text)
    → cleared ≡ fold evicted s units
    → counted_state ≡ counted (effect in_bytes cleared (sizes_of cleared k op) k op) k
    → counted_state ≡ (outcome_of s k op (Ok units)).after
performed-after s cleared counted_state k op units is_cleared is_counted =
    accepted-after s cleared (effect in_bytes cleared (sizes_of cleared k op) k op) counted_state k op units is_cleared refl is_counted

-- What an accepted call tells: its evictions, and its entry.
pub accepted-told : (s : State Text Own) (before between after : List Entry) (c : Call) (answered : Reply) (units : List Text)
    → between ≡ before ++ map eviction units
    → after ≡ between ++ record { agent = c.agent; number = c.number; op = c.op; reply = answered; turn = true } ∷ []
    → answered ≡ answer s (sizes_of s c.agent c.op) c.agent c.op
    → after ≡ before ++ group_of s c (outcome_of s c.agent c.op (Ok units))
unfolding outcome_of
accepted-told s before between after c answered units is_between is_after is_answered =
    is_after
    ∙ ap (λ es. es ++ record { agent = c.agent; number = c.number; op = c.op; reply = answered; turn = true } ∷ []) is_between
    ∙ append_assoc before (map eviction units) _
    ∙ ap (λ r. before ++ (map eviction units ++ record { agent = c.agent; number = c.number; op = c.op; reply = r; turn = true } ∷ [])) is_answered

-- What a refused call tells: its entry.
pub refused-told : (s : State Text Own) (before after : List Entry) (c : Call) (r : Refusal)
    → after ≡ before ++ record { agent = c.agent; number = c.number; op = c.op; reply = No r; turn = true } ∷ []
    → after ≡ before ++ group_of s c (outcome_of s c.agent c.op (Err r))
unfolding outcome_of
refused-told s before after c r is_after = is_after
