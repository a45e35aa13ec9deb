-- Calls that ask for a bucket's mode: its agent has a key, and the mode is what it was before the agent's pending calls.
use Rattle.std.proofs.Common.{◌≡◌, ℕ, ◌-◌, zero, suc, ◌||◌, Bool, true, is_some, List, length, Option, Some, Ok, Err, refl, sym, ap, ◌∙◌, arith}
use Rattle.std.specs.List.{list_any}
use Rattle.opfs_store.specs.Acts.Acting.{gift_of}
use Rattle.opfs_store.specs.declared.acts.acted.Gift.TheVariants as gift
use Rattle.opfs_base.specs.Texts.{Text, same_text}
use Rattle.opfs_base.specs.Units.{unit_of}
use Rattle.opfs_hist.specs.declared.history.PendingSum.{PendingSum}
use Rattle.opfs_hist.specs.declared.op.Op.{Op}
use Rattle.opfs_hist.specs.declared.op.Op.TheVariants as op
use Rattle.opfs_hist.specs.declared.reply.Reply.TheVariants as reply
use Rattle.opfs_laws.specs.Lengths.Outlines.{in_lengths_of}
use Rattle.opfs_laws.proofs.lengths.Readers.{agent-on}
use Rattle.opfs_machine.specs.declared.own.Outline.{Outline}
use Rattle.opfs_machine.specs.declared.own.Own.{Own}
use Rattle.opfs_machine.specs.declared.state.Agent.{Agent}
use Rattle.opfs_machine.specs.declared.state.Need.{Need}
use Rattle.opfs_machine.specs.declared.state.Sizes.{Sizes}
use Rattle.opfs_machine.specs.declared.state.State.{State}
use Rattle.opfs_machine.specs.Agents.{agent_of}
use Rattle.opfs_machine.specs.Contents.{in_bytes, outline_of}
use Rattle.opfs_machine.specs.Replies.{answer, origin_in, sizes_of}
use Rattle.opfs_machine.specs.Ruled.{Ruled, ◌>>=◌}
use Rattle.opfs_machine.specs.Rulings.{persist_ruling, persisted_ruling, ruling}
use Rattle.opfs_machine.specs.Steps.{judged, room_for}
use Rattle.opfs_machine.specs.Sums.{is_persistent}
use Rattle.opfs_state_rows.specs.Standing.Noted.{with_sum}
use Rattle.opfs_state_rows.specs.Standing.Seen.{Machine}
use Rattle.opfs_state.proofs.laws.Readying.{agent-noted}
use Rattle.opfs_state.specs.Verdicts.Callers.{IsAgent}
use Rattle.opfs_desk_entries.specs.Answers.Telling.{is_of_mode, mode_answer}
use Rattle.opfs_desk_entries.proofs.answers.Words.{before, from-some, err-ok}

-- ---- an agent through its own pending calls

pub key-noted : (m : Machine) (k : ℕ) (sum : PendingSum) → IsAgent m k → (agent_of (with_sum m (k - 1) sum) k).key ≡ (agent_of m k).key
key-noted m zero sum agent = absurd (omega (arith, agent.above))
key-noted m (suc at) sum agent =
    ap (λ (n : ℕ). (agent_of (with_sum m n sum) (suc at)).key) (before at) ∙ ap (λ (a : Agent Outline). a.key) (agent-noted m at sum (omega (arith, agent.within)))

pub grant-noted : (m : Machine) (k : ℕ) (sum : PendingSum) → IsAgent m k → (agent_of (with_sum m (k - 1) sum) k).grant ≡ (agent_of m k).grant
grant-noted m zero sum agent = absurd (omega (arith, agent.above))
grant-noted m (suc at) sum agent =
    ap (λ (n : ℕ). (agent_of (with_sum m n sum) (suc at)).grant) (before at) ∙ ap (λ (a : Agent Outline). a.grant) (agent-noted m at sum (omega (arith, agent.within)))

pub key-lengths : (s : State Text Own) (k : ℕ) → (agent_of (in_lengths_of s) k).key ≡ (agent_of s k).key
key-lengths s k = ap (λ (a : Agent Outline). a.key) (agent-on length outline_of s k)

-- ---- its key

some-is : (o : Option Text) (key : Text) → o ≡ Some key → is_some o ≡ true
some-is o key is = ap (λ x. is_some x) is

pub accepted : (s : State Text Own) (key : Option Text) (r : Ruled Need) (units : List Text) → (r >>= room_for in_bytes s key) ≡ Ok units → (need : Need) × (r ≡ Ok need)
unfolding ◌>>=◌
accepted s key (Ok need) units is = (need, refl)
accepted s key (Err e) units is = absurd (err-ok e units is)

ruled-key : (s : State Text Own) (z : Sizes) (k : ℕ) (o : Op) (need : Need) → is_of_mode o ≡ true → ruling in_bytes s z k o ≡ Ok need → is_some (agent_of s k).key ≡ true
unfolding ruling persist_ruling persisted_ruling
ruled-key s z k (op.Persist bucket) need h is = let it = from-some (agent_of s k).key _ _ need is in some-is _ it.0 it.1
ruled-key s z k (op.Persisted bucket) need h is = let it = from-some (agent_of s k).key _ _ need is in some-is _ it.0 it.1
ruled-key s z k o need h is = cc

pub has-key : (s : State Text Own) (k : ℕ) (o : Op) (units : List Text) → is_of_mode o ≡ true → judged s k o ≡ Ok units → is_some (agent_of s k).key ≡ true
unfolding judged
has-key s k o units h is = let it = accepted s (agent_of s k).key (ruling in_bytes s (sizes_of s k o) k o) units is in ruled-key s (sizes_of s k o) k o it.0 h it.1

pub key-there : (m : Machine) (s : State Text Own) (k : ℕ) (sum : PendingSum) → IsAgent m k → in_lengths_of s ≡ with_sum m (k - 1) sum → is_some (agent_of s k).key ≡ true → is_some (agent_of m k).key ≡ true
key-there m s k sum agent noted has =
    ap (λ x. is_some x) (sym (key-noted m k sum agent) ∙ (ap (λ (n : Machine). (agent_of n k).key) (sym noted) ∙ key-lengths s k)) ∙ has

-- ---- what it answers

answers-mode : (s : State Text Own) (z : Sizes) (k : ℕ) (o : Op) → is_of_mode o ≡ true → answer s z k o ≡ reply.Flag (mode_answer (in_lengths_of s) k o)
unfolding answer
answers-mode s z k (op.Persist bucket) h =
    ap (λ (a : Agent Outline). reply.Flag (a.grant || list_any (same_text (unit_of (origin_in a.key) bucket)) s.persistent)) (sym (agent-on length outline_of s k))
answers-mode s z k (op.Persisted bucket) h =
    ap (λ (a : Agent Outline). reply.Flag (list_any (same_text (unit_of (origin_in a.key) bucket)) s.persistent)) (sym (agent-on length outline_of s k))
answers-mode s z k o h = cc

mode-noted : (m : Machine) (k : ℕ) (sum : PendingSum) (o : Op) → IsAgent m k → mode_answer (with_sum m (k - 1) sum) k o ≡ mode_answer m k o
mode-noted m k sum (op.Persist bucket) agent =
    ap (λ b. b || is_persistent m (unit_of (origin_in (agent_of (with_sum m (k - 1) sum) k).key) bucket)) (grant-noted m k sum agent)
    ∙ ap (λ key. (agent_of m k).grant || is_persistent m (unit_of (origin_in key) bucket)) (key-noted m k sum agent)
mode-noted m k sum (op.Persisted bucket) agent = ap (λ key. is_persistent m (unit_of (origin_in key) bucket)) (key-noted m k sum agent)
mode-noted m k sum o agent = refl

pub mode-answered : (m : Machine) (s : State Text Own) (z : Sizes) (k : ℕ) (o : Op) (sum : PendingSum) (flag : Bool) → IsAgent m k → is_of_mode o ≡ true → in_lengths_of s ≡ with_sum m (k - 1) sum → flag ≡ mode_answer m k o
    → reply.Flag flag ≡ answer s z k o
mode-answered m s z k o sum flag agent h noted is =
    ap reply.Flag (is ∙ (sym (mode-noted m k sum o agent) ∙ ap (λ (n : Machine). mode_answer n k o) (sym noted))) ∙ sym (answers-mode s z k o h)

pub no-gift : (s : State Text Own) (o : Op) (flag : Bool) → is_of_mode o ≡ true → gift_of s o (reply.Flag flag) ≡ gift.Nothing
unfolding gift_of
no-gift s (op.GetFile at) flag h = cc
no-gift s (op.Next n dir) flag h = cc
no-gift s o flag h = refl
