-- The run of an agent that is alone in its party, as a function of its script. This project's own.
use Rattle.std.specs.Prelude.{◌≡◌, ℕ, ◌+◌, ◌==◌, true, false, List, [], ◌∷◌, map, All, None, Ok, Err}
use Rattle.opfs_base.specs.Texts.{Text}
use Rattle.opfs_hist.specs.declared.entry.Entry.{Entry}
use Rattle.opfs_hist.specs.declared.op.Op.{Op}
use Rattle.opfs_hist.specs.declared.op.Op.TheVariants as op
use Rattle.opfs_hist.specs.declared.reply.Reply.{Reply}
use Rattle.opfs_hist.specs.declared.reply.Reply.TheVariants as reply
use Rattle.opfs_machine.specs.declared.own.Own.{Own}
use Rattle.opfs_machine.specs.declared.state.Need.{Need}
use Rattle.opfs_machine.specs.declared.state.State.{State}
use Rattle.opfs_machine.specs.Agents.{party_with}
use Rattle.opfs_machine.specs.Alone.{begun_alone, is_member, judged_alone}
use Rattle.opfs_machine.specs.Histories.{Legal, evicted_by}
use Rattle.opfs_machine.specs.Openings.{Opening}
use Rattle.opfs_machine.specs.Replies.{answer, sizes_of}
use Rattle.opfs_machine.specs.Ruled.{Ruled}
use Rattle.opfs_machine.specs.Steps.{after_reply}
use Rattle.opfs_script_run.specs.declared.runs.hand.Hand.{Hand}
use Rattle.opfs_script_run.specs.declared.runs.hand.Open.{Open}
use Rattle.opfs_script_run.specs.Runs.Running.{empty_hand, ending, entries_of, hand_then, is_wait, op_of, IsRun}
use Rattle.opfs_script.specs.declared.step.Step.{Step}
use Rattle.opfs_script.specs.Scripts.{Asked}
use Rattle.opfs_laws.specs.Separation.Apart.{IsInOrder, is_shared}
use Rattle.opfs_transcripts.specs.Told.Goings.{as_told}

abbrev pub answered_by : State Text Own → ℕ → Op → Ruled Need → Reply
answered_by s k o (Ok need) = answer s (sizes_of s k o) k o
answered_by s k o (Err refused) = reply.No refused

-- What the machine answers that judges the quota, and no shared room.
abbrev pub own_reply : State Text Own → ℕ → Op → Reply
own_reply s k o = answered_by s k o (judged_alone s k o)

abbrev pub own_entry : State Text Own → ℕ → ℕ → Op → Entry
own_entry s k n o = record { agent = k; number = n; op = o; reply = own_reply s k o; turn = true }

-- The entries of an end, from a number on: each open row ends in order, and then the script.
abbrev pub own_end : State Text Own → ℕ → ℕ → List Open → List Entry
own_end s k n [] = own_entry s k n op.End ∷ []
own_end s k n (row ∷ rows) = own_entry s k n (ending row) ∷ own_end (after_reply s k (ending row) (own_reply s k (ending row))) k (n + 1) rows

-- The entries of steps, from a number on, and then of the end.
abbrev pub own_steps : State Text Own → ℕ → Hand → ℕ → List Step → List Entry
own_steps s k h n [] = own_end s k n h.opened
own_steps s k h n (x ∷ steps) =
    own_entry s k n (op_of h x)
    ∷ own_steps (after_reply s k (op_of h x) (own_reply s k (op_of h x))) k (hand_then h x (op_of h x) (own_reply s k (op_of h x))) (n + 1) steps

-- The run of one agent's script on the machine that has its party's rows, modes and agents alone.
abbrev pub own_run : Opening → ℕ → Asked → List Entry
own_run o k a = own_steps (begun_alone o (party_with a.key k)) k (empty_hand a.key) 1 a.steps

-- No other agent is of this one's party.
abbrev pub IsLone : Opening → ℕ → Asked → Type 0
IsLone o k a = (j : ℕ) → is_member o (party_with a.key k) j ≡ (j == k)

-- An entry that tells nothing of what is shared: no eviction, no wait, and no refusal of shared room or of the disk.
pub record IsOwnEntry (e : Entry) : Type 0 where
  pub stays : evicted_by e.op ≡ None
  pub moves : is_wait e.op ≡ false
  pub own : is_shared e.reply ≡ false

abbrev pub LoneRunsAreTheirOwn : Type 0
LoneRunsAreTheirOwn = (o : Opening) (es : List Entry) (k : ℕ) (a : Asked) → IsInOrder o → Legal o es → All IsOwnEntry es → IsLone o k a → IsRun a (entries_of k es)
    → map as_told (entries_of k es) ≡ own_run o k a
