-- All own rows stay but the one that a call has in hand.
use Rattle.std.proofs.Common.{◌≡◌, ◌≢◌, ℕ, ◌+◌, true, cond, List, [], fold, length, option_map, refl, sym, ap, subst, ◌∙◌, inl, inr, IsTrue}
use Rattle.std.proofs.lemmas.Bool.{cases_eq}
use Rattle.opfs_base.specs.Texts.{Text}
use Rattle.opfs_data.specs.Rows.{IsOther}
use Rattle.opfs_hist.specs.Sums.{asks_for_row}
use Rattle.opfs_hist.specs.declared.op.Op.{Op}
use Rattle.opfs_hist.specs.declared.op.Op.TheVariants as op
use Rattle.opfs_hist.specs.declared.reply.Reply.{Reply}
use Rattle.opfs_laws.specs.Leaving.{row_used}
use Rattle.opfs_laws.proofs.Moved.{call-moves}
use Rattle.opfs_laws.proofs.Numbers.{number-of}
use Rattle.opfs_laws.proofs.OwnKept.{evicted-agents}
use Rattle.opfs_laws.specs.Lengths.Outlines.{in_lengths_of}
use Rattle.opfs_laws.proofs.lengths.Readers.{own-on, agent-on}
use Rattle.opfs_machine.specs.declared.own.Own.{Own}
use Rattle.opfs_machine.specs.declared.state.State.{State}
use Rattle.opfs_machine.specs.Agents.{agent_of, agent_in, own_of}
use Rattle.opfs_machine.specs.Contents.{outline_of}
use Rattle.opfs_machine.specs.Steps.{after_reply, evicted}
use Rattle.opfs_pages.specs.HistoryLaws.Hands.{row_in_hand}
use Rattle.opfs_pages.specs.HistoryLaws.Open.{if_open, open_at, OthersStayOpen}
use Rattle.opfs_pages.proofs.history_laws.Hands.{moved-own}
use Rattle.opfs_pages.proofs.history_laws.Others.{reply-other}

asks-used : (o : Op) → asks_for_row o ≡ true → row_used o ≡ 0
asks-used (op.Values dir) is = refl
asks-used (op.GetFile file) is = refl
asks-used (op.CreateWritable file keep) is = refl
asks-used (op.CreateSyncAccessHandle file mode) is = refl
asks-used o is = absurd cc

pub own-left : (s : State Text Own) (j : ℕ) (o : Op) (told : Reply) (k n : ℕ) → IsTrue (agent_of s j).live → IsOther j (row_in_hand s j o) k n
    → own_of (agent_of (after_reply s j o told) k) n ≡ own_of (agent_of s k) n
unfolding row_in_hand
own-left s j o told k n live apart = elim (cases_eq k j) [
  | inr far ↦ ap (λ a. own_of a n) (reply-other s j k (number-of s j live) far o told)
  | inl same ↦
      let here : n ≢ cond (asks_for_row o) (length (agent_of s j).own + 1) (row_used o) = λ is. apart (same, is) in
      subst (λ (x : ℕ). own_of (agent_of (after_reply s j o told) x) n ≡ own_of (agent_of s x) n) (sym same)
      (moved-own (agent_of s j) (agent_of (after_reply s j o told) j) o n (call-moves s [] j o told live) here (asks-used o))
]

pub open-is : (s : State Text Own) (k n : ℕ) → open_at (in_lengths_of s) k n ≡ if_open (option_map outline_of (own_of (agent_of s k) n))
open-is s k n = ap (λ a. if_open (own_of a n)) (agent-on length outline_of s k) ∙ ap if_open (own-on outline_of (agent_of s k) n)

pub open-left : (s : State Text Own) (j : ℕ) (o : Op) (told : Reply) → IsTrue (agent_of s j).live
    → OthersStayOpen (in_lengths_of s) (in_lengths_of (after_reply s j o told)) j (row_in_hand s j o)
open-left s j o told live k n apart =
    open-is (after_reply s j o told) k n ∙ ap (λ x. if_open (option_map outline_of x)) (own-left s j o told k n live apart) ∙ sym (open-is s k n)

-- Evictions leave all own rows.
pub open-evicted : (gone : List Text) (s : State Text Own) (k n : ℕ) → open_at (in_lengths_of (fold evicted s gone)) k n ≡ open_at (in_lengths_of s) k n
open-evicted gone s k n =
    open-is (fold evicted s gone) k n ∙ ap (λ x. if_open (option_map outline_of (own_of (agent_in x k) n))) (evicted-agents gone s) ∙ sym (open-is s k n)
