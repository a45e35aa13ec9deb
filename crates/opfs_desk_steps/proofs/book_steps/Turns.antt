-- The units that are cleared for a call, one after another: each has its turn, and once all are cleared the call has room.
use Rattle.std.proofs.Common.{◌≡◌, ℕ, false, List, [], ◌∷◌, ◌++◌, fold, length, Ok, is_some, refl, sym, ap, subst, ◌∙◌, inr}
use Rattle.std.specs.Prelude.{IsTrue}
use Rattle.std.proofs.lemmas.List.{append_assoc}
use Rattle.std.proofs.lemmas.List.Sums.{fold-append}
use Rattle.opfs_base.specs.Texts.{Text}
use Rattle.opfs_books.specs.Laws.Laws.{failed}
use Rattle.opfs_hist.specs.declared.entry.Entry.{Entry}
use Rattle.opfs_hist.specs.declared.op.Op.{Op}
use Rattle.opfs_laws.proofs.Accepted.{answer-accepted}
use Rattle.opfs_laws.proofs.OwnKept.{evicted-agents}
use Rattle.opfs_laws.proofs.lengths.Readers.{agent-on}
use Rattle.opfs_laws.specs.Lengths.Bridge.{LengthsFollowEachCall}
use Rattle.opfs_laws.specs.Lengths.Kept.{Kept}
use Rattle.opfs_laws.specs.Lengths.Outlines.{in_lengths_of}
use Rattle.opfs_machine.specs.Contents.{outline_of}
use Rattle.opfs_machine.specs.declared.own.Own.{Own}
use Rattle.opfs_machine.specs.declared.state.State.{State}
use Rattle.opfs_machine.specs.Agents.{agent_of, agent_in}
use Rattle.opfs_machine.specs.Histories.{IsCall}
use Rattle.opfs_machine.specs.Replies.{answer, sizes_of}
use Rattle.opfs_machine.specs.Rows.{row_at}
use Rattle.opfs_machine.specs.Ruled.{Ruled}
use Rattle.opfs_machine.specs.Steps.{is_refusal, evicted, step, judged, outcome_of}
use Rattle.opfs_machine.specs.Sums.{is_persistent}
use Rattle.opfs_machine.specs.Victims.{is_callers}
use Rattle.opfs_space.specs.Room.{Machine}
use Rattle.opfs_state.specs.Laws.Room.{HasRoom}
use Rattle.opfs_desk_steps.specs.Parts.Seen.{machine_in}
use Rattle.opfs_desk_steps.specs.declared.parts.parts.Ledger.{Ledger}
use Rattle.opfs_desk_steps.specs.BookSteps.Clearing.{IsJudged, IsTurn}

-- ---- what the machine's step tells of a call that was judged

pub step-victims : (s : State Text Own) (k : ℕ) (op : Op) (units : List Text) → judged s k op ≡ Ok units → (step s k op).victims ≡ units
unfolding step outcome_of
step-victims s k op units is = ap (λ (u : Ruled (List Text)). (outcome_of s k op u).victims) is

pub step-answer : (s : State Text Own) (k : ℕ) (op : Op) (units : List Text) → judged s k op ≡ Ok units → (step s k op).answered ≡ answer s (sizes_of s k op) k op
unfolding step outcome_of
step-answer s k op units is = ap (λ (u : Ruled (List Text)). (outcome_of s k op u).answered) is

pub step-accepted : (s : State Text Own) (k : ℕ) (op : Op) (units : List Text) → judged s k op ≡ Ok units → is_refusal (step s k op).answered ≡ false
step-accepted s k op units is = ap is_refusal (step-answer s k op units is) ∙ answer-accepted s (sizes_of s k op) k op

-- The disk may fail in it after some of the units.
pub may-fail : (s : State Text Own) (e : Entry) (units gone rest : List Text) → IsJudged s e units → units ≡ gone ++ rest → IsCall s gone (failed e)
may-fail s e units gone rest is split = record {
  live = is.live;
  fitting = is.fitting;
  agrees = inr (record {
    told = refl;
    accepted = step-accepted s e.agent e.op units is.judged;
    disk = is.disk;
    front = (rest, step-victims s e.agent e.op units is.judged ∙ split);
  });
}

-- ---- agents' keys

pub key-of : (s : State Text Own) (gone : List Text) (k : ℕ) (m : Machine) → m ≡ in_lengths_of (fold evicted s gone) → (agent_of m k).key ≡ (agent_of s k).key
key-of s gone k m machine =
    ap (λ (x : Machine). (agent_of x k).key) machine
    ∙ ap (λ a. a.key) (agent-on length outline_of (fold evicted s gone) k)
    ∙ ap (λ agents. (agent_in agents k).key) (evicted-agents gone s)

-- ---- one unit's turn

module _ (follow : LengthsFollowEachCall) (s : State Text Own) (e : Entry) (units : List Text) (is : IsJudged s e units) (room : HasRoom s e.agent e.op units) where
  one-more : (gone : List Text) (unit : Text) → evicted (in_lengths_of (fold evicted s gone)) unit ≡ in_lengths_of (fold evicted s (gone ++ unit ∷ []))
  one-more gone unit = follow.evictions (fold evicted s gone) (unit ∷ []) ∙ ap in_lengths_of (sym (fold-append evicted s gone (unit ∷ [])))

  kept-after : (gone : List Text) (unit : Text) (rest : List Text) → units ≡ gone ++ unit ∷ rest → Kept (in_lengths_of (fold evicted s (gone ++ unit ∷ [])))
  kept-after gone unit [] split = subst (λ (us : List Text). Kept (in_lengths_of (fold evicted s us))) split room.kept
  kept-after gone unit (next ∷ more) split = (room.each (gone ++ unit ∷ []) next more (split ∙ sym (append_assoc gone (unit ∷ []) (next ∷ more)))).kept

  pub turn : {D : Type 0} (l : Ledger D) (gone : List Text) (unit : Text) (rest : List Text) → units ≡ gone ++ unit ∷ rest → machine_in l ≡ in_lengths_of (fold evicted s gone) → IsTurn s gone l e unit
  turn l gone unit rest split machine =
      let clear = room.each gone unit rest split in
      record {
        fault = may-fail s e units gone (unit ∷ rest) is split;
        rest = rest;
        victims = step-victims s e.agent e.op units is.judged ∙ split;
        root = subst (λ (m : Machine). IsTrue (is_some (row_at m (unit, [])))) (sym machine) clear.root;
        mode = ap (λ (m : Machine). is_persistent m unit) machine ∙ clear.mode;
        after = subst (λ (m : Machine). Kept (evicted m unit)) (sym machine) (subst Kept (sym (one-more gone unit)) (kept-after gone unit rest split));
        other = ap (λ key. is_callers key unit) (key-of s gone e.agent (machine_in l) machine) ∙ room.others gone unit rest split;
      }
