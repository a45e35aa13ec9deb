-- The legal history behind one that is held, and what it says of the state.
use Rattle.std.proofs.Common.{◌≡◌, ℕ, true, List, [], length, Some, Ok, refl, sym, ap, subst, ◌∙◌, arith}
use Rattle.std.specs.Prelude.{IsTrue}
use Rattle.std.proofs.lemmas.Bool.{and_parts}
use Rattle.std.proofs.lemmas.List.{length-map}
use Rattle.opfs_base.specs.Keys.{is_origin}
use Rattle.opfs_base.specs.Texts.{Text}
use Rattle.opfs_base.specs.Units.{origin_of, unit_of}
use Rattle.opfs_base.proofs.UnitLemmas.{origin_of-unit_of, origin_of-plain, plain-from_is_origin}
use Rattle.opfs_books.specs.Laws.Books.{IsToldAt}
use Rattle.opfs_books.proofs.laws.Told.{told-whole}
use Rattle.opfs_codec.specs.Spelling.{is_key_text}
use Rattle.opfs_hist.specs.declared.entry.Entry.{Entry}
use Rattle.opfs_hist.specs.declared.op.Op.{Op}
use Rattle.opfs_laws.specs.Histories.Unread.{IsTold, ReadsLeaveTheState}
use Rattle.opfs_laws.specs.Counting.{AStateCountsItsHistory, key_of}
use Rattle.opfs_laws.specs.Whole.{IsWholeOpening}
use Rattle.opfs_laws.proofs.Numbers.{number-of}
use Rattle.opfs_laws.specs.Lengths.Bridge.{LengthsDecideEachRuling, judged_in}
use Rattle.opfs_laws.specs.Lengths.Outlines.{in_lengths_of}
use Rattle.opfs_machine.specs.declared.own.Own.{Own}
use Rattle.opfs_machine.specs.declared.state.State.{State}
use Rattle.opfs_machine.specs.Agents.{agent_of}
use Rattle.opfs_machine.specs.Contents.{in_bytes}
use Rattle.opfs_machine.specs.Histories.{Legal, may_enter, state_after}
use Rattle.opfs_machine.specs.Openings.{Opening}
use Rattle.opfs_machine.specs.Replies.{sizes_of}
use Rattle.opfs_machine.specs.Steps.{judged}
use Rattle.opfs_machine.specs.Victims.{is_callers}
use Rattle.opfs_state_rows.proofs.standing.Units.{unit_itself}
use Rattle.opfs_state.specs.Laws.Room.{HasOwnBuckets, HasRoom, EvictionsMakeRoom}
use Rattle.opfs_state.specs.Laws.Owned.{CallsAreAboutOwnUnits}
use Rattle.opfs_state_rows.specs.Changes.Asking.{AreOwnUnits}
use Rattle.opfs_state.specs.Verdicts.Callers.{IsAgent}
use Rattle.opfs_desk_steps.specs.Parts.Held.{HaveOwnKeys}

-- A call is judged in bytes as the machine judges it.
judged-is : (s : State Text Own) (k : ℕ) (op : Op) → judged_in in_bytes s (sizes_of s k op) k op ≡ judged s k op
unfolding judged_in judged
judged-is s k op = refl

module _ (tells : Type 0) (o : Opening) (h : List Entry) (reads : ReadsLeaveTheState) (t : IsToldAt tells o h (state_after o h) []) where
  abbrev pub real-told : IsTold tells o h
  real-told = told-whole tells o h (state_after o h) t

  abbrev pub real : List Entry
  real = real-told.real

  pub real-legal : Legal o real
  real-legal = real-told.legal

  pub real-state : state_after o h ≡ state_after o real
  real-state = reads.state o h real real-told.alike

  -- ---- keys

  module _ (counts : AStateCountsItsHistory) (keys : HaveOwnKeys o) where
    key-now : (k : ℕ) → (agent_of (state_after o h) k).key ≡ key_of o k
    key-now k = ap (λ (s : State Text Own). (agent_of s k).key) real-state ∙ counts.keys o real k real-legal

    origin-now : (k : ℕ) (key : Text) → (agent_of (state_after o h) k).key ≡ Some key → is_origin key ≡ true
    origin-now k key is = (and_parts (is_key_text key) (is_origin key) (keys k key (sym (key-now k) ∙ is)).1).1

    pub own-buckets : (k : ℕ) → HasOwnBuckets (state_after o h) k
    own-buckets k origin bucket is =
        ap (λ x. is_callers x (unit_of origin bucket)) is
        ∙ unit_itself origin (origin_of (unit_of origin bucket)) (sym (origin_of-unit_of origin bucket (plain-from_is_origin origin (origin-now k origin is))))

    pub own-origin : (k : ℕ) (key : Text) → (agent_of (state_after o h) k).key ≡ Some key → origin_of key ≡ key
    own-origin k key is = origin_of-plain key (plain-from_is_origin key (origin-now k key is))

    -- ---- what was judged

    module _ (k : ℕ) (op : Op) (may : IsTrue (may_enter (state_after o h) k op)) where
      buckets-real : HasOwnBuckets (state_after o real) k
      buckets-real = subst (λ (s : State Text Own). HasOwnBuckets s k) real-state (own-buckets k)

      may-real : IsTrue (may_enter (state_after o real) k op)
      may-real = subst (λ (s : State Text Own). IsTrue (may_enter s k op)) real-state may

      pub own-units : CallsAreAboutOwnUnits → AreOwnUnits (in_lengths_of (state_after o h)) k op
      own-units about = subst (λ (s : State Text Own). AreOwnUnits (in_lengths_of s) k op) (sym real-state) (about o real k op real-legal may-real buckets-real)

      pub has-room : EvictionsMakeRoom → LengthsDecideEachRuling → IsWholeOpening o → (units : List Text) → judged (state_after o h) k op ≡ Ok units → HasRoom (state_after o h) k op units
      has-room make decide whole units is =
          subst (λ (s : State Text Own). HasRoom s k op units) (sym real-state)
          (make o real k op units whole real-legal may-real buckets-real
          (decide.judged (state_after o real) (sizes_of (state_after o real) k op) k op ∙ judged-is (state_after o real) k op ∙ ap (λ (s : State Text Own). judged s k op) (sym real-state) ∙ is))

-- ---- agents by their numbers

lengths-agents : (s : State Text Own) → length (in_lengths_of s).agents ≡ length s.agents
lengths-agents s = length-map s.agents _

pub agent-there : (s : State Text Own) (k : ℕ) → IsTrue (agent_of s k).live → IsAgent (in_lengths_of s) k
agent-there s k live =
    let n = number-of s k live in
    record { above = omega (arith, n.is); within = omega (arith, n.is, n.within, lengths-agents s) }
