-- Calls of agents that change no file.
use Rattle.std.proofs.Common.{◌≡◌, ℕ, suc, ◌+◌, ◌-◌, ◌<◌, ◌^◌, Bool, true, false, List, [], ◌++◌, ◌∷◌, length, Option, Some, None, slice_set, refl, sym, ap, ◌∙◌, subst, arith}
use Rattle.std.proofs.lemmas.List.{append-nil, length-set}
use Rattle.opfs_base.specs.Places.{place_of}
use Rattle.opfs_base.specs.Texts.{Text}
use Rattle.opfs_base.specs.declared.extents.Extent.{Extent}
use Rattle.opfs_base.specs.declared.locator.Locator.{Locator}
use Rattle.opfs_hist.specs.declared.op.Op.{Op}
use Rattle.opfs_hist.specs.declared.op.Op.TheVariants as op
use Rattle.opfs_machine.specs.declared.own.Outline.{Outline}
use Rattle.opfs_machine.specs.declared.own.Outline.TheVariants as outline
use Rattle.opfs_machine.specs.declared.state.Agent.{Agent}
use Rattle.opfs_machine.specs.declared.state.FileRow.{FileRow}
use Rattle.opfs_machine.specs.declared.state.Posted.{Posted}
use Rattle.opfs_machine.specs.declared.state.Sizes.{Sizes}
use Rattle.opfs_machine.specs.Agents.{agent_of, with_agent, adds_own, counted, party_of}
use Rattle.opfs_machine.specs.Contents.{in_lengths}
use Rattle.opfs_machine.specs.Effects.{effect, takes_snapshot, with_waiting}
use Rattle.opfs_machine.specs.Rows.{file_at}
use Rattle.opfs_machine.specs.Rulings.{ruling}
use Rattle.opfs_register.specs.Seating.{noted}
use Rattle.opfs_state_rows.proofs.standing.AgentMoves.{number}
use Rattle.opfs_state_rows.specs.Standing.Noted.{with_sum}
use Rattle.opfs_state_rows.specs.Standing.Seen.{Machine, Seen}
use Rattle.opfs_state_rows.proofs.changes.Told.{file-told}
use Rattle.opfs_state_rows.specs.Changes.Allowed.{MayApply, MayCount, MayDo}
use Rattle.opfs_state_rows.specs.Changes.Asking.{made_at}
use Rattle.opfs_state_rows.specs.Changes.Changed.{IsDone, tree_by}

pub may_count : (m : Machine) (z : Sizes) (k : ℕ) (o : Op) → MayDo m z k o → MayCount m k
may_count m z k o may = record { above = may.above; within = may.within; few = may.few; entries = may.entries }

module _ (s one last : Seen) (z : Sizes) (at : ℕ) (extents : Option (List Extent)) (count : last ≡ record one { machine = counted one.machine (suc at) }) (tree : one.tree ≡ s.tree) where
  machine-of : (m : Machine) → one.machine ≡ m → last.machine ≡ counted m (suc at)
  machine-of m is = ap (λ (x : Seen). x.machine) count ∙ ap (λ (x : Machine). counted x (suc at)) is

  tree-of : last.tree ≡ s.tree
  tree-of = ap (λ (x : Seen). x.tree) count ∙ tree

  pub values-done : (dir : Locator) → one.machine ≡ adds_own s.machine (suc at) outline.Iterator → IsDone s last z (suc at) (op.Values dir) extents
  unfolding effect tree_by made_at
  values-done dir is = record { machine = machine-of (adds_own s.machine (suc at) outline.Iterator) is; tree = tree-of }

  pub end-done : one.machine ≡ with_agent s.machine (suc at) (record (agent_of s.machine (suc at)) { live = false; waits = None }) → IsDone s last z (suc at) op.End extents
  unfolding effect tree_by made_at
  end-done is = record { machine = machine-of _ is; tree = tree-of }

  pub await-done : (tag : Text) → one.machine ≡ with_waiting s.machine (suc at) None → IsDone s last z (suc at) (op.Await tag) extents
  unfolding effect tree_by made_at
  await-done tag is = record { machine = machine-of (with_waiting s.machine (suc at) None) is; tree = tree-of }

  pub wait-done : (tag : Text) → one.machine ≡ with_waiting s.machine (suc at) (Some tag) → IsDone s last z (suc at) (op.Wait tag) extents
  unfolding effect tree_by made_at
  wait-done tag is = record { machine = machine-of (with_waiting s.machine (suc at) (Some tag)) is; tree = tree-of }

  pub post-done : (tag : Text) → one.machine ≡ record s.machine { posted = s.machine.posted ++ record { party = party_of s.machine (suc at); tag = tag } ∷ [] } → IsDone s last z (suc at) (op.Post tag) extents
  unfolding effect tree_by made_at
  post-done tag is = record { machine = machine-of (record s.machine { posted = s.machine.posted ++ record { party = party_of s.machine (suc at); tag = tag } ∷ [] }) is; tree = tree-of }

  pub snapshot-done : (at2 : Locator) → MayApply s.machine z (suc at) (op.GetFile at2) → one.machine ≡ adds_own s.machine (suc at) outline.Snapshot → IsDone s last z (suc at) (op.GetFile at2) extents
  unfolding effect tree_by made_at ruling
  snapshot-done at2 may is =
      let found = file-told s.machine at2 may.need may.ruled in
      record {
        machine = machine-of (adds_own s.machine (suc at) outline.Snapshot) is ∙ ap (λ o. counted (takes_snapshot in_lengths s.machine (suc at) o) (suc at)) (sym found.1);
        tree = tree-of;
      }

  pub moment-done : (ms : ℕ) → one.machine ≡ with_sum s.machine at (record { entries = 0; rows = 0; moment = Some ms }) → IsDone s last z (suc at) (op.Moment ms) extents
  unfolding effect tree_by made_at
  moment-done ms is =
      let a = agent_of s.machine (suc at) in
      record {
        machine =
            machine-of (with_sum s.machine at (record { entries = 0; rows = 0; moment = Some ms })) is
            ∙ ap (λ (x : Machine). counted x (suc at))
            ((let own = append-nil a.own in let entries : s.machine.entries + 0 ≡ s.machine.entries = omega arith in
            λ i. record s.machine { agents = slice_set s.machine.agents at (record a { moment = ms; own = own i }); entries = entries i })
            ∙ ap (λ j. record s.machine { agents = slice_set s.machine.agents j (record a { moment = ms }) }) (sym (number at)));
        tree = tree-of;
      }

-- What is counted after one more change of an agent.
pub as-many-set : (m one : Machine) (at : ℕ) (a : Agent Outline) → one ≡ with_agent m (suc at) a → length one.agents ≡ length m.agents
as-many-set m one at a is = ap (λ (x : Machine). length x.agents) is ∙ length-set m.agents (suc at - 1) a
