-- A working copy still stands for its row behind the entries of others, with the agent's own calls after them.
use Rattle.std.proofs.Common.{◌≡◌, ◌≢◌, ℕ, zero, suc, true, false, All, List, ◌++◌, Some, sym, ap, ◌∙◌, fold}
use Rattle.std.proofs.lemmas.List.Sums.{fold-append}
use Rattle.opfs_hist.specs.declared.entry.Entry.{Entry}
use Rattle.opfs_machine.specs.declared.own.Own.{Own}
use Rattle.opfs_machine.specs.declared.state.State.{State}
use Rattle.opfs_base.specs.Texts.{Text}
use Rattle.opfs_machine.specs.Agents.{agent_of, own_of}
use Rattle.opfs_machine.specs.Histories.{after_entry, state_after}
use Rattle.opfs_machine.specs.Openings.{Opening, begun}
use Rattle.opfs_laws.specs.Leaving.{seen_by}
use Rattle.opfs_laws.specs.Histories.Unread.{IsTold, ArePendingFor}
use Rattle.opfs_laws.specs.Steady.Steady.{open_bytes, is_steady, steady_from}
use Rattle.opfs_laws.proofs.steady.GoingOn.{steady-append, steady-kept}
use Rattle.opfs_laws.proofs.steady.Others.{bytes-alike}
use Rattle.opfs_store.specs.Copies.Copies.{StandsFor}
use Rattle.opfs_store.proofs.copies.Copying.{copy-alike}
use Rattle.opfs_store.specs.Acts.Asking.{IsHandedIn}
use Rattle.opfs_work.specs.Works.{WorkingCopy}
use Rattle.opfs_turns.proofs.Others.{told-seen, told-stay, pending-for, steady-carried}

pub after-more : (o : Opening) (h more : List Entry) → state_after o (h ++ more) ≡ fold after_entry (state_after o h) more
after-more o h more = fold-append after_entry (begun o) h more

steady-more : (o : Opening) (h more : List Entry) (k n i : ℕ) → is_steady o (h ++ more) k n i ≡ steady_from (state_after o h) (is_steady o h k n i) k n i more
steady-more o h more k n i = steady-append (begun o) false k n i h more

module _ (tells : Type 0) (o : Opening) (base more : List Entry) (k : ℕ) (told : IsTold tells o (base ++ more)) (apart : All (λ e. e.agent ≢ k) more)
    (pend : List Entry) (local : ArePendingFor tells (state_after o base) k pend) where
  start : seen_by (state_after o base) k ≡ seen_by (state_after o (base ++ more)) k
  start = sym (told-seen tells o base more k told apart)

  carried : ArePendingFor tells (state_after o (base ++ more)) k pend × (seen_by (fold after_entry (state_after o base) pend) k ≡ seen_by (fold after_entry (state_after o (base ++ more)) pend) k)
  carried = pending-for tells (state_after o base) (state_after o (base ++ more)) k pend start local

  -- The agent's own calls are such behind those of others.
  pub act-pending : ArePendingFor tells (state_after o (base ++ more)) k pend
  act-pending = carried.0

  -- All that is its own is the same.
  pub known-same : seen_by (state_after o ((base ++ more) ++ pend)) k ≡ seen_by (state_after o (base ++ pend)) k
  known-same =
      ap (λ s. seen_by s k) (after-more o (base ++ more) pend)
      ∙ sym carried.1
      ∙ ap (λ s. seen_by s k) (sym (after-more o base pend))

  module _ (n : ℕ) (work : WorkingCopy) (stands : StandsFor tells o (base ++ pend) k n work) where
    abbrev s : State Text Own
    s = state_after o (base ++ pend)

    abbrev t : State Text Own
    t = state_after o ((base ++ more) ++ pend)

    own_there : own_of (agent_of t k) n ≡ Some stands.row
    own_there = ap (λ x. own_of x.0 n) known-same ∙ stands.there

    bytes_there : open_bytes t (Some stands.row) ≡ open_bytes s (Some stands.row)
    bytes_there =
        ap (open_bytes t) (sym own_there)
        ∙ bytes-alike t s k n (ap (λ x. x.1) known-same)
        ∙ ap (open_bytes s) stands.there

    steady_there : (i : ℕ) → is_steady o (base ++ pend) k n i ≡ true → is_steady o ((base ++ more) ++ pend) k n i ≡ true
    steady_there i is =
        steady-more o (base ++ more) pend k n i
        ∙ steady-carried tells (state_after o base) (state_after o (base ++ more)) k n i (is_steady o base k n i) (is_steady o (base ++ more) k n i) pend start local
        (steady-kept o base more k n i (told-stay tells o base more k told apart n))
        (sym (steady-more o base pend k n i) ∙ is)

    pub stands-there : StandsFor tells o ((base ++ more) ++ pend) k n work
    stands-there = record {
      row = stands.row;
      there = own_there;
      copy = copy-alike tells s t stands.row work bytes_there stands.copy;
      held = λ i within is. steady_there i (stands.held i within is);
    }

  pub handed-there : (n : ℕ) (work : WorkingCopy) → IsHandedIn tells o (base ++ pend) k n work → IsHandedIn tells o ((base ++ more) ++ pend) k n work
  handed-there zero work h = h
  handed-there (suc n) work h = stands-there (suc n) work h
