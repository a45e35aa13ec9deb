-- How long a working copy stands for a row. This project's own.
use Rattle.std.specs.Prelude.{◌≡◌, ◌≢◌, ℕ, ⊤, All, true, List, [], ◌∷◌, ◌++◌, Some, slice_index}
use Rattle.opfs_base.specs.Texts.{Text}
use Rattle.opfs_hist.specs.declared.entry.Entry.{Entry}
use Rattle.opfs_machine.specs.declared.own.Own.{Own}
use Rattle.opfs_machine.specs.Agents.{agent_of, own_of}
use Rattle.opfs_machine.specs.Histories.{Legal, state_after}
use Rattle.opfs_machine.specs.Openings.{Opening}
use Rattle.opfs_laws.specs.Steady.Settling.{BytesStay}
use Rattle.opfs_laws.specs.Steady.Steady.{settles}
use Rattle.opfs_work.specs.Works.{WorkingCopy, contents}
use Rattle.opfs_store.specs.Copies.Copies.{IsCopyOf, StandsFor, IsPaged}

pub record ACopyStandsForItsRow : Type 0 where
  -- With whatever bytes elsewhere a copy has a row's bytes, with the row's own it has them too.
  pub own : (far : ℕ → ℕ) (work : WorkingCopy) (bytes : Text) → contents far work ≡ bytes → contents (slice_index bytes) work ≡ bytes
  -- After a call that had the row in hand under the turn, any copy of the row stands for it.
  pub settled : (o : Opening) (h : List Entry) (e : Entry) (k n : ℕ) (r : Own) (work : WorkingCopy) → settles (state_after o h) k n e ≡ true → IsPaged work
      → own_of (agent_of (state_after o (h ++ e ∷ [])) k) n ≡ Some r → IsCopyOf ⊤ (state_after o (h ++ e ∷ [])) r work → StandsFor ⊤ o (h ++ e ∷ []) k n work
  -- It still stands after entries that change neither the row nor its bytes.
  pub kept : (o : Opening) (h more : List Entry) (k n : ℕ) (work : WorkingCopy) → StandsFor ⊤ o h k n work → BytesStay (state_after o h) k n more
      → own_of (agent_of (state_after o (h ++ more)) k) n ≡ own_of (agent_of (state_after o h) k) n → StandsFor ⊤ o (h ++ more) k n work
  -- So it does after entries of other agents, and evictions.
  pub others : (o : Opening) (h more rest : List Entry) (k n : ℕ) (work : WorkingCopy) → StandsFor ⊤ o h k n work → Legal o ((h ++ more) ++ rest)
      → All (λ e. e.agent ≢ k) more → StandsFor ⊤ o (h ++ more) k n work
