-- How long an agent's own row stays. This project's own.
use Rattle.std.specs.Prelude.{◌≡◌, ◌≢◌, ℕ, ⊤, List, ◌++◌, All, Some}
use Rattle.opfs_hist.specs.declared.entry.Entry.{Entry}
use Rattle.opfs_machine.specs.declared.own.Own.{Own}
use Rattle.opfs_machine.specs.Agents.{agent_of, own_of}
use Rattle.opfs_machine.specs.Histories.{state_after}
use Rattle.opfs_machine.specs.Openings.{Opening}
use Rattle.opfs_laws.specs.Leaving.{row_used}
use Rattle.opfs_laws.specs.Histories.Unread.{IsTold}
use Rattle.opfs_store.specs.Copies.Copies.{StandsFor}
use Rattle.opfs_work.specs.Works.{WorkingCopy}

-- An entry is another agent's, or uses another row.
abbrev pub IsBesideRow : ℕ → ℕ → Entry → Type 0
IsBesideRow k n e = e.agent ≡ k → row_used e.op ≢ n

-- Entries go on behind a history, and none uses the row. What is told of them goes on further.
pub record GoesBeside (tells : Type 0) (o : Opening) (h more : List Entry) (k n : ℕ) : Type 0 where
  pub real : k ≢ 0
  pub rest : List Entry
  pub told : IsTold tells o ((h ++ more) ++ rest)
  pub beside : All (IsBesideRow k n) more

pub record OtherRowsStay : Type 0 where
  -- The row is the same.
  pub row : (o : Opening) (h more : List Entry) (k n : ℕ) (r : Own) → GoesBeside ⊤ o h more k n
      → own_of (agent_of (state_after o h) k) n ≡ Some r → own_of (agent_of (state_after o (h ++ more)) k) n ≡ Some r
  -- A working copy that stands for it still does.
  pub copy : (o : Opening) (h more : List Entry) (k n : ℕ) (work : WorkingCopy) → GoesBeside ⊤ o h more k n
      → StandsFor ⊤ o h k n work → StandsFor ⊤ o (h ++ more) k n work
