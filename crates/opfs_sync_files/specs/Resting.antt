-- What calls leave of an agent's other own rows, and when nothing of it is open. This project's own.
use Rattle.std.specs.Prelude.{◌≡◌, ◌≢◌, ℕ, false, Some}
use Rattle.opfs_store.specs.Copies.Copies.{StandsFor}
use Rattle.opfs_machine.specs.declared.own.Own.{Own}
use Rattle.opfs_machine.specs.Agents.{is_open_row}
use Rattle.opfs_machine.specs.Contents.{outline_of}
use Rattle.opfs_turns.specs.Agents.{AgentSeen, known, own_row}
use Rattle.opfs_work.specs.Works.{WorkingCopy}

-- All own rows of an agent but that of a number are as they were, and what stood for one stands for it still. So is its key.
pub record LeavesRest {O : Type 0} (tells : Type 0) (before after : AgentSeen O) (n : ℕ) : Type 0 where
  pub row : (m : ℕ) (r : Own) → m ≢ n → own_row before m ≡ Some r → own_row after m ≡ Some r
  pub copy : (m : ℕ) (work : WorkingCopy) → m ≢ n → StandsFor tells before.opening (known before) before.pass.agent m work
      → StandsFor tells after.opening (known after) after.pass.agent m work
  pub key : after.key ≡ before.key

-- No own row of an agent but that of a number is an open stream or access handle. There is no row of the number 0.
abbrev pub RestsBut : {O : Type 0} → AgentSeen O → ℕ → Type 0
RestsBut a n = (m : ℕ) (r : Own) → m ≢ n → own_row a m ≡ Some r → is_open_row (outline_of r) ≡ false
