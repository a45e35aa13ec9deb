-- Histories each of whose lines tells one entry. This project's own.
use Rattle.std.specs.Prelude.{◌≡◌, ◌<◌, ◌^◌, Bool, true, false, List, All, length}
use Rattle.std.specs.List.{list_any}
use Rattle.opfs_hist.specs.declared.entry.Entry.{Entry}
use Rattle.opfs_machine.specs.Histories.{Legal}
use Rattle.opfs_machine.specs.Openings.{Opening}
use Rattle.opfs_script_run.specs.Runs.Running.{is_wait}
use Rattle.opfs_script.specs.declared.step.Step.{Step}
use Rattle.opfs_script.specs.declared.step.Step.TheVariants as step
use Rattle.opfs_script.specs.Scripts.{Asked}
use Rattle.opfs_laws.specs.Separation.Apart.{IsInOrder}
use Rattle.opfs_transcripts.specs.Told.Goings.{IsFixed, has_no, is_line}
use Rattle.opfs_transcripts.specs.Waiting.Waiting.{IsHistory}

-- No unit that is stored and no agent's key has a line feed, and an agent's number has 64 bits.
pub record IsInLines (o : Opening) : Type 0 where
  pub rows : All (λ e. has_no 10 e.0.0 ≡ true) o.stored.rows
  pub keys : All (λ who. is_line who.key ≡ true) o.agents
  pub few : length o.agents < 2 ^ 64

-- In a legal history without waits each entry's line tells it.
abbrev pub HistoriesAreFixed : Type 0
HistoriesAreFixed = (o : Opening) (es : List Entry) → IsInOrder o → IsInLines o → Legal o es → All (λ e. is_wait e.op ≡ false) es → All IsFixed es

abbrev pub is_await : Step → Bool
is_await (step.Await tag) = true
is_await s = false

abbrev pub has_await : Asked → Bool
has_await a = list_any is_await a.steps

-- In a history of a script without an await nobody begins to wait.
abbrev pub NobodyWaitsUnasked : Type 0
NobodyWaitsUnasked = (o : Opening) (script : List Asked) (es : List Entry) → IsInOrder o → IsInLines o → length o.agents ≡ length script → list_any has_await script ≡ false → IsHistory o script es
    → All (λ e. is_wait e.op ≡ false) es
