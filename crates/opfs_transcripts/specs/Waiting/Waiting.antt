-- Histories without the entries in which agents begin to wait. This project's own.
use Rattle.std.specs.Prelude.{◌≡◌, not, List, All, filter, length}
use Rattle.opfs_hist.specs.declared.entry.Entry.{Entry}
use Rattle.opfs_machine.specs.Histories.{Legal}
use Rattle.opfs_machine.specs.Openings.{Opening}
use Rattle.opfs_print.specs.Lines.{text_of}
use Rattle.opfs_script_run.specs.Runs.Running.{is_wait}
use Rattle.opfs_script.specs.Scripts.{Asked}
use Rattle.opfs_laws.specs.Separation.Apart.{IsInOrder}
use Rattle.opfs_script_run.specs.Stage.Runs.{EachRuns}
use Rattle.opfs_transcripts.specs.Told.Reading.{IsPlainEntry}

abbrev pub without_waits : List Entry → List Entry
without_waits es = filter (λ e. not (is_wait e.op)) es

-- A legal history in which each agent's entries are its script's run.
pub record IsHistory (o : Opening) (script : List Asked) (es : List Entry) : Type 0 where
  pub legal : Legal o es
  pub runs : EachRuns script es

-- A history in which nothing is cleared and nobody is stuck stays one without its waits, and has the same text.
abbrev pub WaitsDecideNothing : Type 0
WaitsDecideNothing = (o : Opening) (script : List Asked) (es : List Entry) → IsInOrder o → length o.agents ≡ length script → All IsPlainEntry es
    → IsHistory o script es → IsHistory o script (without_waits es) × (text_of (without_waits es) ≡ text_of es)
