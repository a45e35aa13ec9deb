-- What a judge knows of a text while it reads it. This project's own.
use Rattle.std.specs.Prelude.{◌≡◌, Bool, true, false, List, All}
use Rattle.opfs_base.specs.Texts.{Text}
use Rattle.opfs_hist.specs.declared.entry.Entry.{Entry}
use Rattle.opfs_machine.specs.declared.own.Own.{Own}
use Rattle.opfs_machine.specs.declared.state.State.{State}
use Rattle.opfs_machine.specs.Histories.{Legal, state_after}
use Rattle.opfs_machine.specs.Openings.{Opening}
use Rattle.opfs_script_run.specs.Runs.Running.{is_wait}
use Rattle.opfs_laws.specs.Separation.Apart.{IsInOrder}
use Rattle.opfs_transcripts.specs.Told.Goings.{Going}
use Rattle.opfs_transcripts.specs.Told.Turns.{HasRest}
use Rattle.opfs_transcripts.specs.Waiting.Fixed.{IsInLines}
use Rattle.opfs_judge.specs.Players.{goings_of}

-- A state that a legal history in which nobody begins to wait leaves.
pub record IsReached (o : Opening) (s : State Text Own) : Type 0 where
  pub entries : List Entry
  pub legal : Legal o entries
  pub moves : All (λ e. is_wait e.op ≡ false) entries
  pub present : s ≡ state_after o entries

-- Some entries go on from here with this text, or none do.
abbrev pub IsFound : State Text Own → List Going → Text → Bool → Type 0
IsFound s goings text true = HasRest s (goings_of goings) text
IsFound s goings text false = HasRest s (goings_of goings) text → ⊥

-- The same of every opening from which the state is reached.
abbrev pub IsRead : State Text Own → List Going → Text → Bool → Type 0
IsRead s goings text found = (o : Opening) → IsInOrder o → IsInLines o → IsReached o s → IsFound s goings text found
