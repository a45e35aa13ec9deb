-- What a call puts out of a text: all of it, or a front where it fails. This project's own.
use Rattle.std.specs.Prelude.{◌≡◌, ℕ, ◌≤◌, List, ◌++◌, Result, Ok, Err, IsErrOf}
use Rattle.opfs_base.specs.Texts.{Text}
use Rattle.opfs_data.specs.Calls.{Reads}
use Rattle.opfs_journal.specs.Seen.{Seen}
use Rattle.opfs_outside.specs.Faults.{Rose}
use Rattle.opfs_outside.specs.Turns.{SinkTurn, of_sink, SinkFailed, Took, TookFront}
use Rattle.opfs_outside.specs.declared.disk.Disk.{Ghosts as DiskWords}
use Rattle.opfs_outside.specs.declared.stream.Sink.{Ghosts as SinkWords}
use Rattle.opfs_dump.specs.declared.dumping.stop.DumpStop.{DumpStop}
use Rattle.opfs_dump.specs.declared.dumping.stop.DumpStop.TheVariants as stop

-- A front of the text was put out.
pub record TookSome (k : SinkTurn) (text : Text) : Type 0 where
  pub rest : Text
  pub front : TookFront k text rest

abbrev pub PutOut : {A E : Type 0} → SinkTurn → Text → Result A E → Type 0
PutOut k text (Ok a) = Took k text
PutOut k text (Err e) = TookSome k text

-- A text was put out, or a front of it, and then the sink failed or there was no memory.
pub record Puts {K A : Type 0} (k : SinkWords K) (before after : K) (text : Text) (r : Result A DumpStop) : Type 0 where
  pub put : PutOut (of_sink k before after) text r
  pub later : k.faults before ≤ k.faults after
  pub sink : IsErrOf r stop.SinkFault → SinkFailed (of_sink k before after)
  pub disk : IsErrOf r stop.DiskFault → ⊥

-- A text was put out, or a front of it, and then the disk or the sink failed, or there was no memory. Where the disk tells, it
-- is this text of what the disk holds. The disk was only read.
pub record Dumps {D K A : Type 0} (w : DiskWords D) (k : SinkWords K) (old new : Seen D) (before after : K) (text : List ℕ → Text) (r : Result A DumpStop) : Type 0 where
  pub reads : Reads w old new
  pub whole : Text
  pub put : PutOut (of_sink k before after) whole r
  pub told : w.tells → whole ≡ text (w.content old.disk)
  pub later : k.faults before ≤ k.faults after
  pub disk : IsErrOf r stop.DiskFault → Rose (w.faults old.disk) (w.faults new.disk)
  pub sink : IsErrOf r stop.SinkFault → SinkFailed (of_sink k before after)

-- The same in the midst of a text, of which this is still to come.
pub record DumpsSoFar {D K : Type 0} (w : DiskWords D) (k : SinkWords K) (old new : Seen D) (before after : K) (text rest : List ℕ → Text) : Type 0 where
  pub reads : Reads w old new
  pub front : Text
  pub took : Took (of_sink k before after) front
  pub told : w.tells → text (w.content old.disk) ≡ front ++ rest (w.content old.disk)
  pub later : k.faults before ≤ k.faults after
