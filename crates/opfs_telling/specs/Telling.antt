-- What a sink took of the lines of a history that is told while it grows. This project's own.
use Rattle.std.specs.Prelude.{◌≡◌, ℕ, ◌≤◌, List, ◌++◌, length}
use Rattle.opfs_base.specs.Texts.{Text}
use Rattle.opfs_hist.specs.declared.entry.Entry.{Entry}
use Rattle.opfs_outside.specs.Turns.{of_sink, SinkFailed, SinkTurn, Took, TookFront}
use Rattle.opfs_outside.specs.declared.stream.Sink.{Ghosts as SinkWords}
use Rattle.opfs_print.specs.Lines.{text_of}
use Rattle.opfs_telling.specs.declared.telling.Progress.{Progress}
use Rattle.opfs_telling.specs.declared.telling.State.{State}
use Rattle.opfs_telling.specs.declared.telling.State.TheVariants as state

-- The lines of so many entries, which are all, were put out, but for these that wait.
pub record HasToldAll {K : Type 0} (w : SinkWords K) (begun now : K) (count : ℕ) (waiting : Text) (h : List Entry) : Type 0 where
  pub whole : count ≡ length h
  pub front : Text
  pub took : Took (of_sink w begun now) front
  pub split : text_of h ≡ front ++ waiting

-- A front of the lines was put out.
abbrev pub HasPutFront : SinkTurn → List Entry → Type 0
HasPutFront k h = (rest : Text) × TookFront k (text_of h) rest

abbrev pub HasToldFront : {K : Type 0} → SinkWords K → K → K → List Entry → Type 0
HasToldFront w begun now h = HasPutFront (of_sink w begun now) h

-- All; or no more than a front, since the sink failed, or there was no memory.
abbrev pub IsToldBy : {K : Type 0} → SinkWords K → K → K → ℕ → Text → List Entry → State → Type 0
IsToldBy w begun now count waiting h state.On = HasToldAll w begun now count waiting h
IsToldBy w begun now count waiting h state.Failed = HasToldFront w begun now h × SinkFailed (of_sink w begun now)
IsToldBy w begun now count waiting h state.Short = HasToldFront w begun now h

-- What a sink that was so at the beginning took of a history.
pub record IsTold {K : Type 0} (w : SinkWords K) (begun now : K) (progress : Progress) (h : List Entry) : Type 0 where
  pub later : w.faults begun ≤ w.faults now
  pub by : IsToldBy w begun now progress.count progress.lines.items h progress.state

-- What a sink took of a history that is over: all its lines; or no more than a front of them, since the sink failed, or there was no memory.
abbrev pub HasPut : SinkTurn → List Entry → State → Type 0
HasPut k h state.On = Took k (text_of h)
HasPut k h state.Failed = HasPutFront k h × SinkFailed k
HasPut k h state.Short = HasPutFront k h
