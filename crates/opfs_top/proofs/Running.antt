-- A run over the image at a path: what it puts out, and what it leaves.
use Rattle.std.proofs.Common.{◌≡◌, ◌≢◌, ◌++◌, List, true, false, inl, inr, refl, sym, subst}
use Rattle.std.specs.Prelude.{◌⊎◌, Some, None, Result, Ok, Err, IfOk, IsErr}
use Rattle.std.specs.declared.alloc.AllocError.{AllocError}
use Rattle.opfs_base.specs.Texts.{Text}
use Rattle.opfs_commands.specs.Commands.{Command, trial, running, judgement, generating, on_image, loading, spelled, Asks, IsAsked}
use Rattle.opfs_commands.specs.Ran.{IsNotRun, IsRunAt, IsRunDone, IsRunShort, IsRunText, RanAt, RanBehind, RanTo}
use Rattle.opfs_commands.specs.declared.answers.ToolAnswer.{ToolAnswer}
use Rattle.opfs_commands.specs.declared.answers.ToolEnd.{ToolEnd}
use Rattle.opfs_commands.specs.declared.answers.ToolEnd.TheVariants as tool_end
use Rattle.opfs_commands.specs.declared.words.Action.{Action}
use Rattle.opfs_commands.proofs.Spelled.{asked_run, named}
use Rattle.opfs_hist.specs.declared.entry.Entry.{Entry}
use Rattle.opfs_outside.specs.declared.host.Host.{Ghosts as HostWords}
use Rattle.opfs_outside.specs.Turns.{of_host, HostServed, HostTurn, ImageStays, Puts, ReadWhole, SinkTurn, SourceTurn}
use Rattle.opfs_print.specs.declared.end.BadScript.{BadScript}
use Rattle.opfs_script.specs.Reading.{reads}
use Rattle.opfs_script.specs.Scripts.{Asked}
use Rattle.opfs_script.specs.declared.refusal.ScriptRefusal.{ScriptRefusal}
use Rattle.opfs_script.specs.declared.refusal.ScriptRefusal.TheVariants as refused
use Rattle.opfs_top.proofs.Telling.{told_wider}
use Rattle.opfs_top.specs.Answers.{Behind, BytesRan, ImageEnded, IsTold, LoadEnded, RunEnded, SourceRan}
use Rattle.opfs_top.specs.Doing.{most_bytes, told_as, Did, Ended, IsDone, IsEarly, IsRefusal, LeavesRun, Migrates, Names, OfSource, Printed, TakesImage, Tells}
use Rattle.opfs_top.specs.Headline.{IsHeadline, LeavesOf, OfScript}
use Rattle.opfs_top.specs.Statuses.{status_of}
use Rattle.opfs_top.specs.declared.answer.Answer.{Answer}
use Rattle.opfs_top.specs.declared.status.Status.{Status}
use Rattle.opfs_top.specs.declared.status.Status.TheVariants as status

-- ---- the agents ran, or not

module _ (h : HostTurn) (path : Text) (script : List Asked) where
  headline : (text : Text) → IsRunDone h path script text → IsHeadline h path script text
  headline text is = record {
    geometry = is.at.geometry;
    before = is.at.before;
    history = is.history;
    stood = is.at.stood;
    printed = is.printed;
    one = record { runs = is.at.is.runs refl; agents = is.at.is.agents; legal = is.at.is.legal; alone = is.at.is.alone };
    untold = is.at.is.apart;
    stands = is.stands;
    stops = λ t. is.at.stops t tt;
    faults = is.at.faults;
  }

  ended_by : (e : ToolEnd) (text : Text) → RanTo h path script e text → RunEnded h path script (status_of e) text
  ended_by tool_end.Done text is = headline text is
  ended_by tool_end.Image text is = is
  ended_by tool_end.Host text is = is
  ended_by tool_end.Sink text is = absurd is

  behind_by : (k : SinkTurn) (front : Text) (e : ToolEnd) (text : Text) → RanBehind h k path script front e text → Behind k front (RunEnded h path script) (status_of e) text
  behind_by k front tool_end.Done text is = ended_by tool_end.Done (front ++ text) is
  behind_by k front tool_end.Image text is = ended_by tool_end.Image (front ++ text) is
  behind_by k front tool_end.Host text is = ended_by tool_end.Host (front ++ text) is
  behind_by k front tool_end.Sink text is = (is.0, is.1, (status_of is.2.0, is.2.1, ended_by is.2.0 (front ++ is.2.1) is.2.2))

  pub run_answered : (k : SinkTurn) (r : Result ToolAnswer AllocError) (a : ToolAnswer) (b : Answer) (result : Result Answer AllocError) → RanAt h k path script r → r ≡ Ok a → result ≡ Ok b → b.status ≡ status_of a.end → b.text ≡ a.text
      → IsTold k (IsRunText h path script) (RunEnded h path script) result
  run_answered k r a b result ran is made ends same =
      let e : RanBehind h k path script ran.front a.end a.text = subst (λ x. IfOk x (λ y. RanBehind h k path script ran.front y.end y.text)) is ran.ended in
      let by : Behind k ran.front (RunEnded h path script) (status_of a.end) a.text = behind_by k ran.front a.end a.text e in
      record {
        front = ran.front;
        took = ran.begun.took;
        begun = ran.begun.begun;
        ended = subst (λ x. IfOk x (λ y. Behind k ran.front (RunEnded h path script) y.status y.text)) (sym made)
            (subst (λ x. Behind k ran.front (RunEnded h path script) x b.text) (sym ends) (subst (λ t. Behind k ran.front (RunEnded h path script) (status_of a.end) t) (sym same) by));
      }

  pub run_short : (k : SinkTurn) (r : Result ToolAnswer AllocError) (result : Result Answer AllocError) → RanAt h k path script r → IsErr result → IsTold k (IsRunText h path script) (RunEnded h path script) result
  run_short k r (Ok b) ran short = absurd (let never : false ≡ true = short in cc never)
  run_short k r (Err e) ran short = record { front = ran.front; took = ran.begun.took; begun = ran.begun.begun; ended = tt }

  -- what is said of a disk that was given back is said where the host served
  where_served : (history : List Entry) → IsRunAt h path (Unit {0}) true script history → IsRunAt h path (HostServed h) true script history
  where_served history at = record {
    geometry = at.geometry;
    before = at.before;
    stood = at.stood;
    is = at.is;
    anyway = at.anyway;
    left = λ t served. at.left t tt;
    stands = λ t served quiet. at.stands t tt quiet;
    stops = λ t served. at.stops t tt;
    faults = at.faults;
  }

  left_to : (e : ToolEnd) (text : Text) → RanTo h path script e text → IsRunShort h path script
  left_to tool_end.Done text is = inr (true, is.history, where_served is.history is.at)
  left_to tool_end.Image text is = inl is.stays
  left_to tool_end.Host text (inl fault) = inl fault.not
  left_to tool_end.Host text (inr failed) = inr (true, failed.history, failed.at)
  left_to tool_end.Sink text is = absurd is

  left_by : (k : SinkTurn) (front : Text) (e : ToolEnd) (text : Text) → RanBehind h k path script front e text → IsRunShort h path script
  left_by k front tool_end.Done text is = left_to tool_end.Done (front ++ text) is
  left_by k front tool_end.Image text is = left_to tool_end.Image (front ++ text) is
  left_by k front tool_end.Host text is = left_to tool_end.Host (front ++ text) is
  left_by k front tool_end.Sink text is = left_to is.2.0 (front ++ is.2.1) is.2.2

  pub run_left : (k : SinkTurn) (r : Result ToolAnswer AllocError) → RanAt h k path script r → IsRunShort h path script
  run_left k (Ok a) ran = left_by k ran.front a.end a.text ran.ended
  run_left k (Err e) ran = ran.short

  -- the script is what bytes are
  module _ (bytes : Text) (read : reads bytes ≡ Ok script) where
    bytes_by : (ended : Status) (text : Text) → RunEnded h path script ended text → BytesRan h path bytes ended text
    bytes_by status.Done text is = record { script = script; read = read; kind = is }
    bytes_by status.Usage text is = absurd is
    bytes_by status.Script text is = absurd is
    bytes_by status.Image text is = record { script = script; read = read; kind = is }
    bytes_by status.Host text is = record { script = script; read = read; kind = is }
    bytes_by status.Source text is = absurd is
    bytes_by status.Sink text is = absurd is
    bytes_by status.Memory text is = absurd is

    pub bytes_told : (k : SinkTurn) (r : Result Answer AllocError) → IsTold k (IsRunText h path script) (RunEnded h path script) r → IsTold k (OfScript (IsRunText h path) bytes) (BytesRan h path bytes) r
    bytes_told k r told = told_wider k (IsRunText h path script) (OfScript (IsRunText h path) bytes) (RunEnded h path script) (BytesRan h path bytes) (λ text is. record { script = script; read = read; kind = is }) bytes_by r told

    pub bytes_left : IsRunShort h path script → LeavesOf h path bytes
    bytes_left (inl not) = inl not
    bytes_left (inr ran) = inr (record { script = script; read = read; whole = ran.0; history = ran.1; at = ran.2 })

-- bytes that are refused as a script
why_by : (bytes : Text) (why : ScriptRefusal) (told : BadScript) → told_as why ≡ Some told → (reads bytes ≡ Err why) ⊎ (why ≡ refused.NoMemory) → reads bytes ≡ Err why
why_by bytes why told same (inl is) = is
why_by bytes why told same (inr short) = let never : None ≡ Some told = subst (λ w. told_as w ≡ Some told) short same in absurd (cc never)

pub bytes_refused : (h : HostTurn) (path bytes : Text) (why : ScriptRefusal) → (reads bytes ≡ Err why) ⊎ (why ≡ refused.NoMemory) → (a : Answer) → a.status ≡ status.Script → IsRefusal why a.text → BytesRan h path bytes a.status a.text
bytes_refused h path bytes why cause a is line = subst (λ e. BytesRan h path bytes e a.text) (sym is) (record { why = why; refused = why_by bytes why line.told line.same cause; line = line })

-- bytes are what a source gives
module _ (s : SourceTurn) (h : HostTurn) (path bytes : Text) (read : ReadWhole s most_bytes bytes) where
  source_by : (ended : Status) (text : Text) → BytesRan h path bytes ended text → SourceRan s h path ended text
  source_by status.Done text is = record { bytes = bytes; whole = read; kind = is }
  source_by status.Usage text is = absurd is
  source_by status.Script text is = inl (record { bytes = bytes; whole = read; kind = is })
  source_by status.Image text is = record { bytes = bytes; whole = read; kind = is }
  source_by status.Host text is = record { bytes = bytes; whole = read; kind = is }
  source_by status.Source text is = absurd is
  source_by status.Sink text is = absurd is
  source_by status.Memory text is = absurd is

  pub source_told : (k : SinkTurn) (r : Result Answer AllocError) → IsTold k (OfScript (IsRunText h path) bytes) (BytesRan h path bytes) r → IsTold k (OfSource s (OfScript (IsRunText h path))) (SourceRan s h path) r
  source_told k r told = told_wider k (OfScript (IsRunText h path) bytes) (OfSource s (OfScript (IsRunText h path))) (BytesRan h path bytes) (SourceRan s h path) (λ text is. record { bytes = bytes; whole = read; kind = is }) source_by r told

  pub source_left : LeavesOf h path bytes → LeavesRun s h path
  source_left (inl not) = inl not
  source_left (inr ran) = inr (bytes, read, ran)

-- a host that was not asked
pub not_run : {H D M : Type 0} (w : HostWords H D M) (host : H) (path : Text) → IsNotRun (of_host w host host) path
not_run w host path = λ t. record { image = refl; trail = λ c x. inl x }

-- ---- as the words ask

run_ends : (words : List Text) (s : SourceTurn) (h : HostTurn) (path : Text) → IsAsked words (running path)
    → (ended : Status) (text : Text) → SourceRan s h path ended text → Ended words s h ended text
run_ends words s h path asked status.Done text is = record { command = running path; asked = asked; holds = is }
run_ends words s h path asked status.Usage text is = absurd is
run_ends words s h path asked status.Script text is = record { command = running path; asked = asked; holds = is }
run_ends words s h path asked status.Image text is = record { command = running path; asked = asked; holds = is }
run_ends words s h path asked status.Host text is = inr (record { command = running path; asked = asked; holds = is })
run_ends words s h path asked status.Source text is = record { asked = record { command = running path; asked = asked; holds = tt }; failed = is.0; line = is.1 }
run_ends words s h path asked status.Sink text is = absurd is
run_ends words s h path asked status.Memory text is = absurd is

pub run_told : (words : List Text) (s : SourceTurn) (h : HostTurn) (k : SinkTurn) (path : Text) → IsAsked words (running path)
    → (r : Result Answer AllocError) → IsTold k (OfSource s (OfScript (IsRunText h path))) (SourceRan s h path) r → IsTold k (λ text. Asks words (λ command. Printed command s h text)) (Ended words s h) r
run_told words s h k path asked r told = told_wider k (OfSource s (OfScript (IsRunText h path))) (λ text. Asks words (λ command. Printed command s h text)) (SourceRan s h path) (Ended words s h)
    (λ text is. record { command = running path; asked = asked; holds = is }) (λ e text is. run_ends words s h path asked e text is) r told

pub refused_stays : (s : SourceTurn) (h : HostTurn) (k : SinkTurn) (path : Text) (r : Result Answer AllocError) → IsTold k (OfSource s (OfScript (IsRunText h path))) (SourceRan s h path) r
    → IfOk r (λ answer. answer.status ≡ status.Image → h.tells → ImageStays h path)
refused_stays s h k path (Ok a) told = λ same t.
    let refused : SourceRan s h path status.Image (told.front ++ a.text) = subst (λ e. Behind k told.front (SourceRan s h path) e a.text) same told.ended in
    refused.kind.kind.stays t
refused_stays s h k path (Err e) told = tt

-- what is left where the words ask for a run, and nothing where they ask for another command
abbrev Leaves : SourceTurn → HostTurn → Command → Type 0
Leaves s h trial = Unit {0}
Leaves s h (running path) = LeavesRun s h path
Leaves s h judgement = Unit {0}
Leaves s h (generating g) = Unit {0}
Leaves s h (on_image path action) = Unit {0}
Leaves s h (loading image from) = Unit {0}

module _ (words : List Text) (s : SourceTurn) (h : HostTurn) where
  pub left_of_image : (image : Text) (action : Action) → IsAsked words (on_image image action) → (path : Text) → words ≡ spelled (running path) → LeavesRun s h path
  left_of_image image action asked path is = asked_run words path (Leaves s h) is (record { command = on_image image action; asked = asked; holds = tt })

  pub left_of_load : (image from : Text) → IsAsked words (loading image from) → (path : Text) → words ≡ spelled (running path) → LeavesRun s h path
  left_of_load image from asked path is = asked_run words path (Leaves s h) is (record { command = loading image from; asked = asked; holds = tt })

  pub left_of_run : (image : Text) → IsAsked words (running image) → LeavesRun s h image → (path : Text) → words ≡ spelled (running path) → LeavesRun s h path
  left_of_run image asked left path is = asked_run words path (Leaves s h) is (record { command = running image; asked = asked; holds = left })

  -- THE HEADLINE, from the text of a command that was done
  pub headline_put : (k : SinkTurn) (path : Text) → words ≡ spelled (running path) → Puts k (IsDone words s h) → Puts k (OfSource s (OfScript (IsHeadline h path)))
  headline_put k path is put = record { text = put.text; kind = asked_run words path (λ command. Did command s h put.text) is put.kind; took = put.took }

module _ (words : List Text) (image : Text) (asked : IsAsked words (running image)) where
  pub run_named : (path : Text) → Asks words (Names path) → path ≡ image
  run_named path is = named words (running image) (Names path) asked is

  pub run_tells_none : (path : Text) → Asks words (Tells path) → ⊥
  run_tells_none path is = named words (running image) (Tells path) asked is

  pub run_no_migration : (path : Text) → Asks words (Migrates path) → ⊥
  run_no_migration path is = named words (running image) (Migrates path) asked is

  pub takes_run : Asks words TakesImage
  takes_run = record { command = running image; asked = asked; holds = tt }

  pub not_run_path : (path : Text) → (Asks words (Names path) → ⊥) → path ≢ image
  not_run_path path none same = none (record { command = running image; asked = asked; holds = same })

-- ---- statuses for which the host was asked

image_late : (k : SinkTurn) (h : HostTurn) (path : Text) (action : Action) (front : Text) (ended : Status) (text : Text) → Behind k front (ImageEnded h path action) ended text → IsEarly ended → ⊥
image_late k h path action front status.Done text is early = early
image_late k h path action front status.Usage text is early = is
image_late k h path action front status.Script text is early = is
image_late k h path action front status.Image text is early = early
image_late k h path action front status.Host text is early = early
image_late k h path action front status.Source text is early = is
image_late k h path action front status.Sink text is early = early
image_late k h path action front status.Memory text is early = early

pub image_never_early : (k : SinkTurn) (h : HostTurn) (path : Text) (action : Action) (Begun : Text → Type 0) (r : Result Answer AllocError) → IsTold k Begun (ImageEnded h path action) r → (P : Type 0) → IfOk r (λ answer. IsEarly answer.status → P)
image_never_early k h path action Begun (Ok a) told P = λ early. absurd (image_late k h path action told.front a.status a.text told.ended early)
image_never_early k h path action Begun (Err e) told P = tt

pub load_late : (h : HostTurn) (image from : Text) (ended : Status) (text : Text) → LoadEnded h image from ended text → IsEarly ended → ⊥
load_late h image from status.Done text is early = early
load_late h image from status.Usage text is early = is
load_late h image from status.Script text is early = is
load_late h image from status.Image text is early = early
load_late h image from status.Host text is early = early
load_late h image from status.Source text is early = is
load_late h image from status.Sink text is early = early
load_late h image from status.Memory text is early = early
