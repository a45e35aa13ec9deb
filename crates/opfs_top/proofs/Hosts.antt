-- What a command leaves of a host, as its words ask.
use Rattle.std.proofs.Common.{◌≡◌, ◌≢◌, ◌⊎◌, ◌++◌, [], inl, inr, refl, sym, ap, subst}
use Rattle.std.specs.Prelude.{List, Result, Ok, Err, IfOk, IsErr, true, false}
use Rattle.std.specs.declared.alloc.AllocError.{AllocError}
use Rattle.opfs_base.specs.Texts.{Text}
use Rattle.opfs_commands.specs.Commands.{Command, trial, judgement, generating, on_image, loading, Asks, AsksNothing, IsAsked}
use Rattle.opfs_commands.specs.Kinds.{IsDumping, IsReading, IsMigration}
use Rattle.opfs_commands.specs.Telling.{IsAnswer, IsBehind, IsLoaded, IsNoDump, IsOfImage, IsPut}
use Rattle.opfs_commands.specs.Kinds.{DoneKind, RefusedKind}
use Rattle.opfs_commands.specs.declared.answers.ToolAnswer.{ToolAnswer}
use Rattle.opfs_commands.specs.declared.answers.ToolEnd.{ToolEnd}
use Rattle.opfs_commands.specs.declared.answers.ToolEnd.TheVariants as tool_end
use Rattle.opfs_commands.specs.declared.words.Action.{Action}
use Rattle.opfs_commands.specs.declared.words.Generation.{Generation}
use Rattle.opfs_commands.proofs.Spelled.{named}
use Rattle.opfs_gen.specs.Summing.{gen_text}
use Rattle.opfs_outside.specs.Turns.{HostFailed, HostTurn, SinkTurn, SourceTurn}
use Rattle.opfs_print.specs.declared.end.End.TheVariants as end
use Rattle.opfs_print.specs.Status.{status_text}
use Rattle.opfs_top.specs.Answers.{Behind, ImageEnded, IsTold, LoadEnded}
use Rattle.opfs_top.specs.Doing.{Did, Dumped, Ended, IsFrontOf, IsTool, IsTooLong, Migrates, Names, OfSource, RefusedScript, TakesImage, TakesScript, TaskDone, TaskEnded, TaskRefused, Tells, ToolEnded}
use Rattle.opfs_top.specs.Statuses.{status_of}
use Rattle.opfs_top.specs.declared.answer.Answer.{Answer}
use Rattle.opfs_top.specs.declared.answer.Task.{Task}
use Rattle.opfs_top.specs.declared.answer.Task.TheVariants as task
use Rattle.opfs_top.specs.declared.status.Status.{Status}
use Rattle.opfs_top.specs.declared.status.Status.TheVariants as status

-- ---- the ends of one command

-- a command on the image at a path, from what it put out and its answer
module _ (k : SinkTurn) (h : HostTurn) (path : Text) (action : Action) where
  abbrev Begins : Text → Type 0
  Begins text = IsDumping action × (h.tells → DoneKind action (h.image path) (h.image_after path) text)

  abbrev Whole : Text → Type 0
  Whole text = h.tells → DoneKind action (h.image path) (h.image_after path) text

  abbrev Refuses : Text → Type 0
  Refuses text = h.tells → RefusedKind action (h.image path) text

  behind_by : (front : Text) → IsFrontOf Begins front → (e : ToolEnd) (text : Text) → IsBehind k Whole Refuses (HostFailed h) front e text → Behind k front (ImageEnded h path action) (status_of e) text
  behind_by front begun tool_end.Done text is = is
  behind_by front begun tool_end.Image text is = subst (λ f. Refuses (f ++ text)) (sym is.0) is.1
  behind_by front begun tool_end.Host text is = (is.0, (front, begun, ap (λ (t : Text). front ++ t) is.1))
  behind_by front begun tool_end.Sink text is = (is.0, is.1, (status.Done, is.2.0, is.2.1))

  pub image_answered : (r : Result ToolAnswer AllocError) (a : ToolAnswer) (b : Answer) (result : Result Answer AllocError) → IsPut k Begins Whole Refuses (HostFailed h) r → r ≡ Ok a → result ≡ Ok b → b.status ≡ status_of a.end → b.text ≡ a.text
      → IsTold k Begins (ImageEnded h path action) result
  image_answered r a b result put is made ends same =
      let e : IsBehind k Whole Refuses (HostFailed h) put.front a.end a.text = subst (λ x. IfOk x (λ y. IsBehind k Whole Refuses (HostFailed h) put.front y.end y.text)) is put.ended in
      let by : Behind k put.front (ImageEnded h path action) (status_of a.end) a.text = behind_by put.front put.begun.begun a.end a.text e in
      record {
        front = put.front;
        took = put.begun.took;
        begun = put.begun.begun;
        ended = subst (λ x. IfOk x (λ y. Behind k put.front (ImageEnded h path action) y.status y.text)) (sym made)
            (subst (λ x. Behind k put.front (ImageEnded h path action) x b.text) (sym ends) (subst (λ t. Behind k put.front (ImageEnded h path action) (status_of a.end) t) (sym same) by));
      }

  pub image_failed : (r : Result ToolAnswer AllocError) (result : Result Answer AllocError) → IsPut k Begins Whole Refuses (HostFailed h) r → IsErr result → IsTold k Begins (ImageEnded h path action) result
  image_failed r (Ok b) put failed = absurd (let never : false ≡ true = failed in cc never)
  image_failed r (Err e) put failed = record { front = put.front; took = put.begun.took; begun = put.begun.begun; ended = tt }

-- making an image from a text
pub load_ended : (h : HostTurn) (image from : Text) (e : ToolEnd) (text : Text)
    → IsAnswer h.tells (IsLoaded (h.image from) (h.image_after image)) (IsOfImage IsNoDump (h.image from)) (HostFailed h) e text → LoadEnded h image from (status_of e) text
load_ended h image from tool_end.Done text is = is
load_ended h image from tool_end.Image text is = is
load_ended h image from tool_end.Host text is = is
load_ended h image from tool_end.Sink text is = absurd is

front_by : (words : List Text) (h : HostTurn) (path : Text) (action : Action) → IsAsked words (on_image path action) → (front : Text)
    → IsFrontOf (λ t. IsDumping action × (h.tells → DoneKind action (h.image path) (h.image_after path) t)) front → IsFrontOf (λ t. Asks words (λ command. Dumped command h t)) front
front_by words h path action asked front begun = elim begun [
  | inl none ↦ inl none
  | inr more ↦ inr (more.0, record { command = on_image path action; asked = asked; holds = more.1 })
]

pub image_ends : (words : List Text) (s : SourceTurn) (h : HostTurn) (path : Text) (action : Action) → IsAsked words (on_image path action)
    → (ended : Status) (text : Text) → ImageEnded h path action ended text → Ended words s h ended text
image_ends words s h path action asked status.Done text is = record { command = on_image path action; asked = asked; holds = is }
image_ends words s h path action asked status.Usage text is = absurd is
image_ends words s h path action asked status.Script text is = absurd is
image_ends words s h path action asked status.Image text is = record { command = on_image path action; asked = asked; holds = is }
image_ends words s h path action asked status.Host text is = inl (record {
  asked = record { command = on_image path action; asked = asked; holds = tt };
  failed = is.0;
  front = is.1.0;
  begun = front_by words h path action asked is.1.0 is.1.1;
  line = is.1.2;
})
image_ends words s h path action asked status.Source text is = absurd is
image_ends words s h path action asked status.Sink text is = absurd is
image_ends words s h path action asked status.Memory text is = absurd is

pub tool_ends : (words : List Text) (h : HostTurn) (path : Text) (action : Action) → IsAsked words (on_image path action)
    → (ended : Status) (text : Text) → ImageEnded h path action ended text → ToolEnded words h ended text
tool_ends words h path action asked status.Done text is = record { command = on_image path action; asked = asked; holds = is }
tool_ends words h path action asked status.Usage text is = absurd is
tool_ends words h path action asked status.Script text is = absurd is
tool_ends words h path action asked status.Image text is = record { command = on_image path action; asked = asked; holds = is }
tool_ends words h path action asked status.Host text is = record {
  asked = record { command = on_image path action; asked = asked; holds = tt };
  failed = is.0;
  front = is.1.0;
  begun = front_by words h path action asked is.1.0 is.1.1;
  line = is.1.2;
}
tool_ends words h path action asked status.Source text is = absurd is
tool_ends words h path action asked status.Sink text is = absurd is
tool_ends words h path action asked status.Memory text is = absurd is

pub load_ends : (words : List Text) (s : SourceTurn) (h : HostTurn) (image from : Text) → IsAsked words (loading image from)
    → (ended : Status) (text : Text) → LoadEnded h image from ended text → Ended words s h ended text
load_ends words s h image from asked status.Done text is = record { command = loading image from; asked = asked; holds = is }
load_ends words s h image from asked status.Usage text is = absurd is
load_ends words s h image from asked status.Script text is = absurd is
load_ends words s h image from asked status.Image text is = record { command = loading image from; asked = asked; holds = is }
load_ends words s h image from asked status.Host text is = inl (record { asked = record { command = loading image from; asked = asked; holds = tt }; failed = is.0; front = []; begun = inl refl; line = is.1 })
load_ends words s h image from asked status.Source text is = absurd is
load_ends words s h image from asked status.Sink text is = absurd is
load_ends words s h image from asked status.Memory text is = absurd is

pub load_tool_ends : (words : List Text) (h : HostTurn) (image from : Text) → IsAsked words (loading image from)
    → (ended : Status) (text : Text) → LoadEnded h image from ended text → ToolEnded words h ended text
load_tool_ends words h image from asked status.Done text is = record { command = loading image from; asked = asked; holds = is }
load_tool_ends words h image from asked status.Usage text is = absurd is
load_tool_ends words h image from asked status.Script text is = absurd is
load_tool_ends words h image from asked status.Image text is = record { command = loading image from; asked = asked; holds = is }
load_tool_ends words h image from asked status.Host text is = record { asked = record { command = loading image from; asked = asked; holds = tt }; failed = is.0; front = []; begun = inl refl; line = is.1 }
load_tool_ends words h image from asked status.Source text is = absurd is
load_tool_ends words h image from asked status.Sink text is = absurd is
load_tool_ends words h image from asked status.Memory text is = absurd is

-- the command for which a script is read
abbrev pub asked_for : Task → Command
asked_for task.Try = trial
asked_for task.Judge = judgement

done_by : (t : Task) (s : SourceTurn) (h : HostTurn) (text : Text) → OfSource s (TaskDone t) text → Did (asked_for t) s h text
done_by task.Try s h text is = is
done_by task.Judge s h text is = is

refused_by : (t : Task) (s : SourceTurn) (text : Text) → OfSource s (TaskRefused t) text ⊎ IsTooLong s text → RefusedScript (asked_for t) s text
refused_by task.Try s text is = is
refused_by task.Judge s text is = is

takes_by : (t : Task) → TakesScript (asked_for t)
takes_by task.Try = tt
takes_by task.Judge = tt

task_ends : (t : Task) (words : List Text) (s : SourceTurn) (h : HostTurn) → IsAsked words (asked_for t) → (ended : Status) (text : Text) → TaskEnded t s ended text → Ended words s h ended text
task_ends t words s h asked status.Done text is = record { command = asked_for t; asked = asked; holds = done_by t s h text is }
task_ends t words s h asked status.Usage text is = absurd is
task_ends t words s h asked status.Script text is = record { command = asked_for t; asked = asked; holds = refused_by t s text is }
task_ends t words s h asked status.Image text is = absurd is
task_ends t words s h asked status.Host text is = absurd is
task_ends t words s h asked status.Source text is = record { asked = record { command = asked_for t; asked = asked; holds = takes_by t }; failed = is.0; line = is.1 }
task_ends t words s h asked status.Sink text is = absurd is
task_ends t words s h asked status.Memory text is = absurd is

pub trial_ends : (words : List Text) (s : SourceTurn) (h : HostTurn) → IsAsked words trial → (ended : Status) (text : Text) → TaskEnded task.Try s ended text → Ended words s h ended text
trial_ends words s h asked ended text is = task_ends task.Try words s h asked ended text is

pub judgement_ends : (words : List Text) (s : SourceTurn) (h : HostTurn) → IsAsked words judgement → (ended : Status) (text : Text) → TaskEnded task.Judge s ended text → Ended words s h ended text
judgement_ends words s h asked ended text is = task_ends task.Judge words s h asked ended text is

pub nothing_ends : (words : List Text) (s : SourceTurn) (h : HostTurn) → AsksNothing words → (ended : Status) (text : Text) → ended ≡ status.Usage → text ≡ status_text end.Usage → Ended words s h ended text
nothing_ends words s h nothing ended text is line = subst (λ e. Ended words s h e text) (sym is) (record { nothing = nothing; line = line })

pub no_tool_ends : (words : List Text) (h : HostTurn) → (Asks words IsTool → ⊥) → (ended : Status) (text : Text) → ended ≡ status.Usage → text ≡ status_text end.Usage → ToolEnded words h ended text
no_tool_ends words h none ended text is line = subst (λ e. ToolEnded words h e text) (sym is) (record { none = none; line = line })

large_run_ends : (words : List Text) (s : SourceTurn) (h : HostTurn) (g : Generation) → IsAsked words (generating g)
    → (ended : Status) (text : Text) → ended ≡ status.Done → text ≡ gen_text g.seed g.agents g.rounds → Ended words s h ended text
large_run_ends words s h g asked ended text is told = subst (λ e. Ended words s h e text) (sym is) (record { command = generating g; asked = asked; holds = told })

pub large_run_told : (words : List Text) (s : SourceTurn) (h : HostTurn) (g : Generation) → IsAsked words (generating g)
    → (r : Result Answer AllocError) → IfOk r (λ a. a.status ≡ status.Done) → IfOk r (λ a. a.text ≡ gen_text g.seed g.agents g.rounds) → IfOk r (λ a. Ended words s h a.status a.text)
large_run_told words s h g asked (Ok a) is told = large_run_ends words s h g asked a.status a.text is told
large_run_told words s h g asked (Err e) is told = tt

-- ---- words that ask for no command on an image alone

pub no_tool_of : (words : List Text) (c : Command) → (IsTool c → ⊥) → IsAsked words c → Asks words IsTool → ⊥
no_tool_of words c other asked is = other (named words c IsTool asked is)

pub no_tool_of_nothing : (words : List Text) → AsksNothing words → Asks words IsTool → ⊥
no_tool_of_nothing words nothing is = nothing is.command is.asked

-- ---- a command on the image at a path

module _ (words : List Text) (image : Text) (action : Action) (asked : IsAsked words (on_image image action)) where
  pub image_named : (path : Text) → Asks words (Names path) → path ≡ image
  image_named path is = named words (on_image image action) (Names path) asked is

  pub image_told : (path : Text) → Asks words (Tells path) → (path ≡ image) × IsReading action
  image_told path is = named words (on_image image action) (Tells path) asked is

  pub image_migrated : (path : Text) → Asks words (Migrates path) → (path ≡ image) × IsMigration action
  image_migrated path is = named words (on_image image action) (Migrates path) asked is

  pub takes_image : Asks words TakesImage
  takes_image = record { command = on_image image action; asked = asked; holds = tt }

  pub tool_image : Asks words IsTool
  tool_image = record { command = on_image image action; asked = asked; holds = tt }

  pub not_named : (path : Text) → (Asks words (Names path) → ⊥) → path ≢ image
  not_named path none same = none (record { command = on_image image action; asked = asked; holds = same })

-- ---- an image made from a text

module _ (words : List Text) (image from : Text) (asked : IsAsked words (loading image from)) where
  pub load_told : (path : Text) → Asks words (Tells path) → (path ≡ from) × (from ≢ image)
  load_told path is = named words (loading image from) (Tells path) asked is

  pub load_no_migration : (path : Text) → Asks words (Migrates path) → ⊥
  load_no_migration path is = named words (loading image from) (Migrates path) asked is

  pub takes_load : Asks words TakesImage
  takes_load = record { command = loading image from; asked = asked; holds = tt }

  pub tool_load : Asks words IsTool
  tool_load = record { command = loading image from; asked = asked; holds = tt }

  pub not_image : (path : Text) → (Asks words (Names path) → ⊥) → path ≢ image
  not_image path none same = none (record { command = loading image from; asked = asked; holds = inl same })

  pub not_text : (path : Text) → (Asks words (Names path) → ⊥) → path ≢ from
  not_text path none same = none (record { command = loading image from; asked = asked; holds = inr same })
