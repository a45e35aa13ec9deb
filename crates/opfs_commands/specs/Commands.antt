-- What the words of a command line ask. This project's own.
use Rattle.std.specs.Prelude.{◌≡◌, ◌≢◌, true, List, [], ◌∷◌, codes, decimal, Option, Some, None, if◌then◌else◌}
use Rattle.std.specs.Str.{IsUtf8}
use Rattle.opfs_base.specs.Texts.{Text, same_text}
use Rattle.opfs_image.specs.Superblock.{is_in_range}
use Rattle.opfs_commands.specs.Numbers.{may_generate}
use Rattle.opfs_commands.specs.declared.words.Action.{Action}
use Rattle.opfs_commands.specs.declared.words.Action.TheVariants.{Format, List as ListIt, Check, Migrate, Dump}
use Rattle.opfs_commands.specs.declared.words.Command.{Command as Read}
use Rattle.opfs_commands.specs.declared.words.Command.TheVariants as read
use Rattle.opfs_commands.specs.declared.words.Generation.{Generation}

-- A command: to run a script over an empty store, or over the image at a path; to judge a transcript of a script; to make a large
-- run from a number; to do something with the image at a path; or to make the image at a path anew from the text at another.
pub data Command : Type 0 where
  trial : Command
  running : Text → Command
  judgement : Command
  generating : Generation → Command
  on_image : Text → Action → Command
  loading : Text → Text → Command

-- The words that ask for a command. A number is written as it prints.
abbrev pub spelled : Command → List Text
spelled trial = codes "try" ∷ []
spelled (running path) = codes "run" ∷ path ∷ []
spelled judgement = codes "judge" ∷ []
spelled (generating g) = codes "gen" ∷ decimal g.seed ∷ decimal g.agents ∷ decimal g.rounds ∷ []
spelled (on_image path (Format g)) = codes "format" ∷ path ∷ decimal g.blocks ∷ decimal g.areas ∷ decimal g.quota ∷ []
spelled (on_image path ListIt) = codes "list" ∷ path ∷ []
spelled (on_image path Check) = codes "check" ∷ path ∷ []
spelled (on_image path Migrate) = codes "migrate" ∷ path ∷ []
spelled (on_image path Dump) = codes "dump" ∷ path ∷ []
spelled (loading image text) = codes "load" ∷ image ∷ text ∷ []

-- The numbers of an action are in range.
abbrev pub InRange : Action → Type 0
InRange (Format g) = is_in_range g ≡ true
InRange action = Unit {0}

-- A path is a text that is not empty.
pub record IsPath (path : Text) : Type 0 where
  pub text : IsUtf8 path
  pub some : path ≢ []

-- The paths and numbers of a command are in range.
abbrev pub IsInRange : Command → Type 0
IsInRange trial = Unit {0}
IsInRange (running path) = IsPath path
IsInRange judgement = Unit {0}
IsInRange (generating g) = may_generate g ≡ true
IsInRange (on_image path action) = IsPath path × InRange action
IsInRange (loading image text) = IsPath image × IsPath text

-- The words ask for this command.
pub record IsAsked (words : List Text) (command : Command) : Type 0 where
  pub spelling : words ≡ spelled command
  pub range : IsInRange command

-- The words ask for a command of which this holds.
pub record Asks (words : List Text) (P : Command → Type 0) : Type 0 where
  pub command : Command
  pub asked : IsAsked words command
  pub holds : P command

-- The words ask for nothing.
abbrev pub AsksNothing : List Text → Type 0
AsksNothing words = (command : Command) → IsAsked words command → ⊥

-- The command that was read.
abbrev pub meant : Read → Command
meant read.Try = trial
meant (read.Run path) = running path.now
meant read.Judge = judgement
meant (read.Generate g) = generating g
meant (read.OnImage path action) = on_image path.now action
meant (read.Load image text) = loading image.now text.now

-- What a word asks that names an image alone.
abbrev pub plain_action : Text → Option Action
plain_action word =
    if same_text word (codes "list") then Some ListIt
    else (if same_text word (codes "check") then Some Check
    else (if same_text word (codes "migrate") then Some Migrate
    else (if same_text word (codes "dump") then Some Dump else None)))
