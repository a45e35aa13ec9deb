-- What a command on an image puts out, and how it ends. This project's own.
use Rattle.std.specs.Prelude.{◌≡◌, ◌⊎◌, ℕ, [], ◌∷◌, ◌++◌, length, codes, decimal, Option, Some, None, Result, Ok, Err, IfOk}
use Rattle.std.specs.declared.alloc.AllocError.{AllocError}
use Rattle.opfs_base.specs.Texts.{Text}
use Rattle.opfs_machine.specs.Openings.{Map, empty_map}
use Rattle.opfs_print.specs.declared.end.BadImage.{BadImage}
use Rattle.opfs_print.specs.declared.end.BadImage.TheVariants as bad
use Rattle.opfs_print.specs.declared.end.End.TheVariants as end
use Rattle.opfs_print.specs.Lines.{joined}
use Rattle.opfs_print.specs.Status.{status_text}
use Rattle.opfs_image.specs.Filling.{Stands, StandsOld}
use Rattle.opfs_codec.specs.declared.change.Format.TheVariants.{Old, New}
use Rattle.opfs_image.specs.Reading.{Image, read_as}
use Rattle.opfs_image.specs.declared.geometry.Geometry.{Geometry}
use Rattle.opfs_image.specs.declared.refusal.ImageRefusal.{ImageRefusal}
use Rattle.opfs_image.specs.declared.refusal.ImageRefusal.TheVariants as image
use Rattle.opfs_records.specs.Replay.Built.{nothing_built}
use Rattle.opfs_migrate.specs.Migrating.{AreMigrated}
use Rattle.opfs_dump.specs.Text.Reading.{Dump, reads_dump}
use Rattle.opfs_dump.specs.Text.Texts.{dump_text, loaded_line, refused_line}
use Rattle.opfs_dump.specs.declared.text.refusal.DumpRefusal.{DumpRefusal}
use Rattle.opfs_dump.specs.Loading.Laid.{StandsAs}
use Rattle.opfs_outside.specs.Turns.{SinkTurn, SinkFailed, Took}
use Rattle.opfs_tools.specs.Listing.{list_text}
use Rattle.opfs_tools.specs.Checking.{check_text}
use Rattle.opfs_commands.specs.declared.answers.ToolAnswer.{ToolAnswer}
use Rattle.opfs_commands.specs.declared.answers.ToolEnd.{ToolEnd}
use Rattle.opfs_commands.specs.declared.answers.ToolEnd.TheVariants as tool_end
use Rattle.opfs_commands.specs.declared.answers.ReadTool.{ReadTool}
use Rattle.opfs_commands.specs.declared.answers.ReadTool.TheVariants as tool

-- The line of an image that was made.
abbrev pub formatted_line : Geometry → Text
formatted_line g = joined (codes "formatted " ∷ decimal g.blocks ∷ codes " " ∷ decimal g.areas ∷ codes " " ∷ decimal g.quota ∷ codes "\n" ∷ [])

-- What a tool prints of a map.
abbrev pub tool_text : ReadTool → Map → Text
tool_text tool.List m = list_text m
tool_text tool.Check m = check_text m

-- The text is what a tool prints of the map that an image stands for.
pub record IsTold (t : ReadTool) (c text : Text) : Type 0 where
  pub map : Map
  pub stands : Stands c map
  pub printed : text ≡ tool_text t map

-- Why an image is refused, as the status line says it.
abbrev pub told_as : ImageRefusal → Option BadImage
told_as image.Short = Some bad.Short
told_as image.Magic = Some bad.Magic
told_as image.Geometry = Some bad.Geometry
told_as image.NoArea = Some bad.NoArea
told_as (image.BadRecord place) = Some (bad.BadRecord place)
told_as image.Old = Some bad.Old
told_as image.NotOld = Some bad.NotOld
told_as (image.Overfull charge area) = Some (bad.Overfull charge area)
told_as image.DiskFault = None
told_as image.NoMemory = None

-- The text is the line of a refusal.
pub record IsLineOf (why : ImageRefusal) (text : Text) : Type 0 where
  pub told : BadImage
  pub same : told_as why ≡ Some told
  pub line : text ≡ status_text (end.Image told)

-- The text is the line that says why what was read is refused.
pub record IsImageLine (read : Result Image ImageRefusal) (text : Text) : Type 0 where
  pub why : ImageRefusal
  pub refused : read ≡ Err why
  pub line : IsLineOf why text

-- The image was made, of these sizes: it holds nothing.
pub record IsFormatted (g : Geometry) (c text : Text) : Type 0 where
  pub reads : read_as New New c ≡ Ok (record { geometry = g; built = nothing_built })
  pub stands : Stands c empty_map
  pub printed : text ≡ formatted_line g

-- The line of an image that was migrated, with the number of its files.
abbrev pub migrated_line : ℕ → Text
migrated_line files = joined (codes "migrated " ∷ decimal files ∷ codes "\n" ∷ [])

-- The image after stands in format 2 for what the one before stood for in format 1, and the text is the line with the number
-- of its files.
pub record IsMigratedText (before after text : Text) : Type 0 where
  pub files : ℕ
  pub migrated : AreMigrated files before after
  pub printed : text ≡ migrated_line files

-- These are the images at a path before and after a migration, and this is its text.
pub record IsMigrated (old new : Option Text) (text : Text) : Type 0 where
  pub before : Text
  pub after : Text
  pub was : old ≡ Some before
  pub is : new ≡ Some after
  pub told : IsMigratedText before after text

-- A host has an image at a path, and the text is of this kind for it.
pub record IsOfImage (Kind : Text → Text → Type 0) (found : Option Text) (text : Text) : Type 0 where
  pub image : Text
  pub there : found ≡ Some image
  pub kind : Kind image text

-- The text is that of the map that an image stands for, and of its sizes.
pub record IsDumped (c text : Text) : Type 0 where
  pub geometry : Geometry
  pub map : Map
  pub stands : StandsAs geometry map c
  pub printed : text ≡ dump_text geometry map

-- The image stands for what was read, in its sizes, and the text is the line with the number of its rows.
pub record IsLaid (d : Dump) (c text : Text) : Type 0 where
  pub stands : StandsAs d.geometry d.map c
  pub printed : text ≡ loaded_line (length d.map.rows)

-- What stands at a path is read as a dump.
pub record IsDumpAt (dump : Dump) (found : Option Text) : Type 0 where
  pub source : Text
  pub there : found ≡ Some source
  pub reads : reads_dump source ≡ Ok dump

-- These are what stood at the one path and the image at the other, which was made anew from it, and this is its text.
pub record IsLoaded (from after : Option Text) (text : Text) : Type 0 where
  pub dump : Dump
  pub read : IsDumpAt dump from
  pub laid : IsOfImage (IsLaid dump) after text

-- The image stands for what is read as a dump at a path.
pub record StandsForText (from : Option Text) (c : Text) : Type 0 where
  pub dump : Dump
  pub read : IsDumpAt dump from
  pub stands : StandsAs dump.geometry dump.map c

-- The text is the line that says why what stood there is no dump.
pub record IsNoDump (source text : Text) : Type 0 where
  pub why : DumpRefusal
  pub refused : reads_dump source ≡ Err why
  pub line : text ≡ refused_line why

-- A host has an image of format 1 at a path, and it stands for this map.
pub record IsStoodFor (m : Map) (found : Option Text) : Type 0 where
  pub image : Text
  pub there : found ≡ Some image
  pub stands : StandsOld image m

-- The text says why the image is not migrated.
abbrev pub IsNotMigrated : Text → Text → Type 0
IsNotMigrated c text = IsImageLine (read_as Old New c) text

-- How a command ended that was asked of an image and has put out nothing: done, with a text of one kind; with the image
-- refused, and a line of another; or with a fault, which has a cause.
abbrev pub IsAnswer : Type 0 → (Text → Type 0) → (Text → Type 0) → Type 0 → ToolEnd → Text → Type 0
IsAnswer tells Done Refused Cause tool_end.Done text = tells → Done text
IsAnswer tells Done Refused Cause tool_end.Image text = tells → Refused text
IsAnswer tells Done Refused Cause tool_end.Host text = Cause × (text ≡ status_text end.Host)
IsAnswer tells Done Refused Cause tool_end.Sink text = ⊥

-- A text was put out: none, or a front of one of a kind.
pub record IsBegun (k : SinkTurn) (Begun : Text → Type 0) (front : Text) : Type 0 where
  pub took : Took k front
  pub begun : (front ≡ []) ⊎ ((rest : Text) × Begun (front ++ rest))

-- How a command ended that puts its text out itself, behind what it has put out: done; with the image refused, where it has
-- put out nothing; with a fault, which has a cause; or with a front of its text, where the sink failed.
abbrev pub IsBehind : SinkTurn → (Text → Type 0) → (Text → Type 0) → Type 0 → Text → ToolEnd → Text → Type 0
IsBehind k Whole Refused Cause front tool_end.Done text = Whole (front ++ text)
IsBehind k Whole Refused Cause front tool_end.Image text = (front ≡ []) × Refused text
IsBehind k Whole Refused Cause front tool_end.Host text = Cause × (text ≡ status_text end.Host)
IsBehind k Whole Refused Cause front tool_end.Sink text = SinkFailed k × (text ≡ []) × ((rest : Text) × Whole (front ++ rest))

-- The same, with what it has put out.
pub record IsPut (k : SinkTurn) (Begun Whole Refused : Text → Type 0) (Cause : Type 0) (r : Result ToolAnswer AllocError) : Type 0 where
  pub front : Text
  pub begun : IsBegun k Begun front
  pub ended : IfOk r (λ answer. IsBehind k Whole Refused Cause front answer.end answer.text)

-- The text says why an image is refused.
abbrev pub IsRefusedLine : Text → Text → Type 0
IsRefusedLine c text = IsImageLine (read_as New New c) text
