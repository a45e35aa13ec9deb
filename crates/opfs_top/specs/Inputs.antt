-- What a source gave. This project's own.
use Rattle.std.specs.Prelude.{◌≡◌, ◌<◌, [], ◌++◌, length}
use Rattle.opfs_base.specs.Texts.{Text}
use Rattle.opfs_outside.specs.Turns.{SourceTurn, Read, ReadWhole, ReadTooFar, SourceFailed}
use Rattle.opfs_top.specs.Doing.{most_bytes}
use Rattle.opfs_top.specs.declared.input.Input.{Input}
use Rattle.opfs_top.specs.declared.input.Input.TheVariants as input

-- What reading a source to its end gave.
abbrev pub IsInput : SourceTurn → Input → Type 0
IsInput s (input.Whole bytes) = ReadWhole s most_bytes bytes
IsInput s input.TooFar = ReadTooFar s most_bytes
IsInput s input.Failed = SourceFailed s
IsInput s input.NoMemory = Unit {0}

-- One piece more of a source was read behind these bytes, of one byte at least.
pub record IsMore (s : SourceTurn) (old new : Text) : Type 0 where
  pub piece : Text
  pub some : 0 < length piece
  pub read : Read s piece
  pub kept : new ≡ old ++ piece

-- The source was at its end.
pub record IsEnd (s : SourceTurn) (old new : Text) : Type 0 where
  pub all : s.tells → s.rest ≡ []
  pub end : s.tells → s.rest_after ≡ []
  pub kept : new ≡ old
