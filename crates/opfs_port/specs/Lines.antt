-- What a line from a reader is, where the bytes that the reader has left are known. This project's own.
use Rattle.std.specs.Prelude.{◌≡◌, ◌≢◌, ℕ, ◌+◌, ◌<◌, ◌==◌, if◌then◌else◌, Option, IfSome, List, [], ◌∷◌, ◌++◌, length, All}
use Rattle.std.specs.Io.{StartsWith}
use Rattle.std.specs.Io.KnownBytes.{Consumes, IsAtEnd, Keeps}
use Rattle.opfs_port.specs.declared.port.Heard.{Heard}
use Rattle.opfs_port.specs.declared.port.Heard.TheVariants as heard
use Rattle.opfs_port.specs.declared.reading.Piece.{Piece}
use Rattle.opfs_port.specs.declared.reading.Piece.TheVariants as piece

-- the bytes before the first line feed, or all of them
abbrev pub before_feed : List ℕ → List ℕ
before_feed [] = []
before_feed (x ∷ xs) = if x == 10 then [] else x ∷ before_feed xs

-- no byte is a line feed
abbrev pub HasNoFeed : List ℕ → Type 0
HasNoFeed xs = All (λ x. x ≢ 10) xs

-- What was heard of known bytes: the first line, or that it is too long; or there are no bytes.
abbrev pub IsHeard : Heard → ℕ → List ℕ → List ℕ → Type 0
IsHeard heard.Line most bytes line = (bytes ≢ []) × (line ≡ before_feed bytes)
IsHeard heard.TooLong most bytes line = most < length (before_feed bytes)
IsHeard heard.End most bytes line = bytes ≡ []

-- What a piece of a line did to the known bytes and to the line.
abbrev pub IsPiece : Piece → ℕ → Option (List ℕ) → Option (List ℕ) → List ℕ → List ℕ → Type 0
IsPiece piece.More most old new line_old line_new = (front : List ℕ) × HasNoFeed front × (line_new ≡ line_old ++ front) × Consumes old new front
IsPiece piece.Whole most old new line_old line_new = (front : List ℕ) × HasNoFeed front × (line_new ≡ line_old ++ front) × Consumes old new (front ++ 10 ∷ [])
IsPiece piece.End most old new line_old line_new = (line_new ≡ line_old) × Keeps old new × IsAtEnd old
IsPiece piece.TooLong most old new line_old line_new = (front : List ℕ) × HasNoFeed front × (most < length line_old + length front) × Keeps old new × IfSome old (λ xs. StartsWith xs front)
