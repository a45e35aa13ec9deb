-- What is known of an agent's key. This project's own.
use Rattle.std.specs.Prelude.{◌≡◌, Option, Some}
use Rattle.opfs_base.specs.Texts.{Text}
use Rattle.opfs_codec.specs.Spelling.{IsText, is_origin_text}

-- A key, if there is one, is an origin's text of 1 to 255 bytes, and names no bucket.
abbrev pub IsOwnKey : Option Text → Type 0
IsOwnKey key = (origin : Text) → key ≡ Some origin → IsText is_origin_text origin
