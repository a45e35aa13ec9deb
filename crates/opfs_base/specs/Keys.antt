-- Storage keys of URLs (Storage: obtain a storage key; HTML: origin). A URL is what the crate `url` reads, which is the
-- URL Standard's parser. That only five schemes have a key, and the limit of 255 bytes, are this project's own.
use Rattle.std.specs.Prelude.{◌==◌, nat_le, Bool, true, false, not, ◌||◌, ◌++◌, length, codes, None, Result, Ok, Err}
use Rattle.std.specs.List.{list_any}
use Rattle.url.specs.Parser.{parse_url}
use Rattle.url.specs.Parts.{Parts, text_between}
use Rattle.url.specs.declared.slicing.Position.TheVariants.{BeforeHost, AfterPort}
use Rattle.opfs_base.specs.Texts.{Text, same_text}
use Rattle.opfs_base.specs.Units.{hash_sign}
use Rattle.opfs_base.specs.declared.key.KeyRefusal.{KeyRefusal}
use Rattle.opfs_base.specs.declared.key.KeyRefusal.TheVariants.{BadUrl, Opaque, TooLong}

-- Whether URLs of a scheme have a tuple origin.
abbrev pub has_tuple_origin : Text → Bool
has_tuple_origin scheme =
    same_text scheme (codes "http") || same_text scheme (codes "https") || same_text scheme (codes "ws")
    || same_text scheme (codes "wss") || same_text scheme (codes "ftp")

-- A URL's tuple origin as a text: scheme, `://`, host, and `:` with the port where it has one.
abbrev pub origin_text : Parts → Text
origin_text url = url.scheme ++ (codes "://" ++ text_between url BeforeHost AfterPort)

-- A key, unless it is too long.
abbrev pub checked_key : Text → Result Text KeyRefusal
checked_key key = elim (nat_le (length key) 255) [ true ↦ Ok key | false ↦ Err TooLong ]

-- The key of a URL.
abbrev pub key_of_parts : Parts → Result Text KeyRefusal
key_of_parts url = elim (has_tuple_origin url.scheme) [ true ↦ checked_key (origin_text url) | false ↦ Err Opaque ]

-- The key of the URL that a text is read as.
abbrev pub key_of : Text → Result Text KeyRefusal
key_of text = elim (parse_url None text) [ Ok url ↦ key_of_parts url | Err error ↦ Err BadUrl ]

-- Whether a key is an origin's, which names no bucket.
abbrev pub is_origin : Text → Bool
is_origin key = not (list_any (λ byte. byte == hash_sign) key)

-- Whether a key stands on one line, so that a line of a transcript can tell it.
abbrev pub is_one_line : Text → Bool
is_one_line key = not (list_any (λ byte. byte == 10) key)
