-- Data that JSON text keeps whole. This project's own.
use Rattle.std.specs.Prelude.{◌≡◌, ◌<◌, ◌^◌, ⊤}
use Rattle.std.specs.Str.{IsUtf8}
use Rattle.serde_json.specs.Data.{Data, Num, unsigned, negative, float, null, boolean, number, string, array, object, Items, no_items, item, Members, no_members, member, put}

-- A number that is a whole one below 2^64.
abbrev pub IsWhole : Num → Type 0
IsWhole (unsigned n) = n < 2 ^ 64
IsWhole (negative z) = ⊥
IsWhole (float x) = ⊥

-- Members that are put one after another.
abbrev pub put_all : Members → Members → Members
put_all no_members done = done
put_all (member k d ms) done = put_all ms (put k d done)

-- Numbers are whole, texts are UTF-8, and the members of each object are in order.
abbrev mutual
  pub IsPlain : Data → Type 0
  IsPlain null = ⊤
  IsPlain (boolean b) = ⊤
  IsPlain (number n) = IsWhole n
  IsPlain (string s) = IsUtf8 s
  IsPlain (array ds) = ArePlainItems ds
  IsPlain (object ms) = (put_all ms no_members ≡ ms) × ArePlainMembers ms

  pub ArePlainItems : Items → Type 0
  ArePlainItems no_items = ⊤
  ArePlainItems (item d ds) = IsPlain d × ArePlainItems ds

  pub ArePlainMembers : Members → Type 0
  ArePlainMembers no_members = ⊤
  ArePlainMembers (member k d ms) = IsUtf8 k × IsPlain d × ArePlainMembers ms
