-- Texts as the lists of their UTF-8 bytes.
use Rattle.std.specs.Prelude.{ℕ, Bool, List, nat_eq}
use Rattle.std.specs.Cmp.Lexicographic.{pointwise}

-- A text, or any list of bytes.
abbrev pub Text : Type 0
Text = List ℕ

-- Whether two texts have the same bytes.
abbrev pub same_text : Text → Text → Bool
same_text a b = pointwise nat_eq a b

-- Whether two lists have the same texts in the same order.
abbrev pub same_texts : List Text → List Text → Bool
same_texts a b = pointwise same_text a b
