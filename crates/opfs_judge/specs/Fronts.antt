-- The front of a transcript. This project's own.
use Rattle.std.specs.Prelude.{◌≡◌, ℕ, ◌+◌, ◌==◌, ◌&&◌, nat_lt, Bool, true, false, not, List, [], ◌∷◌, ◌++◌, drop, length, map, codes, Option, Some, None}
use Rattle.opfs_base.specs.Texts.{Text}
use Rattle.opfs_machine.specs.Runs.{eviction}
use Rattle.opfs_print.specs.Lines.{text_of}
use Rattle.opfs_transcripts.specs.Told.Reading.{begins}
use Rattle.opfs_transcripts.specs.Told.Turns.{AreLines}

-- What stands before a text's first line feed; all of it, where there is none.
abbrev pub first_line : Text → Text
first_line [] = []
first_line (c ∷ cs) = elim (c == 10) [ true ↦ [] | false ↦ c ∷ first_line cs ]

-- What stands behind the line of an eviction, where a text begins with one.
abbrev pub after_eviction : Text → Option Text
after_eviction text =
    elim (nat_lt (length (first_line text)) (length text) && begins (codes "evict ") text) [
      | true ↦ Some (drop (length (first_line text) + 1) text)
      | false ↦ None
    ]

-- A text that does not begin as an eviction's line does.
abbrev pub is_other : Text → Bool
is_other [] = true
is_other (c ∷ cs) = not (c == 101)

-- How many evictions stand in front of something else, and how many bytes their lines have.
abbrev pub IsScanned : Text → ℕ × ℕ → Type 0
IsScanned text found = (units : List Text) (x : Text) → AreLines units → is_other x ≡ true → text ≡ text_of (map eviction units) ++ x
    → found ≡ (length units, length (text_of (map eviction units)))
