-- Images that are refused. This project's own.
use Rattle.std.specs.Prelude.{ℕ, List, [], ◌∷◌, drop, take}
use Rattle.opfs_codec.specs.declared.change.Format.TheVariants.{New}
use Rattle.opfs_examples.specs.Images.Notes.{image_of, note_image}

-- 4,095 bytes of an image.
abbrev pub cut_image : List ℕ
cut_image = take 4095 (note_image New)

-- Its first byte is an `X`.
abbrev pub other_image : List ℕ
other_image = 88 ∷ drop 1 (note_image New)

-- Area 0 has a first record of generation 0 in format 1.
abbrev pub old_image : List ℕ
old_image = image_of (165 ∷ 1 ∷ 0 ∷ 0 ∷ 0 ∷ 0 ∷ []) [] []

-- Both first gates are shut.
abbrev pub shut_image : List ℕ
shut_image = image_of (0 ∷ 1 ∷ 0 ∷ 0 ∷ 0 ∷ 16 ∷ []) [] []

-- The second record has the one byte 9, which begins no change.
abbrev pub bad_image : List ℕ
bad_image = image_of (165 ∷ 1 ∷ 0 ∷ 0 ∷ 0 ∷ 16 ∷ 165 ∷ 1 ∷ 0 ∷ 0 ∷ 0 ∷ 9 ∷ []) [] []

-- The first record has no generation byte.
abbrev pub cut_record_image : List ℕ
cut_record_image = image_of (165 ∷ 0 ∷ 0 ∷ 0 ∷ 0 ∷ 16 ∷ []) [] []
