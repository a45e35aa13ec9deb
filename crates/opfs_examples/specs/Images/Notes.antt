-- An image of one block with one file, in both formats, and what it stands for. This project's own.
use Rattle.std.specs.Prelude.{ℕ, List, [], ◌∷◌, ◌++◌, ◌-◌, codes, length, replicate}
use Rattle.opfs_base.specs.Texts.{Text}
use Rattle.opfs_codec.specs.declared.change.Change.{Change}
use Rattle.opfs_codec.specs.declared.change.Change.TheVariants.{MakeRoot, MakeFile, Content}
use Rattle.opfs_codec.specs.declared.change.Format.{Format}
use Rattle.opfs_codec.specs.declared.change.Format.TheVariants.{Old, New}
use Rattle.opfs_locks.specs.Taking.{open_lock}
use Rattle.opfs_machine.specs.Openings.{Map, folder, document}
use Rattle.opfs_tree.specs.declared.row.Row.{Row}
use Rattle.opfs_tree.specs.declared.row.Row.TheVariants as row
use Rattle.opfs_records.specs.Replay.Built.{Built}
use Rattle.opfs_image.specs.Empty.{head_bytes}
use Rattle.opfs_image.specs.declared.geometry.Geometry.{Geometry}

-- Areas of one block, one data block, and a quota of one.
abbrev pub small : Geometry
small = record { areas = 1; blocks = 1; quota = 1 }

-- Bytes, with zeros up to a block's.
abbrev pub block_of : List ℕ → List ℕ
block_of bytes = bytes ++ replicate (4096 - length bytes) 0

-- An image with these bytes in its two areas and its block.
abbrev pub image_of : List ℕ → List ℕ → List ℕ → List ℕ
image_of first second stored = block_of (head_bytes small) ++ block_of first ++ block_of second ++ block_of stored

abbrev pub a_key : Text
a_key = codes "https://a.example"

-- The bytes of the unit: in format 2 its bucket stands behind its key.
abbrev pub unit_field : Format → List ℕ
unit_field Old = 17 ∷ 0 ∷ a_key
unit_field New = 17 ∷ 0 ∷ a_key ++ 7 ∷ codes "default"

-- The bytes of the file's place.
abbrev pub place_field : Format → List ℕ
place_field f = unit_field f ++ 1 ∷ 4 ∷ codes "note"

-- A root is made; the file is made, with the stamp 0; and its 5 bytes are stored, in 1 run of 1 block from block 0.
abbrev pub changes : Format → List ℕ
changes f =
    1 ∷ unit_field f
    ++ 3 ∷ place_field f ++ replicate 8 0
    ++ 5 ∷ place_field f ++ replicate 8 0 ++ 5 ∷ replicate 7 0 ++ 1 ∷ replicate 7 0 ++ 1 ∷ replicate 3 0

-- How many bytes these are, and the byte of generation 0.
abbrev pub changes_size : Format → ℕ
changes_size Old = 108
changes_size New = 132

abbrev pub first_generation : Format → ℕ
first_generation Old = 0
first_generation New = 16

-- A first record without changes, one with these, and a closed gate; and the bytes of the file in block 0.
abbrev pub note_image : Format → List ℕ
note_image f = image_of (165 ∷ 1 ∷ 0 ∷ 0 ∷ 0 ∷ first_generation f ∷ 165 ∷ changes_size f ∷ 0 ∷ 0 ∷ 0 ∷ changes f) [] (codes "hello")

-- What it stands for.
abbrev pub note_map : Map
note_map = record {
  rows = ((a_key, []), folder) ∷ ((a_key, codes "note" ∷ []), document (codes "hello") 0) ∷ [];
  persistent = [];
}

-- The changes one by one, and what they build.
abbrev pub root_change : Change
root_change = MakeRoot a_key

abbrev pub file_change : Change
file_change = MakeFile a_key (codes "note" ∷ []) 0

abbrev pub note_change : Change
note_change = Content a_key (codes "note" ∷ []) 0 5 (record { start = 0; count = 1 } ∷ [])

abbrev pub made_root : Built
made_root = record { rows = ((a_key, []), row.Dir) ∷ []; persistent = [] }

abbrev pub with_note : Row → Built
with_note note = record { rows = ((a_key, []), row.Dir) ∷ ((a_key, codes "note" ∷ []), note) ∷ []; persistent = [] }

abbrev pub made_file : Built
made_file = with_note (row.File (record { length = 0; stamp = 0; present = 0; present_stamp = 0; extents = []; lock = open_lock }))

abbrev pub note_built : Built
note_built = with_note (row.File (record { length = 5; stamp = 0; present = 5; present_stamp = 0; extents = record { start = 0; count = 1 } ∷ []; lock = open_lock }))
