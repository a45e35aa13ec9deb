-- What is written of a map is plain data.
use Rattle.std.proofs.Common.{◌≡◌, ℕ, zero, suc, ◌<◌, ◌≤◌, ◌^◌, true, map, List, [], ◌∷◌, refl, arith}
use Rattle.std.proofs.lemmas.Str.{IsUtf8-from_ascii}
use Rattle.std.specs.List.{AllByRecursion}
use Rattle.std.specs.Str.{IsAscii, IsUtf8}
use Rattle.std.proofs.lemmas.Bool.{and_parts, ltb-true}
use Rattle.hex.proofs.HexLemmas.{IsAscii-encode_with}
use Rattle.hex.specs.Hex.{lower_digits}
use Rattle.json.proofs.Printed.Utf8.{are_ascii, IsUtf8-are_ascii}
use Rattle.serde_json.specs.Data.{string, items_depth, depth}
use Rattle.serde_json.specs.View.{items_of}
use Rattle.opfs_base.specs.Places.{Place}
use Rattle.opfs_base.specs.Texts.{Text}
use Rattle.opfs_image.proofs.Formatted.{range_parts}
use Rattle.opfs_image.specs.Superblock.{is_in_range}
use Rattle.opfs_image.specs.declared.geometry.Geometry.{Geometry}
use Rattle.opfs_machine.specs.Openings.{Map, Stored, folder, document}
use Rattle.opfs_dump.specs.Text.Texts.{row_value, dump_value}
use Rattle.opfs_commands.specs.DumpLaws.Dumpable.{IsNamed, IsToldRow, IsDumpable}
use Rattle.opfs_commands.specs.DumpLaws.Plain.{IsPlain, ArePlainItems}

key : (s : List ℕ) → are_ascii s ≡ true → IsUtf8 s
key s h = IsUtf8-are_ascii s h

ascii-of : (xs : List ℕ) → are_ascii xs ≡ true → IsAscii xs
ascii-of [] h i = omega arith
ascii-of (x ∷ xs) h zero = ltb-true _ _ (and_parts _ _ h).0
ascii-of (x ∷ xs) h (suc i) = ascii-of xs (and_parts _ _ h).1 i

texts-plain : (texts : List Text) → AllByRecursion IsUtf8 texts → ArePlainItems (items_of (map string texts))
texts-plain [] all = tt
texts-plain (t ∷ more) all = (all.0, texts-plain more all.1)

named-texts : (names : List Text) → AllByRecursion IsNamed names → AllByRecursion IsUtf8 names
named-texts [] all = tt
named-texts (n ∷ more) all = (all.0.0, named-texts more all.1)

row-plain : (e : Place × Stored) → IsToldRow e → IsPlain (row_value e)
row-plain (place, folder) told =
    (refl, (key _ refl, told.0, (key _ refl, texts-plain place.1 (named-texts place.1 told.1), tt)))
row-plain (place, document bytes stamp) told = (
  refl,
  (
    key _ refl,
    IsUtf8-from_ascii _ (IsAscii-encode_with lower_digits bytes (ascii-of lower_digits refl)),
    (key _ refl, told.0, (key _ refl, texts-plain place.1 (named-texts place.1 told.1), (key _ refl, told.2.1, tt))),
  ),
)

rows-plain : (rows : List (Place × Stored)) → AllByRecursion IsToldRow rows → ArePlainItems (items_of (map row_value rows))
rows-plain [] all = tt
rows-plain (e ∷ more) all = (row-plain e all.0, rows-plain more all.1)

texts-depth : (texts : List Text) → items_depth (items_of (map string texts)) ≡ 0
texts-depth [] = refl
texts-depth (t ∷ more) = omega (arith, texts-depth more)

row-depth : (e : Place × Stored) → depth (row_value e) ≤ 2
row-depth (place, folder) = omega (arith, texts-depth place.1)
row-depth (place, document bytes stamp) = omega (arith, texts-depth place.1)

rows-depth : (rows : List (Place × Stored)) → items_depth (items_of (map row_value rows)) ≤ 2
rows-depth [] = omega arith
rows-depth (e ∷ more) = omega (arith, row-depth e, rows-depth more)

pub small-sizes : (g : Geometry) → is_in_range g ≡ true → (g.areas < 2 ^ 64) × (g.blocks < 2 ^ 64) × (g.quota < 2 ^ 64)
small-sizes g range = let most = range_parts g range in (omega (arith, most.0), omega (arith, most.1), omega (arith, most.2))

pub dump-plain : (g : Geometry) (m : Map) → IsDumpable g m → IsPlain (dump_value g m)
dump-plain g m is =
    let sizes = small-sizes g is.range in
    let units = texts-plain m.persistent is.texts in
    let two : 2 < 2 ^ 64 = omega arith in (
      refl,
      (key _ refl, sizes.0, (key _ refl, sizes.1, (key _ refl, units, (key _ refl, sizes.2, (key _ refl, rows-plain m.rows is.rows, (key _ refl, two, tt)))))),
    )

pub dump-depth : (g : Geometry) (m : Map) → depth (dump_value g m) ≤ 127
dump-depth g m = omega (arith, texts-depth m.persistent, rows-depth m.rows)
