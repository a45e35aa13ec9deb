-- What the image with one file stands for, part by part.
use Rattle.std.proofs.Common.{◌≡◌, ◌+◌, ◌≤◌, ◌++◌, ℕ, List, [], ◌∷◌, true, false, zero, suc, ◌-◌, codes, refl, sym, ◌∙◌, ap, subst, append-nil, arith}
use Rattle.std.specs.Prelude.{length, take, drop, Some, Ok}
use Rattle.std.specs.Str.{is_utf8}
use Rattle.std.proofs.lemmas.Str.{is_utf8-from_IsUtf8}
use Rattle.std.proofs.lemmas.List.{take-append-le, take_all}
use Rattle.opfs_codec.specs.Spelling.{spelling, IsKey, IsPath, IsChange}
use Rattle.opfs_codec.specs.Reading.{change_at as change_read}
use Rattle.opfs_codec.specs.declared.change.Change.{Change}
use Rattle.opfs_codec.specs.declared.change.Format.{Format}
use Rattle.opfs_codec.specs.declared.change.Format.TheVariants.{Old, New}
use Rattle.opfs_codec.proofs.ChangeLemmas.{change_again}
use Rattle.opfs_journal.specs.Format.{is_open, number_at, chosen_in}
use Rattle.opfs_machine.specs.Openings.{folder, document}
use Rattle.opfs_outside.specs.Bytes.{window}
use Rattle.opfs_outside.specs.Windows.{window_is, window-append, length-window}
use Rattle.opfs_records.specs.Replay.Applying.{can_apply, applied, built_within, built_by, tried}
use Rattle.opfs_records.specs.Replay.Built.{Built, nothing_built}
use Rattle.opfs_records.specs.Replay.Sums.{charge_of}
use Rattle.opfs_image.specs.Filling.{map_in, map_of}
use Rattle.opfs_image.specs.Reading.{read_as, area_built, area_format, format_number}
use Rattle.opfs_image.specs.Superblock.{geometry_of, areas_of}
use Rattle.opfs_image.specs.Walking.{Yields}
use Rattle.opfs_image.proofs.Images.{image_read}
use Rattle.opfs_image.proofs.Yielding.{yields_shut, yields_more, area_is}
use Rattle.opfs_examples.specs.Images.Notes.{note_image, note_map, note_built, small, changes, changes_size, a_key, made_root, made_file, note_change, root_change, file_change}

-- ---- the record

key_text : is_utf8 a_key ≡ true
unfolding lib.Utf8.encode
key_text = is_utf8-from_IsUtf8 a_key (a_key, (refl, refl))

bucket_text : is_utf8 (codes "default") ≡ true
unfolding lib.Utf8.encode
bucket_text = is_utf8-from_IsUtf8 (codes "default") (codes "default", (refl, refl))

name_text : is_utf8 (codes "note") ≡ true
unfolding lib.Utf8.encode
name_text = is_utf8-from_IsUtf8 (codes "note") (codes "note", (refl, refl))

key : (f : Format) → IsKey f a_key
key Old = ((key_text, refl), omega arith)
key New = (((key_text, refl), omega arith), ((bucket_text, refl), omega arith), refl)

path : IsPath (codes "note" ∷ [])
path = (omega arith, (((name_text, refl), omega arith), tt))

root_good : (f : Format) → IsChange f root_change
unfolding IsChange
root_good f = key f

file_good : (f : Format) → IsChange f file_change
unfolding IsChange
file_good f = (key f, path, omega arith)

note_good : (f : Format) → IsChange f note_change
unfolding IsChange
note_good f = (key f, path, omega arith, omega arith, (omega arith, ((omega arith, omega arith), tt)))

root_made : (f : Format) → tried f 1 nothing_built root_change ≡ Some made_root
unfolding can_apply applied
root_made Old = refl
root_made New = refl

file_made : (f : Format) → tried f 1 made_root file_change ≡ Some made_file
unfolding can_apply applied
file_made Old = refl
file_made New = refl

note_made : (f : Format) → tried f 1 made_file note_change ≡ Some note_built
unfolding can_apply applied
note_made Old = refl
note_made New = refl

pub old_charge : charge_of Old note_built ≡ 108
unfolding charge_of
old_charge = refl

pub charge : charge_of New note_built ≡ 132
unfolding charge_of
charge = refl

fits : (f : Format) → charge_of f note_built + 7 ≤ 4096
fits Old = omega (arith, old_charge)
fits New = omega (arith, charge)

-- one change more
step : (f : Format) (most byte : ℕ) (bytes rest : List ℕ) (c : Change) (b next out : Built) → change_read f (byte ∷ bytes) ≡ Some (c, rest) → tried f 1 b c ≡ Some next → built_within most f 1 rest next ≡ Some out
    → built_within (most + 1) f 1 (byte ∷ bytes) b ≡ Some out
unfolding built_within
step f most byte bytes rest c b next out read made then_built =
    let e : most + 1 ≡ suc most = omega arith in
    rw (e, read, made) then_built

spelled : (f : Format) → spelling f root_change ++ (spelling f file_change ++ (spelling f note_change ++ [])) ≡ changes f
unfolding spelling
spelled Old = refl
spelled New = refl

nothing_left : (f : Format) (most : ℕ) → built_within most f 1 [] note_built ≡ Some note_built
unfolding built_within
nothing_left f zero = refl
nothing_left f (suc most) = refl

note_read : (f : Format) (most : ℕ) → built_within (most + 1) f 1 (spelling f note_change ++ []) made_file ≡ Some note_built
unfolding spelling
note_read f most = step f most 5 _ [] note_change made_file note_built note_built (change_again f note_change [] (note_good f)) (note_made f) (nothing_left f most)

file_read : (f : Format) (most : ℕ) → built_within (most + 1 + 1) f 1 (spelling f file_change ++ (spelling f note_change ++ [])) made_root ≡ Some note_built
unfolding spelling
file_read f most = step f (most + 1) 3 _ (spelling f note_change ++ []) file_change made_root made_file note_built (change_again f file_change (spelling f note_change ++ []) (file_good f)) (file_made f) (note_read f most)

root_read : (f : Format) (most : ℕ) → built_within (most + 1 + 1 + 1) f 1 (spelling f root_change ++ (spelling f file_change ++ (spelling f note_change ++ []))) nothing_built ≡ Some note_built
unfolding spelling
root_read f most =
    step f (most + 1 + 1) 1 _ (spelling f file_change ++ (spelling f note_change ++ [])) root_change nothing_built made_root note_built (change_again f root_change (spelling f file_change ++ (spelling f note_change ++ [])) (root_good f)) (root_made f)
    (file_read f most)

size : (f : Format) → length (changes f) ≡ changes_size f
size Old = refl
size New = refl

long : (f : Format) → 3 ≤ changes_size f
long Old = omega arith
long New = omega arith

pub builds : (f : Format) → built_by f 1 (changes f) nothing_built ≡ Some note_built
builds f =
    let n : changes_size f - 3 + 1 + 1 + 1 ≡ length (changes f) = omega (arith, size f, long f) in
    subst (λ k. built_within k f 1 (changes f) nothing_built ≡ Some note_built) n
    (subst (λ (xs : List ℕ). built_within (changes_size f - 3 + 1 + 1 + 1) f 1 xs nothing_built ≡ Some note_built) (spelled f) (root_read f (changes_size f - 3)))

empty_body : (f : Format) → built_by f 1 [] nothing_built ≡ Some nothing_built
unfolding built_within
empty_body f = refl

-- ---- the image

geometry : (f : Format) → geometry_of (note_image f) ≡ Ok small
geometry Old = refl
geometry New = refl

chosen : (f : Format) → chosen_in (areas_of small) (note_image f) ≡ Ok false
chosen Old = refl
chosen New = refl

format : (f : Format) → area_format (note_image f) (areas_of small) false ≡ format_number f
format Old = refl
format New = refl

first : (f : Format) → is_open (note_image f) 4096 ≡ true
first Old = refl
first New = refl

first_size : (f : Format) → number_at (note_image f) (4096 + 1) ≡ 1
first_size Old = refl
first_size New = refl

second : (f : Format) → is_open (note_image f) 4102 ≡ true
second Old = refl
second New = refl

second_size : (f : Format) → number_at (note_image f) (4102 + 1) ≡ changes_size f
second_size Old = refl
second_size New = refl

shut : (f : Format) → is_open (note_image f) (4107 + changes_size f) ≡ false
shut Old = refl
shut New = refl

whole : (f : Format) → length (note_image f) ≡ 16384
whole Old = refl
whole New = refl

behind : (f : Format) → take (changes_size f) (drop 4107 (note_image f)) ≡ changes f
behind Old = refl
behind New = refl

short : (f : Format) → changes_size f ≤ 132
short Old = omega arith
short New = omega arith

body : (f : Format) → window (note_image f) 4107 (changes_size f) ≡ changes f
body f = window_is (note_image f) 4107 (changes_size f) (omega (arith, whole f, short f)) ∙ behind f

records : (f : Format) → area_built f 1 (note_image f) (areas_of small) false ≡ Ok note_built
records f =
    let c = note_image f in
    let next : 4096 + 5 + number_at c (4096 + 1) ≡ 4102 = omega (arith, first_size f) in
    let last : 4102 + 5 + number_at c (4102 + 1) ≡ 4107 + changes_size f = omega (arith, second_size f) in
    let empty : built_by f 1 (drop 1 (window c (4096 + 5) (number_at c (4096 + 1)))) nothing_built ≡ Some nothing_built =
    ap (λ n. built_by f 1 (drop 1 (window c (4096 + 5) n)) nothing_built) (first_size f) ∙ empty_body f in
    let built : built_by f 1 (drop 0 (window c (4102 + 5) (number_at c (4102 + 1)))) nothing_built ≡ Some note_built =
    ap (λ n. built_by f 1 (drop 0 (window c (4102 + 5) n)) nothing_built) (second_size f) ∙ ap (λ xs. built_by f 1 xs nothing_built) (body f) ∙ builds f in
    let tail : Yields f 1 c 8192 0 (4107 + changes_size f) note_built (Ok note_built) = yields_shut f 1 c 8192 0 (4107 + changes_size f) note_built (omega (arith, short f)) (shut f) in
    let from_second : Yields f 1 c 8192 0 4102 nothing_built (Ok note_built) =
    yields_more f 1 c 8192 0 4102 nothing_built (omega arith) (second f) (omega (arith, second_size f, short f)) note_built (Ok note_built) built (subst (λ at. Yields f 1 c 8192 0 at note_built (Ok note_built)) (sym last) tail) in
    area_is f 1 1 c (areas_of small) (areas_of small) false 4096 nothing_built (Ok note_built) refl refl refl refl
    (yields_more f 1 c 8192 1 4096 nothing_built (omega arith) (first f) (omega (arith, first_size f)) nothing_built (Ok note_built) empty (subst (λ at. Yields f 1 c 8192 0 at nothing_built (Ok note_built)) (sym next) from_second))

read : (f : Format) → read_as f f (note_image f) ≡ Ok (record { geometry = small; built = note_built })
read f = image_read f f (note_image f) small false (record { geometry = geometry f; chosen = chosen f; format = format f }) note_built (records f) (fits f)

front_of : (c : List ℕ) (at n m : ℕ) → take n (window c at (n + m) ++ []) ≡ window c at n
front_of c at n m =
    ap (λ xs. take n xs) (append-nil (window c at (n + m)) ∙ window-append c at n m)
    ∙ take-append-le n (window c at n) (window c (at + n) m) (omega (arith, length-window c at n))
    ∙ take_all n (window c at n) (omega (arith, length-window c at n))

hello : (f : Format) → window (note_image f) 12288 5 ≡ codes "hello"
hello Old = refl
hello New = refl

pub stands : (f : Format) → map_in f (note_image f) ≡ Some note_map
stands f =
    ap (map_of (note_image f)) (read f)
    ∙ ap (λ bytes. Some (record { rows = ((a_key, []), folder) ∷ ((a_key, codes "note" ∷ []), document bytes 0) ∷ []; persistent = [] })) (front_of (note_image f) 12288 5 4091 ∙ hello f)
