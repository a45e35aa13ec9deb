-- Why images are refused, part by part.
use Rattle.std.proofs.Common.{◌≡◌, ◌+◌, [], ◌∷◌, true, false, refl, sym, ◌∙◌, ap, subst, arith}
use Rattle.std.specs.Prelude.{drop, Some, None, Ok, Err, ◌==◌}
use Rattle.opfs_codec.specs.Reading.{change_at}
use Rattle.opfs_codec.specs.declared.change.Format.TheVariants.{New}
use Rattle.opfs_journal.specs.Format.{is_open, number_at, chosen_in}
use Rattle.opfs_journal.specs.declared.refusal.OpenRefusal.TheVariants as opening
use Rattle.opfs_outside.specs.Bytes.{window}
use Rattle.opfs_records.specs.Replay.Applying.{built_within, built_by}
use Rattle.opfs_records.specs.Replay.Built.{nothing_built}
use Rattle.opfs_image.specs.Reading.{read_as, read_from, area_built, area_format, format_number}
use Rattle.opfs_image.specs.Superblock.{geometry_of, areas_of}
use Rattle.opfs_image.specs.Walking.{Yields}
use Rattle.opfs_image.specs.declared.refusal.ImageRefusal.TheVariants as refusal
use Rattle.opfs_image.proofs.Images.{image_bad, ruling_bad, format_other}
use Rattle.opfs_image.proofs.Yielding.{yields_bad, yields_more, area_is}
use Rattle.opfs_examples.specs.Images.Notes.{small}
use Rattle.opfs_examples.specs.Images.Refused.{cut_image, other_image, old_image, shut_image, bad_image, cut_record_image}

cut_is : geometry_of cut_image ≡ Err refusal.Short
cut_is = refl

pub short : read_as New New cut_image ≡ Err refusal.Short
short = ap (read_from New New cut_image) cut_is

other_is : geometry_of other_image ≡ Err refusal.Magic
other_is = refl

pub magic : read_as New New other_image ≡ Err refusal.Magic
magic = ap (read_from New New other_image) other_is

old_geometry : geometry_of old_image ≡ Ok small
old_geometry = refl

old_chosen : chosen_in (areas_of small) old_image ≡ Ok false
old_chosen = refl

old_format : (area_format old_image (areas_of small) false == format_number New) ≡ false
old_format = refl

pub old : read_as New New old_image ≡ Err refusal.Old
old = format_other New New old_image small old_geometry false old_chosen old_format

shut_geometry : geometry_of shut_image ≡ Ok small
shut_geometry = refl

shut_chosen : chosen_in (areas_of small) shut_image ≡ Err opening.NoArea
shut_chosen = refl

pub no_area : read_as New New shut_image ≡ Err refusal.NoArea
no_area = ruling_bad New New shut_image small shut_geometry opening.NoArea shut_chosen

cut_record_geometry : geometry_of cut_record_image ≡ Ok small
cut_record_geometry = refl

cut_record_chosen : chosen_in (areas_of small) cut_record_image ≡ Err (opening.BadRecord 4096)
cut_record_chosen = refl

pub cut : read_as New New cut_record_image ≡ Err (refusal.BadRecord 4096)
cut = ruling_bad New New cut_record_image small cut_record_geometry (opening.BadRecord 4096) cut_record_chosen

-- ---- the second record is none

bad_geometry : geometry_of bad_image ≡ Ok small
bad_geometry = refl

bad_chosen : chosen_in (areas_of small) bad_image ≡ Ok false
bad_chosen = refl

bad_format : area_format bad_image (areas_of small) false ≡ format_number New
bad_format = refl

first : is_open bad_image 4096 ≡ true
first = refl

first_size : number_at bad_image (4096 + 1) ≡ 1
first_size = refl

second : is_open bad_image 4102 ≡ true
second = refl

second_size : number_at bad_image (4102 + 1) ≡ 1
second_size = refl

body : window bad_image (4102 + 5) 1 ≡ 9 ∷ []
body = refl

no_change : built_by New 1 (9 ∷ []) nothing_built ≡ None
unfolding built_within change_at
no_change = refl

empty_body : built_by New 1 [] nothing_built ≡ Some nothing_built
unfolding built_within
empty_body = refl

records : area_built New 1 bad_image (areas_of small) false ≡ Err 4102
records =
    let next : 4096 + 5 + number_at bad_image (4096 + 1) ≡ 4102 = omega (arith, first_size) in
    let body_0 : built_by New 1 (drop 1 (window bad_image (4096 + 5) (number_at bad_image (4096 + 1)))) nothing_built ≡ Some nothing_built =
    ap (λ n. built_by New 1 (drop 1 (window bad_image (4096 + 5) n)) nothing_built) first_size ∙ empty_body in
    let body_1 : built_by New 1 (drop 0 (window bad_image (4102 + 5) (number_at bad_image (4102 + 1)))) nothing_built ≡ None =
    ap (λ n. built_by New 1 (drop 0 (window bad_image (4102 + 5) n)) nothing_built) second_size ∙ ap (λ xs. built_by New 1 xs nothing_built) body ∙ no_change in
    let from_second : Yields New 1 bad_image 8192 0 4102 nothing_built (Err 4102) =
    yields_bad New 1 bad_image 8192 0 4102 nothing_built (omega arith) second (omega (arith, second_size)) body_1 in
    area_is New 1 1 bad_image (areas_of small) (areas_of small) false 4096 nothing_built (Err 4102) refl refl refl refl
    (yields_more New 1 bad_image 8192 1 4096 nothing_built (omega arith) first (omega (arith, first_size)) nothing_built (Err 4102) body_0 (subst (λ at. Yields New 1 bad_image 8192 0 at nothing_built (Err 4102)) (sym next) from_second))

pub bad : read_as New New bad_image ≡ Err (refusal.BadRecord 4102)
bad = image_bad New New bad_image small false (record { geometry = bad_geometry; chosen = bad_chosen; format = bad_format }) 4102 records
