-- What an image is read as, from its parts.
use Rattle.std.proofs.Common.{◌≡◌, ℕ, ◌+◌, ◌<◌, ◌≤◌, Bool, true, false, List, refl, sym, ◌∙◌, ap, arith}
use Rattle.std.specs.Prelude.{Ok, Err, nat_lt, ◌==◌}
use Rattle.opfs_codec.specs.declared.change.Format.{Format}
use Rattle.opfs_codec.specs.declared.change.Format.TheVariants.{Old, New}
use Rattle.opfs_journal.specs.Format.{chosen_in}
use Rattle.opfs_records.specs.Replay.Built.{Built}
use Rattle.opfs_records.specs.Replay.Sums.{charge_of}
use Rattle.opfs_image.specs.Reading.{area_built, area_format, format_number, read_as, unless_overfull, image_of}
use Rattle.opfs_image.specs.Answers.{refused_first, not_of}
use Rattle.opfs_image.specs.Superblock.{areas_of, area_bytes, geometry_of}
use Rattle.opfs_journal.specs.declared.refusal.OpenRefusal.{OpenRefusal}
use Rattle.opfs_image.specs.Walking.{IsFound}
use Rattle.opfs_image.specs.declared.geometry.Geometry.{Geometry}
use Rattle.opfs_image.specs.declared.refusal.ImageRefusal.TheVariants as refusal

format_same : (n : ℕ) (wanted : Format) → n ≡ format_number wanted → (n == format_number wanted) ≡ true
format_same n Old e = rw e refl
format_same n New e = rw e refl

module _ (wanted counted : Format) (c : List ℕ) (g : Geometry) (second : Bool) (found : IsFound wanted c g second) where
  to_area : read_as wanted counted c ≡ image_of g (unless_overfull counted (area_bytes g) (area_built wanted g.blocks c (areas_of g) second))
  to_area = rw (found.geometry, found.chosen, format_same (area_format c (areas_of g) second) wanted found.format) refl

  pub image_bad : (gate : ℕ) → area_built wanted g.blocks c (areas_of g) second ≡ Err gate → read_as wanted counted c ≡ Err (refusal.BadRecord gate)
  image_bad gate bad = to_area ∙ ap (λ r. image_of g (unless_overfull counted (area_bytes g) r)) bad

  module _ (b : Built) (built : area_built wanted g.blocks c (areas_of g) second ≡ Ok b) where
    pub image_read : charge_of counted b + 7 ≤ area_bytes g → read_as wanted counted c ≡ Ok (record { geometry = g; built = b })
    image_read fits =
        let t : nat_lt (area_bytes g) (charge_of counted b + 7) ≡ false = search (arith, fits) in
        to_area ∙ ap (λ r. image_of g (unless_overfull counted (area_bytes g) r)) built ∙ rw t refl

    pub image_overfull : area_bytes g < charge_of counted b + 7 → read_as wanted counted c ≡ Err (refusal.Overfull (charge_of counted b) (area_bytes g))
    image_overfull past =
        let t : nat_lt (area_bytes g) (charge_of counted b + 7) ≡ true = search (arith, past) in
        to_area ∙ ap (λ r. image_of g (unless_overfull counted (area_bytes g) r)) built ∙ rw t refl

module _ (wanted counted : Format) (c : List ℕ) (g : Geometry) (geometry : geometry_of c ≡ Ok g) where
  pub ruling_bad : (first : OpenRefusal) → chosen_in (areas_of g) c ≡ Err first → read_as wanted counted c ≡ Err (refused_first first)
  ruling_bad first bad = rw (geometry, bad) refl

  pub format_other : (second : Bool) → chosen_in (areas_of g) c ≡ Ok second → (area_format c (areas_of g) second == format_number wanted) ≡ false → read_as wanted counted c ≡ Err (not_of wanted)
  format_other second chosen other = rw (geometry, chosen, other) refl

-- a test of equality that holds
pub same_number : (n m : ℕ) → (n == m) ≡ true → n ≡ m
same_number n m e = search (arith, e)

pub built_same : (wanted : Format) (g : Geometry) (second : Bool) (d c : List ℕ) (b : Built) → d ≡ c → area_built wanted g.blocks d (areas_of g) second ≡ Ok b → area_built wanted g.blocks c (areas_of g) second ≡ Ok b
built_same wanted g second d c b same h = sym (ap (λ x. area_built wanted g.blocks x (areas_of g) second) same) ∙ h
