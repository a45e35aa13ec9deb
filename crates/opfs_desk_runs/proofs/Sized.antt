-- An image of known sizes.
use Rattle.std.proofs.Common.{◌≡◌, ℕ, List, Some, None, refl, sym, ap, ◌∙◌}
use Rattle.std.specs.Prelude.{Result, Ok, Err}
use Rattle.opfs_codec.specs.declared.change.Format.TheVariants.{New}
use Rattle.opfs_image.specs.Filling.{Stands, filled, map_of}
use Rattle.opfs_image.specs.Reading.{Image, built_in_area, image_of, read_as, read_from}
use Rattle.opfs_image.specs.Superblock.{areas_of, data_base, geometry_of}
use Rattle.opfs_image.specs.declared.geometry.Geometry.{Geometry}
use Rattle.opfs_image.specs.declared.refusal.ImageRefusal.{ImageRefusal}
use Rattle.opfs_journal.specs.Format.{chosen_in}
use Rattle.opfs_machine.specs.Openings.{Map}
use Rattle.opfs_records.specs.Replay.Built.{Built}
use Rattle.opfs_desk_runs.specs.Runs.{IsImageOf}

of-some : {A : Type 0} (a b : A) → Some a ≡ Some b → a ≡ b
of-some a b is = cc

by-built : (g : Geometry) (m : Map) (c : List ℕ) (r : Result Built ImageRefusal) → read_as New New c ≡ image_of g r → Stands c m → IsImageOf g m c
by-built g m c (Err e) reads stands =
    let none : None ≡ Some m = sym (ap (map_of c) reads) ∙ stands in
    absurd (cc none)
by-built g m c (Ok b) reads stands = record {
  built = b;
  reads = reads;
  stands = of-some (filled (data_base g) c b) m (sym (ap (map_of c) reads) ∙ stands);
}

pub sized : (g : Geometry) (m : Map) (c : List ℕ) → geometry_of c ≡ Ok g → Stands c m → IsImageOf g m c
sized g m c sizes stands =
    by-built g m c (built_in_area New New g c (chosen_in (areas_of g) c)) (ap (read_from New New c) sizes) stands

ok-same : (r : Result Image ImageRefusal) (a b : Image) → r ≡ Ok a → r ≡ Ok b → a ≡ b
ok-same r a b x y = cc

of-image : (g found : Geometry) (b : Built) (r : Result Built ImageRefusal) → image_of found r ≡ Ok (record { geometry = g; built = b }) → found ≡ g
of-image g found b (Err e) is = absurd (cc is)
of-image g found b (Ok other) is = ap (λ (i : Image). i.geometry) (ok-same (image_of found (Ok other)) (record { geometry = found; built = other }) (record { geometry = g; built = b }) refl is)

by-geometry : (g : Geometry) (b : Built) (c : List ℕ) (r : Result Geometry ImageRefusal) → read_from New New c r ≡ Ok (record { geometry = g; built = b }) → r ≡ Ok g
by-geometry g b c (Err e) is = absurd (cc is)
by-geometry g b c (Ok found) is = ap (λ (x : Geometry). Ok x) (of-image g found b (built_in_area New New found c (chosen_in (areas_of found) c)) is)

-- the sizes of an image
pub sizes-of : (g : Geometry) (m : Map) (c : List ℕ) → IsImageOf g m c → geometry_of c ≡ Ok g
sizes-of g m c is = by-geometry g is.built c (geometry_of c) is.reads

-- what an image of these sizes stands for
pub stood-for : (g : Geometry) (m : Map) (c : List ℕ) → IsImageOf g m c → Stands c m
stood-for g m c is = ap (map_of c) is.reads ∙ ap (λ (x : Map). Some x) is.stands
