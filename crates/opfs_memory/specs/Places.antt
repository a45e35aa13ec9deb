-- A place of a host by its fields.
use Rattle.std.specs.Prelude.{◌+◌, ◌≤◌, length, option_map}
use Rattle.std.specs.Vec.{vec_capacity}
use Rattle.opfs_memory.specs.Shelves.{Spot, newest, image_of}
use Rattle.opfs_memory.specs.declared.place.Place.TheInside.{Inside}

abbrev pub spot_of : Inside → Spot
spot_of p = record {
  path = p.path.items;
  image = image_of (option_map (λ v. v.items) p.image) (newest p.given.items);
  given = p.given.items;
  out = p.out;
}

-- there is room for each disk that is out
abbrev pub HasRoom : Inside → Type 0
HasRoom p = length p.given.items + p.out ≤ vec_capacity p.given
