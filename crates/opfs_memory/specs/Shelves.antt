-- Images by path, and the disks that were fetched and given back there. This project's own.
use Rattle.std.specs.Prelude.{◌≡◌, ℕ, ◌+◌, ◌-◌, Bool, true, false, if◌then◌else◌, Option, Some, None, option_map, unwrap_or, List, [], ◌∷◌, ◌++◌, length, ◌⊎◌, nat_eq, nat_lt, ◌||◌, not, is_some}
use Rattle.std.specs.Cmp.Lexicographic.{pointwise}
use Rattle.std.specs.List.{slice_get}
use Rattle.opfs_memory.specs.Counts.{counted, is_named}
use Rattle.opfs_memory.specs.Drives.{Drive, LeftSince, content_of, moment_of}
use Rattle.opfs_memory.specs.declared.place.Given.{Given}

-- A path and its image, the disks that came back there, the last of them last, and how many more may.
pub record Spot : Type 0 where
  pub path : List ℕ
  pub image : Option (List ℕ)
  pub given : List Given
  pub out : ℕ

-- The spots, of which the first of a path counts; the calls that fail; what each fetched disk has beside its
-- content; how many calls were made, how many faults there were, and how many of them the host's own.
pub record Shelf : Type 0 where
  pub places : List Spot
  pub fails : List ℕ
  pub disk_fails : List ℕ
  pub stop : Option ℕ
  pub room_calls : ℕ
  pub room_bytes : ℕ
  pub calls : ℕ
  pub all : ℕ
  pub own : ℕ

-- the last of them
abbrev pub newest : List Given → Option Given
newest disks = slice_get disks (length disks - 1)

abbrev pub newest_disk : List Given → Option Drive
newest_disk disks = option_map (λ given. given.disk) (newest disks)

-- the image, of bytes that were there at first, else of the last disk
abbrev pub image_of : Option (List ℕ) → Option Given → Option (List ℕ)
image_of (Some bytes) last = Some bytes
image_of None (Some given) = Some (content_of given.disk)
image_of None None = None

abbrev pub is_at : List ℕ → Spot → Bool
is_at path spot = pointwise nat_eq spot.path path

abbrev pub spot_at : List ℕ → List Spot → Option Spot
spot_at path [] = None
spot_at path (spot ∷ spots) = if is_at path spot then Some spot else spot_at path spots

abbrev pub image_in : Option Spot → Option (List ℕ)
image_in found = unwrap_or (option_map (λ spot. spot.image) found) None

abbrev pub given_in : Option Spot → List Given
given_in found = unwrap_or (option_map (λ spot. spot.given) found) []

abbrev pub image_at : Shelf → List ℕ → Option (List ℕ)
image_at host path = image_in (spot_at path host.places)

abbrev pub given_at : Shelf → List ℕ → List Given
given_at host path = given_in (spot_at path host.places)

-- what a stop may have left of a disk from one of its moments on; of one that was put in place whole, its content alone
abbrev pub LeftBy : Bool → Drive → ℕ → List ℕ → Type 0
LeftBy true disk t c = c ≡ content_of disk
LeftBy false disk t c = LeftSince disk t c

abbrev pub LeftOf : Given → ℕ → List ℕ → Type 0
LeftOf given t c = LeftBy given.placed given.disk t c

-- a stop may have left this of one of these disks
abbrev pub LeftByAny : List Given → List ℕ → Type 0
LeftByAny [] c = ⊥
LeftByAny (given ∷ more) c = LeftOf given 0 c ⊎ LeftByAny more c

abbrev pub Trail : Shelf → List ℕ → List ℕ → Type 0
Trail host path c = LeftByAny (given_at host path) c

-- the moments of the last disk, and what a stop may have left of it from one of them on; one that was put in place whole has none
abbrev pub moments_by : Bool → Drive → ℕ
moments_by true disk = 0
moments_by false disk = moment_of disk

abbrev pub moments_of : Option Given → ℕ
moments_of (Some given) = moments_by given.placed given.disk
moments_of None = 0

abbrev pub LeftLast : Option Given → ℕ → List ℕ → Type 0
LeftLast (Some given) t c = LeftOf given t c
LeftLast None t c = ⊥

abbrev pub moments_at : Shelf → List ℕ → ℕ
moments_at host path = moments_of (newest (given_at host path))

abbrev pub LeftAt : Shelf → List ℕ → ℕ → List ℕ → Type 0
LeftAt host path t c = LeftLast (newest (given_at host path)) t c

-- a fetched disk of this content
abbrev pub fetched_disk : Shelf → List ℕ → Drive
fetched_disk host content = record {
  first = content;
  log = [];
  fails = host.disk_fails;
  stop = host.stop;
  room_calls = host.room_calls;
  room_bytes = host.room_bytes;
  used = 0;
  calls = 0;
  faults = 0;
}

-- the spot after a disk was fetched or made, after one came back, and after one was thrown away
abbrev pub spot_lent : Spot → Spot
spot_lent spot = record { path = spot.path; image = spot.image; given = spot.given; out = spot.out + 1 }

abbrev pub spot_given : Given → Spot → Spot
spot_given given spot = record { path = spot.path; image = Some (content_of given.disk); given = spot.given ++ given ∷ []; out = spot.out - 1 }

abbrev pub spot_thrown : Spot → Spot
spot_thrown spot = record { path = spot.path; image = spot.image; given = spot.given; out = spot.out - 1 }

-- the spot of a path that was not there, after a disk was made for it
abbrev pub spot_made : List ℕ → Spot
spot_made path = record { path = path; image = None; given = []; out = 1 }

-- a disk can come back: one that was fetched or made is still out
abbrev pub can_take : Option Spot → Bool
can_take (Some spot) = nat_lt 0 spot.out
can_take None = false

-- an image is there
abbrev pub has_image : Option Spot → Bool
has_image (Some spot) = is_some spot.image
has_image None = false

-- a fetch fails: the call is named, or the path has no image
abbrev pub fetch_fails : Shelf → List ℕ → Bool
fetch_fails host path = is_named host.fails (counted host.calls) || not (has_image (spot_at path host.places))

-- a return fails: the call is named, or none of the path that was fetched or made is out
abbrev pub return_fails : Shelf → List ℕ → Bool
return_fails host path = is_named host.fails (counted host.calls) || not (can_take (spot_at path host.places))
