-- Which calls change something that is no content, and what they change. This project's own.
use Rattle.std.specs.Prelude.{◌≡◌, ℕ, Bool, true, false, not, [], Option, Some, None, is_some}
use Rattle.opfs_base.specs.Names.{is_valid_name}
use Rattle.opfs_base.specs.Places.{Place, place_of, child}
use Rattle.opfs_base.specs.Texts.{Text}
use Rattle.opfs_base.specs.Units.{unit_of}
use Rattle.opfs_codec.specs.Spelling.{IsText, is_origin_text}
use Rattle.opfs_codec.specs.declared.change.Change.{Change as Spelled}
use Rattle.opfs_codec.specs.declared.change.Change.TheVariants.{MakeRoot, MakeDir, MakeFile, Remove}
use Rattle.opfs_hist.specs.declared.op.Op.{Op}
use Rattle.opfs_hist.specs.declared.op.Op.TheVariants as op
use Rattle.opfs_machine.specs.Agents.{agent_of}
use Rattle.opfs_machine.specs.Rows.{row_at}
use Rattle.opfs_state_rows.specs.Standing.Seen.{Machine}

-- By its word alone a call may make a bucket's root, or make or remove an entry of a directory.
abbrev pub is_of_entry : Op → Bool
is_of_entry (op.GetDirectory bucket) = true
is_of_entry (op.GetDirectoryHandle dir name create) = true
is_of_entry (op.GetFileHandle dir name create) = true
is_of_entry (op.RemoveEntry dir name recursive) = true
is_of_entry o = false

-- The name of that bucket or entry, and its place, of an agent with this key.
abbrev pub entry_name : Op → Text
entry_name (op.GetDirectory bucket) = bucket
entry_name (op.GetDirectoryHandle dir name create) = name
entry_name (op.GetFileHandle dir name create) = name
entry_name (op.RemoveEntry dir name recursive) = name
entry_name o = []

abbrev pub root_place : Text → Option Text → Place
root_place bucket None = ([], [])
root_place bucket (Some origin) = (unit_of origin bucket, [])

abbrev pub entry_place : Option Text → Op → Place
entry_place key (op.GetDirectory bucket) = root_place bucket key
entry_place key (op.GetDirectoryHandle dir name create) = child (place_of dir) name
entry_place key (op.GetFileHandle dir name create) = child (place_of dir) name
entry_place key (op.RemoveEntry dir name recursive) = child (place_of dir) name
entry_place key o = ([], [])

-- A name of an entry is valid, and an agent that makes a root has a key.
abbrev pub is_well_named : Option Text → Op → Bool
is_well_named key (op.GetDirectory bucket) = is_some key
is_well_named key (op.GetDirectoryHandle dir name create) = is_valid_name name
is_well_named key (op.GetFileHandle dir name create) = is_valid_name name
is_well_named key (op.RemoveEntry dir name recursive) = is_valid_name name
is_well_named key o = true

-- Nothing is at a place.
abbrev pub is_free : Machine → Place → Bool
is_free m place = not (is_some (row_at m place))

-- An agent with this key makes the root of a bucket.
abbrev pub makes_root : Machine → Text → Option Text → Bool
makes_root m bucket None = false
makes_root m bucket (Some origin) = is_free m (unit_of origin bucket, [])

-- A call that is not refused makes a root, a directory or a file, which is not there, or removes an entry: its change is kept back.
abbrev pub keeps_back : Machine → ℕ → Op → Bool
keeps_back m k (op.GetDirectory bucket) = makes_root m bucket (agent_of m k).key
keeps_back m k (op.GetDirectoryHandle dir name create) = is_free m (child (place_of dir) name)
keeps_back m k (op.GetFileHandle dir name create) = is_free m (child (place_of dir) name)
keeps_back m k (op.RemoveEntry dir name recursive) = true
keeps_back m k o = false

-- The change at a place, at the moment of the call's agent.
abbrev pub change_of : ℕ → Place → Op → Spelled
change_of moment place (op.GetDirectory bucket) = MakeRoot place.0
change_of moment place (op.GetDirectoryHandle dir name create) = MakeDir place.0 place.1
change_of moment place (op.GetFileHandle dir name create) = MakeFile place.0 place.1 moment
change_of moment place (op.RemoveEntry dir name recursive) = Remove place.0 place.1
change_of moment place o = MakeRoot []

-- An agent's key, if it has one, is an origin's.
abbrev pub HasOwnKey : Option Text → Type 0
HasOwnKey key = (origin : Text) → key ≡ Some origin → IsText is_origin_text origin
