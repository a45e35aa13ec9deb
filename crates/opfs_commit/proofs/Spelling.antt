-- Spellings that have room.
use Rattle.std.proofs.Common.{◌≡◌, ℕ, ◌+◌, ◌≤◌, ◌++◌, Bool, true, false, not, List, length, refl, ap, arith}
use Rattle.std.specs.Prelude.{nat_le}
use Rattle.std.proofs.lemmas.Bool.{and_parts, leb-true, false≢true}
use Rattle.std.proofs.lemmas.List.{length-append}
use Rattle.opfs_codec.specs.Charges.{charge}
use Rattle.opfs_codec.specs.Fields.{HasFewExtents}
use Rattle.opfs_codec.specs.Spelling.{spelling}
use Rattle.opfs_codec.specs.declared.change.Format.TheVariants.{New}
use Rattle.opfs_codec.specs.declared.change.Change.{Change}
use Rattle.opfs_codec.specs.declared.change.Change.TheVariants.{MakeRoot, MakeDir, MakeFile, Remove, Content, Persist, Evict}
use Rattle.opfs_codec.proofs.WritingLemmas.{spelling_below}
use Rattle.opfs_commit.specs.Seen.{KeptBack, has_room, IsQuiet}

pub quiet_few : (change : Change) → IsQuiet change → HasFewExtents change
unfolding IsQuiet HasFewExtents
quiet_few (MakeRoot unit) h = tt
quiet_few (MakeDir unit path) h = tt
quiet_few (MakeFile unit path stamp) h = tt
quiet_few (Remove unit path) h = tt
quiet_few (Content unit path stamp len extents) h = absurd h
quiet_few (Persist unit) h = tt
quiet_few (Evict unit) h = tt

-- What has room is not too long.
pub room_is : (k : KeptBack) (n : ℕ) → has_room k n ≡ true → (k.long ≡ false) × (length k.bytes + n ≤ k.room)
room_is k n h =
    let parts = and_parts (not k.long) (nat_le (length k.bytes + n) k.room) h in
    (not_long k.long parts.0, leb-true (length k.bytes + n) k.room parts.1)
  where
    not_long : (b : Bool) → not b ≡ true → b ≡ false
    not_long true h = absurd (false≢true h)
    not_long false h = refl

-- So does its spelling.
pub spelled_room : (k : KeptBack) (change : Change) (new : List ℕ) → has_room k (charge change) ≡ true → HasFewExtents change → new ≡ k.bytes ++ spelling New change → length new ≤ k.room
spelled_room k change new room few is =
    omega (arith, (room_is k (charge change) room).1, spelling_below change few, ap length is, length-append k.bytes (spelling New change))
