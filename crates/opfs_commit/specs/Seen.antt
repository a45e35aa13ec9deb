-- What is kept back of the changes that a journal is to have. This project's own.
use Rattle.std.specs.Prelude.{ℕ, ◌+◌, ◌++◌, Bool, false, not, ◌&&◌, nat_le, if◌then◌else◌, List, [], length}
use Rattle.opfs_codec.specs.Charges.{charge}
use Rattle.opfs_codec.specs.Spelling.{spelling}
use Rattle.opfs_codec.specs.declared.change.Format.TheVariants.{New}
use Rattle.opfs_codec.specs.declared.change.Change.{Change}
use Rattle.opfs_codec.specs.declared.change.Change.TheVariants.{Content}
use Rattle.opfs_journal.specs.Format.{Stored}
use Rattle.opfs_journal.specs.Seen.{Seen, kept, with_record}

-- the spellings of the changes that are kept back, how many these are, and whether they are too long, and then not spelled;
-- and the longest body that there is room for
pub record KeptBack : Type 0 where
  pub bytes : List ℕ
  pub count : ℕ
  pub long : Bool
  pub room : ℕ

-- a journal, and what is kept back beside it
pub record Committing (D : Type 0) : Type 0 where
  pub journal : Seen D
  pub back : KeptBack

abbrev pub committing : {D : Type 0} → Seen D → KeptBack → Committing D
committing journal back = record { journal = journal; back = back }

-- What a journal keeps with a record of what is kept back more, alone and with one change more.
abbrev pub with_back : {D : Type 0} → Committing D → Stored
with_back k = with_record (kept k.journal) k.back.bytes

abbrev pub with_own : {D : Type 0} → Committing D → Change → Stored
with_own k own = with_record (kept k.journal) (k.back.bytes ++ spelling New own)

-- Whether so many bytes more are still spelled.
abbrev pub has_room : KeptBack → ℕ → Bool
has_room k more = not k.long && nat_le (length k.bytes + more) k.room

-- One change more is kept back; where there is no room for its charge, none is spelled from now on.
abbrev pub with_kept : KeptBack → Change → KeptBack
with_kept k change = record k {
  bytes = if has_room k (charge change) then k.bytes ++ spelling New change else [];
  count = k.count + 1;
  long = not (has_room k (charge change));
}

-- Nothing is kept back any more.
abbrev pub emptied : KeptBack → KeptBack
emptied k = record k { bytes = []; count = 0; long = false }

-- A change that may be kept back: none of a file's content.
unfoldable pub IsQuiet : Change → Type 0
IsQuiet (Content unit path stamp len extents) = ⊥
IsQuiet change = Unit {0}
