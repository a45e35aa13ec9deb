-- What a journal is seen as.
use Rattle.std.specs.Prelude.{◌≡◌, ℕ, Bool, Option, Some, None, is_some, unwrap_or, List, [], ◌∷◌, ◌++◌, slice_set}
use Rattle.opfs_journal.specs.Format.{Stored, records_of, format_of}
use Rattle.opfs_journal.specs.declared.areas.Areas.{Areas}

-- its areas, the place of its last gate in the ruling area, the longest body that it has room for, its format, and
-- whether a gate is in doubt; its disk; and where that tells, its records, and what the disk may hold in their place
pub record Seen (D : Type 0) : Type 0 where
  pub areas : Areas
  pub tail : ℕ
  pub spare : ℕ
  pub format : ℕ
  pub in_doubt : Bool
  pub records : List (List ℕ)
  pub doubt : Stored
  pub disk : D

-- what it keeps
abbrev pub kept : {D : Type 0} → Seen D → Stored
kept k = record { format = k.format; records = k.records }

-- one record more, and one alone
abbrev pub with_record : Stored → List ℕ → Stored
with_record was b = record { format = was.format; records = was.records ++ b ∷ [] }

abbrev pub one_record : ℕ → List ℕ → Stored
one_record format b = record { format = format; records = b ∷ [] }

abbrev pub nothing : Stored
nothing = record { format = 1; records = [] }

-- the content with the gate in doubt closed, or open
abbrev pub settled : Option ℕ → ℕ → List ℕ → List ℕ
settled None byte content = content
settled (Some gate) byte content = slice_set content gate byte

abbrev pub seen : {D : Type 0} → (D → List ℕ) → Areas → ℕ → ℕ → ℕ → Option ℕ → D → Seen D
seen content areas generation tail spare doubt disk = record {
  areas = areas;
  tail = tail;
  spare = spare;
  format = format_of generation;
  in_doubt = is_some doubt;
  records = (unwrap_or (records_of areas (settled doubt 0 (content disk))) nothing).records;
  doubt = unwrap_or (records_of areas (settled doubt 165 (content disk))) nothing;
  disk = disk;
}

-- what no call changes
pub record Stays {D : Type 0} (size : D → ℕ) (old new : Seen D) : Type 0 where
  pub areas : new.areas ≡ old.areas
  pub length : size new.disk ≡ size old.disk
  pub spare : new.spare ≡ old.spare
