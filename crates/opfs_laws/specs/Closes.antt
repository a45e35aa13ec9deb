-- What a close stores, it stores whole. This project's own.
use Rattle.std.specs.Prelude.{◌≡◌, ◌⊎◌, ℕ, List, [], take, Some, Contains}
use Rattle.std.specs.FinMap.Entries.{find}
use Rattle.opfs_base.specs.Places.{Place, place_cmp}
use Rattle.opfs_base.specs.Texts.{Text}
use Rattle.opfs_hist.specs.declared.entry.Entry.{Entry}
use Rattle.opfs_machine.specs.Changes.{Change, make_file, content, changes, durable}
use Rattle.opfs_machine.specs.Openings.{Opening, Map, document}

-- A file is stored at a place, with these bytes and this time stamp.
abbrev pub IsStoredAt : Map → Place → Text → ℕ → Type 0
IsStoredAt m place bytes stamp = find place_cmp place m.rows ≡ Some (document bytes stamp)

-- The file of the opening, unchanged.
abbrev pub IsOfOpening : Opening → Place → Text → ℕ → Type 0
IsOfOpening o place bytes stamp = IsStoredAt o.stored place bytes stamp

-- A new file, as one of the changes made it: empty.
pub record IsNew (told : List Change) (place : Place) (bytes : Text) (stamp : ℕ) : Type 0 where
  pub empty : bytes ≡ []
  pub made : Contains told (make_file place stamp)

-- All the bytes, and the time stamp, of one content among the changes: of one close or flush.
abbrev pub IsOneContent : List Change → Place → Text → ℕ → Type 0
IsOneContent told place bytes stamp = Contains told (content place stamp bytes)

-- Each file that changes leave stored has the bytes and the time stamp that it had at the opening, or is new and empty, or has
-- those of one content. There is no file with bytes of two, or with a part of one.
pub record EachFileIsOneContent : Type 0 where
  -- Whatever the changes are.
  pub of_changes : (o : Opening) (told : List Change) (place : Place) (bytes : Text) (stamp : ℕ) → IsStoredAt (durable o told) place bytes stamp
      → IsOfOpening o place bytes stamp ⊎ (IsNew told place bytes stamp ⊎ IsOneContent told place bytes stamp)
  -- So it is of each front of the changes of a history, which is what a crash may leave.
  pub of_fronts : (o : Opening) (h : List Entry) (n : ℕ) (place : Place) (bytes : Text) (stamp : ℕ) → IsStoredAt (durable o (take n (changes o h))) place bytes stamp
      → IsOfOpening o place bytes stamp ⊎ (IsNew (take n (changes o h)) place bytes stamp ⊎ IsOneContent (take n (changes o h)) place bytes stamp)
