-- What a stop may leave of a history: a front of it, with what may be in doubt of one entry at most, behind which nothing was
-- stored. This project's own.
use Rattle.std.specs.Prelude.{◌≡◌, ℕ, ◌+◌, ◌<◌, ◌≤◌, List, ◌++◌, length, take, Option, Some}
use Rattle.opfs_commit.specs.Shown.{IsShown}
use Rattle.opfs_hist.specs.declared.entry.Entry.{Entry}
use Rattle.opfs_laws.specs.Histories.Doubts.{doubted}
use Rattle.opfs_machine.specs.Changes.{changes}
use Rattle.opfs_machine.specs.Openings.{Opening}

-- The entry at a place is one of the history, and no change was told behind it; at no place there is none.
pub record IsRecent (o : Opening) (h : List Entry) (place : Option ℕ) : Type 0 where
  pub inside : (n : ℕ) → place ≡ Some n → n < length h
  pub last : (n : ℕ) → place ≡ Some n → changes o (take (n + 1) h) ≡ changes o h

-- The image shows a front of the changes that so many first entries of a history stored, with so many of them at least, and
-- with what one of these entries, behind which nothing was stored, may have left in doubt: none of those that it has at least.
pub record IsShownOnce (o : Opening) (least : ℕ) (h : List Entry) (c : List ℕ) : Type 0 where
  pub count : ℕ
  pub place : Option ℕ
  pub recent : IsRecent o (take count h) place
  pub full : least ≤ length (changes o (take count h))
  pub shown : IsShown o least (changes o (take count h) ++ doubted o (take count h) place) c
