-- What a disk fault leaves in doubt of the file of an open access handle. This project's own.
use Rattle.std.specs.Prelude.{◌≡◌, ◌⊎◌, ℕ, ◌≤◌, true, fold, List, [], ◌∷◌, ◌++◌, length, Some}
use Rattle.opfs_base.specs.Places.{Place}
use Rattle.opfs_base.specs.Texts.{Text}
use Rattle.opfs_laws.specs.Files.Staying.{standing_at}
use Rattle.opfs_hist.specs.Faults.{is_disk_fault}
use Rattle.opfs_hist.specs.declared.entry.Entry.{Entry}
use Rattle.opfs_laws.specs.Histories.Doubts.{doubted}
use Rattle.opfs_machine.specs.Changes.{Change, changed, changes}
use Rattle.opfs_machine.specs.Openings.{Map, Opening, document}
use Rattle.opfs_sync_files.specs.Files.{contents_at}

-- Changes leave what is stored at a place.
abbrev pub LeavesPlace : Place → List Change → Type 0
LeavesPlace place doubt = (m : Map) → standing_at (fold changed m doubt) place ≡ standing_at m place

-- Changes store such bytes at a place, whatever stood there.
pub record StoresAt (place : Place) (May : Text → Type 0) (doubt : List Change) : Type 0 where
  pub bytes : Text
  pub stamp : ℕ
  pub may : May bytes
  pub stands : (m : Map) → standing_at (fold changed m doubt) place ≡ Some (document bytes stamp)

-- What the entry behind a history leaves in doubt.
abbrev pub doubt_of : Opening → List Entry → Entry → List Change
doubt_of o h e = doubted o (h ++ e ∷ []) (Some (length h))

-- What each disk fault among the entries since leaves in doubt leaves the file at a place, or stores such bytes of it. Where it stores
-- some, nothing of the file was stored before it since.
abbrev pub DoubtsStore : Opening → List Entry → List Entry → Place → (Text → Type 0) → Type 0
DoubtsStore o seen now place May = (h rest : List Entry) (e : Entry) → now ≡ h ++ e ∷ rest → length seen ≤ length h → is_disk_fault e.reply ≡ true
    → LeavesPlace place (doubt_of o h e) ⊎ (StoresAt place May (doubt_of o h e) × (contents_at place (changes o h) ≡ contents_at place (changes o seen)))
