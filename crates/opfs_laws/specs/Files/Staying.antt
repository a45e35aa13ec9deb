-- What is stored of a file while an access handle of it is open. This project's own.
use Rattle.std.specs.Prelude.{◌≡◌, ℕ, cond, List, ◌++◌, fold, Option, Some}
use Rattle.std.specs.FinMap.Entries.{find}
use Rattle.std.specs.Ordering.{eq_by_cmp}
use Rattle.opfs_base.specs.Places.{Place, place_cmp}
use Rattle.opfs_hist.specs.declared.entry.Entry.{Entry}
use Rattle.opfs_machine.specs.declared.own.HandleRow.{HandleRow}
use Rattle.opfs_machine.specs.declared.own.Own.TheVariants as own
use Rattle.opfs_machine.specs.Agents.{agent_of, own_of}
use Rattle.opfs_machine.specs.Changes.{Change, content, changed, changes_from}
use Rattle.opfs_machine.specs.Histories.{Legal, state_after}
use Rattle.opfs_machine.specs.Openings.{Map, Opening, Stored, document}

-- What a map has at a place.
abbrev pub standing_at : Map → Place → Option Stored
standing_at m place = find place_cmp place m.rows

-- What is stored at a place after a change that leaves it, but for a content.
abbrev pub kept_by : Place → Option Stored → Change → Option Stored
kept_by place old (content at stamp bytes) = cond (eq_by_cmp place_cmp place at) (Some (document bytes stamp)) old
kept_by place old change = old

-- While an access handle of a file is open, what is stored of the file changes by its contents alone, after each front of the
-- changes, from whatever was stored before.
abbrev pub AnOpenFileStays : Type 0
AnOpenFileStays =
    (o : Opening) (base more : List Entry) (k n : ℕ) (h g : HandleRow) → Legal o (base ++ more)
    → own_of (agent_of (state_after o base) k) n ≡ Some (own.Handle h) → own_of (agent_of (state_after o (base ++ more)) k) n ≡ Some (own.Handle g)
    → (front rest : List Change) → changes_from (state_after o base) more ≡ front ++ rest
    → (m : Map) → standing_at (fold changed m front) h.file ≡ fold (kept_by h.file) (standing_at m h.file) front
