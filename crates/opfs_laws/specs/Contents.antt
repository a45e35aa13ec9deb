-- Who stores a file of which an access handle is open. This project's own.
use Rattle.std.specs.Prelude.{◌≡◌, ℕ, List, [], ◌∷◌, ◌++◌, Some}
use Rattle.opfs_base.specs.Texts.{Text}
use Rattle.opfs_hist.specs.declared.entry.Entry.{Entry}
use Rattle.opfs_machine.specs.declared.own.HandleRow.{HandleRow}
use Rattle.opfs_machine.specs.declared.own.Own.TheVariants as own
use Rattle.opfs_machine.specs.Agents.{agent_of, own_of}
use Rattle.opfs_machine.specs.Changes.{content, entry_changes}
use Rattle.opfs_machine.specs.Histories.{Legal, state_after}
use Rattle.opfs_machine.specs.Openings.{Opening}

-- While an agent has an access handle of a file open, only its own calls store a content of that file.
abbrev pub OnlyTheHolderStoresItsFile : Type 0
OnlyTheHolderStoresItsFile =
    (o : Opening) (front : List Entry) (e : Entry) (rest : List Entry) (k n : ℕ) (h : HandleRow) (stamp : ℕ) (bytes : Text) → Legal o (front ++ e ∷ rest)
    → own_of (agent_of (state_after o front) k) n ≡ Some (own.Handle h)
    → entry_changes (state_after o front) e ≡ content h.file stamp bytes ∷ [] → e.agent ≡ k
