-- The key of a call's agent, which stays as its opening has it.
use Rattle.std.proofs.Common.{◌≡◌, ℕ, [], List, sym, ap, ◌∙◌}
use Rattle.opfs_base.specs.Texts.{Text}
use Rattle.opfs_books.specs.Laws.Books.{Fixed}
use Rattle.opfs_laws.specs.Histories.Unread.{ReadsLeaveTheState}
use Rattle.opfs_laws.specs.Counting.{AStateCountsItsHistory, key_of}
use Rattle.opfs_machine.specs.declared.own.Own.{Own}
use Rattle.opfs_machine.specs.declared.state.State.{State}
use Rattle.opfs_machine.specs.Agents.{agent_of}
use Rattle.opfs_machine.specs.Histories.{state_after}
use Rattle.opfs_outside.specs.declared.disk.Disk.{Ghosts as DiskWords}
use Rattle.opfs_records.specs.Replay.Built.{Built}
use Rattle.opfs_desk_steps.specs.Parts.Held.{AreHeldAt, AreHeldWhole}
use Rattle.opfs_desk_steps.specs.Parts.Seen.{machine_in}
use Rattle.opfs_desk_steps.specs.declared.parts.parts.Ledger.{Ledger}
use Rattle.opfs_desk_steps.specs.declared.parts.parts.OpenPages.{OpenPages}
use Rattle.opfs_desk_steps.proofs.book_steps.Real.{real, real-legal, real-state}
use Rattle.opfs_desk_steps.proofs.book_steps.Turns.{key-of}
use Rattle.opfs_desk_entries.specs.KeptBack.Keeping.{HasOwnKey}

module _ {D : Type 0} (w : DiskWords D) (reads : ReadsLeaveTheState) (counts : AStateCountsItsHistory) (f : Fixed D) (recorded : Built) (l : Ledger D) (p : OpenPages) (held : AreHeldWhole w f recorded l p) (k : ℕ) where
  key-begun : (agent_of (state_after f.opening l.books.history) k).key ≡ key_of f.opening k
  key-begun =
      let t = held.books.told in
      ap (λ (s : State Text Own). (agent_of s k).key) (real-state w.tells f.opening l.books.history reads t)
      ∙ counts.keys f.opening (real w.tells f.opening l.books.history reads t) k (real-legal w.tells f.opening l.books.history reads t)

  pub key-held : (agent_of (machine_in l) k).key ≡ key_of f.opening k
  key-held = key-of (state_after f.opening l.books.history) [] k (machine_in l) held.books.machine ∙ key-begun

  -- After evictions too.
  module _ (next : Built) (units : List Text) (back : Ledger D) (are : AreHeldAt w f next (state_after f.opening l.books.history) units back p) where
    pub key-back : (agent_of (machine_in back) k).key ≡ key_of f.opening k
    key-back = key-of (state_after f.opening l.books.history) units k (machine_in back) are.books.machine ∙ key-begun

    pub key-own : HasOwnKey (agent_of (machine_in back) k).key
    key-own origin is = held.tied.keys k origin (sym key-back ∙ is)
