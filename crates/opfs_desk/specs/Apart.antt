-- A party alone in a history that was given. This project's own.
use Rattle.std.specs.Prelude.{List}
use Rattle.opfs_hist.specs.declared.entry.Entry.{Entry}
use Rattle.opfs_laws.specs.Histories.Unread.{IsTold}
use Rattle.opfs_machine.specs.declared.state.Party.{Party}
use Rattle.opfs_machine.specs.Alone.{IsAlone, project}
use Rattle.opfs_machine.specs.Openings.{Opening}

-- The history is legal, but for the bytes of reads where the disk does not tell. What each party's agents are told in it, and which
-- of the party's units are evicted, is a run of the machine that has the party's rows and modes alone.
pub record IsToldApart (tells : Type 0) (o : Opening) (h : List Entry) : Type 0 where
  pub told : IsTold tells o h
  pub alone : (party : Party) → IsAlone o party (project o party told.real)
