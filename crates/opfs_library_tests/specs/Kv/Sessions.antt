-- A hall of one agent. This project's own.
use Rattle.std.specs.Prelude.{◌≡◌, [], ◌∷◌}
use Rattle.opfs_base.specs.Texts.{Text}
use Rattle.opfs_hall.specs.Seen.{HallSeen, PassSeen, new_pass}
use Rattle.opfs_hist.specs.declared.entry.Entry.{Entry}
use Rattle.opfs_machine.specs.Openings.{Opening}
use Rattle.opfs_notebook.specs.Ready.{IsIdle, asks}
use Rattle.opfs_turns.specs.Agents.{AgentSeen}

-- A store begins with one agent, which has this key and no grant.
abbrev pub IsOneAgent : Opening → Text → Type 0
IsOneAgent o key = o.agents ≡ asks key ∷ []

-- A hall of one agent, which has made no call, with the pass of its owner.
pub record IsBegun {O : Type 0} (of : HallSeen O) (owner : PassSeen O Entry) (a : AgentSeen O) : Type 0 where
  pub owns : owner ≡ new_pass of 0 []
  pub one : of.agents ≡ 1
  pub idle : IsIdle of a 1 0
