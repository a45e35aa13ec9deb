-- What the shares of the pool say of the machine. This project's own.
use Rattle.std.specs.Prelude.{◌≡◌}
use Rattle.std.specs.List.Sorted.{IsStrictlySortedBy}
use Rattle.std.specs.Map.{keys_of}
use Rattle.opfs_base.specs.Texts.{Text, same_text}
use Rattle.opfs_machine.specs.Contents.{in_lengths}
use Rattle.opfs_machine.specs.Sums as machine
use Rattle.opfs_pool.specs.Shares.{Blocks, text_cmp, share_at, held}
use Rattle.opfs_register.specs.Registers.{Registered}
use Rattle.opfs_state_rows.specs.Standing.Seen.{Machine, Seen}
use Rattle.opfs_state_rows.specs.Standing.Sums.{blocks_where, clearable}

-- The shares stand in the order of their units. Each has the blocks of its unit, and tells whether the unit may be
-- cleared.
pub record IsPooled (m : Machine) (pool : Blocks) : Type 0 where
  pub size : pool.size ≡ m.limits.blocks
  pub ordered : IsStrictlySortedBy text_cmp (keys_of pool.shares)
  pub blocks : (unit : Text) → (share_at pool.shares unit).blocks ≡ blocks_where (same_text unit) m
  pub held : held pool.shares ≡ machine.pool in_lengths m
  pub marks : (unit : Text) → (share_at pool.shares unit).candidate ≡ clearable m unit

-- What the machine has beside its rows and modes, with what is prepared for agents.
abbrev pub registered : Seen → Registered
registered s = record {
  posted = s.machine.posted;
  agents = s.machine.agents;
  entries = s.machine.entries;
  used = s.machine.used;
  limits = s.machine.limits;
  room = s.prepared.room;
  ready = s.prepared.tag;
}
