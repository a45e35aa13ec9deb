-- Which calls make a bucket persistent, and what they change (Storage: persist).
use Rattle.std.specs.Prelude.{ℕ, ◌&&◌, Bool, true, false, not, List, [], Option, Some, None}
use Rattle.std.specs.List.{list_any}
use Rattle.opfs_base.specs.Texts.{Text, same_text}
use Rattle.opfs_base.specs.Units.{unit_of}
use Rattle.opfs_codec.specs.declared.change.Change.{Change as Spelled}
use Rattle.opfs_codec.specs.declared.change.Change.TheVariants.{Persist}
use Rattle.opfs_desk_steps.specs.Parts.Seen.{machine_in}
use Rattle.opfs_desk_steps.specs.declared.parts.parts.Ledger.{Ledger}
use Rattle.opfs_hist.specs.declared.entry.Entry.{Entry}
use Rattle.opfs_hist.specs.declared.op.Op.{Op}
use Rattle.opfs_hist.specs.declared.op.Op.TheVariants as op
use Rattle.opfs_machine.specs.Agents.{agent_of}
use Rattle.opfs_machine.specs.Replies.{origin_in}
use Rattle.opfs_state_rows.specs.Standing.Seen.{Machine}

abbrev pub is_persist : Op → Bool
is_persist (op.Persist bucket) = true
is_persist o = false

-- The name of the bucket that a persist names.
abbrev pub bucket_named : Op → Text
bucket_named (op.Persist bucket) = bucket
bucket_named o = []

-- Its unit, for an agent with this key.
abbrev pub unit_named : Option Text → Op → Text
unit_named key o = unit_of (origin_in key) (bucket_named o)

-- With the grant an agent with this key makes its bucket persistent, where these units are so already.
abbrev pub gives_among : List Text → Bool → Text → Option Text → Bool
gives_among units grant bucket None = false
gives_among units grant bucket (Some origin) = grant && not (list_any (same_text (unit_of origin bucket)) units)

-- A call that is not refused gives a bucket a mode: a persist of an agent with the grant, whose bucket is not persistent yet.
abbrev pub gives_mode : Machine → ℕ → Op → Bool
gives_mode m k (op.Persist bucket) = gives_among m.persistent (agent_of m k).grant bucket (agent_of m k).key
gives_mode m k o = false

-- The change that such a call makes now.
abbrev pub mode_now : {D : Type 0} → Ledger D → Entry → Spelled
mode_now l e = Persist (unit_named (agent_of (machine_in l) e.agent).key e.op)
