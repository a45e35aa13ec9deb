-- With what the agents of a script begin. This project's own.
use Rattle.std.specs.Prelude.{List, map}
use Rattle.opfs_machine.specs.declared.state.Limits.{Limits}
use Rattle.opfs_machine.specs.Openings.{Opening, Map, Who, empty_map}
use Rattle.opfs_script.specs.Scripts.{Asked}

-- What the store knows of an agent from its script.
abbrev pub who_of : Asked → Who
who_of a = record { key = a.key; grant = a.grant }

-- A stored map within limits, and the agents of a script.
abbrev pub opening_of : Map → Limits → List Asked → Opening
opening_of stored limits script = record { stored = stored; agents = map who_of script; limits = limits }

-- What the store of a trial may hold: journal areas of 256 blocks, 16,384 data blocks, and 8,192 blocks an origin.
abbrev pub trial_limits : Limits
trial_limits = record { area = 1048576; blocks = 16384; quota = 8192 }

-- With what a trial of a script begins: an empty map, and the agents of the script.
abbrev pub trial_opening : List Asked → Opening
trial_opening script = opening_of empty_map trial_limits script
