-- What the agents do in the tests. This project's own.
use Rattle.std.specs.Prelude.{◌≤◌}
use Rattle.opfs_library_tests.specs.declared.pipe.task.Task.{Task}
use Rattle.opfs_library_tests.specs.declared.pipe.task.Task.TheVariants as task

-- A task of so few bytes.
abbrev pub IsTask : Task → Type 0
IsTask (task.Write zeros count) = (zeros ≤ 268435456) × (count ≤ 16777216)
IsTask (task.Send at len) = len ≤ 268435456
IsTask (task.Refuse at len) = len ≤ 268435456
