-- The numbers with which the program ends. This project's own.
use Rattle.std.specs.Prelude.{ℕ}
use Rattle.opfs_commands.specs.declared.answers.ToolEnd.{ToolEnd}
use Rattle.opfs_commands.specs.declared.answers.ToolEnd.TheVariants as tool_end
use Rattle.opfs_top.specs.declared.status.Status.{Status}
use Rattle.opfs_top.specs.declared.status.Status.TheVariants as status

abbrev pub number_of : Status → ℕ
number_of status.Done = 0
number_of status.Usage = 1
number_of status.Script = 2
number_of status.Image = 3
number_of status.Host = 4
number_of status.Source = 5
number_of status.Sink = 6
number_of status.Memory = 7

-- The status of a command on an image.
abbrev pub status_of : ToolEnd → Status
status_of tool_end.Done = status.Done
status_of tool_end.Image = status.Image
status_of tool_end.Host = status.Host
status_of tool_end.Sink = status.Sink
