use Rattle.opfs_desk_steps.proofs.row_laws.Puts.{puts-have-room, trees-name}
use Rattle.opfs_desk_steps.proofs.row_laws.laws.puts_have_room.Goals as goal

pub returns-clause-room : goal.returns-clause-room
returns-clause-room g = puts-have-room

pub returns-clause-named : goal.returns-clause-named
returns-clause-named g = trees-name
