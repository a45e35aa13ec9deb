use Rattle.opfs_desk_bytes.proofs.reading.Wholes.{handles-go-on}
use Rattle.opfs_desk_bytes.proofs.reading.laws.handles_go_on.Goals as goal

pub returns : goal.returns
returns g c = handles-go-on c.handles_stay_whole.ensures c.legal_histories_go_on.ensures g.D.Disk.tells
