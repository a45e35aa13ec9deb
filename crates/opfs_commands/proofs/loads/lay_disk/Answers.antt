use Rattle.std.proofs.Common.{rules, ◌≡◌, length}
use Rattle.opfs_commands.proofs.Loading.{laid_as, laid_told}
use Rattle.opfs_commands.proofs.loads.lay_disk.Goals as goal

pub returns : goal.returns
returns g c =
    let count : c.len.result ≡ length c.args.dumped.now.rows.items = search rules in
    record {
      answer =
          laid_told g.D.Disk.tells _ _ _ c.lay-disk.result.1 c.lay_answer.result (laid_as c.lay-disk.result.1 g.D.Disk.tells c.args.dumped.now _ c.len.result count c.lay-disk.ensures.stands)
          c.lay-disk.ensures.cause c.lay_answer.ensures.done c.lay_answer.ensures.fault c.lay_answer.ensures.memory;
    }
