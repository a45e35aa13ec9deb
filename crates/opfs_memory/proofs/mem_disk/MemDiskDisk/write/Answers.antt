use Rattle.std.proofs.Common.{length}
use Rattle.opfs_memory.specs.Drives.{written_event}
use Rattle.opfs_memory.proofs.DriveCalls.{same_size, time, later, cause, write_written, write_elsewhere, write_moments}
use Rattle.opfs_memory.proofs.mem_disk.MemDiskDisk.write.Goals as goal

pub returns : goal.returns
returns c =
    let d = c.args.self.now in
    let w = c.write_once.new.self in
    let s = c.write_once.ensures in
    let n = length c.args.bytes.now in
    let e = written_event d c.args.at c.args.bytes.now in
    record {
      reply = s.reply;
      after = s.after;
      size = same_size d w n e s.after;
      written = write_written d w c.args.at c.args.bytes.now s.after c.requires c.write_once.result s.reply;
      elsewhere = write_elsewhere d w c.args.at c.args.bytes.now s.after c.requires;
      time = time d w n e s.after;
      moments = write_moments d w c.args.at c.args.bytes.now s.after c.requires;
      later = later d w n e s.after;
      cause = cause d w n e s.after c.write_once.result s.reply;
    }
