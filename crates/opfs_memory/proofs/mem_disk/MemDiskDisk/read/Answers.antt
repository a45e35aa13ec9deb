use Rattle.opfs_memory.specs.Drives.{Idle}
use Rattle.opfs_memory.proofs.DriveCalls.{same_size, time, later, cause, read_same, read_moments, read_bytes}
use Rattle.opfs_memory.proofs.mem_disk.MemDiskDisk.read.Goals as goal

pub returns : goal.returns
returns c =
    let d = c.args.self.now in
    let w = c.read_once.new.self in
    let s = c.read_once.ensures in
    record {
      reply = s.reply;
      after = s.after;
      filled = s.bytes;
      size = same_size d w 0 Idle s.after;
      bytes = read_bytes d c.args.at c.args.buf.now c.read_once.new.buf c.read_once.result s.reply s.bytes;
      same = read_same d w s.after;
      time = time d w 0 Idle s.after;
      moments = read_moments d w s.after;
      later = later d w 0 Idle s.after;
      cause = cause d w 0 Idle s.after c.read_once.result s.reply;
    }
