use Rattle.opfs_memory.specs.Drives.{synced_event}
use Rattle.opfs_memory.proofs.DriveCalls.{same_size, time, later, cause, sync_same, sync_moments, sync_durable}
use Rattle.opfs_memory.proofs.mem_disk.MemDiskDisk.sync.Goals as goal

pub returns : goal.returns
returns c =
    let d = c.args.self.now in
    let w = c.sync_once.new.self in
    let s = c.sync_once.ensures in
    record {
      reply = s.reply;
      after = s.after;
      size = same_size d w 0 (synced_event d) s.after;
      same = sync_same d w s.after;
      durable = sync_durable d w s.after c.sync_once.result s.reply;
      time = time d w 0 (synced_event d) s.after;
      moments = sync_moments d w s.after;
      later = later d w 0 (synced_event d) s.after;
      cause = cause d w 0 (synced_event d) s.after c.sync_once.result s.reply;
    }
