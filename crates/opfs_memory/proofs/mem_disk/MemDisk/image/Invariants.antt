use Rattle.std.proofs.Common.{take}
use Rattle.opfs_memory.specs.Drives.{replayed, IsCrash}
use Rattle.opfs_memory.specs.KeptEvents.{events}
use Rattle.opfs_memory.proofs.mem_disk.MemDisk.image.Given as goal

abbrev pub invariant-loop-kept : goal.invariant-loop-kept
invariant-loop-kept l = IsCrash (replayed l.self-inside.first.items (events l.self-inside.bytes.items (take l.kept-index l.kept-items))) l.choice l.content.items l.image.items
